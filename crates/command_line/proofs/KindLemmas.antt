-- The option `--kind`: the number of an application, or its name, but never two applications.
use Rattle.ledger_model.specs.declared.config.AppKinds.{AppKinds}
use Rattle.ledger_model.specs.declared.config.AppKinds.TheVariants.{Three, OwnAlone}
use Rattle.std.proofs.Common.{◌≡◌, ◌∙◌, ℕ, List, codes, refl, sym, subst, inl, inr}
use Rattle.std.specs.Prelude.{IsTrue, Option, Some, None, IfSome, IfNone}
use Rattle.std.proofs.lemmas.Option.{same_Some}
use Rattle.clap.specs.Words.{Row, Text, first_of}
use Rattle.ledger_model.specs.declared.config.AppKind.{AppKind}
use Rattle.ledger_model.specs.declared.config.AppKind.TheVariants.{Own, KvStore, Counter, Purse}
use Rattle.ledger_model.specs.Numbers.{kind_number, kind_of_number}
use Rattle.ledger_model.proofs.Numbers.{kind_of_number-sound, one_kind}
use Rattle.cluster_setup.specs.declared.cluster_seed.ClusterSeed.{ClusterSeed}
use Rattle.plain_text.specs.Numbers.{is_decimal}
use Rattle.command_line.specs.Options.{IsNamedKind, IsNumberWithin, NamesKind, SetsCluster, SetsKind}
use Rattle.command_line.specs.declared.seed_words.SeedWords.{SeedWords}
use Rattle.command_line.proofs.MatchesLemmas.{differ}
use Rattle.command_line.proofs.NumberLemmas.{one_number, some_kind}

-- a word names one application
one_name : (a b : AppKind) (word : Text) → NamesKind a word → NamesKind b word → a ≡ b
one_name Own b word i j = absurd i
one_name a Own word i j = absurd j
one_name KvStore KvStore word i j = refl
one_name Counter Counter word i j = refl
one_name Purse Purse word i j = refl
one_name KvStore Counter word i j = differ _ _ refl (sym i ∙ j)
one_name KvStore Purse word i j = differ _ _ refl (sym i ∙ j)
one_name Counter KvStore word i j = differ _ _ refl (sym i ∙ j)
one_name Counter Purse word i j = differ _ _ refl (sym i ∙ j)
one_name Purse KvStore word i j = differ _ _ refl (sym i ∙ j)
one_name Purse Counter word i j = differ _ _ refl (sym i ∙ j)

-- a name is no number
no_decimal : (k : AppKind) (word : Text) → NamesKind k word → IsTrue (is_decimal word) → ⊥
no_decimal Own word names decimal = names
no_decimal KvStore word names decimal = let bad = subst (λ t. IsTrue (is_decimal t)) names decimal in absurd cc
no_decimal Counter word names decimal = let bad = subst (λ t. IsTrue (is_decimal t)) names decimal in absurd cc
no_decimal Purse word names decimal = let bad = subst (λ t. IsTrue (is_decimal t)) names decimal in absurd cc

-- so an option that is a number has no name
not_both : (rows : List Row) (n : ℕ) (k : AppKind) → IsNumberWithin rows (codes "kind") 1 3 n → IsNamedKind rows k → ⊥
not_both rows n k number name =
    no_decimal k name.word name.names
    (subst (λ t. IsTrue (is_decimal t)) (same_Some number.text name.word (sym number.has ∙ name.has)) number.decimal)

-- the option sets one kind
one_set_kind : (rows : List Row) (a b : AppKind) → SetsKind Three rows a → SetsKind Three rows b → a ≡ b
one_set_kind rows a b (inl i) (inl j) = one_kind a b (one_number rows (codes "kind") 1 3 1 3 _ _ i j)
one_set_kind rows a b (inl i) (inr j) = absurd (not_both rows _ b i j)
one_set_kind rows a b (inr i) (inl j) = absurd (not_both rows _ a j i)
one_set_kind rows a b (inr i) (inr j) =
    one_name a b j.word (subst (NamesKind a) (same_Some i.word j.word (sym i.has ∙ j.has)) i.names) j.names

-- the same options name one application
pub same_kind : (kinds : AppKinds) (taken : SeedWords) (given : Option (List ℕ)) (rows : List Row) (a b : ClusterSeed)
    → SetsCluster kinds taken given rows a → SetsCluster kinds taken given rows b
    → a.config.kind ≡ b.config.kind
same_kind Three taken given rows a b i j = one_set_kind rows a.config.kind b.config.kind i.kind j.kind
same_kind OwnAlone taken given rows a b i j = i.kind ∙ sym j.kind

-- a word that is neither a number nor a name sets no kind
pub no_kind : (rows : List Row) (word : Text) → first_of (codes "kind") rows ≡ Some word
    → ((k : AppKind) → NamesKind k word → ⊥) → ((k : AppKind) → IsNumberWithin rows (codes "kind") 1 3 (kind_number k) → ⊥)
    → (k : AppKind) → SetsKind Three rows k → ⊥
no_kind rows word has unnamed unnumbered k (inl number) = unnumbered k number
no_kind rows word has unnamed unnumbered k (inr name) =
    unnamed k (subst (NamesKind k) (same_Some name.word word (sym name.has ∙ has)) name.names)

-- nor does an option without a text
pub no_text_kind : (rows : List Row) → first_of (codes "kind") rows ≡ None → (k : AppKind) → SetsKind Three rows k → ⊥
no_text_kind rows none k (inl number) = let bad : None ≡ Some number.text = sym none ∙ number.has in absurd cc
no_text_kind rows none k (inr name) = let bad : None ≡ Some name.word = sym none ∙ name.has in absurd cc

-- the application of a number within the limits is found, and it has that number
pub numbered : (rows : List Row) (n : ℕ) (o : Option AppKind) → IsNumberWithin rows (codes "kind") 1 3 n → o ≡ kind_of_number n
    → IfSome o (λ k. IsNumberWithin rows (codes "kind") 1 3 (kind_number k))
numbered rows n None within is = tt
numbered rows n (Some k) within is =
    subst (λ m. IsNumberWithin rows (codes "kind") 1 3 m) (kind_of_number-sound n k (sym is)) within

pub numbered_surely : (P : Type 0) (rows : List Row) (n : ℕ) (o : Option AppKind) → IsNumberWithin rows (codes "kind") 1 3 n
    → o ≡ kind_of_number n → IfNone o P
numbered_surely P rows n None within is = absurd (some_kind n within.least within.most is)
numbered_surely P rows n (Some k) within is = tt
