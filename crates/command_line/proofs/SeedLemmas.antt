-- The seed of all keys, by the words or as it is given.
use Rattle.std.proofs.Common.{◌≡◌, ◌∙◌, ℕ, List, codes, sym, subst, inl, inr}
use Rattle.std.specs.Prelude.{◌⊎◌, Option, Some, None, Ok, MatchOption}
use Rattle.std.proofs.lemmas.Option.{same_Some}
use Rattle.hex.specs.Hex.{decode_sized}
use Rattle.clap.specs.Words.{Row, Text, first_of}
use Rattle.command_line.specs.Options.{IsDrawn, IsFileSeed, IsWordSeed}
use Rattle.command_line.specs.declared.seed_words.SeedWords.{SeedWords}

-- a word that is neither the digits of a seed nor asks for one that is given
pub no_word_seed : (taken : SeedWords) (given : Option (List ℕ)) (rows : List Row) (word : Text) → first_of (codes "seed") rows ≡ Some word
    → ((s : List ℕ) → IsDrawn taken given word s → ⊥) → ((s : List ℕ) → decode_sized word 32 ≡ Ok s → ⊥)
    → (s : List ℕ) → IsWordSeed taken given rows s → ⊥
no_word_seed taken given rows word has undrawn unspelled s i = by i.means
  where
    same : i.word ≡ word
    same = same_Some i.word word (sym i.has ∙ has)

    by : (decode_sized i.word 32 ≡ Ok s) ⊎ IsDrawn taken given i.word s → ⊥
    by (inl digits) = unspelled s (subst (λ t. decode_sized t 32 ≡ Ok s) same digits)
    by (inr drawn) = undrawn s (subst (λ t. IsDrawn taken given t s) same drawn)

-- no word gives no seed
pub no_word : (taken : SeedWords) (given : Option (List ℕ)) (rows : List Row) → first_of (codes "seed") rows ≡ None
    → (s : List ℕ) → IsWordSeed taken given rows s → ⊥
no_word taken given rows none s i = let bad : None ≡ Some i.word = sym none ∙ i.has in absurd cc

-- what holds of the file that the words name holds of the seed
abbrev pub SeedBy : SeedWords → Option (List ℕ) → List Row → Option Text → List ℕ → Type 0
SeedBy taken given rows named s = MatchOption named (IsWordSeed taken given rows s) (λ file. IsFileSeed file given rows s)
