-- The leaves of a history with one more entry ascend.
use Rattle.std.proofs.Common.{◌≡◌, ℕ, ◌+◌, ◌<◌, ◌≤◌, Bool, true, false, cond, inl, inr, List, [], ◌∷◌, ◌++◌, length, refl, sym, ap, subst, ◌∙◌}
use Rattle.std.proofs.Common.{append_assoc, append-nil, arith}
use Rattle.std.specs.Prelude.{nat_eq, Option, Some, None, Ok, Err}
use Rattle.std.specs.List.{filter_map, AllByRecursion}
use Rattle.std.proofs.lemmas.Bool.{cases_Bool}
use Rattle.ledger_model.specs.declared.history.Entry.{Entry}
use Rattle.ledger_model.specs.declared.reply.Reply.{Reply}
use Rattle.ledger_model.specs.declared.reply.Reply.TheVariants as reply
use Rattle.ledger_model.specs.declared.statement.SignedStatement.{SignedStatement}
use Rattle.ledger_model.specs.Rounds.{place_of, release_place}
use Rattle.ledger_model.specs.Reading.{reading}
use Rattle.ledger_model.specs.Lawful.{clock_at, is_opened}
use Rattle.ledger_model.proofs.Lists.{each_append}
use Rattle.lms_tree.specs.Trees.{Secret}
use Rattle.key_ring.specs.Signers.{SignerView}
use Rattle.key_ring.specs.Laws.{AscendFrom}
use Rattle.key_ring.proofs.Leaves.{ascend_lower}
use Rattle.replica_core.specs.Steps.{UsesLeaves, AreSignedFrom}
use Rattle.replica_core.specs.LeafOrder.{own_in, own_after, own_statements, AreSignedWith, SignsOnce}

-- ---- the statements of one entry more

own_more : (entries : List Entry) (e : Entry)
    → own_statements (entries ++ e ∷ []) ≡ own_statements entries ++ own_in (clock_at entries + 1) e.reply
unfolding own_after
own_more entries e = more 0 entries ∙ ap (λ n. own_after 0 entries ++ own_in (n + 1) e.reply) (omega arith)
  where
    more : (clock : ℕ) (xs : List Entry)
        → own_after clock (xs ++ e ∷ []) ≡ own_after clock xs ++ own_in (clock + clock_at xs + 1) e.reply
    more clock [] = append-nil (own_in (clock + 1) e.reply) ∙ ap (λ n. own_in (n + 1) e.reply) (the_sum clock)
      where
        the_sum : (n : ℕ) → n ≡ n + 0
        the_sum n = omega arith
    more clock (x ∷ xs) =
        let next : ℕ = clock + cond (is_opened x.reply) 1 0 in
        let same : next + clock_at xs ≡ clock + clock_at (x ∷ xs) = omega arith in
        ap (λ ss. own_in (clock + 1) x.reply ++ ss) (more next xs ∙ ap (λ n. own_after next xs ++ own_in (n + 1) e.reply) same)
        ∙ sym (append_assoc (own_in (clock + 1) x.reply) (own_after next xs) (own_in (clock + clock_at (x ∷ xs) + 1) e.reply))

-- ---- lists of leaves

ascend_more : (least used : ℕ) (ns ms : List ℕ) → AscendFrom least ns → AllByRecursion (λ n. n < used) ns → least ≤ used
    → AscendFrom used ms → AscendFrom least (ns ++ ms)
unfolding AscendFrom
ascend_more least used [] ms up below le more = ascend_lower least used ms le more
ascend_more least used (n ∷ ns) ms (first, up) (lt, below) le more = (first, ascend_more (n + 1) used ns ms up below (omega (arith, lt)) more)

below_more : (used more : ℕ) (ns : List ℕ) → used ≤ more → AllByRecursion (λ n. n < used) ns → AllByRecursion (λ n. n < more) ns
below_more used more [] le below = tt
below_more used more (n ∷ ns) le (lt, below) = (omega (arith, lt, le), below_more used more ns le below)

signed_append : (secret : Secret) (xs ys : List SignedStatement) (ns ms : List ℕ) → AreSignedWith secret xs ns → AreSignedWith secret ys ms
    → AreSignedWith secret (xs ++ ys) (ns ++ ms)
unfolding AreSignedWith
signed_append secret [] ys [] ms a b = b
signed_append secret [] ys (n ∷ ns) ms a b = absurd a
signed_append secret (x ∷ xs) ys [] ms a b = absurd a
signed_append secret (x ∷ xs) ys (n ∷ ns) ms (first, a) b = (first, signed_append secret xs ys ns ms a b)

-- ---- the leaves of one reply

-- a leaf for each of these statements, from this one on
leaves_from : ℕ → List SignedStatement → List ℕ
leaves_from leaf [] = []
leaves_from leaf (s ∷ ss) = leaf ∷ leaves_from (leaf + 1) ss

ascend_from : (leaf : ℕ) (ss : List SignedStatement) → AscendFrom leaf (leaves_from leaf ss)
unfolding AscendFrom leaves_from
ascend_from leaf [] = tt
ascend_from leaf (s ∷ ss) = (omega arith, ascend_from (leaf + 1) ss)

below_from : (leaf end : ℕ) (ss : List SignedStatement) → leaf + length ss ≤ end → AllByRecursion (λ n. n < end) (leaves_from leaf ss)
unfolding leaves_from
below_from leaf end [] le = tt
below_from leaf end (s ∷ ss) le = (omega (arith, le), below_from (leaf + 1) end ss (omega (arith, le)))

signed_from : (keys : SignerView) (leaf : ℕ) (ss : List SignedStatement) → AreSignedFrom keys leaf ss
    → AreSignedWith keys.secret ss (leaves_from leaf ss)
unfolding AreSignedWith leaves_from
signed_from keys leaf [] signed = tt
signed_from keys leaf (s ∷ ss) (first, signed) = (first, signed_from keys (leaf + 1) ss signed)

few_with : {X Y : Type 0} (f : X → Option Y) (x : X) (xs : List X) → length (filter_map f xs) ≤ length xs → (o : Option Y) → f x ≡ o
    → length (filter_map f (x ∷ xs)) ≤ length (x ∷ xs)
few_with f x xs few None is = rw is (omega (arith, few))
few_with f x xs few (Some y) is = rw is (omega (arith, few))

few_read : {X Y : Type 0} (f : X → Option Y) (xs : List X) → length (filter_map f xs) ≤ length xs
few_read f [] = omega arith
few_read f (x ∷ xs) = few_with f x xs (few_read f xs) (f x) refl

-- the leaves with which the statements of a reply are signed
record IsSignedOn (old : SignerView) (ss : List SignedStatement) (new : SignerView) : Type 0 where
  leaves : List ℕ
  ascend : AscendFrom old.used leaves
  below : AllByRecursion (λ leaf. leaf < new.used) leaves
  signed : AreSignedWith old.secret ss leaves
  more : old.used ≤ new.used

none_on : (old new : SignerView) → new ≡ old → IsSignedOn old [] new
unfolding AscendFrom AreSignedWith
none_on old new same = let used = ap (λ (k : SignerView). k.used) same in
    record { leaves = []; ascend = tt; below = tt; signed = tt; more = omega (arith, used) }

some_on : (old new : SignerView) (ss : List SignedStatement) (n : ℕ) → length ss ≤ n → new ≡ record old { used = old.used + n }
    → AreSignedFrom old old.used ss → IsSignedOn old ss new
some_on old new ss n few is signed =
    let used : new.used ≡ old.used + n = ap (λ (k : SignerView). k.used) is in
    record {
      leaves = leaves_from old.used ss;
      ascend = ascend_from old.used ss;
      below = below_from old.used new.used ss (omega (arith, few, used));
      signed = signed_from old old.used ss signed;
      more = omega (arith, used);
    }

signed_on : (old new : SignerView) (clock : ℕ) (r : Reply) → UsesLeaves old clock r new → IsSignedOn old (own_in (clock + 1) r) new
signed_on old new clock (reply.RoundEnded (Ok ended)) uses = elim (cases_Bool (nat_eq (place_of (clock + 1)) release_place)) [
  | inl last ↦ rw last (none_on old new (rw last at uses))
  | inr early ↦ (
      let these = rw early at uses in
      rw early (some_on old new (filter_map (λ f. reading f.frame) ended.frames) (length ended.frames)
      (few_read (λ f. reading f.frame) ended.frames) these.0 these.1))
]
signed_on old new clock (reply.RoundEnded (Err fault)) uses = none_on old new uses
signed_on old new clock (reply.Submitted r) uses = none_on old new uses
signed_on old new clock (reply.Proposed r) uses = none_on old new uses
signed_on old new clock (reply.Delivered r) uses = none_on old new uses
signed_on old new clock (reply.Executed r) uses = none_on old new uses
signed_on old new clock (reply.Queried r) uses = none_on old new uses
signed_on old new clock (reply.Retired r) uses = none_on old new uses

-- ---- the leaves of a history

-- the empty history signs nothing
pub once_none : (secret : Secret) (used : ℕ) → SignsOnce secret used []
unfolding own_after AscendFrom AreSignedWith
once_none secret used = record { leaves = []; ascend = tt; below = tt; signed = tt }

-- a step signs with leaves that nothing before it was signed with
pub once_more : (old new : SignerView) (entries : List Entry) (e : Entry) → UsesLeaves old (clock_at entries) e.reply new
    → SignsOnce old.secret old.used entries → SignsOnce old.secret new.used (entries ++ e ∷ [])
once_more old new entries e uses was =
    let on = signed_on old new (clock_at entries) e.reply uses in
    record {
      leaves = was.leaves ++ on.leaves;
      ascend = ascend_more 0 old.used was.leaves on.leaves was.ascend was.below (omega arith) on.ascend;
      below = each_append (λ leaf. leaf < new.used) was.leaves on.leaves (below_more old.used new.used was.leaves on.more was.below) on.below;
      signed = subst (λ ss. AreSignedWith old.secret ss (was.leaves ++ on.leaves)) (sym (own_more entries e))
          (signed_append old.secret (own_statements entries) (own_in (clock_at entries + 1) e.reply) was.leaves on.leaves was.signed on.signed);
    }

-- leaves that are lost change nothing
pub once_still : (secret : Secret) (used after : ℕ) (entries : List Entry) → used ≤ after → SignsOnce secret used entries
    → SignsOnce secret after entries
once_still secret used after entries le was = record {
  leaves = was.leaves;
  ascend = was.ascend;
  below = below_more used after was.leaves le was.below;
  signed = was.signed;
}
