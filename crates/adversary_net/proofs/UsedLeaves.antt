-- If memory doesn't run out, each leaf that a correct replica uses signs a statement of its own.
use Rattle.ledger_model.specs.Meanings.{Meanings}
use Rattle.std.proofs.Common.{◌≡◌, ℕ, zero, suc, inl, inr, Bool, true, false, ◌||◌, ◌+◌, ◌≤◌, cond, List, [], ◌∷◌, ◌++◌, refl, sym, ap}
use Rattle.std.proofs.Common.{subst, ◌∙◌, arith}
use Rattle.std.specs.Prelude.{nat_eq, Option, Some, slice_get, slice_set, option_and_then}
use Rattle.std.specs.List.{list_any}
use Rattle.std.proofs.lemmas.Bool.{cases_Bool, eqb-true, eq-eqb, or_parts}
use Rattle.std.proofs.lemmas.List.Folds.{list_any-append}
use Rattle.ledger_model.specs.declared.world.WorldReply.{WorldReply}
use Rattle.ledger_model.specs.declared.world.WorldStep.{WorldStep}
use Rattle.replica_core.specs.Leaves.{signed_by}
use Rattle.locked_replica.specs.States.{StateView, UsesAsSigned}
use Rattle.adversary_net.specs.declared.party.Party.{Party}
use Rattle.adversary_net.specs.declared.party.Party.TheVariants as party
use Rattle.adversary_net.specs.WorldViews.{WorldView, IsCluster, AllAccountForLeaves, EachSignsOnce, AllReplay, UsesAsAnswered, is_out_of_memory, state_in}
use Rattle.adversary_net.specs.Leaves.{UsesButFor, EachUses, IsAnswered, AreAnswered, loss_at, lost_at}

-- ---- one party in the place of another

set_here : {X : Type 0} (xs : List X) (r : ℕ) (x y : X) → slice_get xs r ≡ Some y → slice_get (slice_set xs r x) r ≡ Some x
set_here [] r x y at = cc
set_here (z ∷ zs) zero x y at = refl
set_here (z ∷ zs) (suc r) x y at = set_here zs r x y at

set_apart : {X : Type 0} (xs : List X) (r q : ℕ) (x : X) → (q ≡ r → ⊥) → slice_get (slice_set xs r x) q ≡ slice_get xs q
set_apart [] r q x apart = refl
set_apart (z ∷ zs) zero zero x apart = absurd (apart refl)
set_apart (z ∷ zs) zero (suc q) x apart = refl
set_apart (z ∷ zs) (suc r) zero x apart = refl
set_apart (z ∷ zs) (suc r) (suc q) x apart = set_apart zs r q x (λ e. apart (ap suc e))

-- the correct replica of a number
abbrev state_of : List (Party StateView) → ℕ → Option StateView
state_of parties q = option_and_then state_in (slice_get parties q)

same_state : (s t : StateView) (parties : List (Party StateView)) (r : ℕ) → slice_get parties r ≡ Some (party.Correct t)
    → state_of parties r ≡ Some s → s ≡ t
same_state s t parties r at is = let there = ap (option_and_then state_in) at in cc

-- nothing happened to it
stays_same : (lost : ℕ) (s : StateView) → UsesButFor lost s s
stays_same lost s = record { least = omega arith; most = omega arith }

-- each statement used a leaf, and none was lost
pub none_lost : (old new : StateView) → UsesAsSigned old new → UsesButFor 0 old new
none_lost old new uses = record { least = omega (arith, uses); most = omega (arith, uses) }

-- no statement was added, and no more leaves were used than may be lost
pub some_lost : (lost : ℕ) (old new : StateView) → new.entries ≡ old.entries → old.used ≤ new.used → new.used ≤ old.used + lost
    → UsesButFor lost old new
some_lost lost old new entries least most =
    let signed = ap signed_by entries in
    record { least = omega (arith, signed, least); most = omega (arith, signed, most) }

module _ (parties : List (Party StateView)) (r : ℕ) (old new : StateView) (at : slice_get parties r ≡ Some (party.Correct old))
    (lost : ℕ → StateView → ℕ) (uses : UsesButFor (lost r old) old new) where
  -- each replica used what it may
  pub uses_set : (q : ℕ) (s : StateView) → state_of parties q ≡ Some s
      → (t : StateView) × ((state_of (slice_set parties r (party.Correct new)) q ≡ Some t) × UsesButFor (lost q s) s t)
  uses_set q s is = elim (cases_Bool (nat_eq q r)) [
    | inl here ↦
        let place = eqb-true q r here in
        let was : s ≡ old = same_state s old parties r at (ap (state_of parties) (sym place) ∙ is) in (
          new,
          (
            ap (λ k. state_of (slice_set parties r (party.Correct new)) k) place
                ∙ ap (option_and_then state_in) (set_here parties r (party.Correct new) (party.Correct old) at),
            rw (was, place) uses,
          ),
        )
    | inr apart ↦ (
      s,
      (
        ap (option_and_then state_in) (set_apart parties r q (party.Correct new) (other q r apart))
            ∙ is,
        stays_same (lost q s) s,
      ),
    )
  ]
    where
      other : (q r : ℕ) → nat_eq q r ≡ false → q ≡ r → ⊥
      other q r apart e = let is = eq-eqb q r e in cc

-- ---- answers

-- if memory ran out at none of these answers, it did at none but the last, and not at the last
pub none_out : (answers : List WorldReply) (a : WorldReply) → list_any is_out_of_memory (answers ++ a ∷ []) ≡ false
    → (list_any is_out_of_memory answers ≡ false) × (list_any is_out_of_memory (a ∷ []) ≡ false)
none_out answers a none = or_parts (list_any is_out_of_memory answers) (list_any is_out_of_memory (a ∷ []))
    (sym (list_any-append is_out_of_memory answers (a ∷ [])) ∙ none)

pub one_out : (a : WorldReply) → list_any is_out_of_memory (a ∷ []) ≡ false → is_out_of_memory a ≡ false
one_out a none = (or_parts (is_out_of_memory a) false none).0

-- nothing happened
pub uses_none : (c : WorldView) (answers : List WorldReply) → UsesAsAnswered c answers c
uses_none c answers none r s is = (s, (is, refl))

-- no step
pub each_none : (c : WorldView) (s : WorldStep) (a : WorldReply) → EachUses c s a c
each_none c s a r x is = (x, (is, stays_same (lost_at s a r x) x))

-- if memory didn't run out, no leaf is lost
exactly : (a : WorldReply) (n : ℕ) (old new : StateView) → is_out_of_memory a ≡ false → UsesButFor (cond (is_out_of_memory a) n 0) old new
    → UsesAsSigned old new
exactly a n old new none uses =
    let lost : UsesButFor 0 old new = subst (λ b. UsesButFor (cond b n 0) old new) none uses in
    omega (arith, lost.least, lost.most)

-- one answer more
pub uses_more : (c d e : WorldView) (answers : List WorldReply) (s : WorldStep) (a : WorldReply) → UsesAsAnswered c answers d
    → EachUses d s a e → UsesAsAnswered c (answers ++ a ∷ []) e
uses_more c d e answers s a first then none r x is =
    let parts = none_out answers a none in
    let mid = first parts.0 r x is in
    let last = then r mid.0 mid.1.0 in
    let was = mid.1.1 in
    let now = exactly a (loss_at s r mid.0) mid.0 last.0 (one_out a parts.1) last.1.1 in
    (last.0, (last.1.0, omega (arith, was, now)))

-- ---- steps that are answered one after the other

pub answered_none : (meaning : Meanings) (c : WorldView) → AreAnswered meaning c [] [] c
unfolding AreAnswered
answered_none meaning c = refl

-- one step more
pub answered_more : (meaning : Meanings) (c d e : WorldView) (steps : List WorldStep) (answers : List WorldReply) (s : WorldStep)
    (a : WorldReply)
    → AreAnswered meaning c steps answers d → IsAnswered meaning d s a e → AreAnswered meaning c (steps ++ s ∷ []) (answers ++ a ∷ []) e
unfolding AreAnswered
answered_more meaning c d e [] [] s a same next = (e, (subst (λ x. IsAnswered meaning x s a e) same next, refl))
answered_more meaning c d e (t ∷ ts) (b ∷ bs) s a (mid, (one, rest)) next = (mid, (one, answered_more meaning mid d e ts bs s a rest next))
answered_more meaning c d e [] (b ∷ bs) s a given next = absurd given
answered_more meaning c d e (t ∷ ts) [] s a given next = absurd given

-- ---- why replicas are mute

-- the history of each member is a replay
pub replays : (meaning : Meanings) (c : WorldView) → IsCluster meaning c → AllReplay meaning c
replays meaning c cluster r s is = (cluster.members r s is).replay

-- each member accounts for its leaves
pub accounts : (meaning : Meanings) (c : WorldView) → IsCluster meaning c → AllAccountForLeaves c
accounts meaning c cluster r s is = (cluster.members r s is).account

-- each member signs with each leaf once
pub once : (meaning : Meanings) (c : WorldView) → IsCluster meaning c → EachSignsOnce c
once meaning c cluster r s is = (cluster.members r s is).once
