-- Answers that were computed elsewhere are taken in one after the other.
use Rattle.std.proofs.Common.{◌≡◌, ◌⊎◌, Bool, true, false, List, [], ◌∷◌, ◌++◌, map, refl, sym, ap, subst, ◌∙◌}
use Rattle.std.proofs.Common.{inl, inr}
use Rattle.std.proofs.lemmas.List.{append_assoc, append-nil}
use Rattle.ledger_model.specs.Rules.{Ring}
use Rattle.signed_frames.specs.Lending.{SignedPartView}
use Rattle.verify_cache.specs.Checks.{is_part_signed}
use Rattle.verify_cache.specs.Verifiers.{VerifierView, check_of, has_same_key, primed, Primes, PrimesAll}

-- of these parts, those that aren't left were taken in
pub record IsPriming (ring : Ring) (parts : List SignedPartView) (old : VerifierView) (left : List SignedPartView) (answers : List Bool)
    (now : VerifierView) : Type 0 where
  pub done : List SignedPartView
  pub split : parts ≡ done ++ left
  pub taken : PrimesAll ring done old now
  pub right : answers ≡ map (is_part_signed ring) left

-- one more part
primes_more : (ring : Ring) (ps : List SignedPartView) (p : SignedPartView) (old now next : VerifierView)
    → PrimesAll ring ps old now → Primes ring (check_of p) now next → PrimesAll ring (ps ++ p ∷ []) old next
primes_more ring [] p old now next is more = (next, (subst (λ v. Primes ring (check_of p) v next) is more, refl))
primes_more ring (q ∷ ps) p old now next (mid, (first, rest)) more = (mid, (first, primes_more ring ps p mid now next rest more))

-- the keys are the same
ring_stays : (ring : Ring) (ps : List SignedPartView) (old new : VerifierView) → PrimesAll ring ps old new → new.ring ≡ old.ring
ring_stays ring [] old new is = ap (λ (v : VerifierView). v.ring) is
ring_stays ring (p ∷ ps) old new (mid, (first, rest)) = ring_stays ring ps mid new rest ∙ either first
  where
    one : (same : Bool) → has_same_key ring old.ring p.signer ≡ same → (primed ring (check_of p) old).ring ≡ old.ring
    one true h = rw h refl
    one false h = rw h refl

    either : Primes ring (check_of p) old mid → mid.ring ≡ old.ring
    either (inl is) = ap (λ (v : VerifierView). v.ring) is ∙ one (has_same_key ring old.ring p.signer) refl
    either (inr is) = ap (λ (v : VerifierView). v.ring) is

module _ (ring : Ring) (parts : List SignedPartView) (old : VerifierView) where
  pub priming_begins : (answers : List Bool) → answers ≡ map (is_part_signed ring) parts → IsPriming ring parts old parts answers old
  priming_begins answers right = record { done = []; split = refl; taken = refl; right = right }

  module _ (left : List SignedPartView) (answers : List Bool) (now : VerifierView) (is : IsPriming ring parts old left answers now) where
    pub priming_answer : (p : SignedPartView) (ps : List SignedPartView) (a : Bool) (bs : List Bool)
        → left ≡ p ∷ ps → answers ≡ a ∷ bs → a ≡ is_part_signed ring p
    priming_answer p ps a bs left_is answers_is = let right = is.right in cc

    pub priming_next : (p : SignedPartView) (ps : List SignedPartView) (a : Bool) (bs : List Bool) (next : VerifierView)
        → left ≡ p ∷ ps → answers ≡ a ∷ bs → Primes ring (check_of p) now next → IsPriming ring parts old ps bs next
    priming_next p ps a bs next left_is answers_is more = record {
      done = is.done ++ p ∷ [];
      split = is.split ∙ ap (λ l. is.done ++ l) left_is ∙ sym (append_assoc is.done (p ∷ []) ps);
      taken = primes_more ring is.done p old now next is.taken more;
      right = let right = is.right in cc;
    }

    pub priming_keeps : now.ring ≡ old.ring
    priming_keeps = ring_stays ring is.done old now is.taken

    pub priming_ends : (left ≡ []) ⊎ (answers ≡ []) → PrimesAll ring parts old now
    priming_ends none =
        subst (λ ps. PrimesAll ring ps old now) (sym (is.split ∙ ap (λ l. is.done ++ l) (empty none) ∙ append-nil is.done)) is.taken
      where
        no_more : (ps : List SignedPartView) → [] ≡ map (is_part_signed ring) ps → ps ≡ []
        no_more [] h = refl
        no_more (p ∷ ps) h = absurd (cc)

        empty : (left ≡ []) ⊎ (answers ≡ []) → left ≡ []
        empty (inl h) = h
        empty (inr h) = no_more left (sym h ∙ is.right)
