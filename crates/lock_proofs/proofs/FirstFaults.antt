-- If no fault applies, the lock is valid; if it is valid by its own signatures, none applies.
use Rattle.std.proofs.Common.{◌≡◌, Bool, true, false, List, [], ◌∷◌, refl}
use Rattle.std.specs.Prelude.{nat_eq, not, ◌&&◌, Ok}
use Rattle.std.proofs.lemmas.Bool.{and_parts, and_from, eqb-true, eq-eqb}
use Rattle.ledger_model.specs.declared.config.Config.{Config}
use Rattle.ledger_model.specs.Rounds.{owner_of}
use Rattle.ledger_model.specs.Rules.{Ring, first_of, is_signed, with_signature}
use Rattle.ledger_model.specs.Validity.{ValidLock, is_quorate, is_supporting}
use Rattle.lock_proofs.specs.LockTables.{SignedLock, as_statement}
use Rattle.ledger_model.proofs.Lists.{all_has, all_from}
use Rattle.lock_proofs.specs.declared.fault.LockFault.TheVariants as fault
use Rattle.lock_proofs.specs.Faults.{faults, are_signed, IsBacked, SignaturesVerify}

-- where no cause fits, the first doesn't, nor one of the others
passed : {C : Type 0} (b : Bool) (c : C) (cs : List (Bool × C)) → first_of ((not b, c) ∷ cs) ≡ Ok tt → (b ≡ true) × (first_of cs ≡ Ok tt)
passed true c cs h = (refl, h)
passed false c cs h = cc

passes : {C : Type 0} (b : Bool) (c : C) (cs : List (Bool × C)) → b ≡ true → first_of cs ≡ Ok tt → first_of ((not b, c) ∷ cs) ≡ Ok tt
passes true c cs e h = h
passes false c cs e h = cc

-- what no fault fits is valid
pub valid : (config : Config) (ring : Ring) (s : SignedLock) → first_of (faults config ring s) ≡ Ok tt
    → ValidLock (IsBacked ring) config s.lock
valid config ring s h =
    let l = s.lock in
    let supporting = (not (is_supporting l), fault.NotSupporting) ∷ [] in
    let proof = is_quorate config l && are_signed ring l.proof in
    let own = passed (nat_eq l.signer (owner_of config l.phase)) fault.NotOwner
    ((not (is_signed ring (as_statement s)), fault.BadSignature) ∷ (not proof, fault.BadProof) ∷ supporting) h in
    let signed = passed (is_signed ring (as_statement s)) fault.BadSignature ((not proof, fault.BadProof) ∷ supporting) (own.1) in
    let proved = passed proof fault.BadProof supporting (signed.1) in
    let parts = and_parts (is_quorate config l) (are_signed ring l.proof) (proved.0) in
    record {
      backed = (s.signature, signed.0);
      owner = eqb-true l.signer (owner_of config l.phase) (own.0);
      quorate = parts.0;
      supporting = (passed (is_supporting l) fault.NotSupporting [] (proved.1)).0;
      reports = λ p has. (p.signature, all_has (λ x. is_signed ring (with_signature x)) l.proof p (parts.1) has);
    }

-- no fault fits what is valid by its own signatures
pub accepted : (config : Config) (ring : Ring) (s : SignedLock) → SignaturesVerify ring s → ValidLock (IsBacked ring) config s.lock
    → first_of (faults config ring s) ≡ Ok tt
accepted config ring s signed v =
    let l = s.lock in
    let supporting = (not (is_supporting l), fault.NotSupporting) ∷ [] in
    let proof = is_quorate config l && are_signed ring l.proof in
    let all_signed = all_from (λ x. is_signed ring (with_signature x)) l.proof signed.reports in
    passes (nat_eq l.signer (owner_of config l.phase)) fault.NotOwner
    ((not (is_signed ring (as_statement s)), fault.BadSignature) ∷ (not proof, fault.BadProof) ∷ supporting)
    (eq-eqb l.signer (owner_of config l.phase) v.owner)
    (passes (is_signed ring (as_statement s)) fault.BadSignature ((not proof, fault.BadProof) ∷ supporting) signed.own
    (passes proof fault.BadProof supporting (and_from (is_quorate config l) (are_signed ring l.proof) v.quorate all_signed)
    (passes (is_supporting l) fault.NotSupporting [] v.supporting refl)))
