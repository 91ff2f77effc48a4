-- Refusals and causes are read back from their numbers.
use Rattle.std.proofs.Common.{◌≡◌, ℕ, false, List, [], ◌++◌, Option, Some}
use Rattle.std.proofs.Common.{refl}
use Rattle.std.proofs.Common.{sym, subst, eqb}
use Rattle.std.specs.Prelude.{find}
use Rattle.std.specs.Int.{w32}
use Rattle.std.proofs.lemmas.Bool.{eqb-true, eqb-false}
use Rattle.ledger_model.specs.declared.reply.Ignored.{Ignored}
use Rattle.ledger_model.specs.declared.reply.Ignored.TheVariants as cause
use Rattle.ledger_model.specs.declared.reply.ProposeRefusal.{ProposeRefusal}
use Rattle.ledger_model.specs.declared.reply.ProposeRefusal.TheVariants as propose
use Rattle.ledger_model.specs.declared.reply.RetireRefusal.{RetireRefusal}
use Rattle.ledger_model.specs.declared.reply.RetireRefusal.TheVariants as retire
use Rattle.ledger_model.specs.declared.reply.SubmitRefusal.{SubmitRefusal}
use Rattle.ledger_model.specs.declared.reply.SubmitRefusal.TheVariants as refusal
use Rattle.ledger_model.specs.Causes.{submit_refusal_number, propose_refusal_number, retire_refusal_number, cause_number}
use Rattle.ledger_model.specs.GrammarLaws.{IsBytes}
use Rattle.ledger_model.specs.Reading.{◌>>=◌, number_at}
use Rattle.ledger_model.proofs.Readers.{bind_some, some_is}
use Rattle.ledger_model.proofs.Lists.{found_has}
use Rattle.history_bytes.specs.Histories.{code_bytes}
use Rattle.history_bytes.specs.HistorySpelling.{IsRefusal}
use Rattle.history_bytes.specs.HistoryReading.{propose_refusal_of, retire_refusal_of, cause_of, submit_refusal_of}
use Rattle.history_bytes.specs.HistoryReading.{refusal_numbered, propose_refusals, retire_refusals, cause_list, pool_refusals}
use Rattle.history_bytes.proofs.Combined.{if_some, IsTagged}
use Rattle.history_bytes.proofs.Combined.{as_kind, branch_takes, numbered_tagged}
use Rattle.history_bytes.proofs.FieldReaders.{word_reader}

propose_back : (r : ProposeRefusal) → propose_refusal_of (propose_refusal_number r) ≡ Some r
unfolding propose_refusal_of
propose_back propose.TooFar = refl
propose_back propose.AlreadyOpen = refl
propose_back propose.Closed = refl
propose_back propose.Retired = refl

pub propose_tagged : IsTagged propose_refusal_number (λ _. []) (λ _. Unit {0}) (refusal_numbered propose_refusal_of)
unfolding propose_refusal_of
propose_tagged = numbered_tagged propose_refusal_number propose_refusal_of
    (λ n r e. eqb-true _ _ ((found_has (λ x. eqb (propose_refusal_number x) n) propose_refusals r e).1)) propose_back

pub propose_some : (r : ProposeRefusal) → eqb (propose_refusal_number r) 0 ≡ false
propose_some propose.TooFar = refl
propose_some propose.AlreadyOpen = refl
propose_some propose.Closed = refl
propose_some propose.Retired = refl

retire_back : (r : RetireRefusal) → retire_refusal_of (retire_refusal_number r) ≡ Some r
unfolding retire_refusal_of
retire_back retire.NotCommitted = refl
retire_back retire.NotAbove = refl

pub retire_tagged : IsTagged retire_refusal_number (λ _. []) (λ _. Unit {0}) (refusal_numbered retire_refusal_of)
unfolding retire_refusal_of
retire_tagged = numbered_tagged retire_refusal_number retire_refusal_of
    (λ n r e. eqb-true _ _ ((found_has (λ x. eqb (retire_refusal_number x) n) retire_refusals r e).1)) retire_back

pub retire_some : (r : RetireRefusal) → eqb (retire_refusal_number r) 0 ≡ false
retire_some retire.NotCommitted = refl
retire_some retire.NotAbove = refl

cause_back : (c : Ignored) → cause_of (cause_number c) ≡ Some c
unfolding cause_of
cause_back cause.Malformed = refl
cause_back cause.Signer = refl
cause_back cause.NoRow = refl
cause_back cause.WrongRound = refl
cause_back cause.WrongPhase = refl
cause_back cause.NotOwner = refl
cause_back cause.Repeated = refl
cause_back cause.BadSignature = refl
cause_back cause.BadProof = refl
cause_back cause.TableFull = refl
cause_back cause.NotMine = refl

pub cause_tagged : IsTagged cause_number (λ _. []) (λ _. Unit {0}) (refusal_numbered cause_of)
unfolding cause_of
cause_tagged = numbered_tagged cause_number cause_of
    (λ n c e. eqb-true _ _ ((found_has (λ x. eqb (cause_number x) n) cause_list c e).1)) cause_back

pub cause_some : (c : Ignored) → eqb (cause_number c) 0 ≡ false
cause_some cause.Malformed = refl
cause_some cause.Signer = refl
cause_some cause.NoRow = refl
cause_some cause.WrongRound = refl
cause_some cause.WrongPhase = refl
cause_some cause.NotOwner = refl
cause_some cause.Repeated = refl
cause_some cause.BadSignature = refl
cause_some cause.BadProof = refl
cause_some cause.TableFull = refl
cause_some cause.NotMine = refl

-- a refusal without a code has no further bytes
no_code : (r : SubmitRefusal) (n : ℕ) (bytes : List ℕ) → submit_refusal_number r ≡ n → eqb n 5 ≡ false
    → (bytes ≡ code_bytes r ++ bytes) × IsRefusal r
no_code refusal.Empty n bytes is other = (refl, tt)
no_code refusal.TooLong n bytes is other = (refl, tt)
no_code refusal.Duplicate n bytes is other = (refl, tt)
no_code refusal.Full n bytes is other = (refl, tt)
no_code (refusal.Rejected code) n bytes is other = absurd (eqb-false n 5 other (sym is))

submit_takes : (n : ℕ) (bytes : List ℕ) (r : SubmitRefusal) (rest : List ℕ) → IsBytes bytes → submit_refusal_of n bytes ≡ Some (r, rest)
    → (bytes ≡ code_bytes r ++ rest) × IsRefusal r × IsBytes rest × (submit_refusal_number r ≡ n)
unfolding submit_refusal_of
submit_takes n bytes r rest fits e =
    if_some (eqb n 5) (as_kind refusal.Rejected (number_at w32 bytes)) (found >>= λ x. Some (x, bytes)) (r, rest) e
    (λ is f. branch_takes word_reader submit_refusal_number code_bytes IsRefusal refusal.Rejected n (λ x. sym (eqb-true n 5 is))
    (λ x. refl) (λ x i. i) bytes r rest fits f)
    (λ other f.
    let a = bind_some found (λ x. Some (x, bytes)) (r, rest) f in
    let number : submit_refusal_number a.0 ≡ n =
    eqb-true _ _ ((found_has (λ x. eqb (submit_refusal_number x) n) pool_refusals a.0 a.1).1) in
    let plainly = no_code a.0 n bytes number other in
    let made : SubmitRefusal × List ℕ = (a.0, bytes) in
    subst (λ (p : SubmitRefusal × List ℕ). (bytes ≡ code_bytes p.0 ++ p.1) × IsRefusal p.0 × IsBytes p.1 × (submit_refusal_number p.0 ≡ n))
    (some_is made (r, rest) a.2) (plainly.0, plainly.1, fits, number))
  where
    found : Option SubmitRefusal
    found = find (λ x. eqb (submit_refusal_number x) n) pool_refusals

submit_again : (r : SubmitRefusal) (rest : List ℕ) → IsRefusal r
    → submit_refusal_of (submit_refusal_number r) (code_bytes r ++ rest) ≡ Some (r, rest)
unfolding submit_refusal_of
submit_again refusal.Empty rest is = refl
submit_again refusal.TooLong rest is = refl
submit_again refusal.Duplicate rest is = refl
submit_again refusal.Full rest is = refl
submit_again (refusal.Rejected code) rest is = rw (word_reader.again code rest is) refl

pub submit_tagged : IsTagged submit_refusal_number code_bytes IsRefusal submit_refusal_of
submit_tagged = record { takes = submit_takes; again = submit_again }

pub submit_some : (r : SubmitRefusal) → eqb (submit_refusal_number r) 0 ≡ false
submit_some refusal.Empty = refl
submit_some refusal.TooLong = refl
submit_some refusal.Duplicate = refl
submit_some refusal.Full = refl
submit_some (refusal.Rejected code) = refl
