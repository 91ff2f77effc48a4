-- Histories have one finding at most, so an audit that returns a finding returns it whenever it is one.
use Rattle.ledger_model.specs.Meanings.{Meanings}
use Rattle.std.specs.Prelude.{◌↔◌, ◌⊎◌, Result, Ok, Err, IfOk}
use Rattle.std.proofs.Common.{◌≡◌, true, false, List, refl, ap, sym, subst, ◌∙◌, inl, inr}
use Rattle.std.specs.Result.{IsErrOf}
use Rattle.std.proofs.lemmas.Bool.{both_ways}
use Rattle.ledger_model.specs.declared.config.Config.{Config}
use Rattle.ledger_model.specs.declared.history.History.{History}
use Rattle.ledger_model.specs.Values.{Value}
use Rattle.ledger_model.specs.Rules.{Ring}
use Rattle.ledger_model.specs.Audits.{are_of_a_quorum, AreReplays}
use Rattle.ledger_model.specs.Worlds.{IsLedger}
use Rattle.ledger_laws.proofs.AuditFindings.{no_break, one_first_break, one_first_unsent}
use Rattle.ledger_laws.proofs.UniqueLedgers.{ledger_is_unique}
use Rattle.history_audit.specs.declared.fault.AuditFault.{AuditFault}
use Rattle.history_audit.specs.declared.fault.AuditFault.TheVariants as fault
use Rattle.history_audit.specs.Followed.{FollowsAll}
use Rattle.history_audit.specs.Searches.{FindsUnsent}
use Rattle.history_audit.specs.Findings.{IsFinding}

module _ (meaning : Meanings) (config : Config) (ring : Ring) (histories : List History) where
  -- what an audit may return: a finding, or that memory was refused
  abbrev pub MayReturn : Result (List Value) AuditFault → Type 0
  MayReturn result = IsErrOf result fault.NoMemory ⊎ IsFinding meaning config ring histories result

  -- the count was right, and wrong
  no_count : {X : Type 0} → are_of_a_quorum config histories ≡ true → are_of_a_quorum config histories ≡ false → X
  no_count right wrong = absurd (both_ways (are_of_a_quorum config histories) wrong right)

  -- there is one finding at most
  pub one_finding : (result other : Result (List Value) AuditFault) → IsFinding meaning config ring histories result
      → IsFinding meaning config ring histories other → result ≡ other
  one_finding (Err fault.NoMemory) other is also = absurd is
  one_finding (Ok a) (Ok b) is also = ap Ok (ledger_is_unique meaning config histories a b (is.1.1.1) (also.1.1.1))
  one_finding (Ok a) (Err fault.Count) is also = no_count (is.0) also
  one_finding (Ok a) (Err (fault.NotReplay r i)) is also = absurd (no_break meaning config ring histories r i (is.1.0) (also.1))
  one_finding (Ok a) (Err (fault.Unsent reader i signer)) is also = absurd (is.1.1.0 reader i signer (also.1.1.is))
  one_finding (Ok a) (Err fault.NoMemory) is also = absurd also
  one_finding (Err fault.Count) (Ok b) is also = no_count (also.0) is
  one_finding (Err fault.Count) (Err fault.Count) is also = refl
  one_finding (Err fault.Count) (Err (fault.NotReplay r i)) is also = no_count (also.0) is
  one_finding (Err fault.Count) (Err (fault.Unsent reader i signer)) is also = no_count (also.0) is
  one_finding (Err fault.Count) (Err fault.NoMemory) is also = absurd also
  one_finding (Err (fault.NotReplay r i)) (Ok b) is also = absurd (no_break meaning config ring histories r i (also.1.0) (is.1))
  one_finding (Err (fault.NotReplay r i)) (Err fault.Count) is also = no_count (is.0) also
  one_finding (Err (fault.NotReplay r i)) (Err (fault.NotReplay q j)) is also =
      let same = one_first_break meaning config ring histories r i q j (is.1) (also.1) in
      ap (λ x. Err (fault.NotReplay x i)) (same.0) ∙ ap (λ x. Err (fault.NotReplay q x)) (same.1)
  one_finding (Err (fault.NotReplay r i)) (Err (fault.Unsent reader j signer)) is also =
      absurd (no_break meaning config ring histories r i (also.1.0) (is.1))
  one_finding (Err (fault.NotReplay r i)) (Err fault.NoMemory) is also = absurd also
  one_finding (Err (fault.Unsent reader i signer)) (Ok b) is also = absurd (also.1.1.0 reader i signer (is.1.1.is))
  one_finding (Err (fault.Unsent reader i signer)) (Err fault.Count) is also = no_count (is.0) also
  one_finding (Err (fault.Unsent reader i signer)) (Err (fault.NotReplay r j)) is also =
      absurd (no_break meaning config ring histories r j (is.1.0) (also.1))
  one_finding (Err (fault.Unsent r i x)) (Err (fault.Unsent q j y)) is also =
      let same = one_first_unsent histories r i x q j y (is.1.1) (also.1.1) in
      ap (λ n. Err (fault.Unsent n i x)) (same.0) ∙ ap (λ n. Err (fault.Unsent q n x)) (same.1.0)
      ∙ ap (λ n. Err (fault.Unsent q j n)) (same.1.1)
  one_finding (Err (fault.Unsent reader i signer)) (Err fault.NoMemory) is also = absurd also

  -- ---- what follows of what an audit may return

  pub ledger_found : (result : Result (List Value) AuditFault) → MayReturn result
      → IfOk result (λ ledger. IsLedger meaning config histories ledger)
  ledger_found (Ok ledger) (inl full) = absurd (apart ledger full)
    where
      apart : (ledger : List Value) → IsErrOf (Ok ledger) fault.NoMemory → ⊥
      apart ledger full = cc
  ledger_found (Ok ledger) (inr is) = is.1.1.1
  ledger_found (Err f) is = tt

  -- the count was right
  pub count_found : (result : Result (List Value) AuditFault) → are_of_a_quorum config histories ≡ true → MayReturn result
      → IsErrOf result fault.Count ↔ (are_of_a_quorum config histories ≡ false)
  count_found result right found = (λ is. wrong is found, no_count right)
    where
      apart : IsErrOf {T = List Value} (Err fault.NoMemory) fault.Count → ⊥
      apart is = cc

      wrong : IsErrOf result fault.Count → MayReturn result → are_of_a_quorum config histories ≡ false
      wrong is (inl full) = absurd (apart (sym full ∙ is))
      wrong is (inr finding) = subst (IsFinding meaning config ring histories) is finding

  pub only_found : (result : Result (List Value) AuditFault) → MayReturn result → (finding : Result (List Value) AuditFault)
      → IsFinding meaning config ring histories finding → IsErrOf result fault.NoMemory ⊎ (result ≡ finding)
  only_found result (inl full) finding is = inl full
  only_found result (inr found) finding is = inr (one_finding result finding found is)

  -- ---- what each part of an audit finds

  -- a history isn't a replay
  pub broken_found : (found : AuditFault) → are_of_a_quorum config histories ≡ true → FollowsAll meaning config ring histories (Err found)
      → MayReturn (Err found)
  broken_found (fault.NotReplay r i) count is = inr (count, is)
  broken_found fault.NoMemory count is = inl refl
  broken_found fault.Count count is = absurd is
  broken_found (fault.Unsent reader i signer) count is = absurd is

  -- a statement is unsent
  pub unsent_found : (found : AuditFault) → are_of_a_quorum config histories ≡ true → AreReplays meaning config ring histories
      → FindsUnsent histories (Err found) → MayReturn (Err found)
  unsent_found (fault.Unsent reader i signer) count replays is = inr (count, (replays, is))
  unsent_found fault.NoMemory count replays is = inl refl
  unsent_found fault.Count count replays is = absurd is
  unsent_found (fault.NotReplay r i) count replays is = absurd is
