-- The lock that an owner makes on a value that a quorum of the stored reports find.
use Rattle.std.proofs.Common.{◌≡◌, ℕ, true, List, length, refl, ap, ◌∙◌, arith, leb-true}
use Rattle.std.specs.Prelude.{filter, Some}
use Rattle.std.proofs.lemmas.Bool.{and_from, eq-eqb}
use Rattle.std.proofs.lemmas.List.{length-take-le}
use Rattle.ledger_model.specs.declared.statement.SignedReport.{SignedReport}
use Rattle.ledger_model.specs.Values.{Value}
use Rattle.ledger_model.specs.Notes.{Note, Has}
use Rattle.ledger_model.specs.Rounds.{quorum}
use Rattle.ledger_model.specs.Locks.{finds}
use Rattle.ledger_model.specs.Validity.{ascends_within, signers_of}
use Rattle.ledger_model.specs.Rules.{Ring}
use Rattle.tally.specs.Readings.{reports_of}
use Rattle.phase_core.specs.Choices.{is_found_by}
use Rattle.tally.specs.Tallies.{all_read, read_of, count_where}
use Rattle.ledger_model.proofs.Lists.{all_from, filter_has, take_has}
use Rattle.phase_core.proofs.Counts.{count_signed}
use Rattle.instance.specs.Instances.{InstanceView}
use Rattle.instance.specs.Matching.{MatchesIn, IsSpelled}
use Rattle.instance.specs.Plans.{own_lock, IsOwnLockOf}
use Rattle.ledger_model.proofs.Counting.{filter-within, take-within}
use Rattle.tally.proofs.Puts.{read_at}
use Rattle.instance.proofs.KeptPlaces.{read_ascends}

module _ (row : InstanceView) (h : IsSpelled row) (places : length row.reports ≡ row.config.replicas) (k : ℕ) (v : Value) where
  abbrev finding : List SignedReport
  finding = filter (λ (p : SignedReport). finds p.report v) (all_read row.reports)

  -- each report of the proof is a kept one that finds the value
  pub in_proof : (s : SignedReport) → Has (own_lock row k v).proof s
      → (read_of row.reports s.report.signer ≡ Some s) × (finds s.report v ≡ true)
  in_proof s has =
      let f = filter_has (λ (p : SignedReport). finds p.report v) (all_read row.reports) s (take_has (quorum row.config) finding s has) in
      let at = read_at row.reports s f.0 in
      (ap (read_of row.reports) (h.reports at.0 s at.1).of_signer ∙ at.1, f.1)

  -- their signers ascend, and they are as many as a lock needs
  pub signers_within : ascends_within 0 row.config.replicas (signers_of (own_lock row k v).proof) ≡ true
  signers_within =
      take-within (λ (s : SignedReport). s.report.signer) (quorum row.config) 0 row.config.replicas finding
      (filter-within (λ (s : SignedReport). s.report.signer) (λ (p : SignedReport). finds p.report v) 0 row.config.replicas
      (all_read row.reports)
      (read_ascends (λ s. s.report.signer) row.config.replicas row.reports places (λ r s e. (h.reports r s e).of_signer)))

  pub proof_length : is_found_by row.config (reports_of (all_read row.reports)) v ≡ true
      → length (own_lock row k v).proof ≡ quorum row.config
  proof_length found =
      let many = leb-true (quorum row.config) (count_where (λ p. finds p v) (reports_of (all_read row.reports))) found in
      let same = count_signed (λ p. finds p v) (all_read row.reports) in
      length-take-le (quorum row.config) finding (omega (arith, many, same))

-- it is a lock that the owner may make
pub own_lock_right : (ring : Ring) (row : InstanceView) (log : List Note) (k : ℕ) (m : MatchesIn ring row log k) (v : Value)
    → is_found_by row.config (reports_of (all_read row.reports)) v ≡ true
    → IsOwnLockOf row k (own_lock row k v)
own_lock_right ring row log k m v found =
    let h = m.sound.spelled in
    let known = in_proof row h m.reports.count k v in
    record {
      of_version = refl;
      of_height = refl;
      of_phase = refl;
      own = refl;
      quorate = and_from _ _ (and_from _ _ (eq-eqb _ _ (proof_length row h m.reports.count k v found))
          (signers_within row h m.reports.count k v))
          (all_from _ (own_lock row k v).proof (λ s has.
          let kept = m.reports.kept s.report.signer s (known s has).0
          in and_from _ _ (eq-eqb s.report.height row.height kept.of_height) (eq-eqb s.report.phase k kept.of_phase)));
      supporting = all_from _ (own_lock row k v).proof (λ s has. (known s has).1);
      kept = λ s has. (known s has).0;
    }
