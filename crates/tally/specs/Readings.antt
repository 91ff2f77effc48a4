-- What was read in a phase, as lists with at most one element for each replica.
use Rattle.std.specs.Prelude.{◌≡◌, ℕ, Bool, IsTrue, List, map}
use Rattle.std.specs.List.{list_any}
use Rattle.ledger_model.specs.declared.config.Config.{Config}
use Rattle.ledger_model.specs.declared.statement.Ack.{Ack}
use Rattle.ledger_model.specs.declared.statement.Report.{Report}
use Rattle.ledger_model.specs.declared.statement.SignedReport.{SignedReport}
use Rattle.ledger_model.specs.Rounds.{round_at, ack_place, report_place}
use Rattle.ledger_model.specs.Notes.{Note, is_report, is_ack, was_read}
use Rattle.ledger_model.specs.Validity.{ascends_within}

-- the reports without their signatures
abbrev pub reports_of : List SignedReport → List Report
reports_of signed = map (λ s. s.report) signed

-- these are the reports that were read in phase k, in ascending order of signers
pub record AreReadIn (config : Config) (log : List Note) (k : ℕ) (reports : List Report) : Type 0 where
  pub same : (test : Report → Bool) → was_read log (round_at report_place k) (is_report test) ≡ list_any test reports
  pub signers : IsTrue (ascends_within 0 config.replicas (map (λ p. p.signer) reports))

-- these are the acknowledgements that were read in phase k, in ascending order of signers
pub record AreAcksIn (config : Config) (log : List Note) (k : ℕ) (acks : List Ack) : Type 0 where
  pub same : (test : Ack → Bool) → was_read log (round_at ack_place k) (is_ack test) ≡ list_any test acks
  pub signers : IsTrue (ascends_within 0 config.replicas (map (λ a. a.signer) acks))
