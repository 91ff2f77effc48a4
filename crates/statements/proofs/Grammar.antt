-- A decoder's results, by the laws of the grammar.
use Rattle.std.proofs.Common.{ℕ, List, Some, Result, Ok, Err, ap, subst, ◌∙◌}
use Rattle.std.specs.Prelude.{IfOk}
use Rattle.ledger_model.specs.declared.statement.Statement.{Statement}
use Rattle.ledger_model.specs.declared.version.Version.{Version}
use Rattle.ledger_model.specs.Spelling.{Spells}
use Rattle.ledger_model.specs.Reading.{statement_reading}
use Rattle.ledger_model.specs.GrammarLaws.{IsBytes}
use Rattle.ledger_model.proofs.FrameReading.{statement_reading-spells, statement_reading-again}
use Rattle.statements.specs.declared.fault.DecodeFault.{DecodeFault}
use Rattle.statements.specs.Reads.{IsReadingOr}

-- what is decoded is spelled so
pub is_found : (version : Version) (bytes : List ℕ) (result : Result Statement DecodeFault) → IsBytes bytes
    → IsReadingOr result (statement_reading version bytes)
    → IfOk result (λ s. Spells version bytes s)
is_found version bytes (Ok s) fits e = statement_reading-spells version bytes s fits e
is_found version bytes (Err fault) fits e = tt

-- what is spelled is decoded
pub is_read : (version : Version) (bytes : List ℕ) (result : Result Statement DecodeFault) → IsReadingOr result (statement_reading version bytes)
    → (s : Statement)
    → Spells version bytes s → IsReadingOr result (Some s)
is_read version bytes result e s spells =
    subst (λ read. IsReadingOr result read) (ap (statement_reading version) spells.2 ∙ statement_reading-again version s spells.1 spells.0) e
