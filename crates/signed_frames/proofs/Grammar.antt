-- The results of parsing, by the laws of the grammar.
use Rattle.std.proofs.Common.{ℕ, List, Some, Result, Ok, Err, ap, subst, ◌∙◌}
use Rattle.ledger_model.specs.declared.statement.SignedStatement.{SignedStatement}
use Rattle.ledger_model.specs.Spelling.{SpellsFrame}
use Rattle.ledger_model.specs.Reading.{reading_in}
use Rattle.ledger_model.specs.declared.version.Version.{Version}
use Rattle.std.specs.Prelude.{IfOk}
use Rattle.std.specs.Borrow.{Bor}
use Rattle.ledger_model.specs.declared.statement.Statement.{Statement}
use Rattle.ledger_model.specs.GrammarLaws.{IsBytes}
use Rattle.ledger_model.proofs.FrameReading.{reading-spells, reading-again}
use Rattle.signed_frames.specs.Parts.{GivesParts}
use Rattle.statements.specs.declared.fault.DecodeFault.{DecodeFault}
use Rattle.statements.specs.Reads.{IsReadingOr}

-- what is spelled is parsed
pub is_read : (version : Version) (bytes : List ℕ) (result : Result SignedStatement DecodeFault) → IsReadingOr result (reading_in version bytes)
    → (s : SignedStatement)
    → SpellsFrame version bytes s → IsReadingOr result (Some s)
is_read version bytes result e s spells = subst (λ read. IsReadingOr result read)
    (ap (reading_in version) spells.1 ∙ reading-again version s spells.0) e

-- the parts that were read are spelled
pub parts_spelled : (version : Version) (bytes : List ℕ) (result : Result (Statement × Bor (List ℕ)) DecodeFault) → IsBytes bytes
    → GivesParts result (reading_in version bytes)
    → IfOk result (λ x. SpellsFrame version bytes (record { statement = x.0; signature = x.1.now }))
parts_spelled version bytes (Ok x) fits e = reading-spells version bytes (record { statement = x.0; signature = x.1.now }) fits e
parts_spelled version bytes (Err fault) fits e = tt
