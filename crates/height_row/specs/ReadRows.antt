-- What a replica answers to a frame of an open height, and what the height is afterwards: as the definitions say, by every log that the
-- height matches.
use Rattle.std.specs.Prelude.{◌≡◌, ℕ, List, [], ◌∷◌, ◌++◌, Some, Result, IfOk}
use Rattle.ledger_model.specs.declared.reply.Ignored.{Ignored}
use Rattle.ledger_model.specs.declared.statement.SignedStatement.{SignedStatement}
use Rattle.ledger_model.specs.Logs.{height_of}
use Rattle.ledger_model.specs.Notes.{Note, Read, clock_of}
use Rattle.ledger_model.specs.Rules.{Ring, answer_to}
use Rattle.instance.specs.Instances.{InstanceView}
use Rattle.instance.specs.Matching.{MatchesLog}
use Rattle.height_row.specs.Heights.{row_at}

-- the answer is that of the definitions
abbrev pub AnswersAtHeight : {E : Type 0} → Ring → List InstanceView → SignedStatement → ℕ → Result (Result (Unit {0}) Ignored) E → Type 0
AnswersAtHeight ring old frame clock result = IfOk result (λ r. (row : InstanceView) → row_at old (height_of frame.statement) ≡ Some row
    → (log : List Note) → MatchesLog ring row log → clock_of log ≡ clock → r ≡ answer_to row.config ring log frame)

-- an accepted frame is noted: the height matches the log with one more note
abbrev pub NotesAtHeight : {E : Type 0} → Ring → List InstanceView → SignedStatement → ℕ → Result (Result (Unit {0}) Ignored) E
    → List InstanceView → Type 0
NotesAtHeight ring old frame clock result after = IfOk result (λ r. (row new : InstanceView)
    → row_at old (height_of frame.statement) ≡ Some row → row_at after (height_of frame.statement) ≡ Some new → (log : List Note)
    → MatchesLog ring row log → clock_of log ≡ clock → IfOk r (λ x. MatchesLog ring new (log ++ Read clock frame ∷ [])))
