-- What an instance answers to a frame, and what it is afterwards: as the definitions say, by every log that it matches.
use Rattle.std.specs.Prelude.{◌≡◌, ℕ, List, [], ◌∷◌, ◌++◌, Result, IfOk}
use Rattle.ledger_model.specs.declared.reply.Ignored.{Ignored}
use Rattle.ledger_model.specs.declared.statement.SignedStatement.{SignedStatement}
use Rattle.ledger_model.specs.Notes.{Note, Read, clock_of}
use Rattle.ledger_model.specs.Rules.{Ring, answer_to}
use Rattle.instance.specs.Instances.{InstanceView}
use Rattle.instance.specs.Matching.{MatchesLog}

-- the answer is that of the definitions
abbrev pub AnswersFrame : {E : Type 0} → Ring → InstanceView → SignedStatement → ℕ → Result (Result (Unit {0}) Ignored) E → Type 0
AnswersFrame ring old frame clock result = IfOk result (λ r. (log : List Note) → MatchesLog ring old log → clock_of log ≡ clock
    → r ≡ answer_to old.config ring log frame)

-- an accepted frame is noted: the instance matches the log with one more note
abbrev pub NotesFrame : {E : Type 0} → Ring → InstanceView → SignedStatement → ℕ → Result (Result (Unit {0}) Ignored) E → InstanceView → Type 0
NotesFrame ring old frame clock result new = IfOk result (λ r. (log : List Note) → MatchesLog ring old log → clock_of log ≡ clock
    → IfOk r (λ x. MatchesLog ring new (log ++ Read clock frame ∷ [])))
