-- The laws, for a given clock, plan and outcome.
use Rattle.std.proofs.Common.{◌≡◌, ℕ, ◌+◌, ◌<◌, List, [], ◌∷◌, ◌++◌, sym, ap, subst, ◌∙◌}
use Rattle.std.specs.Prelude.{map, Option, Some, None, IfSome, IfOk, OnErr, IsTrue, Ok, Err, Result}
use Rattle.ledger_model.specs.declared.reply.Ignored.{Ignored}
use Rattle.ledger_model.specs.declared.statement.SignedStatement.{SignedStatement}
use Rattle.ledger_model.specs.Rounds.{place_of, release_place}
use Rattle.ledger_model.specs.Notes.{Note, Read, clock_of, signer_of}
use Rattle.ledger_model.specs.Logs.{height_of}
use Rattle.ledger_model.specs.Rules.{Ring, answer_to, first_of}
use Rattle.ledger_model.specs.Lawful.{held_locks, are_signed_reports}
use Rattle.ledger_model.specs.declared.statement.Statement.{Statement}
use Rattle.ledger_model.specs.Spelling.{IsFrameIn, frame_bytes}
use Rattle.instance.specs.declared.round_statement.RoundStatement.{RoundStatement}
use Rattle.instance.specs.Instances.{InstanceView}
use Rattle.instance.specs.Matching.{MatchesLog}
use Rattle.instance.specs.Reads.{row_causes, after_read, if_accepted, IsSameHeight}
use Rattle.instance.specs.Plans.{MaySend, chosen_statement, opened_effects, closed}
use Rattle.instance.specs.Laws.{MayBeSent, MayClose, IsSignedMade, IsFrameMade, opened_by}
use Rattle.instance.proofs.Answering.{answers}
use Rattle.instance.proofs.OneStatement.{reads}
use Rattle.instance.proofs.Makes.{allows, allowed, chooses, proves_signed, sends_on}
use Rattle.instance.proofs.Closes.{closes}
use Rattle.instance.proofs.SameHeight.{same_after, same_self}

-- ---- each law at the clock c

module _ (ring : Ring) (row : InstanceView) (log : List Note) (c : ℕ) (matches : MatchesLog ring row log) (clock : clock_of log ≡ c) where
  pub answers_at : (s : SignedStatement) → signer_of s.statement < row.config.replicas
      → first_of (row_causes row ring c s) ≡ answer_to row.config ring log s
  answers_at s member = subst (λ n. first_of (row_causes row ring n s) ≡ answer_to row.config ring log s) clock
      (answers ring row log s matches member)

  reads_at : (s : SignedStatement) → signer_of s.statement < row.config.replicas → height_of s.statement ≡ row.height
      → IsFrameIn row.config.frames s
      → first_of (row_causes row ring c s) ≡ Ok tt
      → MatchesLog ring (after_read row c s) (log ++ Read c s ∷ [])
  reads_at s member height frame ok =
      subst (λ n. MatchesLog ring (after_read row n s) (log ++ Read n s ∷ [])) clock
      (reads ring row log s matches member height frame (subst (λ n. first_of (row_causes row ring n s) ≡ Ok tt) (sym clock) ok))

  pub allows_at : (sent : Option Statement) → MaySend row (c + 1) sent → MayBeSent row log (c + 1) sent
  allows_at sent may = subst (λ n. MayBeSent row log (n + 1) sent) clock
      (allows ring row log sent matches (subst (λ n. MaySend row (n + 1) sent) (sym clock) may))

  pub allowed_at : (sent : Option Statement) → MayBeSent row log (c + 1) sent → MaySend row (c + 1) sent
  allowed_at sent may = subst (λ n. MaySend row (n + 1) sent) clock
      (allowed ring row log sent matches (subst (λ n. MayBeSent row log (n + 1) sent) (sym clock) may))

  pub chooses_at : MaySend row (c + 1) (chosen_statement row (c + 1))
  chooses_at = subst (λ n. MaySend row (n + 1) (chosen_statement row (n + 1))) clock (chooses ring row log matches)

  pub signed_at : (sent : Option Statement) → MaySend row (c + 1) sent → IfSome sent (λ s. IsTrue (are_signed_reports ring s))
  signed_at None may = tt
  signed_at (Some s) may = proves_signed ring row log s matches (subst (λ n. MaySend row (n + 1) (Some s)) (sym clock) may)

  pub sends_at : place_of (c + 1) ≡ release_place → (opened_effects row (c + 1)).sends_on ≡ map frame_bytes (held_locks log)
  sends_at place = ap (λ n. (opened_effects row (n + 1)).sends_on) (sym clock)
      ∙ sends_on ring row log matches (ap (λ n. place_of (n + 1)) clock ∙ place)

  pub closes_at : (m : RoundStatement) → IsFrameMade m → MayClose row log (c + 1) m → IsSignedMade ring m
      → MatchesLog ring (closed row (c + 1) (opened_effects row (c + 1)) m) (opened_by row log (c + 1) m)
  closes_at m frame may signed =
      subst (λ n. MatchesLog ring (closed row (n + 1) (opened_effects row (n + 1)) m) (opened_by row log (n + 1) m)) clock
      (closes ring row log m matches (subst (λ n. MayClose row log (n + 1) m) (sym clock) may) signed frame)

-- ---- what a reading answers and leaves, whatever kind the statement is of

-- the answer, by the causes of a kind that are all that can fit
pub by_row : {X E : Type 0} (x : Result X E) (a b : X) → IfOk x (λ r. r ≡ a) → a ≡ b → IfOk x (λ r. r ≡ b)
by_row (Ok r) a b h same = h ∙ same
by_row (Err e) a b h same = tt

-- by the log: the answer, what is kept of an accepted statement, and that nothing changes otherwise
pub record Outcome {E : Type 0} (ring : Ring) (old new : InstanceView) (c : ℕ) (s : SignedStatement)
    (x : Result (Result (Unit {0}) Ignored) E) : Type 0 where
  pub answer : IfOk x (λ r. (log : List Note) → MatchesLog ring old log → clock_of log ≡ c → r ≡ answer_to old.config ring log s)
  pub read : IfOk x (λ r. (log : List Note) → MatchesLog ring old log → clock_of log ≡ c
      → IfOk r (λ u. MatchesLog ring new (log ++ Read c s ∷ [])))
  pub ignored : IfOk x (λ r. OnErr r (new ≡ old))
  pub same : IsSameHeight old new

-- what a call that answers by the row's causes, and keeps what they say, comes to
pub outcome : {E : Type 0} (ring : Ring) (old new : InstanceView) (c : ℕ) (s : SignedStatement) (x : Result (Result (Unit {0}) Ignored) E)
    → signer_of s.statement < old.config.replicas → height_of s.statement ≡ old.height
    → IsFrameIn old.config.frames s
    → IfOk x (λ r. r ≡ first_of (row_causes old ring c s)) → IfOk x (λ r. new ≡ if_accepted r (after_read old c s) old)
    → OnErr x (new ≡ old) → Outcome ring old new c s x
outcome ring old new c s (Ok (Ok u)) member height frame is after kept = record {
  answer = λ log matches clock. is ∙ answers_at ring old log c matches clock s member;
  read = λ log matches clock. subst (λ r. MatchesLog ring r (log ++ Read c s ∷ [])) (sym after)
      (reads_at ring old log c matches clock s member height frame (sym is));
  ignored = tt;
  same = subst (IsSameHeight old) (sym after) (same_after old c s (Ok u));
}
outcome ring old new c s (Ok (Err e)) member height frame is after kept = record {
  answer = λ log matches clock. is ∙ answers_at ring old log c matches clock s member;
  read = λ log matches clock. tt;
  ignored = after;
  same = subst (IsSameHeight old) (sym after) (same_self old);
}
outcome ring old new c s (Err e) member height frame is after kept =
    record { answer = tt; read = tt; ignored = tt; same = subst (IsSameHeight old) (sym kept) (same_self old) }
