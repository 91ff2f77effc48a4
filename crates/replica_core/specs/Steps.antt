-- One event at a replica: the reply, and the core state after it.
use Rattle.ledger_model.specs.Meanings.{Meanings}
use Rattle.std.specs.Prelude.{◌≡◌, ℕ, ◌+◌, ◌==◌, IsTrue, MatchBool, List, [], ◌∷◌, ◌++◌, length, take, Option, Some, None, Result, Ok, Err}
use Rattle.std.specs.Prelude.{nat_lt, nat_le, Bool, true, false, is_ok, if◌then◌else◌}
use Rattle.std.specs.List.{filter_map}
use Rattle.ledger_model.specs.Versions.{batch_limit}
use Rattle.ledger_model.specs.declared.event.Event.{Event}
use Rattle.ledger_model.specs.declared.event.Event.TheVariants as event
use Rattle.ledger_model.specs.declared.history.Entry.{Entry}
use Rattle.ledger_model.specs.declared.reply.BlockResult.{BlockResult}
use Rattle.ledger_model.specs.declared.reply.NothingDecided.{NothingDecided}
use Rattle.ledger_model.specs.declared.reply.ProposeRefusal.{ProposeRefusal}
use Rattle.ledger_model.specs.declared.reply.RetireRefusal.{RetireRefusal}
use Rattle.ledger_model.specs.declared.reply.RetireRefusal.TheVariants as kept
use Rattle.ledger_model.specs.declared.reply.Reply.{Reply}
use Rattle.ledger_model.specs.declared.reply.Reply.TheVariants as reply
use Rattle.ledger_model.specs.declared.reply.SubmitRefusal.{SubmitRefusal}
use Rattle.ledger_model.specs.declared.statement.SignedStatement.{SignedStatement}
use Rattle.ledger_model.specs.Values.{Value}
use Rattle.ledger_model.specs.Rounds.{place_of, release_place}
use Rattle.ledger_model.specs.Spelling.{statement_bytes}
use Rattle.ledger_model.specs.Reading.{reading}
use Rattle.ledger_model.specs.Applications.{run}
use Rattle.ledger_model.specs.Replies.{check_reply}
use Rattle.ledger_model.specs.Pools.{first_fault, submit_answer, left_after}
use Rattle.ledger_model.specs.Commits.{block_of}
use Rattle.ledger_model.specs.Lawful.{Lawful, is_signed_reply}
use Rattle.key_ring.specs.Signers.{SignerView, signed_with}
use Rattle.height_row.specs.Heights.{row_at, rows_from, decided_in, open_answer}
use Rattle.replica_core.specs.Replays.{ReplayView, MatchesHistory}

-- for every history that the old state matches, the reply is lawful and signed, and the new state matches that history
-- with this entry
abbrev pub IsStep : Meanings → ReplayView → Event → Reply → ReplayView → Type 0
IsStep meaning old event reply new =
    (entries : List Entry) → MatchesHistory meaning old entries
    → Lawful meaning old.config old.ring old.id entries event reply × IsTrue (is_signed_reply old.ring reply)
    × MatchesHistory meaning new (entries ++ record { event = event; reply = reply } ∷ [])

-- ---- the replies, by the core state

-- the reply to a submitted transaction
abbrev pub submit_held : Meanings → ReplayView → List ℕ → Result (Unit {0}) SubmitRefusal
submit_held meaning held tx = submit_answer held.pool tx (check_reply meaning held.config.kind held.commits tx)

-- the pool after that reply
abbrev pub pool_with : Value → List ℕ → Result (Unit {0}) SubmitRefusal → Value
pool_with pool tx answer = if is_ok answer then pool ++ tx ∷ [] else pool

-- the same answer, with this value if it is Ok
abbrev pub with_result : {X F : Type 0} → Result (Unit {0}) F → X → Result X F
with_result (Ok u) x = Ok x
with_result (Err f) x = Err f

-- the reply to opening a height
abbrev pub propose_held : ReplayView → ℕ → Result Value ProposeRefusal
propose_held held h = with_result (open_answer held.floor held.rows (length held.commits) h)
    (take (batch_limit held.config.frames) held.pool)

-- the batch that is decided for the height after the committed ones, if one is
abbrev pub next_decided : ReplayView → Option Value
next_decided held = decided_in (row_at held.rows (length held.commits + 1))

-- the reply to running the next block
abbrev pub execute_held : Meanings → ReplayView → Result BlockResult NothingDecided
execute_held meaning held = block_of meaning held.config held.commits (next_decided held)

-- the state after the block of these transactions was run
abbrev pub with_block : Meanings → ReplayView → Value → ReplayView
with_block meaning held block = record held {
  commits = held.commits ++ block ∷ [];
  machine = run meaning held.config.kind (held.commits ++ block ∷ []);
  pool = left_after block (check_reply meaning held.config.kind (held.commits ++ block ∷ [])) held.pool;
}

-- the state after running the next block, if there is one
abbrev pub after_execute : Meanings → ReplayView → Option Value → ReplayView
after_execute meaning held None = held
after_execute meaning held (Some block) = with_block meaning held block

-- the reply to giving up the heights below a new floor
abbrev pub retire_held : ReplayView → ℕ → Result ℕ RetireRefusal
retire_held held floor = first_fault (
    (nat_lt (length held.commits + 1) floor, kept.NotCommitted)
    ∷ (nat_le floor held.floor, kept.NotAbove)
    ∷ []) floor

-- the state after that reply
abbrev pub after_retire : ReplayView → Result ℕ RetireRefusal → ReplayView
after_retire held (Ok floor) = record held { floor = floor; rows = rows_from floor held.rows }
after_retire held (Err why) = held

-- whether the event gives heights up, which takes no memory
abbrev pub gives_up : Event → Bool
gives_up (event.Retire floor) = true
gives_up _ = false

-- ---- the leaves that are used

-- each statement is signed with the leaves from `leaf` on, in order
abbrev pub AreSignedFrom : SignerView → ℕ → List SignedStatement → Type 0
AreSignedFrom keys leaf [] = Unit {0}
AreSignedFrom keys leaf (s ∷ ss) =
    (s.signature ≡ signed_with keys.secret leaf (statement_bytes s.statement)) × AreSignedFrom keys (leaf + 1) ss

-- A round end signs each new statement with the next leaf, in the order of the frames. Locks that are sent on, in the
-- fourth round of a phase, use no leaf, and neither does any other event.
abbrev pub UsesLeaves : SignerView → ℕ → Reply → SignerView → Type 0
UsesLeaves old clock (reply.RoundEnded (Ok ended)) new =
    MatchBool (place_of (clock + 1) == release_place) (new ≡ old)
    ((new ≡ record old { used = old.used + length ended.frames })
    × AreSignedFrom old old.used (filter_map (λ f. reading f.frame) ended.frames))
UsesLeaves old clock _ new = new ≡ old
