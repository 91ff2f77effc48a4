-- The notes that opening a round adds to a log, and what it leaves unchanged of what a history makes.
use Rattle.std.proofs.Common.{◌≡◌, ℕ, ◌+◌, Bool, true, false, List, ◌∷◌, ◌++◌, refl, sym, ap, ◌∙◌, arith}
use Rattle.std.specs.Prelude.{◌||◌, Ok}
use Rattle.std.specs.List.{flat_map}
use Rattle.ledger_model.specs.declared.config.Config.{Config}
use Rattle.ledger_model.specs.declared.event.Event.TheVariants as event
use Rattle.ledger_model.specs.declared.history.Entry.{Entry}
use Rattle.ledger_model.specs.declared.reply.Reply.TheVariants as reply
use Rattle.ledger_model.specs.declared.reply.RoundEnded.{RoundEnded}
use Rattle.ledger_model.specs.declared.statement.SignedStatement.{SignedStatement}
use Rattle.ledger_model.specs.Notes.{Note, Round, clock_of}
use Rattle.ledger_model.specs.Logs.{made_notes, statements_made, notes_of}
use Rattle.ledger_model.proofs.Goodness.{clock_of-append}
use Rattle.ledger_model.proofs.Steps.{clock_of-made}

-- the entry of a round end
abbrev pub end_entry : RoundEnded → Entry
end_entry end = record { event = event.RoundEnd; reply = reply.RoundEnded (Ok end) }

-- the notes of round c and of what is made in it
abbrev pub round_notes : List Note → ℕ → List SignedStatement → List Note
round_notes log c made = Round c ∷ flat_map (made_notes log c) made

module _ (config : Config) (id h : ℕ) (log : List Note) (clock : ℕ) (now : clock_of log ≡ clock) (end : RoundEnded) where
  -- what the entry adds
  pub notes_are : (made : List SignedStatement) → statements_made config id h log (clock + 1) end ≡ made
      → notes_of config id h log event.RoundEnd (reply.RoundEnded (Ok end)) ≡ round_notes log (clock + 1) made
  unfolding notes_of
  notes_are made is =
      ap (λ n. round_notes log (n + 1) (statements_made config id h log (n + 1) end)) now ∙ ap (round_notes log (clock + 1)) is

-- the clock of a log with them
pub clock_then : (log : List Note) (c : ℕ) (made : List SignedStatement) → clock_of (log ++ round_notes log c made) ≡ clock_of log + 1
clock_then log c made =
    let all = clock_of-append log (round_notes log c made) in
    let none = clock_of-made log c made in
    omega (arith, all, none)

-- a replica that was mute still is
pub mute_then : (was mute : Bool) → (was ≡ true → mute ≡ true) → (was || mute) ≡ mute
mute_then true mute still = sym (still refl)
mute_then false mute still = refl
