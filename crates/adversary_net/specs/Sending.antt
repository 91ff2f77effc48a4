-- The index of the frames that a history sent.
use Rattle.ledger_model.specs.Meanings.{Meanings}
use Rattle.std.specs.Prelude.{◌≡◌, ℕ, ◌+◌, ◌*◌, ◌^◌, ◌==◌, ◌≤◌, List, [], ◌∷◌, length, Option, slice_get, option_and_then, if◌then◌else◌}
use Rattle.ledger_model.specs.declared.history.Entry.{Entry}
use Rattle.ledger_model.specs.Worlds.{frames_in, frames_sent}
use Rattle.locked_replica.specs.States.{StateView, RunsAlone}
use Rattle.adversary_net.specs.declared.sent_index.SendingEntry.{SendingEntry}

-- the entries that sent frames, if the first entry has index i and `before` frames were sent earlier
abbrev pub sending_from : ℕ → ℕ → List Entry → List SendingEntry
sending_from i before [] = []
sending_from i before (e ∷ es) =
    if length (frames_in e.reply) == 0 then sending_from (i + 1) before es
    else record { entry = i; before = before } ∷ sending_from (i + 1) (before + length (frames_in e.reply)) es

-- the index has the entries of the history that sent frames, and the number of all frames; each entry sent fewer than 2^64
pub record IsIndexed (sending : List SendingEntry) (total : ℕ) (entries : List Entry) : Type 0 where
  pub places : sending ≡ sending_from 0 0 entries
  pub counts : total ≡ length (frames_sent entries)
  pub bound : total ≤ length entries * 2 ^ 64

-- the index is that of the replica's history, and its machine is the application run alone on what it committed
pub record IsKept (meaning : Meanings) (sending : List SendingEntry) (total : ℕ) (s : StateView) : Type 0 where
  pub indexed : IsIndexed sending total s.entries
  pub machine : RunsAlone meaning s

-- the frame with index k among those of entry i
abbrev pub frame_of : List Entry → ℕ → ℕ → Option (List ℕ)
frame_of entries i k = option_and_then (λ e. slice_get (frames_in e.reply) k) (slice_get entries i)
