-- What a subcommand writes for a stream of histories. `Done histories status text` says what it does with histories: the exit status, and
-- what it writes.
use Rattle.std.specs.Prelude.{◌≡◌, ◌⊎◌, ℕ, List, [], codes, Option, Some, None}
use Rattle.std.specs.Io.KnownBytes.{Appends, Consumes, IsAtEnd}
use Rattle.ledger_model.specs.declared.history.History.{History}
use Rattle.ledger_model.specs.declared.version.Version.{Version}
use Rattle.history_bytes.specs.HistoryReading.{histories_reading}
use Rattle.byte_streams.specs.Writing.{AppendsSome}
use Rattle.byte_streams.specs.Responding.{Responds, RespondsSome}

-- the line for bytes that are no histories
abbrev pub bad_history : List ℕ
bad_history = codes "bad history\n"

-- all bytes of a stream were read
abbrev pub ReadsWhole : Option (List ℕ) → Option (List ℕ) → List ℕ → Type 0
ReadsWhole unread left bytes = Consumes unread left bytes × IsAtEnd left

-- all bytes of a stream were read, and these are its histories, if it has some
abbrev pub ReadsHistories : Version → Option (List ℕ) → Option (List ℕ) → Option (List History) → Type 0
ReadsHistories frames unread left histories =
    (input : List ℕ) × (ReadsWhole unread left input × (histories_reading frames input ≡ histories))

-- the input has this status, and this is written for it: it is no histories, or these are done
abbrev pub IsOutputFor : Version → (List History → ℕ → List ℕ → Type 0) → List ℕ → ℕ → List ℕ → Type 0
IsOutputFor frames Done input status text =
    ((histories_reading frames input ≡ None) × (status ≡ 1) × (text ≡ bad_history))
    ⊎ ((histories : List History) × (histories_reading frames input ≡ Some histories) × Done histories status text)

-- the whole input was read, and what is written for it was written
abbrev pub Outputs : Version → (List History → ℕ → List ℕ → Type 0) → ℕ → Option (List ℕ) → Option (List ℕ) → Option (List ℕ)
    → Option (List ℕ) → Type 0
Outputs frames Done status unread left before after =
    IsAtEnd left × Responds (λ input text. IsOutputFor frames Done input status text) unread left before after

-- nothing was written, or the whole input was read, and a prefix of what is written for it was written
abbrev pub OutputsSome : Version → (List History → ℕ → List ℕ → Type 0) → Option (List ℕ) → Option (List ℕ) → Option (List ℕ)
    → Option (List ℕ) → Type 0
OutputsSome frames Done unread left before after =
    RespondsSome (λ input text. (text ≡ []) ⊎ (IsAtEnd left × ((status : ℕ) × IsOutputFor frames Done input status text))) unread left before after

-- what is done with these histories was written
abbrev pub OutputsDone : (List History → ℕ → List ℕ → Type 0) → List History → ℕ → Option (List ℕ) → Option (List ℕ) → Type 0
OutputsDone Done histories status before after = (text : List ℕ) × (Done histories status text × Appends before after text)

-- nothing was written, or a prefix of what is done with these histories
abbrev pub OutputsDoneSome : (List History → ℕ → List ℕ → Type 0) → List History → Option (List ℕ) → Option (List ℕ) → Type 0
OutputsDoneSome Done histories before after =
    (text : List ℕ) × (((text ≡ []) ⊎ ((status : ℕ) × Done histories status text)) × AppendsSome before after text)
