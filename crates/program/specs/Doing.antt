-- What the program does for the words of the command line and the bytes that it reads.
use Rattle.app_states.specs.ProgramWords.{ProgramWords}
use Rattle.ledger_model.specs.declared.config.AppKinds.{AppKinds}
use Rattle.ledger_model.specs.Meanings.{Meanings}
use Rattle.std.specs.Prelude.{◌≡◌, ◌⊎◌, ℕ, List, [], Option, None, ⊤}
use Rattle.std.specs.Io.KnownBytes.{Keeps}
use Rattle.ledger_model.specs.Spelling.{frame_bytes}
use Rattle.cluster_setup.specs.declared.settings.Settings.{Settings}
use Rattle.cluster_setup.specs.declared.settings.Settings.TheVariants as settings
use Rattle.cluster_setup.specs.declared.sign_settings.SignSettings.{SignSettings}
use Rattle.command_line.specs.Faults.{kinds_of}
use Rattle.command_line.specs.Options.{IsSet}
use Rattle.command_line.specs.declared.given_keys.GivenKeys.{GivenKeys}
use Rattle.program.specs.Statements.{signed}
use Rattle.byte_streams.specs.Responding.{Responds, RespondsSome}
use Rattle.program.specs.declared.stream_end.StreamEnd.{StreamEnd}
use Rattle.program.specs.declared.stream_end.StreamEnd.TheVariants as stream
use Rattle.program.specs.Streams.{DeliversStream, DeliversStreamSome}
use Rattle.program.specs.declared.text_end.TextEnd.{TextEnd}
use Rattle.program.specs.declared.text_end.TextEnd.TheVariants as scenario
use Rattle.program.specs.Simulating.{PlaysText, PlaysTextSome}
use Rattle.program.specs.Auditing.{Audits, AuditsSome}
use Rattle.program.specs.Drawing.{Draws, DrawsSome}
use Rattle.program.specs.Publishing.{PrintsFile, PrintsFileSome}
use Rattle.program.specs.declared.outcome.Conclusion.{Conclusion}
use Rattle.program.specs.declared.outcome.Outcome.{Outcome}
use Rattle.program.specs.declared.outcome.Outcome.TheVariants as outcome
use Rattle.program.specs.declared.outcome.Piped.{Piped}
use Rattle.program.specs.declared.outcome.Piped.TheVariants as piped

-- the exit status: 0 if the input was right, 1 if something was wrong with it
abbrev pub status_of_stream : StreamEnd → ℕ
status_of_stream stream.Whole = 0
status_of_stream stream.Cut = 1
status_of_stream (stream.Fault fault) = 1

abbrev pub status_of_text : TextEnd → ℕ
status_of_text scenario.Whole = 0
status_of_text (scenario.BadLine n) = 1

-- the program reads nothing, and prints the frame of the settings
abbrev pub PrintsFrame : SignSettings → List ℕ → List ℕ → Type 0
PrintsFrame s input text = (input ≡ []) × (text ≡ frame_bytes (signed s))

-- The settings, which need only streams, were done with this status. `abft sign` wrote its frame. `abft deliver` read
-- the stream as far as its end or its first fault, and wrote a line for each frame. `abft simulate` read the text to
-- its end and wrote what its scenario gives, or read it as far as its first bad line is certain. `abft audit` read all
-- histories and wrote what it found, and `abft draw` wrote a picture of them. `abft keys` wrote the cluster's public file.
abbrev pub Done : AppKinds → Meanings → Settings → ℕ → Option (List ℕ) → Option (List ℕ) → Option (List ℕ) → Option (List ℕ) → Type 0
Done kinds meaning (settings.Sign s) status unread left before after = (status ≡ 0) × Responds (PrintsFrame s) unread left before after
Done kinds meaning (settings.Deliver s) status unread left before after =
    (end : StreamEnd) × ((status ≡ status_of_stream end) × DeliversStream meaning s end unread left before after)
Done kinds meaning (settings.Simulate s) status unread left before after =
    (end : TextEnd) × ((status ≡ status_of_text end) × PlaysText kinds meaning s end unread left before after)
Done kinds meaning (settings.Audit s) status unread left before after = Audits meaning s status unread left before after
Done kinds meaning (settings.Draw s) status unread left before after = Draws meaning s status unread left before after
Done kinds meaning (settings.Keys c) status unread left before after = (status ≡ 0) × Responds (PrintsFile c) unread left before after
Done kinds meaning (settings.Cluster s) status unread left before after = ⊥
Done kinds meaning (settings.Serve s) status unread left before after = ⊥

-- the settings were begun: part of the input was read, and a prefix of the text for it was written
abbrev pub Halted : AppKinds → Meanings → Settings → Option (List ℕ) → Option (List ℕ) → Option (List ℕ) → Option (List ℕ) → Type 0
Halted kinds meaning (settings.Sign s) unread left before after = RespondsSome (PrintsFrame s) unread left before after
Halted kinds meaning (settings.Deliver s) unread left before after = DeliversStreamSome meaning s unread left before after
Halted kinds meaning (settings.Simulate s) unread left before after = PlaysTextSome kinds meaning s unread left before after
Halted kinds meaning (settings.Audit s) unread left before after = AuditsSome meaning s unread left before after
Halted kinds meaning (settings.Draw s) unread left before after = DrawsSome meaning s unread left before after
Halted kinds meaning (settings.Keys c) unread left before after = RespondsSome (PrintsFileSome c) unread left before after
Halted kinds meaning (settings.Cluster s) unread left before after = ⊥
Halted kinds meaning (settings.Serve s) unread left before after = ⊥

-- settings that the words ask for were done, with this status
pub record Performs (program : ProgramWords) (meaning : Meanings) (given : GivenKeys) (words : List (List ℕ)) (status : ℕ) (unread left before after : Option (List ℕ)) : Type 0 where
  pub settings : Settings
  pub set : IsSet program meaning given words settings
  -- the words have no fault, and ask for neither the help nor the version
  pub taken : kinds_of program words ≡ []
  pub done : Done program.kinds meaning settings status unread left before after

-- settings that the words ask for were begun
pub record StartsRun (program : ProgramWords) (meaning : Meanings) (given : GivenKeys) (words : List (List ℕ)) (unread left before after : Option (List ℕ)) : Type 0 where
  pub settings : Settings
  pub set : IsSet program meaning given words settings
  -- the words have no fault, and ask for neither the help nor the version
  pub taken : kinds_of program words ≡ []
  pub halted : Halted program.kinds meaning settings unread left before after

-- the exit status satisfies this, if the program ended
abbrev pub IfEnded : Outcome → (ℕ → Type 0) → Type 0
IfEnded (outcome.Ended status) Holds = Holds status
IfEnded (outcome.Cluster s) Holds = ⊤
IfEnded (outcome.Serve s) Holds = ⊤

-- the settings that were returned satisfy this, if some were
abbrev pub IfHanded : Outcome → (Settings → Type 0) → Type 0
IfHanded (outcome.Ended status) Holds = ⊤
IfHanded (outcome.Cluster s) Holds = Holds (settings.Cluster s)
IfHanded (outcome.Serve s) Holds = Holds (settings.Serve s)

-- these settings were returned
abbrev pub IsHanded : Settings → Outcome → Type 0
IsHanded x (outcome.Ended status) = ⊥
IsHanded x (outcome.Cluster s) = x ≡ settings.Cluster s
IsHanded x (outcome.Serve s) = x ≡ settings.Serve s

-- what needs only streams, as settings
abbrev pub settings_of : Piped → Settings
settings_of (piped.Sign s) = settings.Sign s
settings_of (piped.Deliver s) = settings.Deliver s
settings_of (piped.Simulate s) = settings.Simulate s
settings_of (piped.Audit s) = settings.Audit s
settings_of (piped.Draw s) = settings.Draw s
settings_of (piped.Keys c) = settings.Keys c

-- the settings are those of an audit or of a picture, which follow histories
abbrev pub FollowsHistories : Settings → Type 0
FollowsHistories (settings.Audit s) = ⊤
FollowsHistories (settings.Draw s) = ⊤
FollowsHistories _ = ⊥

-- the words ask for an audit or for a picture
abbrev pub AsksForHistories : ProgramWords → Meanings → GivenKeys → List (List ℕ) → Type 0
AsksForHistories program meaning given words = (s : Settings) × (IsSet program meaning given words s × FollowsHistories s)

-- nothing is explained, but where histories were followed and the status is 1
abbrev pub ExplainsHistories : Settings → Conclusion → Type 0
ExplainsHistories x ending = (ending.explanation ≡ None) ⊎ ((ending.status ≡ 1) × FollowsHistories x)

-- standard error was left alone, but where histories were followed and the status is 1
abbrev pub IsQuiet : Settings → ℕ → Option (List ℕ) → Option (List ℕ) → Type 0
IsQuiet x status before after = Keeps before after ⊎ ((status ≡ 1) × FollowsHistories x)
