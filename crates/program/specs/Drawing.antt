-- What `abft draw` writes for the bytes that it reads.
use Rattle.ledger_model.specs.Meanings.{Meanings}
use Rattle.std.specs.Prelude.{◌≡◌, ℕ, ◌==◌, List, Option, Some, None, if◌then◌else◌}
use Rattle.ledger_model.specs.declared.history.History.{History}
use Rattle.cluster_setup.specs.KnownClusters.{known_config, known_ring}
use Rattle.run_picture.specs.declared.history_break.HistoryBreak.{HistoryBreak}
use Rattle.run_picture.specs.declared.part.Part.{Part}
use Rattle.run_picture.specs.declared.picture.Picture.{Picture}
use Rattle.run_picture.specs.Pictures.{IsPictureOf}
use Rattle.run_picture.specs.Documents.{picture_text}
use Rattle.cluster_setup.specs.declared.draw_settings.DrawSettings.{DrawSettings}
use Rattle.program.specs.HistoryInput.{Outputs, OutputsSome}

-- the height that is drawn, unless all are
abbrev pub wanted_height : ℕ → Option ℕ
wanted_height h = if h == 0 then None else Some h

-- the part of the run that is drawn
abbrev pub part_of : DrawSettings → Part
part_of s = record { first = s.first; last = s.last; height = wanted_height s.height }

-- the exit status: 0 if each history is a replay
abbrev pub picture_status : Option HistoryBreak → ℕ
picture_status None = 0
picture_status (Some b) = 1

-- the text is the picture of what these histories show in the part, under the keys of the cluster, and this is its status
pub record Drawn (meaning : Meanings) (s : DrawSettings) (histories : List History) (status : ℕ) (text : List ℕ) : Type 0 where
  pub picture : Picture
  pub shows : IsPictureOf meaning (known_config s.cluster) (known_ring s.cluster) histories (part_of s) picture
  pub ends : status ≡ picture_status picture.first_break
  pub prints : text ≡ picture_text picture

-- the whole input was read, and what is written for it was written
abbrev pub Draws : Meanings → DrawSettings → ℕ → Option (List ℕ) → Option (List ℕ) → Option (List ℕ) → Option (List ℕ) → Type 0
Draws meaning s status unread left before after = Outputs (known_config s.cluster).frames (Drawn meaning s) status unread left before after

-- nothing was written, or the whole input was read, and a prefix of what is written for it was written
abbrev pub DrawsSome : Meanings → DrawSettings → Option (List ℕ) → Option (List ℕ) → Option (List ℕ) → Option (List ℕ) → Type 0
DrawsSome meaning s unread left before after = OutputsSome (known_config s.cluster).frames (Drawn meaning s) unread left before after
