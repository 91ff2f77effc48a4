-- What `abft draw` writes of histories.
use Rattle.ledger_model.specs.Meanings.{Meanings}
use Rattle.std.proofs.Common.{◌≡◌, ℕ, ◌≤◌, List, refl, inl, inr, arith}
use Rattle.std.specs.Prelude.{Option, Some, None}
use Rattle.ledger_model.specs.declared.history.History.{History}
use Rattle.cluster_setup.specs.KnownClusters.{known_config, known_ring}
use Rattle.run_picture.specs.Documents.{picture_text}
use Rattle.run_picture.specs.declared.history_break.HistoryBreak.{HistoryBreak}
use Rattle.run_picture.specs.declared.picture.Picture.{Picture}
use Rattle.run_picture.specs.Pictures.{IsPictureOf}
use Rattle.cluster_setup.specs.declared.draw_settings.DrawSettings.{DrawSettings}
use Rattle.byte_streams.specs.Writing.{AppendsSome}
use Rattle.program.specs.HistoryInput.{IsOutputFor, OutputsDoneSome}
use Rattle.program.specs.Drawing.{Drawn, part_of, picture_status}

-- a prefix of the picture was written
pub part_drawn : (meaning : Meanings) (s : DrawSettings) (histories : List History) (picture : Picture) (text : List ℕ)
    (before after : Option (List ℕ))
    → IsPictureOf meaning (known_config s.cluster) (known_ring s.cluster) histories (part_of s) picture → text ≡ picture_text picture
    → AppendsSome before after text → OutputsDoneSome (Drawn meaning s) histories before after
part_drawn meaning s histories picture text before after shows prints written = (
  text,
  (
    inr (picture_status picture.first_break, record { picture = picture; shows = shows; ends = refl; prints = prints }),
    written,
  ),
)

-- a status of a picture is 0 or 1
status_small : (first : Option HistoryBreak) → picture_status first ≤ 1
status_small None = omega arith
status_small (Some b) = omega arith

pub drawn_small : (meaning : Meanings) (s : DrawSettings) (input : List ℕ) (status : ℕ) (text : List ℕ)
    → IsOutputFor (known_config s.cluster).frames (Drawn meaning s) input status text → status ≤ 1
drawn_small meaning s input status text (inl (none, one, shows)) = omega (arith, one)
drawn_small meaning s input status text (inr (histories, reads, drawn)) =
    let small = status_small drawn.picture.first_break in
    let ends = drawn.ends in
    omega (arith, small, ends)
