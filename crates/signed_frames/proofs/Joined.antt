-- Two pieces joined.
use Rattle.std.proofs.Common.{◌≤◌, ℕ, List, ◌++◌, length, ap, subst, ◌∙◌, append_assoc, arith}
use Rattle.std.specs.List.{flat_map}
use Rattle.std.proofs.lemmas.List.{length-append}
use Rattle.ledger_model.specs.declared.statement.SignedStatement.{SignedStatement}
use Rattle.ledger_model.specs.declared.version.Version.{Version}
use Rattle.ledger_model.specs.Spelling.{Frames, frame_bytes}
use Rattle.signed_frames.specs.declared.fault.FrameFault.TheVariants as fault
use Rattle.signed_frames.specs.Cuts.{FramesHoweverCut}
use Rattle.signed_frames.specs.Reader.{ReaderState, Reading, Found, Failed, LeavesReader}
use Rattle.signed_frames.proofs.Fronts.{frames_join}

-- more bytes follow the rest
pub longer : (version : Version) (bytes rest more : List ℕ) (frames : List SignedStatement) → Frames version bytes frames rest
    → Frames version (bytes ++ more) frames (rest ++ more)
longer version bytes rest more frames f = (f.0, ap (λ (x : List ℕ). x ++ more) f.1 ∙ append_assoc (flat_map frame_bytes frames) rest more)

-- there is one in both
some_of_both : (first second : List SignedStatement) → 1 ≤ length second → 1 ≤ length (first ++ second)
some_of_both first second some = omega (arith, length-append first second)

-- what is left of the second piece is left of both
leaves_both : (version : Version) (bytes rest more : List ℕ) (first second : List SignedStatement) (new : ReaderState)
    → Frames version bytes first rest
    → LeavesReader version (rest ++ more) second new → LeavesReader version (bytes ++ more) (first ++ second) new
leaves_both version bytes rest more first second (Reading left) f l =
    (frames_join version (bytes ++ more) (rest ++ more) left first second (longer version bytes rest more first f) l.0, l.1)
leaves_both version bytes rest more first second (Found fault.TooLong) f l = (
  some_of_both first second l.0,
  (
    l.1.0,
    (
      frames_join version (bytes ++ more) (rest ++ more) l.1.0 first second (longer version bytes rest more first f) l.1.1.0,
      l.1.1.1,
    ),
  ),
)
leaves_both version bytes rest more first second (Found fault.Malformed) f l = (
  some_of_both first second l.0,
  (
    l.1.0,
    (
      frames_join version (bytes ++ more) (rest ++ more) l.1.0 first second (longer version bytes rest more first f) l.1.1.0,
      l.1.1.1,
    ),
  ),
)
leaves_both version bytes rest more first second (Found fault.Failed) f l = absurd l
leaves_both version bytes rest more first second (Found fault.NoMemory) f l = absurd l
leaves_both version bytes rest more first second Failed f l = absurd l

-- however it is cut
pub joined : FramesHoweverCut
joined version (Reading kept) (Reading rest) new p q first second h g =
    subst (λ (bytes : List ℕ). LeavesReader version bytes (first ++ second) new) (append_assoc kept p q)
    (leaves_both version (kept ++ p) rest q first second new h.0 g)
joined version (Reading kept) (Found found) new p q first second h g = absurd g
joined version (Reading kept) Failed new p q first second h g = absurd g
joined version (Found found) mid new p q first second h g = absurd h
joined version Failed mid new p q first second h g = absurd h
