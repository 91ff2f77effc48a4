-- the characters so far were written, each as it is shown
use Rattle.std.proofs.Common.{flat_map}
use Rattle.std.specs.Fmt.{HasWritten, IsPlainFormatter}
use Rattle.plain_text.specs.ShownTexts.{shown_character}
use Rattle.plain_text.proofs.shown_text.write_shown.Given as goal

abbrev pub invariant-loop-character : goal.invariant-loop-character
invariant-loop-character g l =
    IsPlainFormatter l.initial.f → HasWritten g.W.Write.write_str_gives l.initial.f (flat_map shown_character l.yielded) l.f
