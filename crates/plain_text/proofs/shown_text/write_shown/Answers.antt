use Rattle.std.proofs.Common.{ap, flat_map, map-id, subst, sym, ◌∙◌}
use Rattle.std.proofs.lemmas.Iterator.{YieldsList-from_chars}
use Rattle.std.proofs.lemmas.Iterator.Consumers.{YieldsList-end}
use Rattle.std.specs.Fmt.{HasWritten}
use Rattle.plain_text.specs.ShownTexts.{shown_character, shown_text}
use Rattle.plain_text.proofs.shown_text.write_shown.Goals as goal

pub returns : goal.returns
unfolding shown_text
returns g c = λ plain ok.
    let all = YieldsList-from_chars c.args.text.now c.utf8.text cc in
    let end = YieldsList-end all c.loop-character.yielded _ c.loop-character.yielded_by _ _ c.in-None.is c.next.ensures.steps in
    subst (λ text. HasWritten g.W.Write.write_str_gives c.args.f.now text c.loop-character.f)
    (ap (flat_map shown_character) (sym (map-id c.loop-character.yielded) ∙ end.0)) (c.loop-character.invariant plain)
