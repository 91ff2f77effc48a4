use Rattle.std.proofs.Common.{ap, refl, ◌∙◌, length, drop, length-drop, inl, inr, arith}
use Rattle.std.proofs.lemmas.Bool.{false≢true}
use Rattle.history_log.specs.Records.{announced_len}
use Rattle.history_log.proofs.TagPlaces.{tag_within}
use Rattle.history_log.proofs.tearing.is_cut_off.Goals as goal

pub returns-in_default : goal.returns-in_default
returns-in_default c =
    let short = c.in_default.ensures.short.0 refl in
    let start = ap length c.new-cursor.ensures in (
      λ _. record {
        untagged = λ has. omega (arith, tag_within c.args.tag (drop 4 c.args.bytes.now) has.0 has.2, length-drop 4 c.args.bytes.now, short, start);
        possible = inl (omega (arith, short, start));
        within = omega (arith, short, start);
      },
      λ _. refl,
    )

pub returns-then-len-gt-MAX_CONTENT_LEN : goal.returns-then-len-gt-MAX_CONTENT_LEN
returns-then-len-gt-MAX_CONTENT_LEN c = (
  λ yes. absurd (false≢true yes),
  λ cut. absurd (elim cut.possible [
    | inl short ↦ false≢true (c.in-Ok.ensures.short.1 (omega (arith, short, ap length c.new-cursor.ensures)))
    | inr possible ↦ omega (arith, possible, c.in-Ok.ensures.ok ∙ ap announced_len c.new-cursor.ensures, c.if-len-gt-MAX_CONTENT_LEN.true)
  ]),
)
