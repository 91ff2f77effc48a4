use Rattle.std.proofs.Common.{◌≡◌, ◌∙◌, sym, subst, ap}
use Rattle.std.specs.Prelude.{IfSome, Some, Option, ℕ, slice_get}
use Rattle.std.specs.Option.{is_some}
use Rattle.run_picture.proofs.SourceSearch.{source_is, unknown_source}
use Rattle.run_picture.proofs.sources.source_among.Goals as goal

pub returns-in-Some : goal.returns-in-Some
returns-in-Some c = λ sent numbering incoming.
    source_is sent c.args.numbers.now.strings c.args.numbers.now.numbers.items c.args.delivery.now c.args.incoming.now.frames.items
    numbering incoming
    c.in-Some.number c.source.result
    (subst (λ (o : Option ℕ). IfSome o (λ p. slice_get c.args.numbers.now.strings p
    ≡ Some c.args.delivery.now.bytes)) c.in-Some.is c.in_ok-number.ensures.position)
    c.source.ensures

pub returns-in-None : goal.returns-in-None
returns-in-None c = λ sent numbering incoming.
    unknown_source sent c.args.numbers.now.strings c.args.numbers.now.numbers.items c.args.delivery.now c.args.incoming.now.frames.items
    numbering incoming
    (sym c.in_ok-number.ensures.found ∙ ap is_some c.in-None.is)
