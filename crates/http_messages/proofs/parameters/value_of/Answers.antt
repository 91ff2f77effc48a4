use Rattle.std.proofs.Common.{◌∙◌, sym, ap}
use Rattle.http_messages.specs.Parameters.{first_parameter, value_of}
use Rattle.http_messages.proofs.Lookups.{first_here}
use Rattle.http_messages.proofs.parameters.value_of.Goals as goal

pub returns-then-eq : goal.returns-then-eq
unfolding value_of
returns-then-eq c =
    sym (c.loop-written.invariant.2
    ∙ first_here c.args.name.now _ _ (c.in-Some.written.now, c.in-Some.value.now) c.in-Some.ensures.steps (sym c.eq.ensures ∙ c.if-eq.true))

pub returns : goal.returns
unfolding value_of
returns c = sym (c.loop-written.invariant.2 ∙ ap (first_parameter c.args.name.now) c.in-None.ensures.steps.0)
