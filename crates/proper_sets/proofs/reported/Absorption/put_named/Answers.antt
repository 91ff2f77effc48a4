use Rattle.std.proofs.Common.{◌≡◌, length, take, sym, ap, ◌∙◌, arith}
use Rattle.std.specs.Prelude.{option_copied}
use Rattle.std.proofs.Math.Seq.{take-length}
use Rattle.ledger_model.proofs.Lists.{there_at}
use Rattle.proper_sets.proofs.Numbers.{with_option, named_more, named_by_numbers}
use Rattle.proper_sets.proofs.reported.Absorption.put_named.Goals as goal
use Rattle.proper_sets.proofs.reported.Absorption.put_named.Goals.{in-Some+in_ok-put, in_default}

pub loop-reported-preserved : goal.loop-reported-preserved
loop-reported-preserved c =
    let values = c.values-reported-items.result.now in
    let e = c.reported-item.result in
    let more = named_more c.args.self.now.config.now c.args.self.now.own c.args.self.now.reports.now values c.loop-reported.reported-index e
    c.args.values.now c.loop-reported.values c.loop-reported-test.true c.reported-item.is c.loop-reported.invariant in
    let known = c.values-reported-items.ensures.each e
    (there_at values c.loop-reported.reported-index e c.loop-reported-test.true c.reported-item.is) in
    elim c.match-named.branch [
      | in-Some+in_ok-put w ↦
          w.values-is ∙ w.in_ok-put.ensures.ok
          ∙ sym (more ∙ ap (λ o. with_option o c.loop-reported.values) (sym (c.named.ensures known) ∙ ap option_copied w.in-Some.is))
      | in_default w ↦
          w.values-is
          ∙ sym (more ∙ ap (λ o. with_option o c.loop-reported.values) (sym (c.named.ensures known) ∙ ap option_copied w.in_default.is))
    ]

pub returns : goal.returns
returns c =
    let all : take c.loop-reported.reported-index c.values-reported-items.result.now ≡ c.values-reported-items.result.now =
    let end : c.loop-reported.reported-index ≡ length c.values-reported-items.result.now = omega arith in
    rw end (take-length c.values-reported-items.result.now) in
    rw all at c.loop-reported.invariant
    ∙ named_by_numbers c.args.self.now.reports.now c.values-reported-items.result.now c.values-reported-items.ensures c.args.self.now.own
    c.args.self.now.config.now c.args.values.now c.requires
