use Rattle.std.proofs.Common.{◌≡◌, not, length, take, sym, ap, ◌∙◌, arith}
use Rattle.std.proofs.Math.Seq.{take-length}
use Rattle.ledger_model.proofs.Lists.{has_any, there_at}
use Rattle.proper_sets.specs.Numbers.{is_common}
use Rattle.proper_sets.proofs.Numbers.{rare_by_numbers, none_more}
use Rattle.proper_sets.proofs.reported.Absorption.are_others_rare.Goals as goal

pub loop-reported-preserved : goal.loop-reported-preserved
loop-reported-preserved c =
    let values = c.values-reported-items.result.now in
    let e = c.reported-item.result in
    let known = c.values-reported-items.ensures.each e
    (there_at values c.loop-reported.reported-index e c.loop-reported-test.true c.reported-item.is) in
    none_more (is_common c.args.self.now.config.now c.args.self.now.own c.args.self.now.initial.now c.args.self.now.reports.now) values
    c.loop-reported.reported-index e c.loop-reported-test.true c.reported-item.is c.loop-reported.invariant
    (sym (c.is_common.ensures known) ∙ c.if-is_common.false)

pub returns-then-is_common : goal.returns-then-is_common
returns-then-is_common c =
    let values = c.values-reported-items.result.now in
    let e = c.reported-item.result in
    let there = there_at values c.loop-reported.reported-index e c.loop-reported-test.true c.reported-item.is in
    let known = c.values-reported-items.ensures.each e there in
    sym (rare_by_numbers c.args.self.now.reports.now values c.values-reported-items.ensures c.args.self.now.own c.args.self.now.config.now
    c.args.self.now.initial.now
    ∙ ap not (has_any (is_common c.args.self.now.config.now c.args.self.now.own c.args.self.now.initial.now c.args.self.now.reports.now)
    values e
    there (sym (c.is_common.ensures known) ∙ c.if-is_common.true)))

pub returns : goal.returns
returns c =
    let all : take c.loop-reported.reported-index c.values-reported-items.result.now ≡ c.values-reported-items.result.now =
    let end : c.loop-reported.reported-index ≡ length c.values-reported-items.result.now = omega arith in
    rw end (take-length c.values-reported-items.result.now) in
    sym (rare_by_numbers c.args.self.now.reports.now c.values-reported-items.result.now c.values-reported-items.ensures c.args.self.now.own
    c.args.self.now.config.now c.args.self.now.initial.now
    ∙ ap not (rw all at c.loop-reported.invariant))
