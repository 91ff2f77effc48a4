use Rattle.std.proofs.Common.{rules, ◌∙◌}
use Rattle.std.specs.Prelude.{Ok}
use Rattle.ledger_model.proofs.FrameReading.{carried_frame}
use Rattle.instance.proofs.KindCauses.{early, report_answer, lock_answer, ack_answer}
use Rattle.instance.proofs.AtClock.{answers_at, by_row, Outcome, outcome}
use Rattle.instance.proofs.height.Instance.read_with.Given.{Over}
use Rattle.instance.proofs.height.Instance.read_with.Goals as goal

pub returns-in-Err-clause-answer : goal.returns-in-Err-clause-answer
returns-in-Err-clause-answer g c = λ log matches clock.
    early c.args.self.now (g.C.CheckSignatures.ring c.args.checks.now) c.args.clock c.args.frame c.in-Err.cause (search rules)
    ∙ answers_at (g.C.CheckSignatures.ring c.args.checks.now) c.args.self.now log c.args.clock matches clock c.args.frame c.requires.signer

of_report : (g : Over) (c : goal.After-read_report g)
    → Outcome (g.C.CheckSignatures.ring c.args.checks.now) c.args.self.now c.read_report.new.self c.args.clock c.args.frame
    c.read_report.result
of_report g c =
    outcome (g.C.CheckSignatures.ring c.args.checks.now) c.args.self.now c.read_report.new.self c.args.clock c.args.frame
    c.read_report.result c.requires.signer
    c.requires.height (carried_frame _ _ c.statement.ensures.frame c.requires.version)
    (by_row c.read_report.result _ _ c.read_report.ensures.answer
    (report_answer c.args.self.now (g.C.CheckSignatures.ring c.args.checks.now) c.args.clock c.args.frame.signature tt
    c.args.frame.statement (search rules)
    (search rules)))
    (c.read_report.ensures.after c.args.clock) c.read_report.ensures.err

pub returns-in-Report : goal.returns-in-Report
returns-in-Report g c = let o = of_report g c in record {
  keys = c.read_report.ensures.keys;
  answer = o.answer;
  read = o.read;
  ignored = o.ignored;
  err =
      c.read_report.ensures.err;
  same = o.same;
}

of_lock : (g : Over) (c : goal.After-read_lock g)
    → Outcome (g.C.CheckSignatures.ring c.args.checks.now) c.args.self.now c.read_lock.new.self c.args.clock c.args.frame c.read_lock.result
of_lock g c =
    outcome (g.C.CheckSignatures.ring c.args.checks.now) c.args.self.now c.read_lock.new.self c.args.clock c.args.frame c.read_lock.result
    c.requires.signer
    c.requires.height (carried_frame _ _ c.statement.ensures.frame c.requires.version)
    (by_row c.read_lock.result _ _ c.read_lock.ensures.answer
    (lock_answer c.args.self.now (g.C.CheckSignatures.ring c.args.checks.now) c.args.clock c.args.frame.signature tt
    c.args.frame.statement (search rules)
    (search rules)))
    c.read_lock.ensures.after c.read_lock.ensures.err

pub returns-in-Lock : goal.returns-in-Lock
returns-in-Lock g c = let o = of_lock g c in record {
  keys = c.read_lock.ensures.keys;
  answer = o.answer;
  read = o.read;
  ignored = o.ignored;
  err =
      c.read_lock.ensures.err;
  same = o.same;
}

of_ack : (g : Over) (c : goal.After-read_ack g)
    → Outcome {E = Unit {0}} (g.C.CheckSignatures.ring c.args.checks.now) c.args.self.now c.read_ack.new.self c.args.clock c.args.frame
    (Ok c.read_ack.result)
of_ack g c =
    outcome (g.C.CheckSignatures.ring c.args.checks.now) c.args.self.now c.read_ack.new.self c.args.clock c.args.frame
    (Ok c.read_ack.result) c.requires.signer
    c.requires.height (carried_frame _ _ c.statement.ensures.frame c.requires.version)
    (c.read_ack.ensures.answer ∙ ack_answer c.args.self.now (g.C.CheckSignatures.ring c.args.checks.now) c.args.clock
    c.args.frame.signature tt c.args.frame.statement
    (search rules) (search rules))
    (c.read_ack.ensures.after c.args.clock) tt

pub returns-in-Ack : goal.returns-in-Ack
returns-in-Ack g c = let o = of_ack g c in record {
  keys = c.read_ack.ensures.keys;
  answer = o.answer;
  read = o.read;
  ignored = o.ignored;
  err = tt;
  same = o.same;
}

pub read_report-requires-clause-frame : goal.read_report-requires-clause-frame
read_report-requires-clause-frame g c = carried_frame _ _ c.statement.ensures.frame c.requires.version

pub read_lock-requires-clause-frame : goal.read_lock-requires-clause-frame
read_lock-requires-clause-frame g c = carried_frame _ _ c.statement.ensures.frame c.requires.version
