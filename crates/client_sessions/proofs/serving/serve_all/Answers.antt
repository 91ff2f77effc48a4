use Rattle.std.proofs.Common.{rules, add-zero, le_refl, refl, subst, take, ◌∙◌}
use Rattle.std.specs.Io.KnownBytes.{Appends}
use Rattle.client_sessions.specs.Serving.{RepliesToRequest}
use Rattle.byte_streams.specs.Writing.{AppendsSome}
use Rattle.client_sessions.proofs.UnderWay.{starts, goes_on, write_fails}
use Rattle.client_sessions.proofs.serving.serve_all.Goals as goal

pub loop-served-init : goal.loop-served-init
loop-served-init g c = record {
  under_way = starts _ _ _ _ _ _;
  rises = le_refl _;
  known = c.requires.known;
  count = refl;
  room = refl;
  reader = refl;
  writer = refl;
}

pub returns-in-Err-reply_to-clause-served : goal.returns-in-Err-reply_to-clause-served
returns-in-Err-reply_to-clause-served g c =
    let k = c.in-Err-reply_to.ensures in
    let m = rw c.in-Ok-Body.field-0-is at c.in-Ok-Body.ensures.received in
    let so_far = c.loop-served.invariant in
    let one = subst (λ n. RepliesToRequest g.T.Targets.asks n c.loop-served.targets c.reply_to.new.targets c.loop-served.session
    (take c.in-Ok-Body.len c.receive.new.buffer) c.reply_to.new.session
    (AppendsSome (g.W.SessionWriter.contents c.loop-served.output) (g.W.SessionWriter.contents c.reply_to.new.output))) so_far.count
    k.replies in
    write_fails _ _ _ _ _ _ _ _ _ _ _ so_far.under_way _ m.1.0 _ m.1.1 _ _ _ one _ _ one.sent

pub loop-served-preserved : goal.loop-served-preserved
loop-served-preserved g c =
    let k = c.in-Ok.ensures in
    let m = rw c.in-Ok-Body.field-0-is at c.in-Ok-Body.ensures.received in
    let so_far = c.loop-served.invariant in
    let one = subst (λ n. RepliesToRequest g.T.Targets.asks n c.loop-served.targets c.reply_to.new.targets c.loop-served.session
    (take c.in-Ok-Body.len c.receive.new.buffer) c.reply_to.new.session
    (Appends (g.W.SessionWriter.contents c.loop-served.output) (g.W.SessionWriter.contents c.reply_to.new.output))) so_far.count k.replies
    in
    record {
      under_way = goes_on _ _ _ _ _ _ _ _ _ _ _ so_far.under_way _ m.1.0 _ m.1.1 _ _ _ one _ one.sent;
      rises = search rules;
      known = k.known;
      count = k.count ∙ so_far.count;
      room = search rules;
      reader = c.in-Ok-Body.ensures.counted ∙ add-zero _ ∙ so_far.reader;
      writer = k.counted ∙ add-zero _ ∙ so_far.writer;
    }
