-- each request that was read was served
use Rattle.std.proofs.Common.{◌≡◌, ◌<◌, ◌≤◌, length}
use Rattle.client_sessions.proofs.UnderWay.{UnderWay}
use Rattle.client_sessions.proofs.serving.serve_all.Given as goal

abbrev pub invariant-loop-served : goal.invariant-loop-served
invariant-loop-served g l = record {
  under_way : UnderWay g.T.Targets.asks (g.T.Targets.replicas l.initial.targets) l.initial.targets l.targets l.initial.session l.session
      (g.R.SessionReader.remaining l.initial.input) (g.R.SessionReader.remaining l.input) (g.W.SessionWriter.contents l.initial.output)
      (g.W.SessionWriter.contents l.output) l._served;
  rises : l.initial.session.greatest ≤ l.session.greatest;
  known : l.session.replica < g.T.Targets.replicas l.targets;
  count : g.T.Targets.replicas l.targets ≡ g.T.Targets.replicas l.initial.targets;
  room : length l.buffer ≡ length l.initial.buffer;
  reader : g.R.SessionReader.failures l.input ≡ g.R.SessionReader.failures l.initial.input;
  writer : g.W.SessionWriter.failures l.output ≡ g.W.SessionWriter.failures l.initial.output;
}
