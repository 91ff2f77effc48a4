use Rattle.std.proofs.Common.{◌∙◌, refl, ap, map}
use Rattle.run_picture.specs.Facts.{locks_held}
use Rattle.run_picture.specs.Sources.{arrival_of}
use Rattle.run_picture.proofs.picture.picture_from.Goals as goal

pub returns : goal.returns
returns c = λ meaning ring histories all. record {
  shown = all.rows;
  count = all.count;
  replays = all.replays;
  config = refl;
  part = refl;
  rounds = all.rounds;
  sent = all.sent;
  arrivals = c.in_ok-arrivals.ensures
      ∙ ap (λ s. map (arrival_of s) c.args.collected.shown.deliveries.items) c.deref-2.ensures.value
      ∙ ap (map (arrival_of c.args.collected.shown.sent.items)) all.deliveries;
  facts = all.facts;
  locks = c.in_ok-locks.ensures ∙ ap locks_held c.deref.ensures.value;
  decisions = all.decisions;
  retired = all.retired;
  breaks = all.breaks;
}
