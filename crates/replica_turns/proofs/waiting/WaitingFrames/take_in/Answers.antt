-- the early ones are cut to the room that there is for them
use Rattle.std.proofs.Common.{◌≡◌, ◌++◌, ◌-◌, ◌∙◌, ap, take, length, arith, rules}
use Rattle.std.proofs.lemmas.Grind.{common_steps}
use Rattle.replica_turns.specs.Waiting.{WaitingFramesView}
use Rattle.replica_turns.proofs.Cutting.{take_behind}
use Rattle.replica_turns.proofs.waiting.WaitingFrames.take_in.Goals as goal

pub returns-clause-early : goal.returns-clause-early
returns-clause-early c =
    let kept = c.self.inside.early.items in
    let joined = take_behind kept c.in_ok-early.early.items 1024 c.self.invariant.1 in
    let grown : c.append-2.new.self.items ≡ kept ++ c.truncate.new.self.items = grind (arith, common_steps) in
    let cut : c.truncate.new.self.items ≡ take (1024 - length kept) c.in_ok-early.early.items = search rules in
    let whole : c.append-2.new.self.items ≡ take 1024 (kept ++ c.in_ok-early.early.items) = grown ∙ (ap (λ xs. kept ++ xs) cut ∙ joined) in
    let before = ap (λ (w : WaitingFramesView). w.early) c.self.view_is in
    cc (whole, before, c.in_ok-early.ensures, c.as_slice.ensures.value)
