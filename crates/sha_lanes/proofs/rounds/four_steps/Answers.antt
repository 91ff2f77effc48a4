use Rattle.std.proofs.Common.{arith}
use Rattle.sha2.proofs.Schedule256.{IsRoundsAt_at}
use Rattle.sha_lanes.specs.Lanes.{lane, words}
use Rattle.sha_lanes.proofs.rounds.four_steps.Goals as goal

pub returns : goal.returns
returns c j low b h held =
    let s1 = c.step-v.ensures j low b h held in
    let s2 = c.step-v-2.ensures j low b h s1 in
    let s3 = c.step-v-3.ensures j low b h (IsRoundsAt_at b h (words j c.step-v-2.new.w) (lane j c.step-v-2.result) _ _ (omega arith) s2) in
    let s4 = c.step.ensures j low b h (IsRoundsAt_at b h (words j c.step-v-3.new.w) (lane j c.step-v-3.result) _ _ (omega arith) s3) in
    IsRoundsAt_at b h (words j c.step.new.w) (lane j c.step.result) _ _ (omega arith) s4
