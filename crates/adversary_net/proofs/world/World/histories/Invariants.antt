use Rattle.std.proofs.Common.{◌≡◌, map, take}
use Rattle.std.specs.List.{filter_map}
use Rattle.adversary_net.specs.WorldViews.{state_in, history_in}
use Rattle.adversary_net.proofs.world.World.histories.Given as goal

-- the histories of the correct replicas so far
abbrev pub invariant-loop-party : goal.invariant-loop-party
invariant-loop-party g l = l.histories.items ≡ map history_in (filter_map state_in (take l.party-index l.party-items))
