-- the parts so far follow the others, and there is room for those to come
use Rattle.std.proofs.Common.{◌≡◌, ◌≤◌, ◌+◌, ◌-◌, ◌*◌, ◌++◌, List, ℕ, take, length}
use Rattle.std.specs.Prelude.{vec_len, vec_capacity}
use Rattle.std.specs.List.{flat_map}
use Rattle.lm_ots.proofs.ots.append_each.Given as goal

abbrev pub invariant-loop-part : goal.invariant-loop-part
invariant-loop-part l = record {
  items : l.bytes.items ≡ l.fn.bytes.items ++ flat_map (λ (part : List ℕ). part) (take l.part-index l.parts);
  capacity : vec_capacity l.fn.bytes ≤ vec_capacity l.bytes;
  room : vec_len l.bytes + 32 * (length l.parts - l.part-index) ≤ vec_capacity l.bytes;
}
