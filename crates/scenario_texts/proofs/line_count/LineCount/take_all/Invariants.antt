-- the bytes so far were counted, and are not too many
use Rattle.std.proofs.Common.{◌++◌, ℕ, List, take}
use Rattle.scenario_texts.specs.Lines.{HasLines, IsTooLarge, IsWithinLineLimits}
use Rattle.scenario_texts.proofs.line_count.LineCount.take_all.Given as goal

abbrev pub invariant-loop-byte : goal.invariant-loop-byte
invariant-loop-byte l = record {
  counted : (text : List ℕ) → HasLines text l.initial.self → HasLines (text ++ take l.byte-index l.bytes) l.self;
  fits : (text : List ℕ) → HasLines text l.initial.self → (IsTooLarge text → ⊥) → IsTooLarge (text ++ take l.byte-index l.bytes) → ⊥;
  small : IsWithinLineLimits l.initial.self → IsWithinLineLimits l.self;
}
