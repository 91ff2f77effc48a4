-- One byte more, and room for it.
use Rattle.std.proofs.Common.{arith, ◌≡◌, ◌<◌, ◌^◌, take, refl}
use Rattle.std.proofs.lemmas.List.{take_more}
use Rattle.ledger_model.specs.Kinds.{number_in}
use Rattle.app_kinds.proofs.Counting.{number_in-push, number_in-take}
use Rattle.app_kinds.proofs.count.number_of.Goals as goal

pub overflow_mul-number : goal.overflow_mul-number
overflow_mul-number c =
    let small : number_in (take c.loop-byte.byte-index c.args.bytes.now) < 256 ^ 7 =
    number_in-take c.args.bytes.now c.loop-byte.byte-index (omega arith) (λ k. omega (arith, c.type_inv.bytes k)) in
    let same : c.loop-byte.number ≡ number_in (take c.loop-byte.byte-index c.args.bytes.now) = c.loop-byte.invariant in
    omega arith

pub overflow_add-number : goal.overflow_add-number
overflow_add-number c =
    let small : number_in (take c.loop-byte.byte-index c.args.bytes.now) < 256 ^ 7 =
    number_in-take c.args.bytes.now c.loop-byte.byte-index (omega arith) (λ k. omega (arith, c.type_inv.bytes k)) in
    let same : c.loop-byte.number ≡ number_in (take c.loop-byte.byte-index c.args.bytes.now) = c.loop-byte.invariant in
    let byte : c.from.result < 256 = rw c.from.ensures (omega (arith, c.type_inv.bytes c.loop-byte.byte-index)) in
    omega arith

pub loop-byte-preserved : goal.loop-byte-preserved
loop-byte-preserved c =
    let same : c.loop-byte.number ≡ number_in (take c.loop-byte.byte-index c.args.bytes.now) = c.loop-byte.invariant in
    rw (take_more c.args.bytes.now c.loop-byte.byte-index 0 c.loop-byte-test.true, number_in-push, ← same, ← c.from.ensures) refl
