use Rattle.std.proofs.Common.{◌≡◌, ◌<◌, ◌-◌, suc, length, sym, ap, arith}
use Rattle.std.specs.Prelude.{slice_index_or}
use Rattle.adversary_net.specs.declared.sent_index.SendingEntry.{SendingEntry}
use Rattle.adversary_net.proofs.SentPlaces.{frame_stands, no_frame, index_any}
use Rattle.adversary_net.proofs.sent_index.SentIndex.place.Goals as goal

pub returns-then-after-eq0 : goal.returns-then-after-eq0
returns-then-after-eq0 c = λ entries indexed.
    let none : c.up_to-after.result ≡ 0 = c.if-after-eq0.true in
    no_frame c.args.self.now.sending.items c.args.self.now.total entries c.args.index indexed
    (λ d some. c.up_to-after.ensures.parts.1 0 d (omega (arith, none)) some)

pub overflow_sub-result : goal.overflow_sub-result
overflow_sub-result c =
    let after = c.up_to-after.result in
    let last = c.index-sending.result.now in
    let some : 0 < after = omega (arith, c.if-after-eq0.false) in
    let low = c.up_to-after.ensures.parts.0 (after - 1) last (omega arith) (omega (arith, some)) in
    omega (arith, low, ap (λ (s : SendingEntry). s.before) c.index-sending.ensures)

pub returns : goal.returns
returns c = λ entries indexed.
    let after = c.up_to-after.result in
    let xs = c.args.self.now.sending.items in
    let last = c.index-sending.result.now in
    let some : 0 < after = omega (arith, c.if-after-eq0.false) in
    let bound : after - 1 < length xs = omega (arith, some, c.up_to-after.ensures.bound) in
    let low = c.up_to-after.ensures.parts.0 (after - 1) last (omega arith) (omega (arith, some)) in
    let is : slice_index_or xs (after - 1) last ≡ last = sym c.index-sending.ensures in
    frame_stands xs c.args.self.now.total entries c.args.index (after - 1) last indexed bound (index_any xs (after - 1) last bound is)
    (omega (arith, low, ap (λ (s : SendingEntry). s.before) is))
    (λ d lt. c.up_to-after.ensures.parts.1 (suc (after - 1)) d (omega (arith, some)) lt)
