-- What is left to hash is what the iterator has left.
use Rattle.std.proofs.Common.{◌≡◌, sym, ap, ◌∙◌}
use Rattle.std.specs.Int.{w64, to_be_bytes}
use Rattle.std.specs.Map.Iter.{deref_pair}
use Rattle.std.proofs.lemmas.Map.Iter.{rest_more}
use Rattle.app_kinds.proofs.Entries.{feeds-begin, feeds-more, short-next, length-shown}
use Rattle.app_kinds.proofs.pairs.hash_of.Goals as goal

pub loop-key-init : goal.loop-key-init
loop-key-init c =
    let all : c.into_iter-key-iterator.result ≡ c.args.values.now.entries = c.into_iter-key-iterator.ensures.into_iter_gives.0 in
    rw all (
      c.requires,
      feeds-begin _ _ c.to_be_bytes.result (c.update-2.ensures _ (c.update.ensures _ c.new-hasher.ensures))
          (c.to_be_bytes.ensures ∙ ap (to_be_bytes w64) (c.len.ensures.len ∙ sym (length-shown c.args.values.now.entries))),
    )

pub add_piece-requires : goal.add_piece-requires
add_piece-requires c =
    let next = rest_more deref_pair _ _ _ _ c.in-Some.is c.next.ensures.steps in
    rw c.as_slice.ensures.value (short-next _ _ _ next c.loop-key.invariant.0).0

pub add_piece-requires-in-loop-key : goal.add_piece-requires-in-loop-key
add_piece-requires-in-loop-key c =
    let next = rest_more deref_pair _ _ _ _ c.in-Some.is c.next.ensures.steps in
    rw c.as_slice-in-loop-key.ensures.value (short-next _ _ _ next c.loop-key.invariant.0).1

pub loop-key-preserved : goal.loop-key-preserved
loop-key-preserved c =
    let next = rest_more deref_pair _ _ _ _ c.in-Some.is c.next.ensures.steps in
    let fed = rw next at c.loop-key.invariant.1 in
    let short = short-next _ _ _ next c.loop-key.invariant.0 in (
      short.2,
      feeds-more _ c.add_piece.new.hasher _ c.in-Some.key.now.items c.in-Some.value.now.items _ _ fed
          (rw c.as_slice.ensures.value at c.add_piece.ensures) (rw c.as_slice-in-loop-key.ensures.value at c.add_piece-in-loop-key.ensures),
    )
