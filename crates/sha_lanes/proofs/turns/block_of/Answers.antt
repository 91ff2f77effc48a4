use Rattle.std.proofs.Common.{◌≡◌, ◌*◌, ◌+◌, ◌++◌, length, take, sym, ap, ◌∙◌, arith, rules}
use Rattle.std.proofs.lemmas.List.{take_all}
use Rattle.std.proofs.lemmas.Slice.{overwrites, take-put_mid}
use Rattle.sha_lanes.proofs.TurnLemmas.{take-word}
use Rattle.sha_lanes.proofs.turns.block_of.Goals as goal

pub loop-k-preserved : goal.loop-k-preserved
loop-k-preserved c =
    let k = c.loop-k.k in
    let ys = c.copy_from_slice.new.self in
    record {
      whole = search (rules, overwrites);
      front = λ b whole bytes read.
          take-put_mid (4 * k) _ c.loop-k.block ys (4 * (k + 1))
          (omega (arith, ap length (c.copy_from_slice.ensures.after ∙ c.to_be_bytes.ensures))) (omega (arith, c.loop-k.invariant.whole))
          ∙ ap (λ front. front ++ ys) (c.loop-k.invariant.front b whole bytes read)
          ∙ ap (λ word. take (4 * k) b ++ word) (c.copy_from_slice.ensures.after ∙ c.to_be_bytes.ensures)
          ∙ take-word b k _ whole (omega arith) bytes (read k (omega arith));
    }

pub returns : goal.returns
returns c b whole bytes read =
    let all : 4 * c.loop-k.k ≡ 64 = omega arith in
    sym (take_all 64 c.loop-k.block (omega (arith, c.loop-k.invariant.whole))) ∙ sym (ap (λ n. take n c.loop-k.block) all)
    ∙ c.loop-k.invariant.front b whole bytes read ∙ ap (λ n. take n b) all ∙ take_all 64 b (omega (arith, whole))
