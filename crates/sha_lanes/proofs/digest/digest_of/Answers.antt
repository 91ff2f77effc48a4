use Rattle.std.proofs.Common.{refl, ◌∙◌, ap, sym, arith, rules}
use Rattle.std.proofs.lemmas.Slice.{overwrites}
use Rattle.sha2.specs.Sha256.{digest_bytes}
use Rattle.sha2.proofs.Absorbing256.{digest_more}
use Rattle.std.specs.Int.{w32, to_be_bytes}
use Rattle.sha_lanes.proofs.LaneLemmas.{value_of}
use Rattle.sha_lanes.specs.Lanes.{lane}
use Rattle.sha_lanes.proofs.digest.digest_of.Goals as goal

pub loop-i-init : goal.loop-i-init
unfolding digest_bytes
loop-i-init c = record { whole = refl; front = refl }

pub loop-i-preserved : goal.loop-i-preserved
loop-i-preserved c = record {
  whole = search (rules, overwrites);
  front = digest_more c.loop-i.digest (lane c.args.j c.args.state.now) _ c.loop-i.i _ c.loop-i.invariant.front (omega arith)
      (c.copy_from_slice.ensures.after ∙ c.to_be_bytes.ensures
      ∙ ap (to_be_bytes w32) (sym (value_of c.args.state.now c.args.j c.loop-i.i (omega arith))));
}
