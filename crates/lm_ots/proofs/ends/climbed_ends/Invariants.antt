-- where the chains so far lead to
use Rattle.std.proofs.Common.{◌≡◌, ℕ, ◌<◌, ◌-◌}
use Rattle.ledger_model.specs.Signatures.{chain, coef, part}
use Rattle.lm_ots.specs.Parameters.{bits_of}
use Rattle.lm_ots.specs.Ends.{end_of}
use Rattle.lm_ots.proofs.ends.climbed_ends.Given as goal

abbrev pub invariant-loop-index : goal.invariant-loop-index
invariant-loop-index l = record {
  identifier : l.chains.identifier ≡ l.identifier;
  leaf : l.chains.leaf ≡ l.leaf;
  ends : (i : ℕ) → i < l.index → end_of l.chains i ≡ (let d =
      coef l.digits.bytes i (bits_of l.digits.params.width) in chain l.identifier l.leaf i d (l.last_step - d) (part l.values 0 i));
}
