-- where the chains so far lead to
use Rattle.std.proofs.Common.{◌≡◌, ℕ, ◌<◌}
use Rattle.ledger_model.specs.Signatures.{chain, chain_start, coef}
use Rattle.lm_ots.specs.Parameters.{bits_of}
use Rattle.lm_ots.specs.Ends.{end_of}
use Rattle.lm_ots.proofs.ends.signed_ends.Given as goal

abbrev pub invariant-loop-index : goal.invariant-loop-index
invariant-loop-index l = record {
  identifier : l.chains.identifier ≡ l.identifier;
  leaf : l.chains.leaf ≡ l.leaf;
  ends : (i : ℕ) → i < l.index → end_of l.chains i
      ≡ chain l.identifier l.leaf i 0 (coef l.digits.bytes i (bits_of l.digits.params.width)) (chain_start l.identifier l.seed l.leaf i);
}
