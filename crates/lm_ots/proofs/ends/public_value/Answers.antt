use Rattle.std.proofs.Common.{List, ℕ, ◌++◌, ◌∙◌, ap, arith}
use Rattle.std.proofs.lemmas.List.{take_all}
use Rattle.std.specs.Int.{w16, w32, to_be_bytes}
use Rattle.std.specs.List.{flat_map}
use Rattle.sha2.specs.Sha256.{sha256}
use Rattle.ledger_model.specs.Signatures.{public_value}
use Rattle.lm_ots.proofs.ends.public_value.Goals as goal

pub returns : goal.returns
unfolding public_value
returns c =
    c.finalize.ensures _ c.loop-end.invariant
    ∙ ap (λ ends. sha256 (c.args.identifier.now ++ to_be_bytes w32 c.args.leaf ++ to_be_bytes w16 0x8080
    ++ flat_map (λ (end : List ℕ). end) ends))
    (take_all c.loop-end.end-index c.args.ends.now (omega arith))
