-- Nothing is registered before the first block.
use Rattle.std.proofs.Common.{◌≡◌, [], refl, rules}
use Rattle.notary_app.specs.Registers.{register, register_bytes}
use Rattle.notary_app.proofs.register.RegisterAppState.opening.Goals as goal

pub returns : goal.returns
unfolding register register_bytes
returns c = let none : c.new.result.items ≡ [] = search rules in rw none refl
