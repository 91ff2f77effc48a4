use Rattle.std.proofs.Common.{ap, ◌∙◌}
use Rattle.ledger_model.specs.Applications.{Machine, run}
use Rattle.abci_executor.proofs.Blocks.{opens, reached_first}
use Rattle.abci_executor.proofs.executor.Executor.new.Goals as goal

pub init_chain-requires : goal.init_chain-requires
unfolding run
init_chain-requires g c = ap (λ (m : Machine). m.height) c.requires

pub invariant_of-result : goal.invariant_of-result
invariant_of-result g c = rw c.in_ok-init_chain.ensures (reached_first (g.A.Application.meaning) _ c.requires)

pub returns : goal.returns
returns g c = rw c.in_ok-init_chain.ensures (opens (g.A.Application.meaning) _ c.requires ∙ c.requires)
