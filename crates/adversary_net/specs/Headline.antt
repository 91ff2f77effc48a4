-- What a running cluster is equivalent to: a single ledger without replicas.
use Rattle.ledger_model.specs.Meanings.{Meanings}
use Rattle.std.specs.Prelude.{length}
use Rattle.ledger_model.specs.Worlds.{NoForgery, Refines, MachinesOn}
use Rattle.adversary_net.specs.WorldViews.{WorldView, world_of, machine_in}

-- nothing that a correct replica accepted was forged
abbrev pub IsUnforgedRun : WorldView → Type 0
IsUnforgedRun c = NoForgery c.config c.ring (world_of c)

-- Everything that happened is a run of one sequential ledger. Each correct replica's application is now what it is when
-- it runs alone on a prefix of that ledger: the prefix that the replica committed.
pub record IsOneLedger (meaning : Meanings) (c : WorldView) : Type 0 where
  pub refines : Refines meaning c.config (world_of c)
  pub machines : MachinesOn meaning c.config (world_of c).histories (refines.ledger (length c.order)) (machine_in meaning c)
