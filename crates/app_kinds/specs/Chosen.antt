-- The machine of an application whose kind was chosen at run time.
use Rattle.std.specs.Prelude.{◌≡◌}
use Rattle.ledger_model.specs.Applications.{Machine}
use Rattle.ledger_model.specs.Kinds.{store, counter, purse, meaning_of}
use Rattle.app_kinds.specs.declared.any_kind.Chosen.{Chosen}
use Rattle.app_kinds.specs.declared.any_kind.Chosen.TheVariants as chosen

-- the machine of the chosen application
abbrev pub machine_of : Chosen → Machine
machine_of (chosen.KvStore m) = m
machine_of (chosen.Counter m) = m
machine_of (chosen.Purse m) = m

-- the machine's kind means the chosen application
abbrev pub IsOfItsKind : Chosen → Type 0
IsOfItsKind (chosen.KvStore m) = meaning_of m.kind ≡ store
IsOfItsKind (chosen.Counter m) = meaning_of m.kind ≡ counter
IsOfItsKind (chosen.Purse m) = meaning_of m.kind ≡ purse
