-- The balances of every purse.
use Rattle.ledger_model.specs.Kinds.{meaning_of}
use Rattle.std.specs.Prelude.{◌≡◌, ℕ, List, []}
use Rattle.std.specs.List.{sum_by, range_with_len}
use Rattle.ledger_model.specs.declared.config.AppKind.TheVariants as kind
use Rattle.ledger_model.specs.Applications.{accepted}
use Rattle.ledger_model.specs.Kinds.{balance_of}

-- whatever transactions a purse gets, the balances of its 256 accounts add up to 256,000
abbrev pub TotalStays : Type 0
TotalStays = (txs : List (List ℕ)) → sum_by (balance_of (accepted meaning_of kind.Purse [] txs)) (range_with_len 0 256) ≡ 256000
