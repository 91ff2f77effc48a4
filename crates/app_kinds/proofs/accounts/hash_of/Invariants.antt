use Rattle.std.proofs.Common.{◌∷◌, take}
use Rattle.std.specs.List.{flat_map}
use Rattle.sha2.specs.Hashers.{Holds256}
use Rattle.app_kinds.specs.Purses.{shown}
use Rattle.app_kinds.proofs.Transfers.{account_bytes}
use Rattle.app_kinds.proofs.accounts.hash_of.Given as goal

abbrev pub invariant-loop-account : goal.invariant-loop-account
invariant-loop-account l = Holds256 l.hasher (3 ∷ flat_map account_bytes (shown (take l.account-index l.accounts)))
