-- The bytes of each kind determine what it answers.
use Rattle.ledger_model.specs.declared.config.AppKind.TheVariants.{Own, KvStore, Counter, Purse}
use Rattle.app_kinds.specs.Determined.{BytesDetermine}
use Rattle.app_kinds.proofs.Storing.{store_determines}
use Rattle.app_kinds.proofs.Counting.{counter_determines}
use Rattle.app_kinds.proofs.Accounting.{purse_determines}

pub bytes_determine : BytesDetermine
bytes_determine Own = store_determines
bytes_determine KvStore = store_determines
bytes_determine Counter = counter_determines
bytes_determine Purse = purse_determines
