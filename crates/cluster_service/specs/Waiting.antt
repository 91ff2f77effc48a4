-- What a look at a replica finds of a transaction.
use Rattle.ledger_model.specs.Meanings.{Meanings}
use Rattle.std.specs.Prelude.{ℕ, ◌<◌, ◌≤◌, ◌^◌, ⊤, List, Option}
use Rattle.locked_replica.specs.States.{StateView}
use Rattle.cluster_workers.specs.RunningClusters.{RunningClusterView}
use Rattle.cluster_service.specs.Deliveries.{IsDelivery}
use Rattle.cluster_service.specs.Inquiries.{IsPendingBelow, IsUndelivered, SeenView, SeesOwn, SeesStranger}
use Rattle.cluster_service.specs.declared.waiting.LookOutcome.{LookOutcome}
use Rattle.cluster_service.specs.declared.waiting.LookOutcome.TheVariants as look

-- the state of replica `r`, which was seen, took the transaction by the entry with this index, and has no block with it from there on, and none
-- above this height
abbrev pub IsPendingAbove : Meanings → RunningClusterView → ℕ → Option StateView → List ℕ → ℕ → ℕ → Type 0
IsPendingAbove meaning cluster r taker tx index above =
    (height : ℕ) → above < height → height < 2 ^ 32 → SeesOwn cluster r taker (IsPendingBelow meaning tx index height)

-- what a look at replica `r`, which took the transaction, reports of the entries from the submit's on
abbrev pub FindsAfter : Meanings → RunningClusterView → ℕ → SeenView → List ℕ → ℕ → LookOutcome → Type 0
FindsAfter meaning cluster r seen tx index (look.Block height code) = SeesOwn cluster r seen.last (IsDelivery meaning tx index height code)
FindsAfter meaning cluster r seen tx index (look.Nothing blocks) =
    SeesOwn cluster r seen.last (IsUndelivered meaning tx index) × IsPendingAbove meaning cluster r seen.taker tx index blocks
FindsAfter meaning cluster r seen tx index look.Stranger = SeesStranger cluster r seen.last

-- what a look at a replica reports of its blocks above this height
abbrev pub FindsAbove : Meanings → RunningClusterView → ℕ → SeenView → List ℕ → ℕ → LookOutcome → Type 0
FindsAbove meaning cluster replica seen tx above (look.Block height code) =
    (above < height) × SeesOwn cluster replica seen.last (IsDelivery meaning tx 0 height code)
FindsAbove meaning cluster replica seen tx above (look.Nothing blocks) = above ≤ blocks
FindsAbove meaning cluster replica seen tx above look.Stranger = ⊤
