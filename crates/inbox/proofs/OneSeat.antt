-- One seat's log is set, and something holds of each.
use Rattle.std.proofs.Common.{◌≡◌, ◌≢◌, ℕ, List, set}
use mathlib.Core.Option.{some}
use lib.ListN.{get_elem?}
use Rattle.crossbeam_queue.proofs.Lists.{at_set}
use Rattle.ledger_model.proofs.SeatLists.{Each, each_set_by}

pub each_set : {A : Type 0} (F : ℕ → A → Type 0) (l : List A) (i : ℕ) (w : A) → F i w
    → ((j : ℕ) (u : A) → j ≢ i → get_elem? l j ≡ some u → F j u) → Each F (set l i w)
each_set F l i w = each_set_by F l i w (λ j u. at_set l i j w u)
