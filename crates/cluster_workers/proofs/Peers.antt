-- The inboxes of replicas by number, as one more is made, and as they are taken one by one.
use Rattle.std.proofs.Common.{◌≡◌, ℕ, suc, ◌+◌, List, [], ◌∷◌, ◌++◌, length, map, ap, sym, ◌∙◌, append_assoc, append-nil, arith}
use Rattle.ledger_model.specs.declared.version.Version.{Version}
use Rattle.commit_board.specs.Seats.{BoardId}
use Rattle.inbox.specs.Passes.{InboxId}
use Rattle.cluster_workers.specs.declared.work_plan.WorkPlan.{WorkPlan}
use Rattle.cluster_workers.specs.RunningClusters.{PeerInbox, WorkerView, peers_from, worker_of}

abbrev the_peer : ℕ → InboxId → PeerInbox
the_peer replica inbox = record { replica = replica; inbox = inbox }

-- one inbox more is that of the next replica
pub peers_more : (first : ℕ) (inboxes : List InboxId) (inbox : InboxId)
    → peers_from first (inboxes ++ inbox ∷ []) ≡ peers_from first inboxes ++ record { replica = first + length inboxes; inbox = inbox } ∷ []
peers_more first [] inbox =
    let same : first ≡ first + 0 = omega arith in
    ap (λ (k : ℕ). the_peer k inbox ∷ []) same
peers_more first (x ∷ rest) inbox =
    let same : first + 1 + length rest ≡ first + suc (length rest) = omega arith in
    ap (λ (l : List PeerInbox). the_peer first x ∷ l)
    (peers_more (first + 1) rest inbox ∙ ap (λ (k : ℕ). peers_from (first + 1) rest ++ the_peer k inbox ∷ []) same)

-- the workers so far, and one for each of the inboxes that are left, from this number on
abbrev pub AreLinked : BoardId → Version → WorkPlan → ℕ → List PeerInbox → List WorkerView → List InboxId → Type 0
AreLinked board version plan number peers workers left =
    workers ++ map (worker_of board version plan peers) (peers_from number left) ≡ map (worker_of board version plan peers) peers

-- the next worker takes from the next inbox
pub linked_more : (board : BoardId) (version : Version) (plan : WorkPlan) (number : ℕ) (peers : List PeerInbox) (workers : List WorkerView)
    (inbox : InboxId)
    (left : List InboxId) (worker : WorkerView)
    → worker ≡ worker_of board version plan peers (record { replica = number; inbox = inbox })
    → AreLinked board version plan number peers workers (inbox ∷ left)
    → AreLinked board version plan (number + 1) peers (workers ++ worker ∷ []) left
linked_more board version plan number peers workers inbox left worker is linked =
    append_assoc workers (worker ∷ []) (map (worker_of board version plan peers) (peers_from (number + 1) left))
    ∙ ap (λ w. workers ++ w ∷ map (worker_of board version plan peers) (peers_from (number + 1) left)) is
    ∙ linked

-- once none is left, these are all
pub all_linked : (board : BoardId) (version : Version) (plan : WorkPlan) (number : ℕ) (peers : List PeerInbox) (workers : List WorkerView)
    (left : List InboxId)
    → length left ≡ 0 → AreLinked board version plan number peers workers left
    → workers ≡ map (worker_of board version plan peers) peers
all_linked board version plan number peers workers [] none linked = sym (append-nil workers) ∙ linked
all_linked board version plan number peers workers (inbox ∷ left) none linked = absurd (omega (arith, none))
