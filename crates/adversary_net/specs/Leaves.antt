-- The leaves that one step of a running cluster costs its correct replicas, and steps that are answered one after the other.
use Rattle.ledger_model.specs.Meanings.{Meanings}
use Rattle.std.specs.Prelude.{◌≡◌, ℕ, ◌+◌, ◌==◌, ◌≤◌, List, [], ◌∷◌, Some, if◌then◌else◌}
use Rattle.ledger_model.specs.declared.event.Event.TheVariants as event
use Rattle.ledger_model.specs.declared.world.WorldReply.{WorldReply}
use Rattle.ledger_model.specs.declared.world.WorldStep.{WorldStep}
use Rattle.ledger_model.specs.declared.world.WorldStep.TheVariants as step
use Rattle.ledger_model.specs.Worlds.{event_of, StepsBy}
use Rattle.replica_core.specs.Leaves.{signed_by}
use Rattle.locked_replica.specs.States.{StateView, may_lose}
use Rattle.adversary_net.specs.WorldViews.{WorldView, IsSameCluster, is_out_of_memory, state_at, world_of}

-- Each statement of its own that was added to its history used one leaf, and at most `lost` others were used.
pub record UsesButFor (lost : ℕ) (old new : StateView) : Type 0 where
  pub least : old.used + signed_by new.entries ≤ new.used + signed_by old.entries
  pub most : new.used + signed_by old.entries ≤ old.used + signed_by new.entries + lost

-- how many leaves replica r may lose if memory runs out at the step: as many as it was to sign, if its round ends
abbrev pub loss_at : WorldStep → ℕ → StateView → ℕ
loss_at (step.RoundEnd q) r s = if r == q then may_lose s event.RoundEnd else 0
loss_at _ r s = 0

-- and how many at a step that was answered so: none, if memory didn't run out
abbrev pub lost_at : WorldStep → WorldReply → ℕ → StateView → ℕ
lost_at s a r x = if is_out_of_memory a then loss_at s r x else 0

-- each correct replica is still there, and used the leaves that the step allows
abbrev pub EachUses : WorldView → WorldStep → WorldReply → WorldView → Type 0
EachUses old s a new = (r : ℕ) (x : StateView) → state_at old r ≡ Some x
    → (y : StateView) × ((state_at new r ≡ Some y) × UsesButFor (lost_at s a r x) x y)

-- the step is answered so
pub record IsAnswered (meaning : Meanings) (c : WorldView) (s : WorldStep) (given : WorldReply) (d : WorldView) : Type 0 where
  pub steps : StepsBy meaning c.config c.ring (world_of c) (event_of c.config (world_of c) s) given (world_of d)
  pub same : IsSameCluster c d
  pub leaves : EachUses c s given d

-- the steps are answered so, one after the other
unfoldable pub AreAnswered : Meanings → WorldView → List WorldStep → List WorldReply → WorldView → Type 0
AreAnswered meaning c [] [] d = d ≡ c
AreAnswered meaning c (s ∷ ss) (a ∷ answers) d = (mid : WorldView) × (IsAnswered meaning c s a mid × AreAnswered meaning mid ss answers d)
AreAnswered meaning c [] (a ∷ answers) d = ⊥
AreAnswered meaning c (s ∷ ss) [] d = ⊥
