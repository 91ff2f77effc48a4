use Rattle.std.proofs.Common.{◌≡◌, subst}
use Rattle.ledger_model.specs.Kinds.{store, counter, purse, meaning_of}
use Rattle.abci.specs.Meaning.{CommitsTo}
use Rattle.app_kinds.proofs.Choosing.{kind_stays}
use Rattle.app_kinds.proofs.any_kind.AnyKindApplication.commit.Goals.{in-KvStore, in-Counter, in-Purse}
use Rattle.app_kinds.proofs.any_kind.AnyKindApplication.commit.Goals as goal

pub invariant_of-self : goal.invariant_of-self
invariant_of-self c = elim c.match-self.branch [
  | in-KvStore w ↦ rw w.self-inside-is (subst (λ k. meaning_of k ≡ store)
      (kind_stays w.in-KvStore.app w.commit.new.self w.commit.result (rw (← c.self.view_is, w.in-KvStore.is) at c.requires) w.commit.ensures) (rw w.in-KvStore.is at c.self.invariant))
  | in-Counter w ↦ rw w.self-inside-is (subst (λ k. meaning_of k ≡ counter)
      (kind_stays w.in-Counter.app w.commit-in-Counter.new.self w.commit-in-Counter.result (rw (← c.self.view_is, w.in-Counter.is) at c.requires) w.commit-in-Counter.ensures) (rw w.in-Counter.is at c.self.invariant))
  | in-Purse w ↦ rw w.self-inside-is (subst (λ k. meaning_of k ≡ purse)
      (kind_stays w.in-Purse.app w.commit-in-Purse.new.self w.commit-in-Purse.result (rw (← c.self.view_is, w.in-Purse.is) at c.requires) w.commit-in-Purse.ensures) (rw w.in-Purse.is at c.self.invariant))
]

pub returns : goal.returns
returns c = elim c.match-self.branch [
  | in-KvStore w ↦ rw (w.result-is, w.self-inside-is)
      (subst (λ m. CommitsTo m w.commit.result w.commit.new.self) (rw w.in-KvStore.is at c.self.view_is) w.commit.ensures)
  | in-Counter w ↦ rw (w.result-is, w.self-inside-is)
      (subst (λ m. CommitsTo m w.commit-in-Counter.result w.commit-in-Counter.new.self) (rw w.in-Counter.is at c.self.view_is) w.commit-in-Counter.ensures)
  | in-Purse w ↦ rw (w.result-is, w.self-inside-is)
      (subst (λ m. CommitsTo m w.commit-in-Purse.result w.commit-in-Purse.new.self) (rw w.in-Purse.is at c.self.view_is) w.commit-in-Purse.ensures)
]
