-- A lock that more than t correct replicas took stays, and what correct replicas decide at a height is one value.
use Rattle.ledger_model.specs.Meanings.{Meanings}
use Rattle.std.proofs.Common.{◌≡◌, ℕ, zero, suc, ◌+◌, ◌*◌, ◌/◌, ◌<◌, ◌≤◌, Bool, true, ◌&&◌, ◌⊎◌, inl, inr, List, length, refl, sym}
use Rattle.std.proofs.Common.{ap, subst, ◌∙◌, arith}
use Rattle.std.specs.Prelude.{nat_eq, find, Option, Some, None, is_some}
use Rattle.std.proofs.Math.Dec.{leb}
use Rattle.std.specs.List.{list_all, filter_map}
use Rattle.std.proofs.lemmas.Bool.{and_parts, and_from, leb-true, eqb-true, cases_order}
use Rattle.ledger_model.specs.declared.config.Config.{Config}
use Rattle.ledger_model.specs.declared.history.History.{History}
use Rattle.ledger_model.specs.declared.statement.Lock.{Lock}
use Rattle.ledger_model.specs.declared.statement.Ack.{Ack}
use Rattle.ledger_model.specs.declared.statement.Statement.{Statement}
use Rattle.ledger_model.specs.declared.statement.Statement.TheVariants as statement
use Rattle.ledger_model.specs.Values.{Value, same_value}
use Rattle.ledger_model.specs.Rounds.{round_at, owner_of, quorum, number_of, ack_place, lock_place, report_place, rounds_in_phase}
use Rattle.ledger_model.specs.Notes.{Note, OwnStatement, Has, clock_of, signer_of, is_lock, is_ack, was_read, was_made}
use Rattle.ledger_model.specs.Locks.{took, value_read, value_made, is_acked, decided_by, decided_of, or_else}
use Rattle.ledger_model.specs.Validity.{ValidLock, signers_of, ascends_within}
use Rattle.ledger_model.specs.Logs.{height_of}
use Rattle.ledger_model.specs.Rules.{Ring, with_signature}
use Rattle.ledger_model.specs.Groups.{history_of, is_correct, log_if, log_in, Backed, AreCorrect, ReadsBacked}
use Rattle.ledger_model.proofs.Lists.{all_has, same_value-equal, found_has}
use Rattle.ledger_model.proofs.Counting.{count_from-mono, count_split}
use Rattle.ledger_model.proofs.LockSafety.{Conduct, lock_stays, one_value, took_tells, has_read, read_has, lock_has, of_lock, made_has}
use Rattle.ledger_model.proofs.LockSafety.{Backed as BackedBy, ack_has}
use Rattle.ledger_model.proofs.Goodness.{Good, made_cases, report_made, lock_made, ack_made, is_only, lock_is}
use Rattle.ledger_model.proofs.Steps.{follows_good}

pub or_else_cases : (a b : Option Value) (v : Value) → or_else a b ≡ Some v → (a ≡ Some v) ⊎ (b ≡ Some v)
or_else_cases (Some w) b v e = inl e
or_else_cases None b v e = inr e

pub decided_tells : (config : Config) (log : List Note) (n : ℕ) (v : Value) → decided_by config log n ≡ Some v
    → (k : ℕ) × ((1 ≤ k) × (is_acked config log k v ≡ true))
decided_tells config log zero v e = cc
decided_tells config log (suc n) v e =
    elim (or_else_cases (decided_by config log n) (find (is_acked config log (suc n)) (filter_map value_made log)) v e) [
      | inl before ↦ decided_tells config log n v before
      | inr now ↦ (suc n, (omega arith, (found_has (is_acked config log (suc n)) (filter_map value_made log) v now).1))
    ]

-- a lock that its owner decided
pub record Settled (config : Config) (histories : List History) (h : ℕ) (v : Value) : Type 0 where
  pub phase : ℕ
  pub some : 1 ≤ phase
  pub lock : Lock
  pub value : lock.value ≡ v
  pub of_phase : lock.phase ≡ phase
  pub of_height : lock.height ≡ h
  pub owner : is_correct histories (owner_of config phase) ≡ true
  pub valid : ValidLock (Backed config histories) config lock
  pub taken : 1 + config.faults ≤ number_of config (λ r. is_correct histories r && took (log_in config histories h r) v phase)

module _ (meaning : Meanings) (config : Config) (ring : Ring) (histories : List History)
    (correct : AreCorrect meaning config ring histories) (h : ℕ) where
  -- the log of a correct replica is good
  pub good_in : (r : ℕ) → is_correct histories r ≡ true → Good config r h (log_in config histories h r)
  good_in r is = of_history (history_of histories r) refl is
    where
      of_history : (o : Option History) → history_of histories r ≡ o → is_some o ≡ true → Good config r h (log_if config h r o)
      of_history None eq there = cc
      of_history (Some m) eq there = follows_good meaning config ring r h m.entries (correct.follows r m eq)

  -- the locks that it made in a phase are one
  pub same_lock : (r : ℕ) → is_correct histories r ≡ true → (c d : ℕ) (l m : Lock)
      → Has (log_in config histories h r) (OwnStatement c (statement.Lock l))
      → Has (log_in config histories h r) (OwnStatement d (statement.Lock m)) → l.phase ≡ m.phase → l ≡ m
  same_lock r is c d l m has_l has_m phase =
      let right_l = (good_in r is).made c (statement.Lock l) has_l in
      let right_m = (good_in r is).made d (statement.Lock m) has_m in
      let told_l = lock_made config r h (right_l.front) c (right_l.made) l
      (made_cases config r h (right_l.front) c (right_l.mute) (right_l.made) (right_l.may)) (right_l.has) in
      let told_m = lock_made config r h (right_m.front) d (right_m.made) m
      (made_cases config r h (right_m.front) d (right_m.mute) (right_m.made) (right_m.may)) (right_m.has) in
      let same_round : d ≡ c = told_m.0 ∙ ap (round_at lock_place) (sym phase) ∙ sym (told_l.0) in
      let there = right_l.only (statement.Lock m)
      (subst (λ x. Has (log_in config histories h r) (OwnStatement x (statement.Lock m))) same_round has_m) in
      lock_is l m (is_only (right_l.made) (statement.Lock l) (statement.Lock m) (told_l.1.0) there)

module _ (meaning : Meanings) (config : Config) (ring : Ring) (histories : List History)
    (correct : AreCorrect meaning config ring histories) (h : ℕ)
    (backed : ReadsBacked config histories h) where
  -- where it speaks of the height, what is backed was made in the log there
  pub backed_here : (s : Statement) → height_of s ≡ h → Backed config histories s
      → BackedBy (is_correct histories) (log_in config histories h) s
  backed_here s of_height b = λ is. let made =
      b is in (made.0, subst (λ n. Has (log_in config histories n (signer_of s)) (OwnStatement (made.0) s)) of_height (made.1))

  pub valid_here : (l : Lock) → l.height ≡ h → ValidLock (Backed config histories) config l
      → ValidLock (BackedBy (is_correct histories) (log_in config histories h)) config l
  valid_here l of_height valid =
      let heights = (and_parts (nat_eq (length l.proof) (quorum config) && ascends_within 0 config.replicas (signers_of l.proof))
      (list_all (of_lock l) l.proof) (valid.quorate)).1 in
      record {
        backed = backed_here (statement.Lock l) of_height (valid.backed);
        owner = valid.owner;
        quorate = valid.quorate;
        supporting = valid.supporting;
        reports = λ p has.
            let same = (and_parts (nat_eq p.report.height l.height) (nat_eq p.report.phase l.phase)
            (all_has (of_lock l) l.proof p heights has)).0 in
            backed_here (statement.Report p.report) (eqb-true (p.report.height) (l.height) same ∙ of_height) (valid.reports p has);
      }

  pub conduct : Conduct config (is_correct histories) (log_in config histories h)
  conduct = record {
    reports = λ r is c p has.
        let m = (good_in meaning config ring histories correct h r is).made c (statement.Report p) has in
        let told = report_made config r h (m.front) c (m.made) p (made_cases config r h (m.front) c (m.mute) (m.made) (m.may)) (m.has) in
        (m.front, (m.opened, told));
    one_lock = λ r is c d l m has_l has_m phase. ap (λ (x : Lock). x.value)
        (same_lock meaning config ring histories correct h r is c d l m has_l has_m phase);
    valid = λ r is c s l has same.
        let good = (good_in meaning config ring histories correct h r is).reads c s has in let good_lock = good.locks l same in
        let whole = backed r c s is has in
        let of_height : l.height ≡ h = sym (ap height_of same) ∙ (good_in meaning config ring histories correct h r is).heights c s has in
        valid_here l of_height (record {
          backed = subst (Backed config histories) same (whole.own);
          owner = good_lock.owner;
          quorate = good_lock.quorate;
          supporting = good_lock.supporting;
          reports = λ p in_proof. whole.reports l p same in_proof;
        });
  }

  -- once more than t correct replicas took the lock on v of a correct owner, every valid lock of a later phase is on v
  pub lock_is_final : (k : ℕ) (v : Value) → 1 ≤ k → is_correct histories (owner_of config k) ≡ true
      → 1 + config.faults ≤ number_of config (λ r. is_correct histories r && took (log_in config histories h r) v k)
      → (l : Lock) → l.height ≡ h → ValidLock (Backed config histories) config l → k < l.phase → v ≡ l.value
  lock_is_final k v some owner taken l of_height valid later =
      lock_stays config (is_correct histories) (log_in config histories h) conduct k v some owner taken (l.phase + 1) l (omega arith)
      (valid_here l of_height valid) later

  -- a correct replica whose acknowledgement was read took the lock
  pub acked_took : (r : ℕ) → is_correct histories r ≡ true → (k : ℕ) (v : Value) (x : ℕ) → is_correct histories x ≡ true
      → was_read (log_in config histories h r) (round_at ack_place k)
      (is_ack (λ a. nat_eq a.signer x && nat_eq a.phase k && same_value v a.value)) ≡ true
      → took (log_in config histories h x) v k ≡ true
  acked_took r is k v x also read =
      let test : Ack → Bool = λ a. nat_eq a.signer x && nat_eq a.phase k && same_value v a.value in
      let found = read_has (log_in config histories h r) (round_at ack_place k) (is_ack test) read in
      let s = found.0 in
      let ack = ack_has test (s.statement) (found.1.1) in
      let a = ack.0 in
      let outer = and_parts (nat_eq a.signer x && nat_eq a.phase k) (same_value v a.value) (ack.1.1) in
      let inner = and_parts (nat_eq a.signer x) (nat_eq a.phase k) (outer.0) in
      let signer : a.signer ≡ x = eqb-true (a.signer) x (inner.0) in
      let phase : a.phase ≡ k = eqb-true (a.phase) k (inner.1) in
      let value : v ≡ a.value = same_value-equal v (a.value) (outer.1) in
      let of_height : a.height ≡ h =
      sym (ap height_of (ack.1.0)) ∙ (good_in meaning config ring histories correct h r is).heights (round_at ack_place k) s (found.1.0) in
      let whole = backed r (round_at ack_place k) s is (found.1.0) in
      let made = backed_here (statement.Ack a) of_height (subst (Backed config histories) (ack.1.0) (whole.own))
      (ap (is_correct histories) signer ∙ also) in
      let made_x : Has (log_in config histories h x) (OwnStatement (made.0) (statement.Ack a)) =
      subst (λ y. Has (log_in config histories h y) (OwnStatement (made.0) (statement.Ack a))) signer (made.1) in
      let m = (good_in meaning config ring histories correct h x also).made (made.0) (statement.Ack a) made_x in
      let told = ack_made config x h (m.front) (made.0) (m.made) a (made_cases config x h (m.front) (made.0) (m.mute) (m.made) (m.may))
      (m.has) in
      let took_front = (found_has (λ w. took (m.front) w (a.phase)) (filter_map value_read (m.front)) (a.value) (told.1)).1 in
      let t = took_tells (m.front) (a.value) (a.phase) took_front in
      let in_log = (m.opened.past (round_at lock_place (a.phase)) (t.signed) (t.read)).0 in
      let took_log = has_read (log_in config histories h x) (round_at lock_place (a.phase))
      (is_lock (λ l. nat_eq l.phase a.phase && same_value a.value l.value)) (t.signed) in_log (t.passes) in
      subst (λ y. took (log_in config histories h x) y k ≡ true) (sym value)
      (subst (λ y. took (log_in config histories h x) (a.value) y ≡ true) phase took_log)

  pub settled : (r : ℕ) → is_correct histories r ≡ true → (v : Value) → decided_of config (log_in config histories h r) ≡ Some v
      → Settled config histories h v
  unfolding decided_of
  settled r is v decided =
      let log : List Note = log_in config histories h r in
      let at_phase = decided_tells config (log_in config histories h r) (clock_of (log_in config histories h r) / rounds_in_phase) v
      decided in
      let k = at_phase.0 in
      let some = at_phase.1.0 in
      let acks : ℕ → Bool = λ x. was_read (log_in config histories h r) (round_at ack_place k)
      (is_ack (λ a. nat_eq a.signer x && nat_eq a.phase k && same_value v a.value)) in
      let parts = and_parts (was_made (log_in config histories h r) (round_at lock_place k) (is_lock (λ l. same_value v l.value)))
      (leb (2 * config.faults + 1) (number_of config acks)) (at_phase.1.1) in
      let made = made_has (log_in config histories h r) (round_at lock_place k) (is_lock (λ l. same_value v l.value)) (parts.0) in
      let lock = lock_has (λ l. same_value v l.value) (made.0) (made.1.1) in
      let l = lock.0 in
      let made_l : Has (log_in config histories h r) (OwnStatement (round_at lock_place k) (statement.Lock l)) =
      subst (λ s. Has (log_in config histories h r) (OwnStatement (round_at lock_place k) s)) (lock.1.0) (made.1.0) in
      let m = (good_in meaning config ring histories correct h r is).made (round_at lock_place k) (statement.Lock l) made_l in
      let told = lock_made config r h (m.front) (round_at lock_place k) (m.made) l
      (made_cases config r h (m.front) (round_at lock_place k) (m.mute) (m.made) (m.may)) (m.has) in
      let own = told.1.1.0 in
      let round = told.0 in
      let phase : l.phase ≡ k = omega arith in
      let owner : owner_of config k ≡ r = ap (owner_of config) (sym phase) ∙ told.1.1.1 in
      let many = leb-true (2 * config.faults + 1) (number_of config acks) (parts.1) in
      let split = count_split acks (is_correct histories) 0 (config.replicas) in
      let more = count_from-mono (λ x. is_correct histories x && acks x)
      (λ x. is_correct histories x && took (log_in config histories h x) v k)
      (λ x both. let b = and_parts (is_correct histories x) (acks x) both
      in and_from (is_correct histories x) (took (log_in config histories h x) v k) (b.0) (acked_took r is k v x (b.0) (b.1))) 0
      (config.replicas) in
      let few = correct.enough in
      record {
        phase = k;
        some = some;
        lock = l;
        value = sym (same_value-equal v (l.value) (lock.1.1));
        of_phase = phase;
        of_height = own.of_height;
        owner = ap (is_correct histories) owner ∙ is;
        valid = record {
          backed = λ _. (
            round_at lock_place k,
            subst (λ n. Has (log_in config histories n (l.signer)) (OwnStatement (round_at lock_place k) (statement.Lock l)))
                (sym (own.of_height)) (subst (λ x. Has (log_in config histories h x)
                (OwnStatement (round_at lock_place k) (statement.Lock l))) (sym (own.own)) made_l),
          );
          owner = own.own ∙ sym (told.1.1.1);
          quorate = own.quorate;
          supporting = own.supporting;
          reports = λ p has.
              let in_log = (m.opened.past (round_at report_place (l.phase)) (with_signature p) (own.read p has)).0 in
              (backed r (round_at report_place (l.phase)) (with_signature p) is in_log).own;
        };
        taken = omega (arith, many, split, more, few);
      }

  -- what correct replicas decide at a height is one value
  pub one_decision : (r q : ℕ) → is_correct histories r ≡ true → is_correct histories q ≡ true → (v w : Value)
      → decided_of config (log_in config histories h r) ≡ Some v → decided_of config (log_in config histories h q) ≡ Some w → v ≡ w
  one_decision r q is also v w decided_r decided_q =
      let a = settled r is v decided_r in
      let b = settled q also w decided_q in
      elim (cases_order (a.phase) (b.phase)) [
        | inl same ↦
            sym (a.value) ∙ one_value config (is_correct histories) (log_in config histories h) conduct (a.phase) v (a.some) (a.owner)
            (a.lock) (b.lock)
            (valid_here (a.lock) (a.of_height) (a.valid)) (valid_here (b.lock) (b.of_height) (b.valid)) (a.of_phase)
            (b.of_phase ∙ sym same) ∙ b.value
        | inr other ↦ elim other [
          | inl before ↦ lock_is_final (a.phase) v (a.some) (a.owner) (a.taken) (b.lock) (b.of_height) (b.valid) (let p =
              b.of_phase in omega arith) ∙ b.value
          | inr after ↦ sym (lock_is_final (b.phase) w (b.some) (b.owner) (b.taken) (a.lock) (a.of_height) (a.valid) (let p =
              a.of_phase in omega arith) ∙ a.value)
        ]
      ]
