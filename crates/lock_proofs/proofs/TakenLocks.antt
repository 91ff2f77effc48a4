-- A lock that is taken goes into the table.
use Rattle.std.proofs.Common.{◌≡◌, ℕ, zero, suc, ◌≤◌, Bool, true, false, not, ◌&&◌, inl, inr, List, [], ◌∷◌, ◌++◌, refl, sym, ap, subst}
use Rattle.std.proofs.Common.{◌∙◌, arith}
use Rattle.std.specs.Prelude.{nat_eq, Some}
use Rattle.std.specs.List.{list_any, filter_map}
use Rattle.std.proofs.Math.Bool.{and-true}
use Rattle.std.proofs.Math.Dec.{leb, ltb}
use Rattle.std.proofs.lemmas.Bool.{and_parts, and_from, and_left, and_right, cases_Bool, or_parts, eqb-true, eq-eqb, ne_eqb, leb-true}
use Rattle.std.proofs.lemmas.Bool.{lt-ltb, not_from_false, false_from_ne_true}
use Rattle.std.proofs.lemmas.List.Elements.{filter_map-append}
use Rattle.ledger_model.specs.declared.statement.Lock.{Lock}
use Rattle.ledger_model.specs.declared.statement.Statement.{Statement}
use Rattle.ledger_model.specs.declared.statement.Statement.TheVariants as statement
use Rattle.ledger_model.specs.declared.statement.SignedStatement.{SignedStatement}
use Rattle.ledger_model.specs.Values.{Value, same_value, with_value}
use Rattle.ledger_model.specs.OrderLaws.{same_value-equiv}
use Rattle.ledger_model.specs.Spelling.{are_ascending}
use Rattle.ledger_model.specs.Rounds.{phase_of, place_of, round_at, lock_place, release_place}
use Rattle.ledger_model.specs.Notes.{Note, Proposed, Round, OwnStatement, Read, Retired, Has, clock_of, is_lock, was_read}
use Rattle.ledger_model.specs.Locks.{took, last_taken, phase_taken, releases, holds, held_values}
use Rattle.ledger_model.specs.Lawful.{lock_read, first_some}
use Rattle.lock_proofs.specs.LockTables.{SignedLock, as_statement, with_lock}
use Rattle.ledger_model.proofs.Lists.{any_has, has_cases, has_right, has_with, has_with_other, with_value_has, same_value-refl}
use Rattle.ledger_model.proofs.Lists.{same_value-equal}
use Rattle.ledger_model.proofs.Below.{with_value_ascends, one_list}
use Rattle.ledger_model.proofs.LockSafety.{has_read, lock_has, last_taken-now}
use Rattle.lock_proofs.specs.Laws.{IsTimely, TakesALock}
use Rattle.lock_proofs.proofs.ValueLists.{with_lock-values, with_lock_has}
use Rattle.lock_proofs.proofs.HeldLocks.{Stands, is_lock_on, lock_taken, held_has, has_held, held_ascends, stands_held, stands_from}
use Rattle.lock_proofs.proofs.HeldLocks.{stands_to}
use Rattle.lock_proofs.proofs.GrowingLogs.{with_note, Passes, read_passes, same_clock, lock_more, holds_more}

-- where no lock was read in a round, none on v was
no_lock_on : (v : Value) (s : Statement) → is_lock (λ l. true) s ≡ false → is_lock_on v s ≡ false
no_lock_on v (statement.Lock l) h = cc
no_lock_on v (statement.Report r) h = refl
no_lock_on v (statement.Ack a) h = refl

none_first : (v : Value) (c : ℕ) (log : List Note) → was_read log c (is_lock (λ l. true)) ≡ false → filter_map (lock_read v c) log ≡ []
none_first v c [] h = refl
none_first v c (Proposed w ∷ log) h = none_first v c log h
none_first v c (Round d ∷ log) h = none_first v c log h
none_first v c (OwnStatement d s ∷ log) h = none_first v c log h
none_first v c (Retired f ∷ log) h = none_first v c log h
none_first v c (Read d s ∷ log) h =
    let parts = or_parts (nat_eq d c && is_lock (λ l. true) s.statement) (was_read log c (is_lock (λ l. true))) h in
    let unread : (nat_eq d c && is_lock_on v s.statement) ≡ false = elim (cases_Bool (nat_eq d c)) [
      | inl here ↦ and_right (nat_eq d c) (is_lock_on v s.statement)
          (no_lock_on v s.statement (let g : is_lock (λ l. true) s.statement ≡ false = rw here at (parts.0) in g))
      | inr other ↦ and_left (nat_eq d c) (is_lock_on v s.statement) other
    ] in
    rw unread (none_first v c log (parts.1))

-- nothing that was read up to place 2 of phase k releases a lock of that phase
none_release : (log : List Note) (v : Value) (k : ℕ) → ((c : ℕ) (s : SignedStatement) → Has log (Read c s) → c ≤ round_at lock_place k)
    → 1 ≤ k → list_any (releases v k) log ≡ false
none_release log v k past some =
    false_from_ne_true (list_any (releases v k) log) (λ e. let r = any_has (releases v k) log e in late (r.0) (r.1.0) (r.1.1))
  where
    late : (n : Note) → Has log n → releases v k n ≡ true → ⊥
    late (Read c s) has e =
        let test : Lock → Bool = λ l. not (same_value v l.value) && leb k l.phase && leb l.phase (phase_of c) in
        let parts = and_parts (nat_eq (place_of c) release_place) (is_lock test s.statement) e in
        let place : place_of c ≡ release_place = eqb-true (place_of c) 4 (parts.0) in
        let l = lock_has test s.statement (parts.1) in
        let outer = and_parts (not (same_value v (l.0.value)) && leb k (l.0.phase)) (leb (l.0.phase) (phase_of c)) (l.1.1) in
        let inner = and_parts (not (same_value v (l.0.value))) (leb k (l.0.phase)) (outer.0) in
        let low : k ≤ l.0.phase = leb-true k (l.0.phase) (inner.1) in
        let high : l.0.phase ≤ phase_of c = leb-true (l.0.phase) (phase_of c) (outer.1) in
        let before : c ≤ round_at lock_place k = past c s has in
        omega arith
    late (Proposed w) has e = cc
    late (Round c) has e = cc
    late (OwnStatement c s) has e = cc
    late (Retired f) has e = cc

module _ (log : List Note) (k : ℕ) (s : SignedLock) (timely : IsTimely log) (some : 1 ≤ k) (now : clock_of log ≡ round_at lock_place k)
    (phase : s.lock.phase ≡ k)
    (first : was_read log (clock_of log) (is_lock (λ l. true)) ≡ false) where
  new : Note
  new = Read (clock_of log) (as_statement s)

  after : List Note
  after = with_note log new

  -- ---- another value

  other_passes : (w : Value) → same_value w s.lock.value ≡ false → Passes log new w
  unfolding new
  other_passes w other = read_passes log new w
      (λ p more. and_right (nat_eq (clock_of log) (round_at lock_place p)) (same_value w s.lock.value) other) refl

  other_holds : (w : Value) → same_value w s.lock.value ≡ false → holds after w ≡ holds log w
  unfolding new after
  other_holds w other =
      let differs : nat_eq (place_of (clock_of log)) release_place ≡ false = ne_eqb (place_of (clock_of log)) 4 (λ e. omega arith) in
      let keeps : releases w (phase_taken log w) new ≡ false = rw differs refl in
      holds_more log new w (other_passes w other) ∙ ap (λ b. holds log w && not b) keeps ∙ and-true (holds log w)

  -- ---- its own value

  new_read : (c : ℕ) (u : SignedStatement) → Has after (Read c u) → c ≤ round_at lock_place k
  unfolding new after
  new_read c u has = elim (has_cases log (new ∷ []) (Read c u) has) [
    | inl old ↦ (let past = timely.past c u old in omega arith)
    | inr added ↦ elim added [ inl e ↦ (let same : clock_of log ≡ c = cc in omega arith) | inr none ↦ absurd none ]
  ]

  own_phase : phase_taken after s.lock.value ≡ k
  unfolding new after
  own_phase =
      let v = s.lock.value in
      let has : Has after (Read (round_at lock_place k) (as_statement s)) =
      subst (λ c. Has after (Read c (as_statement s))) now (has_right log (new ∷ []) new (inl refl)) in
      let passes : (nat_eq s.lock.phase k && same_value v v) ≡ true =
      and_from (nat_eq s.lock.phase k) (same_value v v) (eq-eqb s.lock.phase k phase) (same_value-refl v) in
      let taken : took after v k ≡ true =
      has_read after (round_at lock_place k) (is_lock (λ l. nat_eq l.phase k && same_value v l.value)) (as_statement s) has passes in
      let clock = same_clock log new refl in
      let at : phase_of (clock_of after) ≡ k = omega arith in
      ap (last_taken after v) at ∙ last_taken-now after v k some taken

  own_holds : holds after s.lock.value ≡ true
  unfolding holds
  own_holds =
      let v = s.lock.value in
      rw own_phase (and_from (ltb 0 k) (not (list_any (releases v k) after)) (lt-ltb 0 k (omega arith))
      (not_from_false (list_any (releases v k) after) (none_release after v k new_read some)))

  own_lock : lock_taken after s.lock.value ≡ Some (as_statement s)
  unfolding new after
  own_lock =
      let v = s.lock.value in
      let here : (nat_eq (clock_of log) (round_at lock_place k) && same_value v v) ≡ true =
      and_from (nat_eq (clock_of log) (round_at lock_place k)) (same_value v v) (eq-eqb (clock_of log) (round_at lock_place k) now)
      (same_value-refl v) in
      let before : filter_map (lock_read v (round_at lock_place k)) log ≡ [] =
      none_first v (round_at lock_place k) log (subst (λ c. was_read log c (is_lock (λ l. true)) ≡ false) now first) in
      let last : filter_map (lock_read v (round_at lock_place k)) (new ∷ []) ≡ as_statement s ∷ [] = rw here refl in
      ap (λ p. first_some (filter_map (lock_read v (round_at lock_place p)) after)) own_phase
      ∙ ap first_some (filter_map-append (lock_read v (round_at lock_place k)) log (new ∷ [])
      ∙ ap (λ xs. xs ++ filter_map (lock_read v (round_at lock_place k)) (new ∷ [])) before ∙ last)

  -- ---- the table

  new_values : held_values after ≡ with_value s.lock.value (held_values log)
  new_values =
      let v = s.lock.value in
      one_list (held_values after) (with_value v (held_values log)) (held_ascends after)
      (with_value_ascends v (held_values log) (held_ascends log))
      (λ w has. elim (cases_Bool (same_value w v)) [
        | inl same ↦ subst (Has (with_value v (held_values log))) (sym (same_value-equal w v same)) (has_with v (held_values log))
        | inr other ↦ has_with_other v (held_values log) w (has_held log w (sym (other_holds w other) ∙ held_has after w has))
      ])
      (λ w has. has_held after w (elim (cases_Bool (same_value w v)) [
        | inl same ↦ ap (holds after) (same_value-equal w v same) ∙ own_holds
        | inr other ↦ elim (with_value_has v (held_values log) w has) [
          | inl e ↦ ap (holds after) (sym e) ∙ own_holds
          | inr old ↦ other_holds w other ∙ held_has log w old
        ]
      ]))

  new_stands : (table : List SignedLock) → Stands log table → Stands after (with_lock s table)
  unfolding after
  new_stands table stands = record {
    values = with_lock-values s table ∙ ap (with_value s.lock.value) stands.values ∙ sym new_values;
    locks = λ m has. elim (with_lock_has s table (subst (λ vs. are_ascending vs ≡ true) (sym stands.values) (held_ascends log)) m has) [
      | inl e ↦ ap (λ x. lock_taken after x.lock.value) (sym e) ∙ own_lock ∙ ap (λ x. Some (as_statement x)) e
      | inr old ↦
          let w = m.lock.value in
          lock_more log new w (other_passes w (same_value-equiv.symm w s.lock.value ∙ old.1)) (stands_held log table stands m (old.0))
          ∙ stands.locks m (old.0)
    ];
  }

pub takes_a_lock : TakesALock
unfolding new after
takes_a_lock log table k s timely held some now phase first =
    stands_to (with_note log (Read (clock_of log) (as_statement s))) (with_lock s table)
    (new_stands log k s timely some now phase first table (stands_from log table held))
