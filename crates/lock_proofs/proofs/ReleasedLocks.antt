-- Locks that are released leave the table.
use Rattle.std.proofs.Common.{◌≡◌, ℕ, ◌<◌, Bool, true, not, ◌&&◌, List, refl, sym, ap, subst, ◌∙◌, arith}
use Rattle.std.specs.Prelude.{filter, nat_eq, Some}
use Rattle.std.proofs.lemmas.Bool.{and_parts, and_left, eq-eqb, ne_eqb}
use Rattle.ledger_model.specs.declared.statement.Lock.{Lock}
use Rattle.ledger_model.specs.Values.{Value, same_value}
use Rattle.ledger_model.specs.Spelling.{are_ascending}
use Rattle.ledger_model.specs.Rounds.{phase_of, place_of, round_at, lock_place, release_place}
use Rattle.ledger_model.specs.Notes.{Note, Read, Has, clock_of}
use Rattle.ledger_model.specs.Locks.{phase_taken, releases, holds, held_values}
use Rattle.lock_proofs.specs.LockTables.{SignedLock, as_statement, ends_hold, released}
use Rattle.ledger_model.proofs.Lists.{filter_has, has_filter, has_map}
use Rattle.lock_proofs.specs.Laws.{IsTimely, ReleasesLocks}
use Rattle.lock_proofs.specs.LockFrames.{lock_in}
use Rattle.lock_proofs.specs.Tables.{values_of}
use Rattle.lock_proofs.proofs.TableLaws.{filter-ascends}
use Rattle.ledger_model.proofs.Below.{one_list}
use Rattle.lock_proofs.proofs.ValueLists.{has_value}
use Rattle.lock_proofs.proofs.HeldLocks.{Stands, held_lock, held_has, has_held, held_ascends, holds_some, stands_held, stands_from}
use Rattle.lock_proofs.proofs.HeldLocks.{stands_to}
use Rattle.lock_proofs.proofs.GrowingLogs.{with_note, Passes, read_passes, lock_more, holds_more}

-- a lock of the table was read at place 2 of its phase, the last in which one on its value was taken
table_phase : (log : List Note) (table : List SignedLock) → IsTimely log → Stands log table → (m : SignedLock) → Has table m
    → m.lock.phase ≡ phase_taken log m.lock.value
table_phase log table timely stands m has =
    let w = m.lock.value in
    let p = phase_taken log w in
    let h = stands_held log table stands m has in
    let some : 0 < p = holds_some log w h in
    let l = held_lock log w h in
    let both : Some (as_statement m) ≡ Some (as_statement l.lock) = sym (stands.locks m has) ∙ l.is in
    let frames : as_statement m ≡ as_statement l.lock = cc in
    let same : m ≡ l.lock = ap lock_in frames in
    let place : place_of (round_at lock_place p) ≡ lock_place = omega arith in
    let phase : l.lock.lock.phase ≡ phase_of (round_at lock_place p) = timely.of_phase (round_at lock_place p) l.lock l.read place in
    let is_p : phase_of (round_at lock_place p) ≡ p = omega arith in
    ap (λ x. x.lock.phase) same ∙ phase ∙ is_p

-- at place 4 the log and the table have one test
ends_same : (c k p : ℕ) (s : SignedLock) (held : Lock) → place_of c ≡ release_place → phase_of c ≡ k → held.phase ≡ p
    → releases held.value p (Read c (as_statement s)) ≡ ends_hold k s.lock held
ends_same c k p s held place phase taken = rw (eq-eqb (place_of c) release_place place, phase, taken) refl

module _ (log : List Note) (k : ℕ) (s : SignedLock) (timely : IsTimely log) (now : clock_of log ≡ round_at release_place k) where
  abbrev new : Note
  new = Read (clock_of log) (as_statement s)

  abbrev after : List Note
  after = with_note log new

  any_passes : (w : Value) → Passes log new w
  any_passes w = read_passes log new w
      (λ p more. and_left (nat_eq (clock_of log) (round_at lock_place p)) (same_value w s.lock.value)
      (ne_eqb (clock_of log) (round_at lock_place p) (λ e. omega arith))) refl

  module _ (table : List SignedLock) (stands : Stands log table) where
    abbrev stays : SignedLock → Bool
    stays m = not (ends_hold k s.lock m.lock)

    -- the log releases just what the table does
    released_holds : (m : SignedLock) → Has table m → holds after m.lock.value ≡ stays m
    released_holds m has =
        let w = m.lock.value in
        let p = phase_taken log w in
        let same : releases w p new ≡ ends_hold k s.lock m.lock =
        ends_same (clock_of log) k p s m.lock (omega arith) (omega arith) (table_phase log table timely stands m has) in
        holds_more log new w (any_passes w) ∙ ap (λ b. b && not (releases w p new)) (stands_held log table stands m has) ∙ ap not same

    kept_values : values_of (filter stays table) ≡ held_values after
    kept_values =
        let ascends : are_ascending (values_of table) ≡ true =
        subst (λ vs. are_ascending vs ≡ true) (sym stands.values) (held_ascends log) in
        one_list (values_of (filter stays table)) (held_values after) (filter-ascends (λ m. m.lock.value) stays table ascends)
        (held_ascends after)
        (λ w has.
        let m = has_map (λ (x : SignedLock). x.lock.value) (filter stays table) w has in
        let kept = filter_has stays table (m.0) (m.1.0) in
        has_held after w (ap (holds after) (sym (m.1.1)) ∙ released_holds (m.0) (kept.0) ∙ kept.1))
        (λ w has.
        let held = held_has after w has in
        let before : holds log w ≡ true =
        (and_parts (holds log w) (not (releases w (phase_taken log w) new)) (sym (holds_more log new w (any_passes w)) ∙ held)).0 in
        let m = has_map (λ (x : SignedLock). x.lock.value) table w (subst (λ vs. Has vs w) (sym stands.values) (has_held log w before)) in
        let stays_in : stays (m.0) ≡ true = sym (released_holds (m.0) (m.1.0)) ∙ ap (holds after) (m.1.1) ∙ held in
        subst (Has (values_of (filter stays table))) (m.1.1)
        (has_value (filter stays table) (m.0) (has_filter stays table (m.0) (m.1.0) stays_in)))

    kept_stands : Stands after (filter stays table)
    kept_stands = record {
      values = kept_values;
      locks = λ m has.
          let kept = filter_has stays table m has in
          lock_more log new m.lock.value (any_passes m.lock.value) (stands_held log table stands m (kept.0)) ∙ stands.locks m (kept.0);
    }

pub releases_locks : ReleasesLocks
releases_locks log table k s timely held now =
    stands_to (with_note log (Read (clock_of log) (as_statement s))) (released k s.lock table)
    (kept_stands log k s timely now table (stands_from log table held))
