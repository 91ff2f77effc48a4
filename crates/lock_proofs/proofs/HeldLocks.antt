-- Which locks a log holds, and the table of them.
use Rattle.std.proofs.Common.{◌≡◌, ℕ, zero, suc, ◌<◌, Bool, true, false, not, ◌&&◌, inl, inr, List, [], ◌∷◌, length, cond, refl, sym, ap}
use Rattle.std.proofs.Common.{subst, ◌∙◌, arith}
use Rattle.std.specs.Prelude.{map, filter, nat_eq, Option, Some}
use Rattle.std.specs.List.{list_any, filter_map}
use Rattle.std.proofs.Math.Dec.{leb, ltb}
use Rattle.std.proofs.lemmas.Bool.{and_parts, cases_Bool, eqb-true, ltb-true}
use Rattle.std.proofs.lemmas.List.{map-id}
use Rattle.ledger_model.specs.declared.statement.Statement.{Statement}
use Rattle.ledger_model.specs.declared.statement.SignedStatement.{SignedStatement}
use Rattle.ledger_model.specs.Values.{Value, same_value, ascending}
use Rattle.ledger_model.specs.Spelling.{are_ascending}
use Rattle.ledger_model.specs.Rounds.{phase_of, round_at, lock_place}
use Rattle.ledger_model.specs.Notes.{Note, Proposed, Round, OwnStatement, Read, Retired, Has, clock_of, is_lock, was_read}
use Rattle.ledger_model.specs.Locks.{took, last_taken, phase_taken, releases, holds, held_values, value_read}
use Rattle.ledger_model.specs.Lawful.{lock_read, first_some, held_locks}
use Rattle.lock_proofs.specs.LockTables.{SignedLock, as_statement}
use Rattle.ledger_model.proofs.Lists.{filter_has, has_filter, has_filter_map, has_ascending, same_value-refl, same_value-equal}
use Rattle.ledger_model.proofs.Below.{ascending_ascends}
use Rattle.ledger_model.proofs.LockSafety.{has_read, lock_has, took_tells}
use Rattle.lock_proofs.specs.Laws.{ValuesAreHeld, FullAlike}
use Rattle.lock_proofs.specs.LockFrames.{lock_in}
use Rattle.lock_proofs.specs.Tables.{values_of}
use Rattle.lock_proofs.proofs.TableLaws.{filter-ascends}
use Rattle.lock_proofs.proofs.ValueLists.{has_value}

-- ---- the lock on a value that was taken last

abbrev pub lock_taken : List Note → Value → Option SignedStatement
lock_taken log v = first_some (filter_map (lock_read v (round_at lock_place (phase_taken log v))) log)

-- what comes first is a lock on v that was read in round d
pub record IsLockRead (log : List Note) (d : ℕ) (v : Value) (first : Option SignedStatement) : Type 0 where
  pub lock : SignedLock
  pub is : first ≡ Some (as_statement lock)
  pub value : v ≡ lock.lock.value
  pub read : Has log (Read d (as_statement lock))

further : {log : List Note} {d : ℕ} {v : Value} {first : Option SignedStatement} (n : Note) → IsLockRead log d v first
    → IsLockRead (n ∷ log) d v first
further n r = record { lock = r.lock; is = r.is; value = r.value; read = inr r.read }

abbrev pub is_lock_on : Value → Statement → Bool
is_lock_on v = is_lock (λ l. same_value v l.value)

signed : Statement → List ℕ → SignedStatement
signed s signature = record { statement = s; signature = signature }

first_lock : (v : Value) (d : ℕ) (log : List Note) → was_read log d (is_lock_on v) ≡ true
    → IsLockRead log d v (first_some (filter_map (lock_read v d) log))
unfolding signed
first_lock v d [] h = cc
first_lock v d (Proposed w ∷ log) h = further (Proposed w) (first_lock v d log h)
first_lock v d (Round c ∷ log) h = further (Round c) (first_lock v d log h)
first_lock v d (OwnStatement c s ∷ log) h = further (OwnStatement c s) (first_lock v d log h)
first_lock v d (Retired f ∷ log) h = further (Retired f) (first_lock v d log h)
first_lock v d (Read c s ∷ log) h =
    elim (cases_Bool (nat_eq c d && is_lock_on v s.statement)) [
      | inl here ↦
          let parts = and_parts (nat_eq c d) (is_lock_on v s.statement) here in
          let l = lock_has (λ l. same_value v l.value) s.statement (parts.1) in
          let lock : SignedLock = record { lock = l.0; signature = s.signature } in
          let same : s ≡ as_statement lock = ap (λ x. signed x s.signature) (l.1.0) in
          let round : c ≡ d = eqb-true c d (parts.0) in
          record {
            lock = lock;
            is = rw here (ap Some same);
            value = same_value-equal v (l.0.value) (l.1.1);
            read = inl (ap (λ x. Read x s) round ∙ ap (Read d) same);
          }
      | inr other ↦ rw other (further (Read c s) (first_lock v d log (let g : was_read log d (is_lock_on v) ≡ true = rw other at h in g)))
    ]

last_taken-took : (log : List Note) (v : Value) (n : ℕ) → 0 < last_taken log v n → took log v (last_taken log v n) ≡ true
last_taken-took log v zero some = absurd (omega arith)
last_taken-took log v (suc n) some =
    elim (cases_Bool (took log v (suc n))) [
      | inl now ↦ rw now now
      | inr before ↦ rw before (last_taken-took log v n (let g : 0 < last_taken log v n = rw before at some in g))
    ]

-- ---- the values that are held

pub holds_some : (log : List Note) (v : Value) → holds log v ≡ true → 0 < phase_taken log v
unfolding holds
holds_some log v h = ltb-true 0 (phase_taken log v)
    ((and_parts (ltb 0 (phase_taken log v)) (not (list_any (releases v (phase_taken log v)) log)) h).0)

holds_took : (log : List Note) (v : Value) → holds log v ≡ true → took log v (phase_taken log v) ≡ true
holds_took log v h = last_taken-took log v (phase_of (clock_of log)) (holds_some log v h)

pub held_lock : (log : List Note) (v : Value) → holds log v ≡ true
    → IsLockRead log (round_at lock_place (phase_taken log v)) v (lock_taken log v)
held_lock log v h =
    let p = phase_taken log v in
    let t = took_tells log v p (holds_took log v h) in
    let passes : is_lock_on v t.signed.statement ≡ true =
    ap (is_lock_on v) t.is ∙ subst (λ w. same_value v w ≡ true) t.value (same_value-refl v) in
    first_lock v (round_at lock_place p) log (has_read log (round_at lock_place p) (is_lock_on v) t.signed t.read passes)

pub held_has : (log : List Note) (v : Value) → Has (held_values log) v → holds log v ≡ true
unfolding held_values
held_has log v h = (filter_has (holds log) (ascending (filter_map value_read log)) v h).1

pub has_held : (log : List Note) (v : Value) → holds log v ≡ true → Has (held_values log) v
unfolding held_values
has_held log v h =
    let l = held_lock log v h in
    has_filter (holds log) (ascending (filter_map value_read log)) v
    (has_ascending (filter_map value_read log) v
    (has_filter_map value_read log (Read (round_at lock_place (phase_taken log v)) (as_statement l.lock)) v l.read
    (ap Some (sym l.value))))
    h

pub held_ascends : (log : List Note) → are_ascending (held_values log) ≡ true
unfolding held_values
held_ascends log =
    let vs = ascending (filter_map value_read log) in
    let all : are_ascending (map (λ v. v) vs) ≡ true = rw map-id (ascending_ascends (filter_map value_read log)) in
    rw map-id at (filter-ascends (λ v. v) (holds log) vs all)

-- ---- the table

-- the locks of the table are those that are held, in order
pub record Stands (log : List Note) (table : List SignedLock) : Type 0 where
  pub values : values_of table ≡ held_values log
  pub locks : (m : SignedLock) → Has table m → lock_taken log m.lock.value ≡ Some (as_statement m)

pub stands_held : (log : List Note) (table : List SignedLock) → Stands log table → (m : SignedLock) → Has table m
    → holds log m.lock.value ≡ true
stands_held log table s m h = held_has log m.lock.value (subst (λ vs. Has vs m.lock.value) s.values (has_value table m h))

record IsSplit (f : Value → Option SignedStatement) (vs : List Value) (table : List SignedLock) : Type 0 where
  values : values_of table ≡ vs
  locks : (m : SignedLock) → Has table m → f m.lock.value ≡ Some (as_statement m)

split_table : (f : Value → Option SignedStatement) (vs : List Value) (table : List SignedLock)
    → ((v : Value) → Has vs v → (m : SignedLock) × ((f v ≡ Some (as_statement m)) × (v ≡ m.lock.value)))
    → map as_statement table ≡ filter_map f vs → IsSplit f vs table
split_table f [] [] known e = record { values = refl; locks = λ m h. absurd h }
split_table f [] (m ∷ ms) known e = cc
split_table f (v ∷ vs) [] known e =
    let k = known v (inl refl) in
    let g = rw k.1.0 at e in
    cc
split_table f (v ∷ vs) (m ∷ ms) known e =
    let k = known v (inl refl) in
    let g : as_statement m ∷ map as_statement ms ≡ as_statement (k.0) ∷ filter_map f vs = rw k.1.0 at e in
    let head : as_statement m ≡ as_statement (k.0) = cc in
    let tail : map as_statement ms ≡ filter_map f vs = cc in
    let first : m ≡ k.0 = ap lock_in head in
    let value : m.lock.value ≡ v = ap (λ x. x.lock.value) first ∙ sym (k.1.1) in
    let rest = split_table f vs ms (λ w h. known w (inr h)) tail in
    record {
      values = ap (λ x. x ∷ values_of ms) value ∙ ap (λ xs. v ∷ xs) rest.values;
      locks = λ n h. elim h [
        | inl here ↦ ap (λ x. f x.lock.value) (sym here) ∙ ap f value ∙ k.1.0 ∙ ap Some (sym head) ∙ ap (λ x. Some (as_statement x)) here
        | inr there ↦ rest.locks n there
      ];
    }

pub stands_from : (log : List Note) (table : List SignedLock) → map as_statement table ≡ held_locks log → Stands log table
unfolding held_locks
stands_from log table e =
    let split = split_table (lock_taken log) (held_values log) table
    (λ v h. let l = held_lock log v (held_has log v h) in (l.lock, (l.is, l.value))) e in
    record { values = split.values; locks = split.locks }

join_table : (f : Value → Option SignedStatement) (table : List SignedLock)
    → ((m : SignedLock) → Has table m → f m.lock.value ≡ Some (as_statement m)) → filter_map f (values_of table) ≡ map as_statement table
join_table f [] known = refl
join_table f (m ∷ ms) known = rw (known m (inl refl)) (ap (λ xs. as_statement m ∷ xs) (join_table f ms (λ n h. known n (inr h))))

pub stands_to : (log : List Note) (table : List SignedLock) → Stands log table → held_locks log ≡ map as_statement table
unfolding held_locks
stands_to log table s = ap (filter_map (lock_taken log)) (sym s.values) ∙ join_table (lock_taken log) table s.locks

pub values_are_held : ValuesAreHeld
values_are_held log table e = (stands_from log table e).values

others_alike : (v : Value) (table : List SignedLock)
    → length (filter (λ (m : SignedLock). not (same_value v m.lock.value)) table)
    ≡ length (filter (λ w. not (same_value v w)) (values_of table))
others_alike v [] = refl
others_alike v (m ∷ ms) =
    elim (not (same_value v m.lock.value))
    as (λ b. length (cond b (m ∷ filter (λ (x : SignedLock). not (same_value v x.lock.value)) ms)
    (filter (λ (x : SignedLock). not (same_value v x.lock.value)) ms))
    ≡ length (cond b (m.lock.value ∷ filter (λ w. not (same_value v w)) (values_of ms))
    (filter (λ w. not (same_value v w)) (values_of ms)))) [
      | true ↦ ap suc (others_alike v ms)
      | false ↦ others_alike v ms
    ]

pub full_alike : FullAlike
full_alike log table e v =
    ap (leb 4) (others_alike v table ∙ ap (λ vs. length (filter (λ w. not (same_value v w)) vs)) ((stands_from log table e).values))
