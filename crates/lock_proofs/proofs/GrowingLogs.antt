-- The effect of one more note on the locks that a log holds.
use Rattle.std.proofs.Common.{◌≡◌, ℕ, zero, suc, ◌+◌, ◌≤◌, Bool, true, false, not, ◌&&◌, ◌||◌, cond, inl, inr, List, [], ◌∷◌, ◌++◌, refl}
use Rattle.std.proofs.Common.{ap, ◌∙◌, arith}
use Rattle.std.specs.Prelude.{nat_eq, Option, None}
use Rattle.std.specs.List.{list_any, filter_map, cons_option}
use Rattle.std.proofs.Math.Dec.{ltb}
use Rattle.std.proofs.lemmas.Bool.{and_parts, and_from, both_ways, cases_eq, false_from_ne_true}
use Rattle.std.proofs.Math.Bool.{or-false}
use Rattle.std.proofs.lemmas.List.Folds.{list_any-append}
use Rattle.ledger_model.specs.declared.statement.Statement.{Statement}
use Rattle.ledger_model.specs.declared.statement.Statement.TheVariants as statement
use Rattle.ledger_model.specs.Values.{Value, same_value}
use Rattle.ledger_model.specs.Rounds.{phase_of, round_at, lock_place}
use Rattle.ledger_model.specs.Notes.{Note, Proposed, Round, OwnStatement, Read, Retired, clock_of, is_lock, reads_in}
use Rattle.ledger_model.specs.Locks.{took, last_taken, phase_taken, releases, holds}
use Rattle.ledger_model.specs.Lawful.{lock_read, first_some}
use Rattle.ledger_model.proofs.LockSafety.{read_has}
use Rattle.ledger_model.proofs.Goodness.{clock_of-append}
use Rattle.lock_proofs.specs.Laws.{IsTimely}
use Rattle.lock_proofs.proofs.HeldLocks.{is_lock_on, lock_taken, holds_some}

abbrev pub with_note : List Note → Note → List Note
with_note log n = log ++ n ∷ []

any_more : {X : Type 0} (p : X → Bool) (xs : List X) (x : X) → list_any p (xs ++ x ∷ []) ≡ (list_any p xs || p x)
any_more p xs x = list_any-append p xs (x ∷ []) ∙ ap (λ b. list_any p xs || b) (or-false (p x))

filter_map_more : {X Y : Type 0} (f : X → Option Y) (xs : List X) (x : X) → f x ≡ None → filter_map f (xs ++ x ∷ []) ≡ filter_map f xs
filter_map_more f [] x e = rw e refl
filter_map_more f (y ∷ ys) x e = ap (λ zs. cons_option (f y) zs) (filter_map_more f ys x e)

-- ---- notes that take no lock on a value

-- the note reads no lock on v in a round at place 2
abbrev pub TakesNone : Note → Value → Type 0
TakesNone n v = (p : ℕ) → 1 ≤ p → reads_in (round_at lock_place p) (is_lock_on v) n ≡ false

abbrev of_phase : ℕ → Value → Statement → Bool
of_phase p v = is_lock (λ l. nat_eq l.phase p && same_value v l.value)

of_phase_on : (p : ℕ) (v : Value) (s : Statement) → of_phase p v s ≡ true → is_lock_on v s ≡ true
of_phase_on p v (statement.Lock l) h = (and_parts (nat_eq l.phase p) (same_value v l.value) h).1
of_phase_on p v (statement.Report r) h = cc
of_phase_on p v (statement.Ack a) h = cc

reads_none : (n : Note) (v : Value) (d p : ℕ) → reads_in d (is_lock_on v) n ≡ false → reads_in d (of_phase p v) n ≡ false
reads_none (Read c s) v d p h = false_from_ne_true (nat_eq c d && of_phase p v s.statement) (λ e.
    let parts = and_parts (nat_eq c d) (of_phase p v s.statement) e in
    both_ways (nat_eq c d && is_lock_on v s.statement) h
    (and_from (nat_eq c d) (is_lock_on v s.statement) (parts.0) (of_phase_on p v s.statement (parts.1))))
reads_none (Proposed w) v d p h = refl
reads_none (Round c) v d p h = refl
reads_none (OwnStatement c s) v d p h = refl
reads_none (Retired f) v d p h = refl

lock_unread : (n : Note) (v : Value) (d : ℕ) → reads_in d (is_lock_on v) n ≡ false → lock_read v d n ≡ None
lock_unread (Read c s) v d h = rw h refl
lock_unread (Proposed w) v d h = refl
lock_unread (Round c) v d h = refl
lock_unread (OwnStatement c s) v d h = refl
lock_unread (Retired f) v d h = refl

last_same : (log more : List Note) (v : Value) (n : ℕ) → ((p : ℕ) → 1 ≤ p → took more v p ≡ took log v p)
    → last_taken more v n ≡ last_taken log v n
last_same log more v zero same = refl
last_same log more v (suc n) same =
    rw (same (suc n) (omega arith)) (ap (λ r. cond (took log v (suc n)) (suc n) r) (last_same log more v n same))

-- the note leaves the phase in which a lock on v was taken last
pub record Passes (log : List Note) (n : Note) (v : Value) : Type 0 where
  pub none : TakesNone n v
  pub phase : phase_taken (with_note log n) v ≡ phase_taken log v

passes : (log : List Note) (n : Note) (v : Value) → TakesNone n v
    → last_taken log v (phase_of (clock_of (with_note log n))) ≡ phase_taken log v → Passes log n v
passes log n v none clock = record {
  none = none;
  phase = last_same log (with_note log n) v (phase_of (clock_of (with_note log n)))
      (λ p some. any_more (reads_in (round_at lock_place p) (of_phase p v)) log n
      ∙ or_none (took log v p) (reads_in (round_at lock_place p) (of_phase p v) n)
      (reads_none n v (round_at lock_place p) p (none p some)))
      ∙ clock;
}
  where
    or_none : (a b : Bool) → b ≡ false → (a || b) ≡ a
    or_none true b e = refl
    or_none false b e = e

pub same_clock : (log : List Note) (n : Note) → clock_of (n ∷ []) ≡ 0 → clock_of (with_note log n) ≡ clock_of log
same_clock log n e = let sum = clock_of-append log (n ∷ []) in omega arith

pub read_passes : (log : List Note) (n : Note) (v : Value) → TakesNone n v → clock_of (n ∷ []) ≡ 0 → Passes log n v
read_passes log n v none e = passes log n v none (ap (λ c. last_taken log v (phase_of c)) (same_clock log n e))

-- a round that opens begins with nothing taken
pub round_passes : (log : List Note) (c : ℕ) (v : Value) → IsTimely log → Passes log (Round c) v
round_passes log c v timely = passes log (Round c) v (λ p some. refl) last
  where
    last : last_taken log v (phase_of (clock_of (with_note log (Round c)))) ≡ phase_taken log v
    last =
        let next : clock_of (with_note log (Round c)) ≡ clock_of log + 1 = let sum = clock_of-append log (Round c ∷ []) in omega arith in
        let q = phase_of (clock_of log) in
        ap (λ x. last_taken log v (phase_of x)) next ∙ elim (cases_eq (phase_of (clock_of log + 1)) q) [
          | inl same ↦ ap (last_taken log v) same
          | inr other ↦
              let is_next : phase_of (clock_of log + 1) ≡ suc q = omega arith in
              let unread : took log v (suc q) ≡ false = false_from_ne_true (took log v (suc q)) (λ e.
              let r = read_has log (round_at lock_place (suc q)) (of_phase (suc q) v) e in
              let past = timely.past (round_at lock_place (suc q)) (r.0) (r.1.0) in
              absurd (omega arith)) in
              ap (last_taken log v) is_next ∙ rw unread refl
        ]

-- ---- what is held afterwards

pub lock_more : (log : List Note) (n : Note) (v : Value) → Passes log n v → holds log v ≡ true
    → lock_taken (with_note log n) v ≡ lock_taken log v
lock_more log n v p h =
    let d = round_at lock_place (phase_taken log v) in
    let unread = lock_unread n v d (p.none (phase_taken log v) (holds_some log v h)) in
    ap (λ k. first_some (filter_map (lock_read v (round_at lock_place k)) (with_note log n))) p.phase
    ∙ ap first_some (filter_map_more (lock_read v d) log n unread)

and_not_or : (a b c : Bool) → (a && not (b || c)) ≡ ((a && not b) && not c)
and_not_or true true c = refl
and_not_or true false c = refl
and_not_or false b c = refl

pub holds_more : (log : List Note) (n : Note) (v : Value) → Passes log n v
    → holds (with_note log n) v ≡ (holds log v && not (releases v (phase_taken log v) n))
unfolding holds
holds_more log n v p =
    let k = phase_taken log v in
    ap (λ x. ltb 0 x && not (list_any (releases v x) (with_note log n))) p.phase
    ∙ ap (λ b. ltb 0 k && not b) (any_more (releases v k) log n)
    ∙ and_not_or (ltb 0 k) (list_any (releases v k) log) (releases v k n)
