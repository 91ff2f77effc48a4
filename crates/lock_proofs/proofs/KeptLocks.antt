-- A note that reads no lock leaves the held locks unchanged.
use Rattle.std.proofs.Common.{◌≡◌, ℕ, Bool, false, not, ◌&&◌, inl, inr, List, [], ◌∷◌, refl, sym, ap, ◌∙◌}
use Rattle.std.specs.Prelude.{nat_eq, Option, None}
use Rattle.std.specs.List.{filter_map, cons_option}
use Rattle.std.proofs.Math.Bool.{and-true}
use Rattle.std.proofs.lemmas.Bool.{and_right}
use Rattle.ledger_model.specs.declared.statement.Lock.{Lock}
use Rattle.ledger_model.specs.declared.statement.Statement.{Statement}
use Rattle.ledger_model.specs.declared.statement.Statement.TheVariants as statement
use Rattle.ledger_model.specs.Values.{Value, same_value}
use Rattle.ledger_model.specs.Rounds.{place_of, round_at, lock_place, release_place}
use Rattle.ledger_model.specs.Notes.{Note, Proposed, Round, OwnStatement, Read, Retired, Has, is_lock}
use Rattle.ledger_model.specs.Locks.{phase_taken, releases, holds, held_values, value_read, lock_value}
use Rattle.ledger_model.specs.Lawful.{held_locks}
use Rattle.lock_proofs.specs.Laws.{IsTimely, KeepsLocks}
use Rattle.ledger_model.proofs.Below.{one_list}
use Rattle.lock_proofs.proofs.HeldLocks.{is_lock_on, lock_taken, held_has, has_held, held_ascends}
use Rattle.lock_proofs.proofs.GrowingLogs.{with_note, Passes, read_passes, round_passes, lock_more, holds_more}

is_no_lock : (test : Lock → Bool) (s : Statement) → lock_value s ≡ None → is_lock test s ≡ false
is_no_lock test (statement.Lock l) e = cc
is_no_lock test (statement.Report r) e = refl
is_no_lock test (statement.Ack a) e = refl

any_passes : (log : List Note) (n : Note) (v : Value) → IsTimely log → value_read n ≡ None → Passes log n v
any_passes log (Read c s) v timely e =
    read_passes log (Read c s) v (λ p some. and_right (nat_eq c (round_at lock_place p)) (is_lock_on v s.statement)
    (is_no_lock (λ l. same_value v l.value) s.statement e)) refl
any_passes log (Proposed w) v timely e = read_passes log (Proposed w) v (λ p some. refl) refl
any_passes log (OwnStatement c s) v timely e = read_passes log (OwnStatement c s) v (λ p some. refl) refl
any_passes log (Retired f) v timely e = read_passes log (Retired f) v (λ p some. refl) refl
any_passes log (Round c) v timely e = round_passes log c v timely

releases_none : (n : Note) (v : Value) (p : ℕ) → value_read n ≡ None → releases v p n ≡ false
releases_none (Read c s) v p e = and_right (nat_eq (place_of c) release_place) _ (is_no_lock _ s.statement e)
releases_none (Proposed w) v p e = refl
releases_none (OwnStatement c s) v p e = refl
releases_none (Retired f) v p e = refl
releases_none (Round c) v p e = refl

filter_map_same : {X Y : Type 0} (f g : X → Option Y) (xs : List X) → ((x : X) → Has xs x → f x ≡ g x) → filter_map f xs ≡ filter_map g xs
filter_map_same f g [] same = refl
filter_map_same f g (x ∷ xs) same =
    rw (same x (inl refl)) (ap (λ ys. cons_option (g x) ys) (filter_map_same f g xs (λ y h. same y (inr h))))

module _ (log : List Note) (n : Note) (timely : IsTimely log) (none : value_read n ≡ None) where
  same_holds : (v : Value) → holds (with_note log n) v ≡ holds log v
  same_holds v =
      holds_more log n v (any_passes log n v timely none) ∙ ap (λ b. holds log v && not b) (releases_none n v (phase_taken log v) none)
      ∙ and-true (holds log v)

  same_values : held_values (with_note log n) ≡ held_values log
  same_values =
      one_list (held_values (with_note log n)) (held_values log) (held_ascends (with_note log n)) (held_ascends log)
      (λ v has. has_held log v (sym (same_holds v) ∙ held_has (with_note log n) v has))
      (λ v has. has_held (with_note log n) v (same_holds v ∙ held_has log v has))

pub keeps_locks : KeepsLocks
unfolding held_locks
keeps_locks log n timely none =
    ap (filter_map (lock_taken (with_note log n))) (same_values log n timely none)
    ∙ filter_map_same (lock_taken (with_note log n)) (lock_taken log) (held_values log)
    (λ v has. lock_more log n v (any_passes log n v timely none) (held_has log v has))
