-- An instance that was just opened matches a log of rounds and its proposal.
use Rattle.std.proofs.Common.{◌≡◌, ℕ, zero, suc, ◌+◌, ◌/◌, ◌≤◌, Bool, true, false, not, ◌&&◌, ◌||◌, cond, List, [], ◌∷◌, ◌++◌, refl, sym}
use Rattle.std.proofs.Common.{ap, ◌∙◌, arith}
use Rattle.std.specs.Prelude.{nat_eq, nat_lt, Option, Some, None}
use Rattle.std.specs.List.{filter_map, flat_map, range_with_len}
use Rattle.std.proofs.lemmas.Bool.{false_from_ne_true}
use Rattle.std.proofs.lemmas.Bool.Decides.{nat_tests}
use Rattle.ledger_model.specs.declared.config.Config.{Config}
use Rattle.ledger_model.specs.declared.statement.SignedStatement.{SignedStatement}
use Rattle.ledger_model.specs.declared.statement.Statement.{Statement}
use Rattle.ledger_model.specs.Values.{Value}
use Rattle.ledger_model.specs.Rounds.{round_at, count_from, lock_place, report_place, rounds_in_phase}
use Rattle.ledger_model.specs.Notes.{Note, Proposed, Round, OwnStatement, Read, Has, clock_of, initial_of, open_of, was_read, was_made}
use Rattle.ledger_model.specs.Locks.{value_read, value_made, held_values, decided_by, decided_of}
use Rattle.ledger_model.specs.Lawful.{held_locks}
use Rattle.ledger_model.specs.Proper.{is_split, are_all_named, is_all_proper, cut, proper_values}
use Rattle.proper_sets.specs.Propriety.{only_own}
use Rattle.lock_proofs.specs.LockTables.{as_statement}
use Rattle.proper_sets.specs.Laws.{proper_at}
use Rattle.instance.specs.Matching.{is_round, only_rounds}
use Rattle.instance.specs.Laws.{Opens}
use Rattle.ledger_model.proofs.Lists.{all_has, has_cases}
use Rattle.ledger_model.proofs.LockSafety.{read_has, made_has}
use Rattle.ledger_model.proofs.Staying.{any_append}
use Rattle.ledger_model.proofs.Floors.{is_retired-append}
use Rattle.instance.proofs.OneNote.{no_reports, no_acks, no_lock}
use Rattle.tally.proofs.Puts.{none_there}
use Rattle.instance.proofs.OpenLogs.{only_rounds_kept, open_from}
use Rattle.instance.proofs.ProperStays.{proper_at-stays}

-- ---- nothing was read or made

module _ (own : Value) (log : List Note) (only : only_rounds log ≡ true) where
  abbrev opened : List Note
  opened = log ++ Proposed own ∷ []

  -- each note opened a round, or is the last
  none_else : (n : Note) → is_round n ≡ false → (Proposed own ≡ n → ⊥) → Has opened n → ⊥
  none_else n other last has = grind (arith, has_cases, all_has is_round)

  none_read : (c : ℕ) (s : SignedStatement) → Has opened (Read c s) → ⊥
  none_read c s has = none_else (Read c s) refl (λ e. cc) has

  none_made : (c : ℕ) (s : Statement) → Has opened (OwnStatement c s) → ⊥
  none_made c s has = none_else (OwnStatement c s) refl (λ e. cc) has

  unread : (c : ℕ) (test : Statement → Bool) → was_read opened c test ≡ false
  unread c test = false_from_ne_true (was_read opened c test) (λ e. let r = read_has opened c test e in none_read c r.0 r.1.0)

  unmade : (c : ℕ) (test : Statement → Bool) → was_made opened c test ≡ false
  unmade c test = false_from_ne_true (was_made opened c test) (λ e. let r = made_has opened c test e in none_made c r.0 r.1.0)

no_values : (own : Value) (f : Note → Option Value) → ((c : ℕ) → f (Round c) ≡ None) → f (Proposed own) ≡ None → (log : List Note)
    → only_rounds log ≡ true → filter_map f (log ++ Proposed own ∷ []) ≡ []
no_values own f round proposed [] h = rw proposed refl
no_values own f round proposed (n ∷ log) h = let rest = no_values own f round proposed log in grind arith

begins : (own : Value) (log : List Note) → only_rounds log ≡ true → initial_of (log ++ Proposed own ∷ []) ≡ Some own
begins own [] h = refl
begins own (n ∷ log) h = let rest = begins own log in grind arith

begins_open : (own : Value) (log : List Note) → only_rounds log ≡ true → open_of (log ++ Proposed own ∷ []) ≡ Some own
begins_open own log h =
    open_from (log ++ Proposed own ∷ []) own (is_retired-append log (Proposed own ∷ []) ∙ ap (λ b. b || false) (only_rounds_kept log h))
    (begins own log h)

-- ---- nothing is held or decided

module _ (own : Value) (log : List Note) (only : only_rounds log ≡ true) where
  none_held : held_locks (opened own log only) ≡ []
  unfolding held_locks held_values
  none_held = rw (no_values own value_read (λ c. refl) refl log only) refl

  decided_none : (config : Config) (k : ℕ) → decided_by config (opened own log only) k ≡ None
  decided_none config zero = refl
  decided_none config (suc k) = rw (decided_none config k) (rw (no_values own value_made (λ c. refl) refl log only) refl)

  none_decided : (config : Config) → decided_of config (opened own log only) ≡ None
  unfolding decided_of
  none_decided config = decided_none config (clock_of (opened own log only) / rounds_in_phase)

-- ---- the own value alone is proper

no_others : (id a n : ℕ) → count_from a n (λ r. not (nat_eq r id) && false) ≡ 0
no_others id a zero = refl
no_others id a (suc n) = let rest = no_others id (a + 1) n in grind arith

none_listed : (k : ℕ) (js : List ℕ) → ◌≡◌ {A = List Value} (flat_map (λ j. cond (nat_lt j k) [] []) js) []
none_listed k [] = refl
none_listed k (j ∷ js) = let rest = none_listed k js in grind arith

module _ (config : Config) (id k : ℕ) (own : Value) where
  not_all : is_all_proper config id [] k own ≡ false
  unfolding is_all_proper
  not_all = any_append (λ j. nat_lt j k && (are_all_named config id [] j || is_split config id [] j own)) [] (range_with_len 1 k)
      (λ j has. let tolerant = config.tolerant in let none = no_others id 0 config.replicas in rw none (grind (arith, nat_tests)))

  own_alone : proper_values config id [] k own ≡ own ∷ []
  unfolding proper_values
  own_alone = ap (cut own) (none_listed k (range_with_len 1 k))

  only_own-empty : proper_at config id [] k own ≡ only_own own
  only_own-empty = λ i. record { own = own; all = not_all i; explicit = own_alone i }

pub opens : Opens
opens config id height own ring log member heights value only =
    let log_now : List Note = opened own log only in
    let k : ℕ = (clock_of log_now + 3) / 4 in
    let none_in = λ (p : ℕ) (test : Statement → Bool) (some : 1 ≤ p). unread own log only (round_at p k) test in
    record {
      member = member;
      sound = record {
        spelled = record {
          heights = heights;
          own = value;
          proper = record { few = omega arith; each = (value, tt); ascend = refl };
          some = omega arith;
          locked = record { few = omega arith; each = tt; ascend = refl };
          taken = tt;
          reports = λ r s e. absurd (cc (none_there config.replicas r, e));
        };
        held = λ s none. absurd none;
      };
      opened = begins_open own log only;
      timely = record {
        past = λ c s has. absurd (none_read own log only c s has);
        of_phase =
            λ c s has place. absurd (none_read own log only c (as_statement s) has);
      };
      made_by_now = λ c s has. absurd (none_made own log only c s has);
      proper = sym (proper_at-stays config id [] log_now _ own
          (λ j one below s has. none_read own log only (round_at report_place j) s has) ∙ only_own-empty config id _ own);
      locks = sym (none_held own log only);
      decided = sym (none_decided own log only config);
      reports = no_reports log_now k none_in config.frames ring config.replicas height;
      lock = no_lock log_now k none_in (unmade own log only (round_at lock_place k));
      acks = no_acks log_now k none_in config.replicas;
    }
