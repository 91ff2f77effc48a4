-- The proper values stay as more notes follow, if none of them reads a report of an earlier phase.
use Rattle.std.proofs.Common.{◌≡◌, ℕ, zero, suc, ◌+◌, ◌*◌, ◌<◌, ◌≤◌, Bool, true, false, not, ◌&&◌, ◌||◌, cond, inl, inr, List, [], ◌∷◌}
use Rattle.std.proofs.Common.{◌++◌, refl, ap, ◌∙◌, arith}
use Rattle.std.specs.Prelude.{filter, nat_eq, nat_lt, nat_le}
use Rattle.std.specs.List.{list_any, list_all, flat_map, range_with_len}
use Rattle.std.proofs.lemmas.List.{append-nil}
use Rattle.std.proofs.lemmas.Grind.{flat_map-append}
use Rattle.std.proofs.lemmas.Bool.{false_from_ne_true, ne_eqb}
use Rattle.std.proofs.lemmas.Bool.Decides.{nat_tests}
use Rattle.ledger_model.specs.declared.config.Config.{Config}
use Rattle.ledger_model.specs.declared.statement.Report.{Report}
use Rattle.ledger_model.specs.declared.statement.SignedStatement.{SignedStatement}
use Rattle.ledger_model.specs.declared.statement.Statement.{Statement}
use Rattle.ledger_model.specs.Values.{Value, same_value}
use Rattle.ledger_model.specs.Locks.{names}
use Rattle.ledger_model.specs.Rounds.{round_at, number_of, report_place}
use Rattle.ledger_model.specs.Notes.{Note, Proposed, Round, OwnStatement, Read, Retired, Has, reads_in, was_read, is_report}
use Rattle.ledger_model.specs.Proper.{others_reported, is_named, listed_by_other, values_in, has_initial, is_split, are_all_named}
use Rattle.ledger_model.specs.Proper.{is_all_proper, cut, proper_values}
use Rattle.ledger_model.proofs.LockSafety.{read_has}
use Rattle.std.proofs.Math.Bool.{or-false}
use Rattle.std.proofs.lemmas.List.Folds.{list_any-append}
use Rattle.proper_sets.specs.Laws.{proper_at}

-- ---- phases from the first on

any_range : (p q : ℕ → Bool) (a n : ℕ) → ((j : ℕ) → a ≤ j → p j ≡ q j) → list_any p (range_with_len a n) ≡ list_any q (range_with_len a n)
any_range p q a zero same = refl
any_range p q a (suc n) same = let rest = any_range p q (a + 1) n in grind (arith, same)

flat_map-range : {X : Type 0} (f g : ℕ → List X) (a n : ℕ) → ((j : ℕ) → a ≤ j → f j ≡ g j)
    → flat_map f (range_with_len a n) ≡ flat_map g (range_with_len a n)
flat_map-range f g a zero same = refl
flat_map-range f g a (suc n) same = let rest = flat_map-range f g (a + 1) n in grind (arith, same)

-- ---- reports

-- none of the notes reads anything in the round of the reports of phase j
abbrev pub NoneRead : ℕ → List Note → Type 0
NoneRead j notes = (s : SignedStatement) → Has notes (Read (round_at report_place j) s) → ⊥

report_stays : (log more : List Note) (j : ℕ) → NoneRead j more → (test : Statement → Bool)
    → was_read (log ++ more) (round_at report_place j) test ≡ was_read log (round_at report_place j) test
report_stays log more j none test =
    let unread = false_from_ne_true (was_read more (round_at report_place j) test) (λ e. let r =
    read_has more (round_at report_place j) test e in none r.0 r.1.0) in
    list_any-append (reads_in (round_at report_place j) test) log more ∙ ap (λ b. was_read log (round_at report_place j) test || b) unread
    ∙ or-false _

values_none : (part : Report → List Value) (j : ℕ) (more : List Note) → NoneRead j more → values_in part j more ≡ []
values_none part j [] none = refl
values_none part j (Read d s ∷ more) none =
    let other : nat_eq d (round_at report_place j) ≡ false =
    ne_eqb d (round_at report_place j) (λ e. none s (inl (ap (λ x. Read x s) e))) in
    rw other (values_none part j more (λ u has. none u (inr has)))
values_none part j (Proposed v ∷ more) none = values_none part j more (λ u has. none u (inr has))
values_none part j (Round d ∷ more) none = values_none part j more (λ u has. none u (inr has))
values_none part j (OwnStatement d s ∷ more) none = values_none part j more (λ u has. none u (inr has))
values_none part j (Retired f ∷ more) none = values_none part j more (λ u has. none u (inr has))

-- ---- one phase

module _ (config : Config) (id : ℕ) (log more : List Note) (j : ℕ) (none : NoneRead j more) where
  values_stay : (part : Report → List Value) → values_in part j (log ++ more) ≡ values_in part j log
  values_stay part = flat_map-append _ log more ∙ ap (λ vs. values_in part j log ++ vs) (values_none part j more none)
      ∙ append-nil (values_in part j log)

  others_stay : (test : Report → Bool) → others_reported config id (log ++ more) j test ≡ others_reported config id log j test
  others_stay test = λ i. number_of config
      (λ r. not (nat_eq r id) && report_stays log more j none (is_report (λ p. nat_eq p.signer r && test p)) i)

  named_stays : (v : Value) → is_named config id (log ++ more) j v ≡ is_named config id log j v
  named_stays v = ap (nat_lt config.faults) (others_stay (λ p. names p v))

  all_named_stays : are_all_named config id (log ++ more) j ≡ are_all_named config id log j
  all_named_stays = ap (nat_lt config.faults) (others_stay (λ p. p.all))

  initial_stays : (own v : Value) (r : ℕ) → has_initial id (log ++ more) j own v r ≡ has_initial id log j own v r
  initial_stays own v r = ap (λ b. cond (nat_eq r id) (same_value v own) b)
      (report_stays log more j none (is_report (λ p. nat_eq p.signer r && same_value v p.initial)))

  split_stays : (own : Value) → is_split config id (log ++ more) j own ≡ is_split config id log j own
  split_stays own = λ i.
      nat_lt (2 * config.faults) (others_stay (λ p. true) i + 1)
      && list_all (λ v. nat_le (number_of config (λ r. initial_stays own v r i)) config.faults) (own ∷ values_stay (λ p. p.initial ∷ []) i)

  listed_stays : filter (is_named config id (log ++ more) j) (values_in (listed_by_other id) j (log ++ more))
      ≡ filter (is_named config id log j) (values_in (listed_by_other id) j log)
  listed_stays = λ i. filter (λ v. named_stays v i) (values_stay (listed_by_other id) i)

-- ---- all phases before k

same_below : {X : Type 0} (j k : ℕ) (x y z : X) → (j < k → x ≡ y) → cond (nat_lt j k) x z ≡ cond (nat_lt j k) y z
same_below j k x y z same = grind (arith, nat_tests)

and_below : (j k : ℕ) (p q : Bool) → (j < k → p ≡ q) → (nat_lt j k && p) ≡ (nat_lt j k && q)
and_below j k p q same = grind (arith, nat_tests)

module _ (config : Config) (id : ℕ) (log more : List Note) (k : ℕ) (own : Value) (none : (j : ℕ) → 1 ≤ j → j < k → NoneRead j more) where
  all_stays : is_all_proper config id (log ++ more) k own ≡ is_all_proper config id log k own
  unfolding is_all_proper
  all_stays = any_range _ _ 1 k (λ j one. and_below j k _ _
      (λ lt. λ i. all_named_stays config id log more j (none j one lt) i || split_stays config id log more j (none j one lt) own i))

  explicit_stays : proper_values config id (log ++ more) k own ≡ proper_values config id log k own
  unfolding proper_values
  explicit_stays = ap (cut own) (flat_map-range _ _ 1 k
      (λ j one. same_below j k _ _ [] (λ lt. listed_stays config id log more j (none j one lt))))

  pub proper_at-stays : proper_at config id (log ++ more) k own ≡ proper_at config id log k own
  proper_at-stays = λ i. record { own = own; all = all_stays i; explicit = explicit_stays i }
