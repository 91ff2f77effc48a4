-- The open heights at which nothing is decided: those of the rows are those of each matched history.
use Rattle.ledger_model.specs.Meanings.{Meanings}
use Rattle.std.proofs.Common.{◌≡◌, ℕ, zero, suc, ◌+◌, ◌<◌, ◌≤◌, Bool, true, false, cond, inl, inr, List, [], ◌∷◌, refl, sym, ap, ◌∙◌, arith}
use Rattle.std.specs.Prelude.{◌==◌, ◌&&◌, Option, Some, None, is_some, filter, map}
use Rattle.std.specs.Option.{is_none}
use Rattle.std.specs.List.{AllByRecursion, range_with_len}
use Rattle.std.proofs.lemmas.Bool.{cases_Bool, eqb-true, ne_eqb}
use Rattle.ledger_model.specs.declared.history.Entry.{Entry}
use Rattle.ledger_model.specs.Limits.{max_height}
use Rattle.ledger_model.specs.Commits.{decided_at}
use Rattle.ledger_model.specs.Locks.{decided_of}
use Rattle.ledger_model.specs.Logs.{log_of}
use Rattle.ledger_model.specs.Notes.{is_open}
use Rattle.ledger_model.proofs.Lists.{each_weaker}
use Rattle.instance.specs.Instances.{InstanceView}
use Rattle.height_row.specs.Heights.{row_at, AreAscending}
use Rattle.replica_core.specs.Replays.{ReplayView, IsOneCluster, MatchesHistory}
use Rattle.replica_core.specs.Facts.{undecided_in, undecided_heights, heights_up_to, is_undecided}
use Rattle.replica_core.proofs.AscendingRows.{each_found, found_height}
use Rattle.replica_core.proofs.Unopened.{opened_there}

-- a row has decided nothing
abbrev open_undecided : Option InstanceView → Bool
open_undecided None = false
open_undecided (Some row) = is_none row.decided

-- rows above a height have none there
none_at : (rows : List InstanceView) (h : ℕ) → AllByRecursion (λ row. h < row.height) rows → row_at rows h ≡ None
none_at [] h above = refl
none_at (x ∷ xs) h above = let higher = above.0 in rw (ne_eqb x.height h (λ e. omega (arith, e, higher))) (none_at xs h above.1)

-- one row more
row_more : (b : Bool) (x : InstanceView) (a : ℕ) (rows : List InstanceView) (heights : List ℕ) → x.height ≡ a
    → map (λ (row : InstanceView). row.height) rows ≡ heights
    → map (λ (row : InstanceView). row.height) (cond b (x ∷ rows) rows) ≡ cond b (a ∷ heights) heights
row_more true x a rows heights is rest = ap (λ n. n ∷ map (λ (row : InstanceView). row.height) rows) is ∙ ap (λ hs. a ∷ hs) rest
row_more false x a rows heights is rest = rest

-- ascending rows within a range: those that have decided nothing are those heights of the range that pass the test
in_range : (rows : List InstanceView) (test : ℕ → Bool) (a n : ℕ) → AreAscending rows
    → AllByRecursion (λ row. a ≤ row.height) rows → AllByRecursion (λ row. row.height < a + n) rows
    → ((h : ℕ) → a ≤ h → test h ≡ open_undecided (row_at rows h)) → undecided_in rows ≡ filter test (range_with_len a n)
in_range [] test a zero ascend low high same = refl
in_range (x ∷ xs) test a zero ascend low high same = let first = low.0 in let last = high.0 in absurd (omega (arith, first, last))
in_range [] test a (suc n) ascend low high same =
    let none : test a ≡ false = same a (omega arith) in
    rw none (in_range [] test (a + 1) n tt tt tt (λ h le. same h (omega (arith, le))))
in_range (x ∷ xs) test a (suc n) ascend low high same = elim (cases_Bool (x.height == a)) [
  | inl here ↦
      (let is : x.height ≡ a = eqb-true x.height a here in
      let first : test a ≡ is_none x.decided = same a (omega arith) ∙ ap (λ b. open_undecided (cond b (Some x) (row_at xs a))) here in
      let rest = in_range xs test (a + 1) n ascend.1
      (each_weaker (λ later. x.height < later.height) (λ row. a + 1 ≤ row.height) xs (λ row more. omega (arith, more, is)) ascend.0)
      (each_weaker (λ row. row.height < a + suc n) (λ row. row.height < a + 1 + n) xs (λ row less. omega (arith, less)) high.1)
      (λ h le. same h (omega (arith, le))
      ∙ ap (λ b. open_undecided (cond b (Some x) (row_at xs h))) (ne_eqb x.height h (λ e. omega (arith, e, is, le)))) in
      row_more (is_none x.decided) x a (filter (λ (row : InstanceView). is_none row.decided) xs) (filter test (range_with_len (a + 1) n)) is
      rest
      ∙ ap (λ b. cond b (a ∷ filter test (range_with_len (a + 1) n)) (filter test (range_with_len (a + 1) n))) (sym first))
  | inr there ↦
      (let begins = low.0 in
      let above : a < x.height = higher x.height a there begins in
      let later = each_weaker (λ later. x.height < later.height) (λ row. a < row.height) xs (λ row more. omega (arith, more, above))
      ascend.0 in
      let none : test a ≡ false = same a (omega arith) ∙ ap open_undecided (none_at (x ∷ xs) a (above, later)) in
      rw none (in_range (x ∷ xs) test (a + 1) n ascend
      (omega (arith, above), each_weaker (λ row. a < row.height) (λ row. a + 1 ≤ row.height) xs (λ row more. omega (arith, more)) later)
      (each_weaker (λ row. row.height < a + suc n) (λ row. row.height < a + 1 + n) (x ∷ xs) (λ row less. omega (arith, less)) high)
      (λ h le. same h (omega (arith, le)))))
]
  where
    higher : (k a : ℕ) → (k == a) ≡ false → a ≤ k → a < k
    higher k a other le = grind (arith)

module _ (meaning : Meanings) (held : ReplayView) (entries : List Entry) (matches : MatchesHistory meaning held entries)
    (one : IsOneCluster held) where
  -- the test of a height is that of its row
  tested : (h : ℕ) → is_undecided held.config held.id entries h ≡ open_undecided (row_at held.rows h)
  tested h = by (row_at held.rows h) refl
    where
      by : (o : Option InstanceView) → row_at held.rows h ≡ o → is_undecided held.config held.id entries h ≡ open_undecided o
      by (Some row) is =
          ap (λ b. b && is_none (decided_at held.config held.id entries h))
          (sym (opened_there meaning held entries matches h) ∙ ap is_some is)
          ∙ ap is_none (sym ((matches.opened h row is).decided
          ∙ ap (λ c. decided_of c (log_of held.config held.id h entries)) (one h row is)))
      by None is =
          ap (λ b. b && is_none (decided_at held.config held.id entries h))
          (sym (opened_there meaning held entries matches h) ∙ ap is_some is)

  -- the same up to any height
  up_to : (n : ℕ) → AreAscending held.rows → ((h : ℕ) (row : InstanceView) → row_at held.rows h ≡ Some row → h ≤ n)
      → undecided_in held.rows ≡ filter (is_undecided held.config held.id entries) (heights_up_to n)
  unfolding heights_up_to
  up_to n ascend low = in_range held.rows (is_undecided held.config held.id entries) 1 n ascend
      (each_found (λ row. 1 ≤ row.height) held.rows ascend (λ h row is. (matches.opened h row is).sound.spelled.heights.0))
      (each_found (λ row. row.height < 1 + n) held.rows ascend (λ h row is.
      let at = found_height held.rows h row is in let most = low h row is in omega (arith, at, most)))
      (λ h le. tested h)

  -- the heights of the rows are those of the history
  pub undecided_there : AreAscending held.rows → ((h : ℕ) (row : InstanceView) → row_at held.rows h ≡ Some row → h ≤ max_height)
      → undecided_in held.rows ≡ undecided_heights held.config held.id entries
  unfolding undecided_heights
  undecided_there ascend low = up_to max_height ascend low
