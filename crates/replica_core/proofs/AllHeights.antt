-- The frames of all open heights, given what each of them sends.
use Rattle.std.proofs.Common.{◌≡◌, ℕ, ◌<◌, ◌≤◌, inl, inr, Bool, true, false, List, [], ◌∷◌, ◌++◌, refl, sym, ap, subst, ◌∙◌, arith, eq-eqb}
use Rattle.std.specs.Prelude.{◌==◌, map, filter, Some, None}
use Rattle.std.specs.List.{list_all, AllByRecursion}
use Rattle.std.proofs.lemmas.Bool.{cases_Bool, eqb-true, and_from}
use Rattle.std.proofs.lemmas.List.{append-nil}
use Rattle.std.proofs.lemmas.List.Elements.{filter_map-append, filter-append}
use Rattle.std.proofs.lemmas.List.Folds.{list_all-append}
use Rattle.ledger_model.specs.declared.config.Config.{Config}
use Rattle.ledger_model.specs.declared.reply.Sent.{Sent}
use Rattle.ledger_model.specs.declared.statement.SignedStatement.{SignedStatement}
use Rattle.ledger_model.specs.Reading.{reading}
use Rattle.ledger_model.specs.Rules.{Ring}
use Rattle.ledger_model.specs.Lawful.{IsSentRight, never_falls}
use Rattle.instance.specs.declared.round_statement.RoundStatement.{RoundStatement}
use Rattle.instance.specs.Instances.{InstanceView}
use Rattle.instance.specs.Plans.{opened_effects, closed}
use Rattle.height_row.specs.Heights.{row_at, AreAscending, closed_each}
use Rattle.instance.proofs.SameHeight.{same_closed}
use Rattle.replica_core.specs.RoundEnds.{IsMadeAt, AreMade, frames_of_height, frames_of_heights}
use Rattle.replica_core.proofs.AscendingRows.{none_found, above_apart}
use Rattle.replica_core.proofs.SentHeights.{height_in, falls_nowhere}
use Rattle.replica_core.proofs.SentFrames.{AreSentAt, statements_in, is_all_signed}
use Rattle.ledger_model.proofs.Lists.{each_append, each_weaker, filter_every, filter_none}

-- the statements of the height
abbrev pub of_height : ℕ → List SignedStatement → List SignedStatement
of_height h ss = filter (λ s. height_in s == h) ss

module _ (config : Config) (ring : Ring) (mute : Bool) (c : ℕ) where
  -- whatever is made at the height, its frames are right
  abbrev pub IsSentBy : InstanceView → Type 0
  IsSentBy row = (m : RoundStatement) → IsMadeAt ring mute c row m → AreSentAt config ring row.height (frames_of_height config c row m)

  -- the statements of one height, and of those after it
  pub parts : (row : InstanceView) (m : RoundStatement) (rows : List InstanceView) (ms : List RoundStatement)
      → statements_in (frames_of_heights config c (row ∷ rows) (m ∷ ms)) ≡ statements_in (frames_of_height config c row m)
      ++ statements_in (frames_of_heights config c rows ms)
  parts row m rows ms = filter_map-append (λ (f : Sent). reading f.frame) (frames_of_height config c row m) (frames_of_heights config c rows ms)

  -- each frame spells a statement, to its addressee
  pub all_right : (rows : List InstanceView) (ms : List RoundStatement) → AllByRecursion IsSentBy rows → AreMade ring mute c rows ms
      → AllByRecursion (IsSentRight config) (frames_of_heights config c rows ms)
  all_right [] [] sent made = tt
  all_right [] (m ∷ ms) sent made = absurd made
  all_right (row ∷ rows) [] sent made = absurd made
  all_right (row ∷ rows) (m ∷ ms) sent made =
      each_append (IsSentRight config) (frames_of_height config c row m) (frames_of_heights config c rows ms) (sent.0 m made.0).right
      (all_right rows ms sent.1 made.1)

  -- each is signed
  pub all_signed : (rows : List InstanceView) (ms : List RoundStatement) → AllByRecursion IsSentBy rows → AreMade ring mute c rows ms
      → list_all (is_all_signed ring) (statements_in (frames_of_heights config c rows ms)) ≡ true
  all_signed [] [] sent made = refl
  all_signed [] (m ∷ ms) sent made = absurd made
  all_signed (row ∷ rows) [] sent made = absurd made
  all_signed (row ∷ rows) (m ∷ ms) sent made =
      ap (list_all (is_all_signed ring)) (parts row m rows ms)
      ∙ list_all-append (is_all_signed ring) (statements_in (frames_of_height config c row m)) (statements_in (frames_of_heights config c rows ms))
      ∙ and_from (list_all (is_all_signed ring) (statements_in (frames_of_height config c row m)))
      (list_all (is_all_signed ring) (statements_in (frames_of_heights config c rows ms)))
      (sent.0 m made.0).signed (all_signed rows ms sent.1 made.1)

  -- what holds of the open heights holds of those of the statements
  pub each_height : (P : ℕ → Type 0) (rows : List InstanceView) (ms : List RoundStatement) → AllByRecursion (λ row. P row.height) rows
      → AllByRecursion IsSentBy rows → AreMade ring mute c rows ms
      → AllByRecursion (λ s. P (height_in s)) (statements_in (frames_of_heights config c rows ms))
  each_height P [] [] all sent made = tt
  each_height P [] (m ∷ ms) all sent made = absurd made
  each_height P (row ∷ rows) [] all sent made = absurd made
  each_height P (row ∷ rows) (m ∷ ms) all sent made =
      subst (AllByRecursion (λ s. P (height_in s))) (sym (parts row m rows ms))
      (each_append (λ s. P (height_in s)) (statements_in (frames_of_height config c row m)) (statements_in (frames_of_heights config c rows ms))
      (each_weaker (λ s. height_in s ≡ row.height) (λ s. P (height_in s)) (statements_in (frames_of_height config c row m))
      (λ s is. subst P (sym is) all.0) (sent.0 m made.0).heights)
      (each_height P rows ms all.1 sent.1 made.1))

  -- no height falls after a higher one
  pub ascend_sent : (rows : List InstanceView) (ms : List RoundStatement) → AreAscending rows → AllByRecursion IsSentBy rows
      → AreMade ring mute c rows ms
      → never_falls (map height_in (statements_in (frames_of_heights config c rows ms))) ≡ true
  ascend_sent [] [] ascend sent made = refl
  ascend_sent [] (m ∷ ms) ascend sent made = absurd made
  ascend_sent (row ∷ rows) [] ascend sent made = absurd made
  ascend_sent (row ∷ rows) (m ∷ ms) ascend sent made =
      ap (λ ss. never_falls (map height_in ss)) (parts row m rows ms)
      ∙ falls_nowhere row.height (statements_in (frames_of_height config c row m)) (statements_in (frames_of_heights config c rows ms))
      (sent.0 m made.0).heights
      (each_height (λ n. row.height ≤ n) rows ms
      (each_weaker (λ later. row.height < later.height) (λ later. row.height ≤ later.height) rows (λ later above. omega (arith, above))
      ascend.0) sent.1 made.1)
      (ascend_sent rows ms ascend.1 sent.1 made.1)

  -- other heights send nothing
  none_apart : (h : ℕ) (rows : List InstanceView) (ms : List RoundStatement) → AllByRecursion (λ row. (row.height == h) ≡ false) rows
      → AllByRecursion IsSentBy rows → AreMade ring mute c rows ms
      → of_height h (statements_in (frames_of_heights config c rows ms)) ≡ []
  none_apart h rows ms apart sent made =
      filter_none (λ s. height_in s == h) (statements_in (frames_of_heights config c rows ms))
      (each_height (λ n. (n == h) ≡ false) rows ms apart sent made)

  -- a height that is not open sends nothing
  pub none_unopened : (h : ℕ) (rows : List InstanceView) (ms : List RoundStatement) → row_at rows h ≡ None → AllByRecursion IsSentBy rows
      → AreMade ring mute c rows ms
      → of_height h (statements_in (frames_of_heights config c rows ms)) ≡ []
  none_unopened h rows ms none sent made = none_apart h rows ms (none_found rows h none) sent made

  -- what is made at an open height: what is kept of it then, and what it alone sends
  pub record IsMadeThere (h : ℕ) (rows : List InstanceView) (ms : List RoundStatement) (row : InstanceView) : Type 0 where
    pub made : RoundStatement
    pub is_made : IsMadeAt ring mute c row made
    pub then : row_at (closed_each c rows ms) h ≡ Some (closed row c (opened_effects row c) made)
    pub sent : of_height h (statements_in (frames_of_heights config c rows ms)) ≡ statements_in (frames_of_height config c row made)

  -- one is found for each open height
  pub made_there : (h : ℕ) (row : InstanceView) (rows : List InstanceView) (ms : List RoundStatement) → AreAscending rows
      → AllByRecursion IsSentBy rows → AreMade ring mute c rows ms
      → row_at rows h ≡ Some row → IsMadeThere h rows ms row
  made_there h row [] ms ascend sent made is = absurd (cc is)
  made_there h row (x ∷ xs) [] ascend sent made is = absurd made
  made_there h row (x ∷ xs) (m ∷ ms) ascend sent made is =
      let first : List SignedStatement = statements_in (frames_of_height config c x m) in
      let later : List SignedStatement = statements_in (frames_of_heights config c xs ms) in
      let heights = (sent.0 m made.0).heights in
      let split : of_height h (statements_in (frames_of_heights config c (x ∷ xs) (m ∷ ms))) ≡ of_height h first ++ of_height h later =
      ap (of_height h) (parts x m xs ms) ∙ filter-append (λ s. height_in s == h) first later in
      let kept = (same_closed x c m).height in
      elim (cases_Bool (x.height == h)) [
        | inl here ↦
            let same : x ≡ row = cc (rw here at is) in
            let height = eqb-true x.height h here in
            let none_later : of_height h later ≡ [] =
            none_apart h xs ms (above_apart h xs (subst (λ n. AllByRecursion (λ r. n < r.height) xs) height ascend.0)) sent.1 made.1 in
            subst (IsMadeThere h (x ∷ xs) (m ∷ ms)) same (record {
              made = m;
              is_made = made.0;
              then = rw (eq-eqb (closed x c (opened_effects x c) m).height h (kept ∙ height)) refl;
              sent = split ∙ ap (λ ss. of_height h first ++ ss) none_later ∙ append-nil (of_height h first)
                  ∙ filter_every (λ s. height_in s == h) first
                  (each_weaker (λ s. height_in s ≡ x.height) (λ s. (height_in s == h) ≡ true) first
                  (λ s e. eq-eqb (height_in s) h (e ∙ height)) heights);
            })
        | inr there ↦
            let rest = made_there h row xs ms ascend.1 sent.1 made.1 (rw there at is) in
            let none_first : of_height h first ≡ [] =
            filter_none (λ s. height_in s == h) first
            (each_weaker (λ s. height_in s ≡ x.height) (λ s. (height_in s == h) ≡ false) first
            (λ s e. subst (λ n. (n == h) ≡ false) (sym e) there) heights) in
            let other : ((closed x c (opened_effects x c) m).height == h) ≡ false = ap (λ n. n == h) kept ∙ there in
            record {
              made = rest.made;
              is_made = rest.is_made;
              then = rw other rest.then;
              sent = split ∙ ap (λ ss. ss ++ of_height h later) none_first ∙ rest.sent;
            }
      ]
