-- The rule holds at first, and after seats are made and handed back.
use Rattle.std.proofs.Common.{◌≡◌, ◌≢◌, ℕ, zero, suc, ◌<◌, true, false, true≢false, List, [], ◌∷◌, ◌++◌, length, set, replicate, sym, refl}
use Rattle.std.proofs.Common.{ap, ◌∙◌, subst, ⊎_elim, arith}
use Rattle.std.specs.Prelude.{Some, slice_get, slice_index}
use Rattle.std.proofs.lemmas.List.{length-replicate}
use Rattle.std.proofs.lemmas.Option.{slice_get-get_or}
use mathlib.Core.Option.{Option, some, none, some-injective, some-ne-none}
use lib.ListN.{get_elem?}
use Rattle.atomic_table.specs.Table.{Splits, Joins}
use Rattle.atomic_table.proofs.Lists.{at_set, set_again}
use Rattle.ledger_model.proofs.SeatLists.{to_elem, from_elem, at_place, placed, placed_here, placed_else, placed_again}
use Rattle.commit_board.proofs.OneSeat.{each_set}
use Rattle.commit_board.specs.declared.log.Log.{Log}
use Rattle.commit_board.specs.BoardRule.{maker_log, FitsWriter, FitsReader, FitsClosed, FitsMaker, Holds, KeepsBoard, with_writer}
use Rattle.commit_board.specs.BoardRule.{next_writer, next_reader, with_closed, nobody}
use Rattle.commit_board.proofs.Seating.{clash, each_last, each_two}

zero_at : (n r h : ℕ) → slice_get (replicate n 0) r ≡ Some h → h ≡ 0
zero_at zero r h e = cc
zero_at (suc n) zero h e = cc
zero_at (suc n) (suc r) h e = zero_at n r h e

pub begins : (n : ℕ) → Holds n (replicate n 0) (maker_log 0 ∷ [])
begins n =
    let first : Log = maker_log 0 in
    let words : List ℕ = replicate n 0 in
    let seat : ℕ → Option (Option ℕ) = λ p. none in
    let only = λ (F : ℕ → Log → Type 0) (mine : F 0 first). each_last F [] first (λ j u e. absurd (some-ne-none u (sym e))) mine in
    record {
      count = length-replicate n 0;
      small = λ r h e. let z = zero_at n r h e in omega arith;
      seat = seat;
      maker = 0;
      writers = only (FitsWriter words seat) (λ p. absurd (true≢false (sym p)));
      readers = only (λ k v. FitsReader words v) (λ r less. refl);
      closed = only (λ k v. FitsClosed words seat v) (λ j e a. cc);
      makers = only (FitsMaker words seat 0) (λ _. (refl, (λ p le. refl), λ p h le e. zero_at n p h e));
    }

pub makes_writer : {S : Type 0} (n id : ℕ) (v : Log) → v.makes ≡ true → v.writes ≡ false → v.replica < n
    → Splits {S = S} (KeepsBoard n) id v (with_writer v) (next_writer v)
makes_writer n id v makes not_writes below s h at =
    let words : List ℕ = s.words in
    let next : ℕ = v.replica in
    let mine = h.makers id v at makes in
    let l : Log = with_writer v in
    let vs : List Log = set s.views id l in
    let now : Option (Option ℕ) = some (some (length vs)) in
    let seat : ℕ → Option (Option ℕ) = placed h.seat next now in
    let nobody_yet : h.seat next ≡ none = mine.1 next (omega arith) in
    let before = λ (p : ℕ) (who : Option ℕ) (e : h.seat p ≡ some who). placed_else h.seat next p now
    (λ same. some-ne-none who (sym e ∙ ap h.seat same ∙ nobody_yet)) ∙ e in
    let zero_word : slice_get words next ≡ Some 0 =
    let at_next = slice_get-get_or words next 0 (let c = h.count in omega arith) in
    at_next ∙ ap Some (mine.2 next (slice_index words next) (omega arith) at_next) in
    let closed : (u : Log) → FitsClosed words h.seat u → FitsClosed words seat u = λ u f j e a. let d =
    f j e a in (before e.0 none d.0, d.1) in
    record {
      count = h.count;
      small = h.small;
      seat = seat;
      maker = h.maker;
      writers = each_last (FitsWriter words seat) vs (next_writer v)
          (each_set (FitsWriter words seat) s.views id l (λ p. clash v.writes p not_writes) (λ j u other e p. let o =
          h.writers j u e p in (before u.replica (some j) o.0, o.1)))
          (λ _. (placed_here h.seat next next now refl, zero_word));
      readers = each_last (λ j u. FitsReader words u) vs (next_writer v)
          (each_set (λ j u. FitsReader words u) s.views id l (h.readers id v at) (λ j u other e. h.readers j u e)) (λ r less. refl);
      closed = each_last (λ j u. FitsClosed words seat u) vs (next_writer v)
          (each_set (λ j u. FitsClosed words seat u) s.views id l (closed v (h.closed id v at)) (λ j u other e. closed u (h.closed j u e)))
          (λ j e a. cc);
      makers = each_last (FitsMaker words seat h.maker) vs (next_writer v)
          (each_set (FitsMaker words seat h.maker) s.views id l
          (λ _. (
            mine.0,
            (λ p le. placed_else h.seat next p now (λ same. absurd (omega arith)) ∙ mine.1 p (omega arith)),
            λ p m le e.
                mine.2 p m (omega arith) e,
          ))
          (λ j u other e p. absurd (other ((h.makers j u e p).0 ∙ sym mine.0))))
          (λ p. absurd (true≢false (sym p)));
    }

pub makes_reader : {S : Type 0} (n id : ℕ) (v : Log) → Splits {S = S} (KeepsBoard n) id v v (next_reader v)
makes_reader n id v s h at =
    subst (λ (views : List Log). Holds n s.words (views ++ next_reader v ∷ [])) (sym (set_again s.views id v at)) (record {
      count = h.count;
      small = h.small;
      seat = h.seat;
      maker = h.maker;
      writers = each_last (FitsWriter s.words h.seat) s.views (next_reader v) h.writers (λ p. absurd (true≢false (sym p)));
      readers = each_last (λ j u. FitsReader s.words u) s.views (next_reader v) h.readers (λ r less. refl);
      closed = each_last (λ j u. FitsClosed s.words h.seat u) s.views (next_reader v) h.closed (λ j e a. cc);
      makers = each_last (FitsMaker s.words h.seat h.maker) s.views (next_reader v) h.makers (λ p. absurd (true≢false (sym p)));
    })

pub hands_back : {S : Type 0} (n id : ℕ) (v : Log) (other : ℕ) (u : Log) → v.writes ≡ false → v.makes ≡ false → u.writes ≡ true
    → Joins {S = S} (KeepsBoard n) id v other u (with_closed v u) nobody
hands_back n id v other u not_writes not_makes writes s h at two at' =
    let words : List ℕ = s.words in
    let both : Log = with_closed v u in
    let was : get_elem? s.views other ≡ some u =
    ⊎_elim (λ (t : (other ≡ id) × (both ≡ u)). absurd (two t.0)) (λ (t : (other ≢ id) × (get_elem? s.views other ≡ some u)). t.1)
    (at_set s.views id other both u at') in
    let theirs = h.writers other u was writes in
    let gone : Option (Option ℕ) = some none in
    let seat : ℕ → Option (Option ℕ) = placed h.seat u.replica gone in
    let closed : (y : Log) → FitsClosed words h.seat y → FitsClosed words seat y = λ y f j e a. let d =
    f j e a in (placed_again h.seat u.replica e.0 gone d.0, d.1) in
    record {
      count = h.count;
      small = h.small;
      seat = seat;
      maker = h.maker;
      writers = each_two (FitsWriter words seat) s.views id other both nobody (λ p. clash v.writes p not_writes)
          (λ p. absurd (true≢false (sym p)))
          (λ j y apart away e p.
          let o = h.writers j y e p in (
            placed_else h.seat u.replica y.replica gone
                (λ same. away (some-injective j other (some-injective (some j) (some other) (sym o.0 ∙ ap h.seat same ∙ theirs.0))))
                ∙ o.0,
            o.1,
          ));
      readers = each_two (λ j y. FitsReader words y) s.views id other both nobody (h.readers id v at) (λ r less. refl)
          (λ j y apart away e. h.readers j y e);
      closed = each_two (λ j y. FitsClosed words seat y) s.views id other both nobody
          (λ j e a.
          ⊎_elim (λ (there : get_elem? v.closed j ≡ some e). closed v (h.closed id v at) j e (from_elem v.closed j e there))
          (λ (last : (j ≡ length v.closed) × ((u.replica, u.height) ≡ e)). (
            placed_here h.seat u.replica e.0 gone (sym (ap (λ (z : ℕ × ℕ). z.0) last.1)),
            subst (λ (z : ℕ × ℕ). slice_get words z.0 ≡ Some z.1) last.1 theirs.1,
          ))
          (at_place v.closed (u.replica, u.height) e j (to_elem both.closed j e a)))
          (λ j e a. cc) (λ j y apart away e. closed y (h.closed j y e));
      makers = each_two (FitsMaker words seat h.maker) s.views id other both nobody (λ p. clash v.makes p not_makes)
          (λ p. absurd (true≢false (sym p)))
          (λ j y apart away e p.
          let o = h.makers j y e p in (
            o.0,
            (λ q le. placed_else h.seat u.replica q gone
                (λ same. some-ne-none (some other) (sym theirs.0 ∙ ap h.seat (sym same) ∙ o.1 q le)) ∙ o.1 q le),
            o.2,
          ));
    }
