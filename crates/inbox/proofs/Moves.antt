-- Each step at the queue preserves its rule.
use Rattle.std.proofs.Common.{◌≡◌, ◌≢◌, ℕ, ◌+◌, ◌<◌, Bool, true, false, true≢false, List, [], ◌∷◌, ◌++◌, length, set, sym, refl, ap, ◌∙◌}
use Rattle.std.proofs.Common.{subst, ⊎_elim, arith, append_assoc, length-append, lt_of_not-le}
use Rattle.std.specs.Prelude.{Some, slice_get}
use Rattle.std.proofs.lemmas.Option.{slice_get_within}
use Rattle.std.proofs.Math.ListN.{length-set}
use mathlib.Core.Option.{Option, some, none, some-injective, some-ne-none}
use lib.ListN.{get_elem?}
use Rattle.crossbeam_queue.specs.Fifo.{Pushes, Pops, Forks, Merges, Learns}
use Rattle.crossbeam_queue.proofs.Lists.{at_set, set_here, set_else, at_longer, at_last}
use Rattle.ledger_model.specs.Inboxes.{Put, Inbox, of_pass}
use Rattle.inbox.specs.declared.log.Log.{Log}
use Rattle.inbox.specs.InboxRule.{taker_log, no_pass, with_item, FitsPutter, FitsTaker, KeepsInbox, Putting, Taking, Beside, Behind}
use Rattle.inbox.specs.InboxRule.{with_pass, next_pass, with_ended}
use Rattle.ledger_model.proofs.SeatLists.{to_elem, from_elem, at_place, Each, placed, placed_here, placed_else, placed_again}
use Rattle.inbox.proofs.OneSeat.{each_set}
use Rattle.inbox.proofs.Lists.{last_other, of_none}
use Rattle.inbox.proofs.Laws.{after_put, after_take, after_pass, put_keeps, take_keeps, pass_keeps}
use Rattle.inbox.proofs.PassEnds.{all_taken}

-- the taking passes among the logs
abbrev FitsTaking : Inbox → (ℕ → Option ℕ) → ℕ → ℕ → Log → Type 0
FitsTaking b seat reader k v = v.takes ≡ true → FitsTaker b seat reader k v

clash : {A : Type 0} (b : Bool) → b ≡ true → b ≡ false → A
clash b is not = absurd (true≢false (sym is ∙ not))

pub begins : KeepsInbox [] (taker_log 0 [] [] ∷ [])
begins =
    let b : Inbox = record { put = []; taken = []; held = [] } in
    let first : Log = taker_log 0 [] [] in
    let seat : ℕ → Option ℕ = λ p. none in
    let only = λ (F : ℕ → Log → Type 0) (mine : F 0 first). each_set F (first ∷ []) 0 first mine
    (λ j u other e. absurd (⊎_elim (λ t. some-ne-none u (sym t)) (λ (t : (j ≡ 0) × (first ≡ u)). other t.0) (at_place [] first u j e)))
    in
    record {
      inbox = b;
      is = record { kept = λ p items at. cc; small = omega arith };
      queue = refl;
      strangers = λ p le. refl;
      reader = 0;
      seat = seat;
      putters = only (FitsPutter b seat) (λ may. absurd (true≢false (sym may)));
      takers = only (FitsTaking b seat 0) (λ may. record { one = refl; taken = refl; passes = refl; ended = λ j e at. cc });
    }

pub puts : (n id : ℕ) (v : Log) (x : Put) → n ≡ 1024 → v.puts ≡ true → v.takes ≡ false → x.pass ≡ v.number
    → Pushes KeepsInbox n id v x (Putting v x)
puts n id v x full may not of items views room h at =
    let mine = h.putters id v at may in
    let w : Log = with_item v x in
    let put : List (List Put) = h.inbox.put in
    let had : slice_get put x.pass ≡ Some v.items = ap (slice_get put) of ∙ mine.1 in
    let within : x.pass < length put = slice_get_within put x.pass v.items had in
    let held : length h.inbox.held < 1024 = subst (λ (y : List Put × ℕ). length y.0 < y.1) (λ i. (sym h.queue i, full i)) room in
    let b : Inbox = after_put h.inbox x v.items in
    let longer : length b.put ≡ length put = length-set put x.pass (v.items ++ x ∷ []) in
    let has : slice_get b.put v.number ≡ Some w.items =
    ap (slice_get b.put) (sym of) ∙ from_elem b.put x.pass w.items (set_here put x.pass w.items within) in
    let still = λ (p : ℕ) (them : List Put) (other : p ≢ x.pass) (e : slice_get put p ≡ Some them). from_elem b.put p them
    (set_else put x.pass p w.items other ∙ to_elem put p them e) in
    let here : h.seat x.pass ≡ some id = ap h.seat of ∙ mine.0 in
    let is = put_keeps h.inbox x v.items h.is had held in (
      w,
      record {
        inbox = b;
        is = is;
        queue = ap (λ (l : List Put). l ++ x ∷ []) h.queue;
        strangers = λ p le.
            ap (of_pass p) (sym (append_assoc h.inbox.taken h.inbox.held (x ∷ [])))
            ∙ last_other p (h.inbox.taken ++ h.inbox.held) x (λ e. absurd (omega arith)) ∙ h.strangers p (omega arith);
        reader = h.reader;
        seat = h.seat;
        putters = each_set (FitsPutter b h.seat) views id w (λ _. (mine.0, has))
            (λ j u other e p. let o = h.putters j u e p
            in (o.0, still u.number u.items (λ same. other (some-injective j id (sym o.0 ∙ ap h.seat same ∙ here))) o.1));
        takers = each_set (FitsTaking b h.seat h.reader) views id w (λ p. clash v.takes p not)
            (λ j u other e p. let o = h.takers j u e p in record {
              one = o.one;
              taken = o.taken;
              passes = longer ∙ o.passes;
              ended = λ k end a. let d = o.ended k end a
                  in (d.0, still end.0 end.1 (λ same. some-ne-none id (sym here ∙ ap h.seat (sym same) ∙ d.0)) d.1);
            });
      },
      refl,
    )

pub takes : (id : ℕ) (v : Log) → v.takes ≡ true → v.puts ≡ false → Pops KeepsInbox id v (Taking v)
takes id v may not x items views h at =
    let mine = h.takers id v at may in
    let w : Log = with_item v x in
    let b : Inbox = after_take h.inbox x items in
    let taken : List Put = h.inbox.taken in
    let is = take_keeps h.inbox x items h.is h.queue in
    let has : b.taken ≡ w.items = ap (λ (l : List Put). l ++ x ∷ []) mine.taken in (
      w,
      record {
        inbox = b;
        is = is;
        queue = refl;
        strangers = λ p le. ap (of_pass p) (append_assoc taken (x ∷ []) items)
            ∙ ap (λ (l : List Put). of_pass p (taken ++ l)) (sym h.queue) ∙ h.strangers p le;
        reader = h.reader;
        seat = h.seat;
        putters = each_set (FitsPutter b h.seat) views id w (λ p. clash v.puts p not) (λ j u other e. h.putters j u e);
        takers = each_set (FitsTaking b h.seat h.reader) views id w
            (λ _. record { one = mine.one; taken = has; passes = mine.passes; ended = mine.ended })
            (λ j u other e p. absurd (other ((h.takers j u e p).one ∙ sym mine.one)));
      },
      (
        refl,
        lt_of_not-le (λ le. of_none x.pass taken x items
            (ap (λ (l : List Put). of_pass x.pass (taken ++ l)) (sym h.queue) ∙ h.strangers x.pass (let e = mine.passes in omega arith))
            refl),
      ),
    )

pub beside : (id : ℕ) (v : Log) → Learns KeepsInbox id v (Beside v)
beside id v items views h at = tt

pub behind : (id : ℕ) (v : Log) → v.takes ≡ true → Learns KeepsInbox id v (Behind v)
behind id v may items views h at =
    let mine = h.takers id v at may in
    let ended = λ (j : ℕ) (e : ℕ × List Put) (a : slice_get v.ended j ≡ Some e). (mine.ended j e a).1 in
    record {
      inbox = h.inbox;
      is = h.is;
      taken = mine.taken;
      held_is = h.queue;
      ended = ended;
      all =
          all_taken h.inbox items v.items v.ended h.is h.queue mine.taken ended;
    }

pub forks : (id : ℕ) (v : Log) → v.takes ≡ true → v.puts ≡ false → Forks KeepsInbox id v (with_pass v) (next_pass v)
forks id v may not items views h at =
    let mine = h.takers id v at may in
    let l : Log = with_pass v in
    let r : Log = next_pass v in
    let vs : List Log = set views id l in
    let put : List (List Put) = h.inbox.put in
    let b : Inbox = after_pass h.inbox in
    let count : length put ≡ v.passes = mine.passes in
    let seat : ℕ → Option ℕ = placed h.seat v.passes (some (length vs)) in
    let still = λ (p : ℕ) (them : List Put) (e : slice_get put p ≡ Some them). from_elem b.put p them
    (at_longer put ([] ∷ []) p them (to_elem put p them e)) in
    let before = λ (p : ℕ) (them : List Put) (e : slice_get put p ≡ Some them). let within : p < length put =
    slice_get_within put p them e in placed_else h.seat v.passes p (some (length vs)) (λ same. absurd (omega arith)) in
    let old : Each (FitsPutter b seat) vs = each_set (FitsPutter b seat) views id l (λ p. clash v.puts p not)
    (λ j u other e p. let o = h.putters j u e p in (before u.number u.items o.1 ∙ o.0, still u.number u.items o.1)) in
    let reads : Each (FitsTaking b seat h.reader) vs = each_set (FitsTaking b seat h.reader) views id l
    (λ _. record {
      one = mine.one;
      taken = mine.taken;
      passes = length-append put ([] ∷ []) ∙ ap (λ (n : ℕ). n + 1) count;
      ended = λ k end a. let d = mine.ended k end a in (before end.0 end.1 d.1 ∙ d.0, still end.0 end.1 d.1);
    })
    (λ j u other e p. absurd (other ((h.takers j u e p).one ∙ sym mine.one))) in
    record {
      inbox = b;
      is = pass_keeps h.inbox h.is h.strangers;
      queue = h.queue;
      strangers = λ p le. h.strangers p (let n : length b.put ≡ length put + 1 = length-append put ([] ∷ []) in omega arith);
      reader = h.reader;
      seat = seat;
      putters = λ j u e.
          ⊎_elim (λ (there : get_elem? vs j ≡ some u). old j u there)
          (λ (last : (j ≡ length vs) × (r ≡ u)).
          subst (λ (y : ℕ × Log). FitsPutter b seat y.0 y.1) (λ i. (sym last.0 i, last.1 i))
          (λ _. (
            placed_here h.seat v.passes v.passes (some (length vs)) refl,
            from_elem b.put v.passes []
                (at_last put [] v.passes count),
          )))
          (at_place vs r u j e);
      takers = λ j u e.
          ⊎_elim (λ (there : get_elem? vs j ≡ some u). reads j u there)
          (λ (last : (j ≡ length vs) × (r ≡ u)) p. clash r.takes (ap (λ (y : Log). y.takes) last.1 ∙ p) refl) (at_place vs r u j e);
    }

pub merges : (id : ℕ) (v : Log) (other : ℕ) (u : Log) → v.takes ≡ true → v.puts ≡ false → u.puts ≡ true
    → Merges KeepsInbox id v other u (with_ended v u) no_pass
merges id v other u may not theirs_may items views h at two at' =
    let mine = h.takers id v at may in
    let both : Log = with_ended v u in
    let vs : List Log = set views id both in
    let was : get_elem? views other ≡ some u =
    ⊎_elim (λ (t : (other ≡ id) × (both ≡ u)). absurd (two t.0)) (λ (t : (other ≢ id) × (get_elem? views other ≡ some u)). t.1)
    (at_set views id other both u at') in
    let theirs = h.putters other u was theirs_may in
    let b : Inbox = h.inbox in
    let seat : ℕ → Option ℕ = placed h.seat u.number none in
    record {
      inbox = b;
      is = h.is;
      queue = h.queue;
      strangers = h.strangers;
      reader = h.reader;
      seat = seat;
      putters = each_set (FitsPutter b seat) vs other no_pass (λ p. absurd (true≢false (sym p)))
          (λ j y apart e p.
          ⊎_elim (λ (t : (j ≡ id) × (both ≡ y)). clash v.puts (ap (λ (z : Log). z.puts) t.1 ∙ p) not)
          (λ (t : (j ≢ id) × (get_elem? views j ≡ some y)).
          let o = h.putters j y t.1 p in (
            placed_else h.seat u.number y.number none (λ same. apart (some-injective j other (sym o.0 ∙ ap h.seat same ∙ theirs.0)))
                ∙ o.0,
            o.1,
          ))
          (at_set views id j both y e));
      takers = each_set (FitsTaking b seat h.reader) vs other no_pass (λ p. absurd (true≢false (sym p)))
          (λ j y apart e p.
          ⊎_elim (λ (t : (j ≡ id) × (both ≡ y)).
          subst (λ (z : ℕ × Log). FitsTaker b seat h.reader z.0 z.1) (λ i. (sym t.0 i, t.1 i)) (record {
            one = mine.one;
            taken = mine.taken;
            passes = mine.passes;
            ended = λ k end a.
                ⊎_elim (λ (there : get_elem? v.ended k ≡ some end). let d =
                mine.ended k end (from_elem v.ended k end there) in (placed_again h.seat u.number end.0 none d.0, d.1))
                (λ (last : (k ≡ length v.ended) × ((u.number, u.items) ≡ end)). (
                  placed_here h.seat u.number end.0 none (sym (ap (λ (z : ℕ × List Put). z.0) last.1)),
                  subst (λ (z : ℕ × List Put). slice_get b.put z.0 ≡ Some z.1) last.1 theirs.1,
                ))
                (at_place v.ended (u.number, u.items) end k (to_elem both.ended k end a));
          }))
          (λ (t : (j ≢ id) × (get_elem? views j ≡ some y)). absurd (t.0 ((h.takers j y t.1 p).one ∙ sym mine.one)))
          (at_set views id j both y e));
    }
