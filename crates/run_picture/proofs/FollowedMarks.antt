-- What entries decide and give up, with one entry more.
use Rattle.ledger_model.specs.Meanings.{Meanings}
use Rattle.std.proofs.Common.{◌≡◌, ◌∙◌, ℕ, ◌+◌, ◌≤◌, List, [], ◌∷◌, ◌++◌, length, take, refl, sym, ap, subst, inl, arith, append_assoc}
use Rattle.std.proofs.Common.{append-nil, take_all}
use Rattle.ledger_model.specs.declared.history.Entry.{Entry}
use Rattle.ledger_model.specs.Lawful.{Replay}
use Rattle.replica_core.specs.Following.{IsSameReplay}
use Rattle.replica_core.specs.Replays.{ReplayView}
use Rattle.run_picture.specs.declared.entry_facts.Mark.{Mark}
use Rattle.run_picture.specs.declared.following.ReplayMarks.{ReplayMarks}
use Rattle.run_picture.specs.declared.part.Part.{Part}
use Rattle.run_picture.specs.Collected.{FollowsHistory}
use Rattle.run_picture.specs.Decisions.{decisions_at, decisions_in}
use Rattle.run_picture.specs.Orders.{shown_after}
use Rattle.run_picture.specs.Retiring.{retired_marks_of, retired_in}

-- what entries show, with one entry more
shown_after-snoc : {X : Type 0} (shown : List Entry → Entry → List X) (front xs : List Entry) (e : Entry)
    → shown_after shown front (xs ++ e ∷ []) ≡ shown_after shown front xs ++ shown (front ++ xs) e
shown_after-snoc shown front [] e = append-nil (shown front e) ∙ ap (λ es. shown es e) (sym (append-nil front))
shown_after-snoc shown front (x ∷ xs) e =
    ap (λ l. shown front x ++ l) (shown_after-snoc shown (front ++ x ∷ []) xs e)
    ∙ sym (append_assoc (shown front x) (shown_after shown (front ++ x ∷ []) xs) (shown ((front ++ x ∷ []) ++ xs) e))
    ∙ ap (λ es. (shown front x ++ shown_after shown (front ++ x ∷ []) xs) ++ shown es e) (append_assoc front (x ∷ []) xs)

-- what was appended so far, and what the next entry shows
more : {X : Type 0} (shown : List Entry → Entry → List X) (entries : List Entry) (i : ℕ) (e : Entry) (start before after : List X)
    → take (i + 1) entries ≡ take i entries ++ e ∷ [] → before ≡ start ++ shown_after shown [] (take i entries)
    → after ≡ before ++ shown (take i entries) e → after ≡ start ++ shown_after shown [] (take (i + 1) entries)
more shown entries i e start before after split was now =
    now ∙ ap (λ l. l ++ shown (take i entries) e) was
    ∙ append_assoc start (shown_after shown [] (take i entries)) (shown (take i entries) e)
    ∙ ap (λ l. start ++ l) (sym (shown_after-snoc shown [] (take i entries) e))
    ∙ ap (λ es. start ++ shown_after shown [] es) (sym split)

-- the decisions
pub decided_more : (a b : ReplayView) (part : Part) (entries : List Entry) (i : ℕ) (e : Entry) (start before after : List Mark)
    → IsSameReplay a b → take (i + 1) entries ≡ take i entries ++ e ∷ []
    → before ≡ start ++ decisions_in a.config part a.id (take i entries)
    → after ≡ before ++ decisions_at b.config part b.id (take i entries) e
    → after ≡ start ++ decisions_in a.config part a.id (take (i + 1) entries)
decided_more a b part entries i e start before after same split was now =
    more (decisions_at a.config part a.id) entries i e start before after split was
    (now ∙ ap (λ c. before ++ decisions_at c part b.id (take i entries) e) same.config
    ∙ ap (λ r. before ++ decisions_at a.config part r (take i entries) e) same.id)

-- the heights that are given up
pub retired_more : (a b : ReplayView) (part : Part) (entries : List Entry) (i : ℕ) (e : Entry) (start before after : List Mark)
    → IsSameReplay a b → take (i + 1) entries ≡ take i entries ++ e ∷ []
    → before ≡ start ++ retired_in part a.id (take i entries) → after ≡ before ++ retired_marks_of part b.id (take i entries) e
    → after ≡ start ++ retired_in part a.id (take (i + 1) entries)
retired_more a b part entries i e start before after same split was now =
    more (retired_marks_of part a.id) entries i e start before after split was
    (now ∙ ap (λ r. before ++ retired_marks_of part r (take i entries) e) same.id)

-- all entries were followed
pub all_followed : (meaning : Meanings) (a : ReplayView) (part : Part) (entries : List Entry) (i : ℕ) (start now : ReplayMarks)
    → length entries ≤ i
    → Replay meaning a.config a.ring a.id (take i entries)
    → now.decisions.items ≡ start.decisions.items ++ decisions_in a.config part a.id (take i entries)
    → now.retired.items ≡ start.retired.items ++ retired_in part a.id (take i entries)
    → FollowsHistory meaning a.config a.ring part a.id entries start now (length entries)
all_followed meaning a part entries i start now over replay decides retires =
    let all : take i entries ≡ take (length entries) entries = take_all i entries over ∙ sym (take_all (length entries) entries (omega arith)) in
    record {
      longest = record {
        inside = omega arith;
        replay = subst (Replay meaning a.config a.ring a.id) all replay;
        ends = inl refl;
      };
      decisions = decides ∙ ap (λ es. start.decisions.items ++ decisions_in a.config part a.id es) all;
      retired = retires ∙ ap (λ es. start.retired.items ++ retired_in part a.id es) all;
    }
