-- The first serving report: in one frame, and in a list of frames and those after it.
use Rattle.std.proofs.Common.{◌≡◌, ℕ, ◌+◌, ◌<◌, arith, inl, inr, true, false, cond, List, [], ◌∷◌, ◌++◌, length, take, map, refl, sym}
use Rattle.std.proofs.Common.{ap, ◌∙◌}
use Rattle.std.specs.Prelude.{Option, Some, None, filter, slice_get, option_and_then}
use Rattle.std.specs.Option.{is_some}
use Rattle.std.specs.List.{filter_map, cons_option}
use Rattle.std.proofs.lemmas.Grind.{flat_map-append}
use Rattle.std.proofs.lemmas.List.{append-nil, map-append, take_more}
use Rattle.std.proofs.lemmas.List.Elements.{filter_map-append, filter-append}
use Rattle.std.proofs.lemmas.Option.{none-some, slice_get_cases, slice_get_within, get_or_from_slice_get}
use Rattle.std.proofs.option.Match.{None-if_not_some}
use Rattle.ledger_model.specs.declared.history.Entry.{Entry}
use Rattle.ledger_model.specs.declared.reply.Sent.{Sent}
use Rattle.ledger_model.specs.declared.statement.SignedReport.{SignedReport}
use Rattle.ledger_model.specs.declared.statement.SignedStatement.{SignedStatement}
use Rattle.ledger_model.specs.Reading.{reading}
use Rattle.ledger_model.specs.Worlds.{frames_in, frames_sent}
use Rattle.ledger_model.proofs.Lists.{take-next}
use Rattle.scenario_texts.specs.declared.command.Lie.{Lie}
use Rattle.simulation.specs.Lies.{signed_report_of, report_in, serves, if_serves, first_serving, frames_with}

-- ---- one frame

kept : (l : Lie) (k r : ℕ) (o : Option SignedReport) → slice_get (filter (serves l k r) (cons_option o [])) 0 ≡ if_serves l k r o
kept l k r None = refl
kept l k r (Some s) = elim (serves l k r s) as (λ b. slice_get (cond b (s ∷ []) []) 0 ≡ cond b (Some s) None) [ true ↦ refl | false ↦ refl ]

of_one : (l : Lie) (k r : ℕ) (bytes : List ℕ) → first_serving l k r (bytes ∷ []) ≡ if_serves l k r (report_in bytes)
unfolding first_serving
of_one l k r bytes = kept l k r (report_in bytes)

-- of the one frame that bytes are
pub of_frame : (l : Lie) (k r : ℕ) (bytes : List ℕ) (frame : SignedStatement) → reading bytes ≡ Some frame
    → if_serves l k r (signed_report_of frame) ≡ first_serving l k r (bytes ∷ [])
of_frame l k r bytes frame reads = ap (λ o. if_serves l k r (option_and_then signed_report_of o)) (sym reads) ∙ sym (of_one l k r bytes)

-- of bytes that are no frame there is none
pub of_no_frame : (l : Lie) (k r : ℕ) (bytes : List ℕ) → reading bytes ≡ None → None ≡ first_serving l k r (bytes ∷ [])
of_no_frame l k r bytes reads = ap (λ o. if_serves l k r (option_and_then signed_report_of o)) (sym reads) ∙ sym (of_one l k r bytes)

-- ---- frames, and those after them

abbrev serving_of : Lie → ℕ → ℕ → List (List ℕ) → List SignedReport
serving_of l k r frames = filter (serves l k r) (filter_map report_in frames)

serving_append : (l : Lie) (k r : ℕ) (front back : List (List ℕ))
    → serving_of l k r (front ++ back) ≡ serving_of l k r front ++ serving_of l k r back
serving_append l k r front back =
    ap (filter (serves l k r)) (filter_map-append report_in front back)
    ∙ filter-append (serves l k r) (filter_map report_in front) (filter_map report_in back)

first_behind : {X : Type 0} (xs ys : List X) → slice_get xs 0 ≡ None → slice_get (xs ++ ys) 0 ≡ slice_get ys 0
first_behind [] ys none = refl
first_behind (x ∷ xs) ys none = absurd cc

none_is_some : {X : Type 0} (o : Option X) → o ≡ None → is_some o ≡ true → ⊥
none_is_some None none some = cc
none_is_some (Some x) none some = cc

first_before : {X : Type 0} (xs ys : List X) (o : Option X) → o ≡ slice_get xs 0 → is_some o ≡ true → o ≡ slice_get (xs ++ ys) 0
first_before [] ys o is some = absurd (none_is_some o is some)
first_before (x ∷ xs) ys o is some = is

-- where none served before, the first is that of what comes next
behind : (l : Lie) (k r : ℕ) (front here : List (List ℕ)) → first_serving l k r front ≡ None
    → first_serving l k r (front ++ here) ≡ first_serving l k r here
unfolding first_serving
behind l k r front here none = ap (λ reports. slice_get reports 0) (serving_append l k r front here)
    ∙ first_behind (serving_of l k r front) (serving_of l k r here) none

-- where one served before, it is that one
before : (l : Lie) (k r : ℕ) (front back : List (List ℕ)) (found : Option SignedReport) → found ≡ first_serving l k r front
    → is_some found ≡ true → found ≡ first_serving l k r (front ++ back)
unfolding first_serving
before l k r front back found is some =
    first_before (serving_of l k r front) (serving_of l k r back) found is some
    ∙ ap (λ reports. slice_get reports 0) (sym (serving_append l k r front back))

-- none served before, and what is found here is the first of all
pub found_here : (l : Lie) (k r : ℕ) (front here back frames : List (List ℕ)) (found : Option SignedReport)
    → frames ≡ (front ++ here) ++ back → first_serving l k r front ≡ None
    → found ≡ first_serving l k r here → is_some found ≡ true → found ≡ first_serving l k r frames
found_here l k r front here back frames found whole none is some =
    before l k r (front ++ here) back found (is ∙ sym (behind l k r front here none)) some ∙ ap (first_serving l k r) (sym whole)

-- none served before, and none here
pub none_here : (l : Lie) (k r : ℕ) (front here frames : List (List ℕ)) (found : Option SignedReport) → frames ≡ front ++ here
    → first_serving l k r front ≡ None
    → found ≡ first_serving l k r here → is_some found ≡ false → first_serving l k r frames ≡ None
none_here l k r front here frames found whole none is nothing =
    ap (first_serving l k r) whole ∙ behind l k r front here none ∙ sym is ∙ None-if_not_some found nothing

-- ---- one place after the other

-- among no frames none serves
pub among_none : (l : Lie) (k r : ℕ) → first_serving l k r [] ≡ None
unfolding first_serving
among_none l k r = refl

-- an item stands at each place within
pub some_within : {X : Type 0} (xs : List X) (i : ℕ) → i < length xs → slice_get xs i ≡ None → ⊥
some_within xs i below none = elim ((slice_get_cases xs i).1) [
  | inl (x, lt, is, at) ↦ none-some x (sym none ∙ is)
  | inr (past, nothing) ↦ omega arith
]

-- the frames that were sent
abbrev pub frames_among : List Sent → List (List ℕ)
frames_among sent = map (λ f. f.frame) sent

pub next_frame : (sent : List Sent) (i : ℕ) (s : Sent) → slice_get sent i ≡ Some s
    → frames_among (take (i + 1) sent) ≡ frames_among (take i sent) ++ s.frame ∷ []
next_frame sent i s is = ap frames_among (take-next sent i s is) ∙ map-append (λ (f : Sent). f.frame) (take i sent) (s ∷ [])

-- the frames of the entries up to and with this one
pub next_sent : (entries : List Entry) (i : ℕ) → i < length entries
    → frames_sent (take (i + 1) entries) ≡ frames_sent (take i entries) ++ frames_with (slice_get entries i)
unfolding frames_sent
next_sent entries i below = elim ((slice_get_cases entries i).1) [
  | inl (e, lt, is, at) ↦
      ap frames_sent (take-next entries i e is) ∙ flat_map-append (λ (x : Entry). frames_in x.reply) (take i entries) (e ∷ [])
      ∙ ap (λ fs. frames_sent (take i entries) ++ fs) (append-nil (frames_in e.reply))
      ∙ ap (λ o. frames_sent (take i entries) ++ frames_with o) (sym is)
  | inr (past, nothing) ↦ absurd (omega arith)
]
