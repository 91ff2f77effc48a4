-- The index of reports: a lookup among the reports of the lie's height and phase finds what a walk over all frames finds, and the index
-- of a cluster stays an index of it as the cluster goes on.
use Rattle.ledger_model.specs.Meanings.{Meanings}
use Rattle.std.proofs.Common.{◌≡◌, ℕ, ◌+◌, ◌≤◌, Bool, true, false, cond, ◌&&◌, List, [], ◌∷◌, ◌++◌, length, take, map, refl, sym, ap, subst}
use Rattle.std.proofs.Common.{◌∙◌, drop, inl, inr, arith, length-append, append_assoc, append-nil}
use Rattle.std.specs.Prelude.{Option, Some, None, filter, slice_get, slice_index_or, option_and_then}
use Rattle.std.specs.List.{filter_map, cons_option}
use Rattle.std.proofs.Math.ListN.{get_or-append}
use Rattle.std.proofs.Math.Seq.{get_or-append_seam}
use Rattle.std.proofs.lemmas.List.{take-append-le, take-append-drop, map-append}
use Rattle.std.proofs.lemmas.List.Elements.{filter_map-append, filter-append}
use Rattle.std.proofs.lemmas.Bool.{cases_lt}
use Rattle.ledger_model.specs.declared.history.Entry.{Entry}
use Rattle.ledger_model.specs.declared.statement.Report.{Report}
use Rattle.ledger_model.specs.declared.statement.SignedStatement.{SignedStatement}
use Rattle.ledger_model.specs.declared.statement.Statement.{Statement}
use Rattle.ledger_model.specs.declared.statement.Statement.TheVariants as statement
use Rattle.ledger_model.specs.Reading.{reading}
use Rattle.ledger_model.specs.declared.statement.SignedReport.{SignedReport}
use Rattle.ledger_model.specs.Locks.{finds}
use Rattle.ledger_model.specs.Versions.{reads}
use Rattle.ledger_model.specs.Worlds.{entries_in, frames_sent}
use Rattle.adversary_net.specs.WorldViews.{WorldView, world_of}
use Rattle.scenario_texts.specs.declared.command.Lie.{Lie}
use Rattle.simulation.specs.declared.report_list.ReportFrame.{ReportFrame}
use Rattle.simulation.specs.declared.report_list.ReportList.{ReportList}
use Rattle.simulation.specs.declared.report_index.ReportIndex.{ReportIndex}
use Rattle.simulation.specs.Indexes.{CoversFrames, CoversHistory, IsIndexOf, frame_of_report, frames_of_report, is_at, report_frames}
use Rattle.simulation.specs.Lies.{first_serving, report_in, signed_report_of, serves}
use Rattle.ledger_model.specs.Groups.{is_correct}
use Rattle.simulation.specs.Playing.{IsReachedByRun, serving, simulation_of}
use Rattle.simulation.proofs.Growing.{runs_grow}

-- ---- the frames of reports

-- those of some frames, and those of the frames after them
pub reports_append : (front back : List (List ℕ)) → report_frames (front ++ back) ≡ report_frames front ++ report_frames back
unfolding report_frames
reports_append front back = filter_map-append (λ f. frame_of_report f (report_in f)) front back

-- those of no frame
pub reports_none : (xs : List ReportFrame) → xs ≡ xs ++ report_frames []
unfolding report_frames
reports_none xs = sym (append-nil xs)

one_report : List ℕ → List ℕ → Statement → List ReportFrame
one_report bytes signature x = cons_option (frame_of_report bytes (signed_report_of (record { statement = x; signature = signature }))) []

of_one : (bytes : List ℕ) (frame : SignedStatement) → reading bytes ≡ Some frame
    → report_frames (bytes ∷ []) ≡ one_report bytes frame.signature frame.statement
unfolding report_frames one_report
of_one bytes frame reads = ap (λ o. cons_option (frame_of_report bytes (option_and_then signed_report_of o)) []) reads

-- of the frame of a report
pub of_report : (bytes : List ℕ) (frame : SignedStatement) (r : Report) → reading bytes ≡ Some frame → frame.statement ≡ statement.Report r
    → report_frames (bytes ∷ []) ≡ record { signer = r.signer; height = r.height; phase = r.phase; frame = bytes } ∷ []
unfolding one_report
of_report bytes frame r reads is = of_one bytes frame reads ∙ ap (one_report bytes frame.signature) is

-- of another frame
pub of_other : (bytes : List ℕ) (frame : SignedStatement) → reading bytes ≡ Some frame
    → ((r : Report) → frame.statement ≡ statement.Report r → ⊥) → report_frames (bytes ∷ []) ≡ []
unfolding one_report
of_other bytes frame reads none = of_one bytes frame reads ∙ by frame.statement none
  where
    by : (x : Statement) → ((r : Report) → x ≡ statement.Report r → ⊥) → one_report bytes frame.signature x ≡ []
    by (statement.Report r) never = absurd (never r refl)
    by (statement.Lock l) never = refl
    by (statement.Ack a) never = refl

-- of bytes that are no frame
pub of_no_frame : (bytes : List ℕ) → reading bytes ≡ None → report_frames (bytes ∷ []) ≡ []
unfolding report_frames
of_no_frame bytes reads = ap (λ o. cons_option (frame_of_report bytes (option_and_then signed_report_of o)) []) reads

-- after what was there before, a list has those of some frames, and then those of the next
pub reports_more : (old now next : List ReportFrame) (front here frames : List (List ℕ)) → now ≡ old ++ report_frames front
    → next ≡ now ++ report_frames here → frames ≡ front ++ here → next ≡ old ++ report_frames frames
reports_more old now next front here frames is then whole =
    then ∙ ap (λ l. l ++ report_frames here) is ∙ append_assoc old (report_frames front) (report_frames here)
    ∙ ap (λ l. old ++ l) (sym (reports_append front here) ∙ ap report_frames (sym whole))

-- a list has those of some frames, and then those of the next
pub reports_next : (now next : List ReportFrame) (front here frames : List (List ℕ)) → now ≡ report_frames front
    → next ≡ now ++ report_frames here → frames ≡ front ++ here → next ≡ report_frames frames
reports_next now next front here frames is then whole =
    then ∙ ap (λ l. l ++ report_frames here) is ∙ sym (reports_append front here) ∙ ap report_frames (sym whole)

-- ---- those at the lie's height and phase

at_append : (l : Lie) (k r : ℕ) (xs ys : List ReportFrame) → frames_of_report l k r (xs ++ ys) ≡ frames_of_report l k r xs ++ frames_of_report l k r ys
at_append l k r xs ys =
    ap (map (λ (f : ReportFrame). f.frame)) (filter-append (is_at l k r) xs ys)
    ∙ map-append (λ (f : ReportFrame). f.frame) (filter (is_at l k r) xs) (filter (is_at l k r) ys)

-- one more report is at that height and phase
pub at_kept : (l : Lie) (k r : ℕ) (xs : List ReportFrame) (f : ReportFrame) → is_at l k r f ≡ true
    → frames_of_report l k r (xs ++ f ∷ []) ≡ frames_of_report l k r xs ++ f.frame ∷ []
at_kept l k r xs f is = at_append l k r xs (f ∷ []) ∙ ap (λ b. frames_of_report l k r xs ++ map (λ (x : ReportFrame). x.frame)
    (cond b (f ∷ []) [])) is

-- one more report is not
pub at_left : (l : Lie) (k r : ℕ) (xs : List ReportFrame) (f : ReportFrame) → is_at l k r f ≡ false
    → frames_of_report l k r (xs ++ f ∷ []) ≡ frames_of_report l k r xs
at_left l k r xs f other =
    at_append l k r xs (f ∷ []) ∙ ap (λ b. frames_of_report l k r xs ++ map (λ (x : ReportFrame). x.frame) (cond b (f ∷ []) [])) other
    ∙ append-nil _

-- all of them are those so far, this one, and the others
pub at_whole : (l : Lie) (k r : ℕ) (xs : List ReportFrame) (i : ℕ) (f : ReportFrame) → take (i + 1) xs ≡ take i xs ++ f ∷ []
    → is_at l k r f ≡ true
    → frames_of_report l k r xs ≡ (frames_of_report l k r (take i xs) ++ f.frame ∷ []) ++ frames_of_report l k r (drop (i + 1) xs)
at_whole l k r xs i f upto is =
    ap (frames_of_report l k r) (sym (take-append-drop (i + 1) xs)) ∙ at_append l k r (take (i + 1) xs) (drop (i + 1) xs)
    ∙ ap (λ fs. fs ++ frames_of_report l k r (drop (i + 1) xs)) (ap (frames_of_report l k r) upto ∙ at_kept l k r (take i xs) f is)

-- the reports of the lie's height and phase have the same serving reports as all frames
same_serving : (l : Lie) (k r : ℕ) (frames : List (List ℕ))
    → filter (serves l k r) (filter_map report_in (frames_of_report l k r (report_frames frames))) ≡ filter (serves l k r)
    (filter_map report_in frames)
unfolding report_frames
same_serving l k r [] = refl
same_serving l k r (f ∷ fs) = by (report_in f) refl (same_serving l k r fs)
  where
    at : (s : SignedReport) → ReportFrame
    at s = record { signer = s.report.signer; height = s.report.height; phase = s.report.phase; frame = f }

    looked : List SignedReport
    looked = filter (serves l k r) (filter_map report_in (frames_of_report l k r (filter_map (λ g. frame_of_report g (report_in g)) fs)))

    all : List SignedReport
    all = filter (serves l k r) (filter_map report_in fs)

    here : List ReportFrame
    here = filter (is_at l k r) (filter_map (λ g. frame_of_report g (report_in g)) fs)

    kept : (s : SignedReport) (b : Bool) → is_at l k r (at s) ≡ b → report_in f ≡ Some s → looked ≡ all
        → filter (serves l k r) (filter_map report_in (map (λ (x : ReportFrame). x.frame) (cond b (at s ∷ here) here)))
        ≡ cond (serves l k r s) (s ∷ all) all
    kept s true at_it is rest = rw is (ap (λ ys. cond (serves l k r s) (s ∷ ys) ys) rest)
    kept s false other is rest =
        let no : serves l k r s ≡ false = ap (λ b. b && reads l.version s.report.version && finds s.report l.batch) other in
        subst (λ b. looked ≡ cond b (s ∷ all) all) (sym no) rest

    by : (o : Option SignedReport) → report_in f ≡ o → looked ≡ all
        → filter (serves l k r)
        (filter_map report_in (frames_of_report l k r (cons_option (frame_of_report f o) (filter_map (λ g. frame_of_report g (report_in g)) fs))))
        ≡ filter (serves l k r) (cons_option o (filter_map report_in fs))
    by None is rest = rest
    by (Some s) is rest = kept s (is_at l k r (at s)) refl is rest

pub found_at : (l : Lie) (k r : ℕ) (frames : List (List ℕ))
    → first_serving l k r (frames_of_report l k r (report_frames frames)) ≡ first_serving l k r frames
unfolding first_serving
found_at l k r frames = ap (λ reports. slice_get reports 0) (same_serving l k r frames)

-- ---- the index of a cluster that goes on

history_later : (list : ReportList) (xs more : List Entry) → CoversHistory list xs → CoversHistory list (xs ++ more)
history_later list xs more covers =
    let within : list.seen ≤ length xs = covers.within in record {
      within = omega (arith, length-append xs more);
      reports = covers.reports ∙ ap (λ es. report_frames (frames_sent es)) (sym (take-append-le list.seen xs more within));
    }

-- an empty list covers any history
pub history_fresh : (list : ReportList) (xs : List Entry) → list.seen ≡ 0 → list.reports.items ≡ [] → CoversHistory list xs
unfolding report_frames frames_sent
history_fresh list xs seen none = record {
  within = omega (arith, seen);
  reports = none ∙ ap (λ n. report_frames (frames_sent (take n xs))) (sym seen);
}

pub frames_fresh : (list : ReportList) (xs : List (List ℕ)) → list.seen ≡ 0 → list.reports.items ≡ [] → CoversFrames list xs
unfolding report_frames
frames_fresh list xs seen none = record {
  within = omega (arith, seen);
  reports = none ∙ ap (λ n. report_frames (take n xs)) (sym seen);
}

-- an index before any lookup
pub index_fresh : (index : ReportIndex) (c : WorldView) (lies : List (List ℕ)) → index.sent.items ≡ [] → index.lies.seen ≡ 0
    → index.lies.reports.items ≡ [] → IsIndexOf index c lies
index_fresh index c lies none seen reports = record {
  sent = λ r d below. absurd (omega (arith, ap length none));
  signed = frames_fresh index.lies lies seen reports;
}

-- an index with one list more
pub index_longer : (index new : ReportIndex) (list : ReportList) (c : WorldView) (lies : List (List ℕ)) → IsIndexOf index c lies
    → new.sent.items ≡ index.sent.items ++ list ∷ [] → new.lies ≡ index.lies → list.seen ≡ 0 → list.reports.items ≡ []
    → IsIndexOf new c lies
index_longer index new list c lies is longer same seen none = record {
  sent = λ r d below.
      let one : length new.sent.items ≡ length index.sent.items + 1 = ap length longer ∙ length-append index.sent.items (list ∷ []) in
      subst (λ l. CoversHistory (slice_index_or l r d) (entries_in (world_of c) r)) (sym longer)
      (elim (cases_lt r (length index.sent.items)) [
        | inl before ↦
            subst (λ l. CoversHistory l (entries_in (world_of c) r)) (sym (get_or-append index.sent.items (list ∷ []) d r before))
            (is.sent r d before)
        | inr behind ↦
            let last : r ≡ length index.sent.items = omega (arith, one) in
            subst (λ k. CoversHistory (slice_index_or (index.sent.items ++ list ∷ []) k d) (entries_in (world_of c) r)) (sym last)
            (subst (λ l. CoversHistory l (entries_in (world_of c) r)) (sym (get_or-append_seam index.sent.items list [] d))
            (history_fresh list (entries_in (world_of c) r) seen none))
      ]);
  signed = subst (λ l. CoversFrames l lies) (sym same) is.signed;
}

-- as the cluster goes on
pub index_later : (meaning : Meanings) (index : ReportIndex) (c d : WorldView) (lies : List (List ℕ)) → IsIndexOf index c lies
    → IsReachedByRun meaning c d
    → IsIndexOf index d lies
index_later meaning index c d lies is goes = record {
  sent = λ r none below.
      let (more, longer) = runs_grow meaning c.config c.ring (world_of c) (world_of d) goes.steps goes.answers goes.runs r in
      subst (CoversHistory (slice_index_or index.sent.items r none)) (sym longer)
      (history_later (slice_index_or index.sent.items r none) (entries_in (world_of c) r) more (is.sent r none below));
  signed = is.signed;
}

-- ---- what the index finds

-- of a correct replica, in the reports that it sent
pub finds_sent : (c : WorldView) (lies : List (List ℕ)) (l : Lie) (k r : ℕ) (reports : List ReportFrame)
    → is_correct (world_of c).histories r ≡ true → reports ≡ report_frames (frames_sent (entries_in (world_of c) r))
    → first_serving l k r (frames_of_report l k r reports) ≡ serving (simulation_of c lies) l k r
finds_sent c lies l k r reports correct is =
    ap (λ x. first_serving l k r (frames_of_report l k r x)) is ∙ found_at l k r (frames_sent (entries_in (world_of c) r))
    ∙ ap (λ b. first_serving l k r (cond b (frames_sent (entries_in (world_of c) r)) lies)) (sym correct)

-- of a liar, in the reports that liars signed
pub finds_signed : (c : WorldView) (lies : List (List ℕ)) (l : Lie) (k r : ℕ) (reports : List ReportFrame)
    → is_correct (world_of c).histories r ≡ false → reports ≡ report_frames lies
    → first_serving l k r (frames_of_report l k r reports) ≡ serving (simulation_of c lies) l k r
finds_signed c lies l k r reports liar is =
    ap (λ x. first_serving l k r (frames_of_report l k r x)) is ∙ found_at l k r lies
    ∙ ap (λ b. first_serving l k r (cond b (frames_sent (entries_in (world_of c) r)) lies)) (sym liar)
