-- The lines of one more replica, and the texts that are written.
use Rattle.ledger_model.specs.Meanings.{Meanings}
use Rattle.std.proofs.Common.{◌≡◌, ℕ, ◌+◌, List, [], ◌∷◌, ◌++◌, length, ◌<◌, ◌≤◌, take, get_or, refl, sym, ap, ◌∙◌, append_assoc}
use Rattle.std.proofs.Common.{append-nil, inl, inr, subst, suc, arith}
use Rattle.std.specs.Prelude.{Option, Result, Ok, Err, IfErr, MatchResult}
use Rattle.std.proofs.lemmas.List.{length-take-le}
use Rattle.std.proofs.Math.Seq.{take-suc}
use Rattle.std.specs.Io.KnownBytes.{Appends}
use Rattle.std.specs.List.{flat_map}
use Rattle.std.proofs.KnownBytes.{Appends-nil}
use Rattle.std.specs.Result.{IsErrAnd}
use Rattle.ledger_model.specs.declared.config.Config.{Config}
use Rattle.ledger_model.specs.declared.history.History.{History}
use Rattle.ledger_model.specs.Rules.{Ring}
use Rattle.ledger_model.specs.Values.{Value}
use Rattle.cluster_setup.specs.Keys.{ring_of}
use Rattle.history_bytes.specs.Histories.{history_bytes}
use Rattle.history_audit.specs.Findings.{IsFinding}
use Rattle.history_audit.specs.declared.fault.AuditFault.{AuditFault}
use Rattle.printed_lines.specs.AuditLines.{finding_status, finding_text}
use Rattle.cluster_setup.specs.declared.cluster_settings.ClusterSettings.{ClusterSettings}
use Rattle.byte_streams.specs.Writing.{AppendsSome}
use Rattle.byte_streams.proofs.Faults.{each_way}
use Rattle.byte_streams.proofs.WritingLemmas.{all_some, nothing_some}
use Rattle.byte_streams.specs.declared.program_fault.ProgramFault.{ProgramFault}
use Rattle.byte_streams.specs.declared.program_fault.ProgramFault.TheVariants as fault
use Rattle.cluster_service.specs.HistoriesFiles.{Saves}
use Rattle.cluster_service.specs.Lines.{commit_line, commit_lines}
use Rattle.cluster_service.specs.RunFaults.{IsLineFault, IsRunFault, IsSaveFault}
use Rattle.cluster_service.specs.Reporting.{AreTaken, IsTaken, Reports, ReportsCommits, ReportsEnd, ReportsSome}
use Rattle.cluster_service.specs.Reporting.{WritesFinding, WritesSuch}
use Rattle.cluster_service.proofs.Taken.{ledger_or_unsent}

-- one more replica's history was taken
module _ (meaning : Meanings) (config : Config) (ring : Ring) where
  pub one_taken : (first : ℕ) (ms : List History) (hs : List ℕ) (m : History) (h : ℕ) → AreTaken meaning config ring first ms hs
      → IsTaken meaning config ring (first + length hs) m h → AreTaken meaning config ring first (ms ++ m ∷ []) (hs ++ h ∷ [])
  one_taken first [] [] m h all one =
      let same : first + 0 ≡ first = omega arith in
      (subst (λ k. IsTaken meaning config ring k m h) same one, tt)
  one_taken first (m1 ∷ ms) (h1 ∷ hs) m h all one =
      let same : first + suc (length hs) ≡ first + 1 + length hs = omega arith in
      (all.0, one_taken (first + 1) ms hs m h all.1 (subst (λ k. IsTaken meaning config ring k m h) same one))
  one_taken first [] (h1 ∷ hs) m h all one = absurd all
  one_taken first (m1 ∷ ms) [] m h all one = absurd all

-- the lines of replicas and of one after them
pub lines_append : (r : ℕ) (first : List ℕ) (h : ℕ)
    → commit_lines r (first ++ h ∷ []) ≡ commit_lines r first ++ commit_line (r + length first) h
unfolding commit_lines
lines_append r [] h =
    let same : r ≡ r + 0 = omega arith in
    append-nil (commit_line r h) ∙ ap (λ k. commit_line k h) same
lines_append r (f ∷ first) h =
    let same : r + 1 + length first ≡ r + suc (length first) = omega arith in
    ap (λ l. commit_line r f ++ l) (lines_append (r + 1) first h)
    ∙ sym (append_assoc (commit_line r f) (commit_lines (r + 1) first) (commit_line (r + 1 + length first) h))
    ∙ ap (λ k. (commit_line r f ++ commit_lines (r + 1) first) ++ commit_line k h) same

-- the line of the next replica after those of the first ones
pub next_line : (heights : List ℕ) (i : ℕ) (text new : List ℕ) → i < length heights → text ≡ commit_lines 0 (take i heights)
    → new ≡ text ++ commit_line i (get_or heights i 0) → new ≡ commit_lines 0 (take (i + 1) heights)
next_line heights i text new below before added =
    let after : i + 1 ≡ suc i = omega arith in
    let more : take (i + 1) heights ≡ take i heights ++ get_or heights i 0 ∷ [] =
    ap (λ k. take k heights) after ∙ take-suc heights i 0 below in
    let within : i ≤ length heights = omega arith in
    let place : i ≡ 0 + length (take i heights) = omega (arith, length-take-le i heights within) in
    added ∙ ap (λ l. l ++ commit_line i (get_or heights i 0)) before
    ∙ ap (λ k. commit_lines 0 (take i heights) ++ commit_line k (get_or heights i 0)) place
    ∙ sym (lines_append 0 (take i heights) (get_or heights i 0))
    ∙ ap (commit_lines 0) (sym more)

pub no_line : commit_lines 0 [] ≡ []
unfolding commit_lines
no_line = refl

-- what `?` passes up as it is has the fact of its fault
pub failed_with : {T E : Type 0} (P : T → Type 0) (Q : E → Type 0) (r : Result T E) (e : E) → IsErrAnd r (λ y. y ≡ e) → Q e
    → MatchResult r P Q
failed_with P Q (Ok x) e bad so = absurd bad
failed_with P Q (Err y) e is so = subst Q (sym is) so

-- what a cluster writes that this fault ended: prefixes of such lines, and of such bytes of the file
abbrev pub WrittenSome : (ProgramFault → List ℕ → List ℕ → Type 0) → ProgramFault
    → Option (List ℕ) → Option (List ℕ) → Option (List ℕ) → Option (List ℕ) → Type 0
WrittenSome P f before after empty full =
    (lines : List ℕ) × ((file : List ℕ) × (P f lines file × (AppendsSome before after lines × Saves f empty full file)))

-- a file in which there was nothing to write
nothing_saved : (f : ProgramFault) (empty : Option (List ℕ)) → Saves f empty empty []
nothing_saved fault.NoMemory empty = Appends-nil empty
nothing_saved (fault.Refused refused error) empty = Appends-nil empty
nothing_saved fault.HistoryFull empty = Appends-nil empty
nothing_saved (fault.NoListener port error) empty = Appends-nil empty
nothing_saved fault.NoThread empty = Appends-nil empty
nothing_saved (fault.NoFile path error) empty = nothing_some empty []
nothing_saved (fault.Stranger replica) empty = Appends-nil empty

-- a fault of the lines is none of the file
saved_beside : (f : ProgramFault) (empty full : Option (List ℕ)) (bytes : List ℕ) → IsLineFault f → Appends empty full bytes
    → Saves f empty full bytes
saved_beside fault.NoMemory empty full bytes is all = all
saved_beside (fault.Refused refused error) empty full bytes is all = all
saved_beside fault.HistoryFull empty full bytes is all = all
saved_beside (fault.NoListener port error) empty full bytes is all = all
saved_beside fault.NoThread empty full bytes is all = all
saved_beside (fault.NoFile path error) empty full bytes is all = absurd is
saved_beside (fault.Stranger replica) empty full bytes is all = all

-- a fault of the file leaves a prefix in it
saved_some : (named : Option (List ℕ)) (f : ProgramFault) (empty full : Option (List ℕ)) (bytes : List ℕ) → IsSaveFault named f
    → AppendsSome empty full bytes → Saves f empty full bytes
saved_some named fault.NoMemory empty full bytes is some = absurd is
saved_some named (fault.Refused refused error) empty full bytes is some = absurd is
saved_some named fault.HistoryFull empty full bytes is some = absurd is
saved_some named (fault.NoListener port error) empty full bytes is some = absurd is
saved_some named fault.NoThread empty full bytes is some = absurd is
saved_some named (fault.NoFile path error) empty full bytes is some = some
saved_some named (fault.Stranger replica) empty full bytes is some = absurd is

-- histories that were taken under the keys of the settings
pub taken_by : (meaning : Meanings) (s : ClusterSettings) (ring : Ring) (histories : List History) (heights : List ℕ)
    → ring ≡ ring_of s.cluster
    → AreTaken meaning s.cluster.config ring 0 histories heights → AreTaken meaning s.cluster.config (ring_of s.cluster) 0 histories heights
taken_by meaning s ring histories heights keys taken = subst (λ r. AreTaken meaning s.cluster.config r 0 histories heights) keys taken

module _ (meaning : Meanings) (s : ClusterSettings) (histories : List History) (heights : List ℕ)
    (each : length heights ≡ s.cluster.config.replicas) (taken : AreTaken meaning s.cluster.config (ring_of s.cluster) 0 histories heights)
  where
    reported : (finding : Result (List Value) AuditFault) (status : ℕ)
        → IsFinding meaning s.cluster.config (ring_of s.cluster) histories finding → status ≡ finding_status finding
        → Reports meaning s status (commit_lines 0 heights ++ finding_text finding) (flat_map history_bytes histories)
    reported finding status found ends = record {
      histories = histories;
      heights = heights;
      each = each;
      taken = taken;
      finding = finding;
      found = found;
      sound = ledger_or_unsent meaning s.cluster.config (ring_of s.cluster) histories heights finding taken each found;
      ends = ends;
      shows = refl;
      saves = refl;
    }

    reported_commits : ReportsCommits meaning s (commit_lines 0 heights) (flat_map history_bytes histories)
    reported_commits = record { histories = histories; heights = heights; each = each; taken = taken; shows = refl; saves = refl }

    -- the lines that were written, in whole or in part, and the histories that belong to them
    lines_end : {E : Type 0} (r : Result ℕ E) (a b : Option (List ℕ))
        → WritesFinding meaning s.cluster.config (ring_of s.cluster) histories heights r a b
        → (lines : List ℕ) × (ReportsEnd meaning s lines (flat_map history_bytes histories) × AppendsSome a b lines)
    lines_end (Ok status) a b w =
        let lines = commit_lines 0 heights ++ finding_text w.0 in
        (lines, (inr (status, reported w.0 status w.1.0 w.1.1.0), all_some a b lines w.1.1.1))
    lines_end (Err e) a b (inl some) = (commit_lines 0 heights, (inl reported_commits, some))
    lines_end (Err e) a b (inr w) =
        (commit_lines 0 heights ++ finding_text w.0, (inr (finding_status w.0, reported w.0 (finding_status w.0) w.1.0 refl), w.1.1))

    -- all histories were saved, whatever became of the lines
    pub report_saved : (r : Result ℕ ProgramFault) (a b empty full : Option (List ℕ))
        → WritesFinding meaning s.cluster.config (ring_of s.cluster) histories heights r a b → IfErr r IsLineFault
        → Appends empty full (flat_map history_bytes histories) → WritesSuch r (Reports meaning s) (λ _. ReportsEnd meaning s) a b empty full
    report_saved (Ok status) a b empty full w line saved = (
      commit_lines 0 heights ++ finding_text w.0,
      (flat_map history_bytes histories, (reported w.0 status w.1.0 w.1.1.0, (w.1.1.1, saved))),
    )
    report_saved (Err f) a b empty full w line saved =
        let l = lines_end (Err f) a b w in
        (l.0, (flat_map history_bytes histories, (l.1.0, (l.1.1, saved_beside f empty full (flat_map history_bytes histories) line saved))))

    -- the file refused a write, whatever became of the lines
    pub report_unsaved : (r : Result ℕ ProgramFault) (named : Option (List ℕ)) (f : ProgramFault) (a b empty full : Option (List ℕ))
        → WritesFinding meaning s.cluster.config (ring_of s.cluster) histories heights r a b → IsSaveFault named f
        → AppendsSome empty full (flat_map history_bytes histories) → WrittenSome (λ _. ReportsEnd meaning s) f a b empty full
    report_unsaved r named f a b empty full w is some =
        let l = lines_end r a b w in
        (l.0, (flat_map history_bytes histories, (l.1.0, (l.1.1, saved_some named f empty full (flat_map history_bytes histories) is some))))

-- nothing was written
pub nothing_ran : (meaning : Meanings) (s : ClusterSettings) (f : ProgramFault) (a empty : Option (List ℕ)) → IsRunFault f
    → WrittenSome (ReportsSome meaning s) f a a empty empty
nothing_ran meaning s f a empty is = ([], ([], (inl (is, (refl, refl)), (nothing_some a [], nothing_saved f empty))))

-- a cluster that was run to its end
pub ran : (meaning : Meanings) (s : ClusterSettings) (r : Result ℕ ProgramFault) (a b empty full : Option (List ℕ))
    → WritesSuch r (Reports meaning s) (λ _. ReportsEnd meaning s) a b empty full
    → WritesSuch r (Reports meaning s) (ReportsSome meaning s) a b empty full
ran meaning s r a b empty full ended = each_way _ _ _ _ r (λ status w. w) (λ _ w. (w.0, (w.1.0, (inr w.1.1.0, w.1.1.1)))) ended
