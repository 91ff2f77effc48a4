-- The index of reports: the frames of reports among the frames that replicas sent and those that liars signed.
use Rattle.std.specs.Prelude.{◌≡◌, ℕ, ◌<◌, ◌≤◌, ◌==◌, Bool, ◌&&◌, List, length, map, take, filter, Option, Some, None, slice_index_or}
use Rattle.std.specs.List.{filter_map}
use Rattle.ledger_model.specs.declared.history.Entry.{Entry}
use Rattle.ledger_model.specs.declared.statement.SignedReport.{SignedReport}
use Rattle.ledger_model.specs.Worlds.{entries_in, frames_sent}
use Rattle.adversary_net.specs.WorldViews.{WorldView, world_of}
use Rattle.scenario_texts.specs.declared.command.Lie.{Lie}
use Rattle.simulation.specs.declared.report_list.ReportFrame.{ReportFrame}
use Rattle.simulation.specs.declared.report_list.ReportList.{ReportList}
use Rattle.simulation.specs.declared.report_index.ReportIndex.{ReportIndex}
use Rattle.simulation.specs.Lies.{report_in}

-- the frame with the signer, the height and the phase of its report, if it contains one
abbrev pub frame_of_report : List ℕ → Option SignedReport → Option ReportFrame
frame_of_report frame None = None
frame_of_report frame (Some s) = Some (record {
  signer = s.report.signer;
  height = s.report.height;
  phase = s.report.phase;
  frame = frame;
})

-- the frames of reports among the frames, in order
unfoldable pub report_frames : List (List ℕ) → List ReportFrame
report_frames frames = filter_map (λ f. frame_of_report f (report_in f)) frames

-- the report is replica r's, at the lie's height and in phase k
abbrev pub is_at : Lie → ℕ → ℕ → ReportFrame → Bool
is_at l k r f = (f.signer == r) && (f.height == l.height) && (f.phase == k)

-- the bytes of those frames whose report is replica r's, at the lie's height and in phase k
abbrev pub frames_of_report : Lie → ℕ → ℕ → List ReportFrame → List (List ℕ)
frames_of_report l k r reports = map (λ (f : ReportFrame). f.frame) (filter (is_at l k r) reports)

-- the list has exactly the frames of reports that the first `seen` entries of the history sent
pub record CoversHistory (list : ReportList) (entries : List Entry) : Type 0 where
  pub within : list.seen ≤ length entries
  pub reports : list.reports.items ≡ report_frames (frames_sent (take list.seen entries))

-- the list has exactly the frames of reports among the first `seen` frames
pub record CoversFrames (list : ReportList) (frames : List (List ℕ)) : Type 0 where
  pub within : list.seen ≤ length frames
  pub reports : list.reports.items ≡ report_frames (take list.seen frames)

-- each list of the index covers a prefix of one replica's history, and the last one a prefix of what liars signed
pub record IsIndexOf (index : ReportIndex) (c : WorldView) (lies : List (List ℕ)) : Type 0 where
  pub sent : (r : ℕ) (d : ReportList) → r < length index.sent.items
      → CoversHistory (slice_index_or index.sent.items r d) (entries_in (world_of c) r)
  pub signed : CoversFrames index.lies lies
