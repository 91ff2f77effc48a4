-- What a picture of a run shows.
use Rattle.ledger_model.specs.Meanings.{Meanings}
use Rattle.std.specs.Prelude.{◌≡◌, ℕ, List, length, map, Option, option_map}
use Rattle.ledger_model.specs.declared.config.Config.{Config}
use Rattle.ledger_model.specs.declared.history.Entry.{Entry}
use Rattle.ledger_model.specs.declared.history.History.{History}
use Rattle.ledger_model.specs.Lawful.{clock_at}
use Rattle.ledger_model.specs.Rules.{Ring}
use Rattle.run_picture.specs.declared.part.Part.{Part}
use Rattle.run_picture.specs.declared.entry_facts.Mark.{Mark}
use Rattle.run_picture.specs.declared.sent_frames.SentFrame.{SentFrame}
use Rattle.run_picture.specs.declared.deliveries.Delivery.{Delivery}
use Rattle.run_picture.specs.declared.picture.Picture.{Picture}
use Rattle.run_picture.specs.Orders.{shown_from, shown_by}
use Rattle.run_picture.specs.Breaks.{ShowReplays, FindsBreak}
use Rattle.run_picture.specs.Frames.{frames_of_entry, deliveries_of_entry}
use Rattle.run_picture.specs.Facts.{facts_at, locks_held}
use Rattle.run_picture.specs.Decisions.{decisions_in}
use Rattle.run_picture.specs.Retiring.{retired_in}
use Rattle.run_picture.specs.Sources.{arrival_of}

-- the number of rounds that each replica of the cluster opens in the shown entries, if its history was handed in
abbrev pub rounds_in : List (Option (List Entry)) → List (Option ℕ)
rounds_in shown = map (option_map clock_at) shown

-- the frames that these entries send in the part
abbrev pub shown_frames : Part → List (Option (List Entry)) → List SentFrame
shown_frames part shown = shown_by (λ r. shown_from (frames_of_entry part r) 0 0) 0 shown

-- what these entries deliver in the part
abbrev pub shown_deliveries : Part → List (Option (List Entry)) → List Delivery
shown_deliveries part shown = shown_by (λ r. shown_from (deliveries_of_entry part r) 0 0) 0 shown

-- what these entries do at heights in the part
abbrev pub facts_in : Part → List (Option (List Entry)) → List Mark
facts_in part shown = shown_by (λ r. shown_from (facts_at part r) 0 0) 0 shown

-- what these entries decide in the part
abbrev pub shown_decisions : Config → Part → List (Option (List Entry)) → List Mark
shown_decisions config part shown = shown_by (decisions_in config part) 0 shown

-- the heights that these entries give up in the part
abbrev pub all_retired : Part → List (Option (List Entry)) → List Mark
all_retired part shown = shown_by (retired_in part) 0 shown

-- What a picture of these histories' run shows in the part. Of each replica of the cluster it shows the longest replay that its history
-- begins with; the first history that goes on after that is named.
pub record IsPictureOf (meaning : Meanings) (cluster : Config) (ring : Ring) (histories : List History) (drawn : Part)
    (p : Picture) : Type 0 where
  pub shown : List (Option (List Entry))
  pub count : length shown ≡ cluster.replicas
  pub replays : ShowReplays meaning cluster ring histories 0 shown
  pub config : p.config ≡ cluster
  pub part : p.part ≡ drawn
  pub rounds : p.rounds.items ≡ rounds_in shown
  pub sent : p.sent.items ≡ shown_frames drawn shown
  pub arrivals : p.arrivals.items ≡ map (arrival_of p.sent.items) (shown_deliveries drawn shown)
  pub facts : p.facts.items ≡ facts_in drawn shown
  pub locks : p.locks.items ≡ locks_held p.sent.items
  pub decisions : p.decisions.items ≡ shown_decisions cluster drawn shown
  pub retired : p.retired.items ≡ all_retired drawn shown
  pub breaks : FindsBreak meaning cluster ring histories cluster.replicas p.first_break
