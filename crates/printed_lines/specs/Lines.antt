-- The lines that are printed for the replies of a cluster's replicas.
use Rattle.std.specs.Prelude.{ℕ, ◌+◌, Bool, true, false, not, is_some, filter, List, [], ◌∷◌, ◌++◌, length, Option, Some, None, Result, Ok}
use Rattle.std.specs.Prelude.{Err, codes, decimal, slice_get}
use Rattle.std.specs.List.{flat_map, range_with_len}
use Rattle.ledger_model.specs.declared.config.Config.{Config}
use Rattle.ledger_model.specs.declared.event.Event.{Event}
use Rattle.ledger_model.specs.declared.event.Event.TheVariants as event
use Rattle.ledger_model.specs.declared.reply.Reply.{Reply}
use Rattle.ledger_model.specs.declared.reply.Reply.TheVariants as reply
use Rattle.ledger_model.specs.declared.reply.SubmitRefusal.{SubmitRefusal}
use Rattle.ledger_model.specs.declared.reply.SubmitRefusal.TheVariants as submit
use Rattle.ledger_model.specs.declared.reply.ProposeRefusal.{ProposeRefusal}
use Rattle.ledger_model.specs.declared.reply.RetireRefusal.{RetireRefusal}
use Rattle.ledger_model.specs.declared.reply.Ignored.{Ignored}
use Rattle.ledger_model.specs.declared.reply.Ignored.TheVariants as cause
use Rattle.ledger_model.specs.declared.reply.RoundEnded.{RoundEnded}
use Rattle.ledger_model.specs.declared.reply.LastRound.{LastRound}
use Rattle.ledger_model.specs.declared.reply.BlockResult.{BlockResult}
use Rattle.ledger_model.specs.declared.reply.NothingDecided.{NothingDecided}
use Rattle.ledger_model.specs.declared.reply.QueryAnswer.{QueryAnswer}
use Rattle.ledger_model.specs.declared.reply.NotHeld.{NotHeld}
use Rattle.ledger_model.specs.declared.history.Entry.{Entry}
use Rattle.ledger_model.specs.declared.world.WorldReply.{WorldReply}
use Rattle.ledger_model.specs.declared.world.WorldReply.TheVariants as answer
use Rattle.ledger_model.specs.declared.world.WorldRefusal.{WorldRefusal}
use Rattle.ledger_model.specs.declared.world.WorldRefusal.TheVariants as refused
use Rattle.ledger_model.specs.Values.{Value}
use Rattle.ledger_model.specs.Limits.{max_ahead}
use Rattle.ledger_model.specs.Commits.{commits_of, decision_at}
use Rattle.ledger_model.specs.Lawful.{clock_at}
use Rattle.ledger_model.specs.Worlds.{World, entries_in}
use Rattle.abci.specs.declared.info.Info.{Info}
use Rattle.hex.specs.Hex.{encode_lower}
use Rattle.replica_core.specs.Facts.{block_at}
use Rattle.plain_text.specs.Transactions.{bytes_text}
use Rattle.plain_text.specs.Transactions.{batch_text}
use Rattle.ledger_model.specs.Causes.{cause_text, submit_refusal_number, propose_refusal_number, retire_refusal_number}

-- a line, with its line feed
abbrev pub with_line_feed : List ℕ → List ℕ
with_line_feed text = text ++ 10 ∷ []

-- the text of a batch, if there is one
abbrev pub batch_text_of : Option Value → List ℕ
batch_text_of None = []
batch_text_of (Some v) = batch_text v

-- ---- a submitted transaction

-- the application's code, if it refused the transaction
abbrev pub code_text : SubmitRefusal → List ℕ
code_text (submit.Rejected code) = codes " code " ++ decimal code
code_text _ = []

-- why it was refused
abbrev pub submit_refusal_text : SubmitRefusal → List ℕ
submit_refusal_text why = decimal (submit_refusal_number why) ++ code_text why

-- `submit R ok`, `submit R refused 3`, `submit R refused 5 code 2`
abbrev pub submitted_text : ℕ → Result (Unit {0}) SubmitRefusal → List ℕ
submitted_text r (Ok u) = codes "submit " ++ decimal r ++ codes " ok"
submitted_text r (Err why) = codes "submit " ++ decimal r ++ codes " refused " ++ submit_refusal_text why

-- ---- opening a height

-- `propose R H BATCH`, `propose R H refused 1`
abbrev pub proposed_text : ℕ → ℕ → Result Value ProposeRefusal → List ℕ
proposed_text r h (Ok batch) = codes "propose " ++ decimal r ++ codes " " ++ decimal h ++ codes " " ++ batch_text batch
proposed_text r h (Err why) =
    codes "propose " ++ decimal r ++ codes " " ++ decimal h ++ codes " refused " ++ decimal (propose_refusal_number why)

-- ---- bytes from the network

-- `accepted`, `ignored 7 Repeated`
abbrev pub delivery_text : Result (Unit {0}) Ignored → List ℕ
delivery_text (Ok u) = codes "accepted"
delivery_text (Err why) = codes "ignored " ++ cause_text why

-- `deliver R accepted`, `deliver R ignored 7 Repeated`
abbrev pub delivered_text : ℕ → Result (Unit {0}) Ignored → List ℕ
delivered_text r given = codes "deliver " ++ decimal r ++ codes " " ++ delivery_text given

-- ---- the end of a round

-- ` mute`, if the replica is mute
abbrev pub mute_text : Bool → List ℕ
mute_text false = []
mute_text true = codes " mute"

-- `end R C sent S`, followed by ` mute` if the replica is mute
abbrev pub ended_round_text : ℕ → ℕ → ℕ → Bool → List ℕ
ended_round_text r clock sent mute =
    codes "end " ++ decimal r ++ codes " " ++ decimal clock ++ codes " sent " ++ decimal sent ++ mute_text mute

-- `end R last`
abbrev pub last_round_text : ℕ → List ℕ
last_round_text r = codes "end " ++ decimal r ++ codes " last"

-- the text for the round end itself
abbrev pub end_text : ℕ → ℕ → Result RoundEnded LastRound → List ℕ
end_text r clock (Ok end) = ended_round_text r clock (length end.frames) end.mute
end_text r clock (Err last) = last_round_text r

-- `decided R H BATCH`
abbrev pub decision_line : ℕ → ℕ → Value → List ℕ
decision_line r h v = with_line_feed (codes "decided " ++ decimal r ++ codes " " ++ decimal h ++ codes " " ++ batch_text v)

-- the line of a height, if it is decided
abbrev pub decision_lines : ℕ → ℕ → Option Value → List ℕ
decision_lines r h (Some v) = decision_line r h v
decision_lines r h None = []

-- the heights above the committed ones that may be open and aren't decided
abbrev pub undecided : Config → ℕ → List Entry → List ℕ
undecided config r entries = filter (λ h. not (is_some (decision_at config r entries h)))
    (range_with_len (length (commits_of config r entries) + 1) max_ahead)

-- the lines of these heights that are decided by now, ascending
abbrev pub decided_lines : Config → ℕ → List ℕ → List Entry → List ℕ
decided_lines config r heights entries = flat_map (λ h. decision_lines r h (decision_at config r entries h)) heights

-- ---- a block that is run

-- ` codes 0,0`; nothing follows ` codes` if the batch is empty
abbrev pub codes_text : List ℕ → List ℕ
codes_text [] = codes " codes"
codes_text (c ∷ cs) = codes " codes " ++ decimal c ++ flat_map (λ d. codes "," ++ decimal d) cs

-- `execute R H BATCH codes 0,0`, with the batch that was committed
abbrev pub block_text : ℕ → Option Value → BlockResult → List ℕ
block_text r batch block =
    codes "execute " ++ decimal r ++ codes " " ++ decimal block.height ++ codes " " ++ batch_text_of batch ++ codes_text block.codes

-- `execute R nothing`
abbrev pub nothing_text : ℕ → List ℕ
nothing_text r = codes "execute " ++ decimal r ++ codes " nothing"

-- the text for an execution, given all blocks that are committed after it
abbrev pub executed_text : ℕ → List Value → Result BlockResult NothingDecided → List ℕ
executed_text r commits (Ok block) = block_text r (block_at commits block.height) block
executed_text r commits (Err nothing) = nothing_text r

-- ---- a query

-- a value, or `absent`
abbrev pub value_text : Option (List ℕ) → List ℕ
value_text None = codes "absent"
value_text (Some bytes) = bytes_text bytes

-- `query R H VALUE`, `query R H absent`
abbrev pub found_text : ℕ → QueryAnswer → List ℕ
found_text r found = codes "query " ++ decimal r ++ codes " " ++ decimal found.height ++ codes " " ++ value_text found.value

-- `query R refused 1`, for a height that is not the last; no command asks for one
abbrev pub not_held_text : ℕ → List ℕ
not_held_text r = codes "query " ++ decimal r ++ codes " refused 1"

-- the text for a query
abbrev pub queried_text : ℕ → Result QueryAnswer NotHeld → List ℕ
queried_text r (Ok found) = found_text r found
queried_text r (Err why) = not_held_text r

-- ---- giving heights up

-- `retire R H ok`, `retire R H refused 1`
abbrev pub retired_text : ℕ → ℕ → Result ℕ RetireRefusal → List ℕ
retired_text r floor (Ok raised) = codes "retire " ++ decimal r ++ codes " " ++ decimal floor ++ codes " ok"
retired_text r floor (Err why) =
    codes "retire " ++ decimal r ++ codes " " ++ decimal floor ++ codes " refused " ++ decimal (retire_refusal_number why)

-- ---- the state of the application

-- `info R H` and the hash of its state
abbrev pub told_text : ℕ → Info → List ℕ
told_text r info = codes "info " ++ decimal r ++ codes " " ++ decimal info.height ++ codes " " ++ encode_lower info.hash

-- ---- steps

-- the text for an event of a replica and the reply, given the heights that weren't decided before it, and the history after it
abbrev pub reply_text : Config → ℕ → List ℕ → List Entry → Event → Reply → List ℕ
reply_text config r before after (event.Submit tx) (reply.Submitted given) = with_line_feed (submitted_text r given)
reply_text config r before after (event.Propose h) (reply.Proposed given) = with_line_feed (proposed_text r h given)
reply_text config r before after (event.Deliver bytes) (reply.Delivered given) = with_line_feed (delivered_text r given)
reply_text config r before after event.RoundEnd (reply.RoundEnded given) =
    with_line_feed (end_text r (clock_at after) given) ++ decided_lines config r before after
reply_text config r before after event.Execute (reply.Executed given) = with_line_feed (executed_text r (commits_of config r after) given)
reply_text config r before after (event.Query key h) (reply.Queried given) = with_line_feed (queried_text r given)
reply_text config r before after (event.Retire floor) (reply.Retired given) = with_line_feed (retired_text r floor given)
reply_text config r before after _ _ = []

-- the text for an entry of a replica
abbrev pub entry_text : Config → ℕ → List ℕ → List Entry → Option Entry → List ℕ
entry_text config r before after None = []
entry_text config r before after (Some e) = reply_text config r before after e.event e.reply

-- why a step was refused, by its number
abbrev pub refusal_text : WorldRefusal → List ℕ
refusal_text refused.NoSuchFrame = codes "refused 1"
refusal_text refused.NoSuchReplica = codes "refused 2"
refusal_text refused.Liar = codes "refused 3"
refusal_text refused.HistoryFull = codes "refused 4"
refusal_text refused.NoMemory = codes "refused 5"

-- the text for a step, given the world before it, its reply and the world after it
abbrev pub step_text : Config → World → WorldReply → World → List ℕ
step_text config w (answer.Refused why) new = with_line_feed (refusal_text why)
step_text config w (answer.Done r i) new =
    entry_text config r (undecided config r (entries_in w r)) (entries_in new r) (slice_get (entries_in new r) i)
