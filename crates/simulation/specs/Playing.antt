-- What each command of a scenario does to a cluster, and what is printed for it.
use Rattle.ledger_model.specs.Meanings.{Meanings}
use Rattle.std.specs.Prelude.{◌≡◌, ◌⊎◌, MatchBool, ℕ, ◌+◌, ◌==◌, nat_lt, Bool, true, false, not, List, [], ◌∷◌, ◌++◌, length, map}
use Rattle.std.specs.Prelude.{filter, take, Option, Some, None, Result, Ok, Err, codes, slice_get, if◌then◌else◌}
use Rattle.std.specs.List.{filter_map, range_with_len}
use Rattle.ledger_model.specs.declared.config.Config.{Config}
use Rattle.ledger_model.specs.declared.history.Entry.{Entry}
use Rattle.ledger_model.specs.declared.reply.Reply.{Reply}
use Rattle.ledger_model.specs.declared.reply.Reply.TheVariants as reply
use Rattle.ledger_model.specs.declared.reply.Sent.{Sent}
use Rattle.ledger_model.specs.declared.reply.Addressee.{Addressee}
use Rattle.ledger_model.specs.declared.reply.Addressee.TheVariants as to
use Rattle.ledger_model.specs.declared.statement.Statement.{Statement}
use Rattle.ledger_model.specs.declared.statement.Statement.TheVariants as statement
use Rattle.ledger_model.specs.declared.statement.SignedReport.{SignedReport}
use Rattle.ledger_model.specs.declared.world.WorldStep.{WorldStep}
use Rattle.ledger_model.specs.declared.world.WorldStep.TheVariants as step
use Rattle.ledger_model.specs.declared.world.WorldReply.{WorldReply}
use Rattle.ledger_model.specs.declared.world.WorldReply.TheVariants as answer
use Rattle.ledger_model.specs.declared.world.WorldRefusal.{WorldRefusal}
use Rattle.ledger_model.specs.Groups.{is_correct}
use Rattle.ledger_model.specs.Commits.{commits_of}
use Rattle.ledger_model.specs.Spelling.{statement_bytes, frame_bytes}
use Rattle.ledger_model.specs.Worlds.{World, entries_in, frames_sent, sent_with, Runs, fault_at}
use Rattle.key_ring.specs.declared.fault.SignFault.{SignFault}
use Rattle.key_ring.specs.declared.fault.SignFault.TheVariants as sign
use Rattle.replica_core.specs.Facts.{info_reply}
use Rattle.adversary_net.specs.WorldViews.{WorldView, SignsFor, liar_at, world_of}
use Rattle.adversary_net.specs.Leaves.{IsAnswered}
use Rattle.scenario_texts.specs.declared.command.Command.{Command}
use Rattle.scenario_texts.specs.declared.command.Command.TheVariants as command
use Rattle.scenario_texts.specs.declared.command.Lie.{Lie}
use Rattle.simulation.specs.Lies.{first_serving, lying_ack, lying_lock, lying_report}
use Rattle.scenario_texts.specs.declared.command.Towards.{Towards}
use Rattle.scenario_texts.specs.declared.command.Towards.TheVariants as towards
use Rattle.simulation.specs.declared.signing.Signing.{Signing}
use Rattle.simulation.specs.declared.signing.Signing.TheVariants as signing
use Rattle.printed_lines.specs.Lines.{with_line_feed, refusal_text, entry_text, step_text, told_text}
use Rattle.ledger_model.specs.Rounds.{quorum}

-- a simulated cluster, and the frames that its liars have signed, in order
pub record SimulationView : Type 0 where
  pub cluster : WorldView
  pub lies : List (List ℕ)

-- the simulation of this cluster, whose liars have signed these frames
abbrev pub simulation_of : WorldView → List (List ℕ) → SimulationView
simulation_of c lies = record { cluster = c; lies = lies }

-- ---- steps

-- the step was taken, and this text is printed for it
pub record Steps (meaning : Meanings) (print : Config → World → WorldReply → World → List ℕ) (c : WorldView) (s : WorldStep) (text : List ℕ)
    (d : WorldView) :
    Type 0 where
  pub given : WorldReply
  pub answered : IsAnswered meaning c s given d
  pub printed : text ≡ print c.config (world_of c) given (world_of d)

-- these steps were taken, one after another
unfoldable pub StepsEach : Meanings → (Config → World → WorldReply → World → List ℕ) → WorldView → List WorldStep → List ℕ → WorldView
    → Type 0
StepsEach meaning print c [] text d = (text ≡ []) × (d ≡ c)
StepsEach meaning print c (s ∷ ss) text d =
    (mid : WorldView) × ((first : List ℕ) × ((rest : List ℕ)
    × (Steps meaning print c s first mid × StepsEach meaning print mid ss rest d × (text ≡ first ++ rest))))

-- the correct replicas of the cluster, in ascending order of their numbers
abbrev pub correct_in : WorldView → List ℕ
correct_in c = filter (λ r. is_correct (world_of c).histories r) (range_with_len 0 c.config.replicas)

-- the replica with this number; a number above 255 becomes 255, which no cluster has
abbrev pub replica_named : ℕ → ℕ
replica_named n = if nat_lt n 256 then n else 255

-- ---- rounds

-- whether a frame of `from` with this addressee goes to r
abbrev pub is_for : ℕ → Addressee → ℕ → Bool
is_for from to.All r = not (r == from)
is_for from (to.One s) r = r == s

-- the replicas that the frame is passed to: its correct addressees
abbrev pub receivers : List ℕ → ℕ → Addressee → List ℕ
receivers correct from addressee = filter (is_for from addressee) correct

-- the passes of these frames, the first of which has this index
abbrev pub passes_from : List ℕ → ℕ → ℕ → List Sent → List WorldStep
passes_from correct from index [] = []
passes_from correct from index (f ∷ fs) =
    map (step.Pass from index) (receivers correct from f.addressee) ++ passes_from correct from (index + 1) fs

-- the passes of the frames that a step sent; its replica had sent `before` frames earlier
abbrev pub passes_of : List ℕ → ℕ → WorldReply → World → List WorldStep
passes_of correct before (answer.Refused why) new = []
passes_of correct before (answer.Done r i) new = passes_from correct r before (sent_with (slice_get (entries_in new r) i))

-- these replicas end their rounds one after another; this text is printed, and these are the passes of what they sent
-- to the correct replicas
unfoldable pub EndsEach : Meanings → List ℕ → WorldView → List ℕ → List ℕ → List WorldStep → WorldView → Type 0
EndsEach meaning correct c [] text passes d = (text ≡ []) × (passes ≡ []) × (d ≡ c)
EndsEach meaning correct c (r ∷ rs) text passes d =
    (mid : WorldView) × ((first : List ℕ) × ((rest : List ℕ) × ((more : List WorldStep)
    × ((end : Steps meaning step_text c (step.RoundEnd r) first mid) × EndsEach meaning correct mid rs rest more d
    × (text ≡ first ++ rest) × (passes ≡ passes_of correct (length (frames_sent (entries_in (world_of c) r))) end.given (world_of mid)
    ++ more)))))

-- whether the entry delivers a frame that was accepted
abbrev pub was_accepted : Option Entry → Bool
was_accepted None = false
was_accepted (Some e) = accepts e.reply
  where
    accepts : Reply → Bool
    accepts (reply.Delivered (Ok u)) = true
    accepts _ = false

-- whether the reply is that a delivered frame was accepted
abbrev pub is_accepting : WorldReply → World → Bool
is_accepting (answer.Refused why) new = false
is_accepting (answer.Done r i) new = was_accepted (slice_get (entries_in new r) i)

-- the text for a pass within a round: none if the frame is accepted
abbrev pub pass_text : Config → World → WorldReply → World → List ℕ
pass_text config w given new = if is_accepting given new then [] else step_text config w given new

-- each correct replica ends its round, and then each frame that was sent is passed to its addressees
pub record PlaysRound (meaning : Meanings) (c : WorldView) (text : List ℕ) (d : WorldView) : Type 0 where
  pub ends : List ℕ
  pub passes : List WorldStep
  pub mid : WorldView
  pub passed : List ℕ
  pub ended : EndsEach meaning (correct_in c) c (correct_in c) ends passes mid
  pub delivered : StepsEach meaning pass_text mid passes passed d
  pub printed : text ≡ ends ++ passed

-- ---- the state of the application

-- `info R H` and the hash, or why the step may not name the replica
abbrev pub info_text : Meanings → Config → World → ℕ → List ℕ
info_text meaning config w r = unless (fault_at config w r)
  where
    unless : Option WorldRefusal → List ℕ
    unless (Some why) = with_line_feed (refusal_text why)
    unless None = with_line_feed (told_text r (info_reply meaning config.kind (commits_of config r (entries_in w r))))

-- ---- lies

-- the frames in which a replica's reports are looked up: what it sent, if it is correct, and otherwise what liars signed
abbrev pub report_sources : SimulationView → ℕ → List (List ℕ)
report_sources p r = if is_correct (world_of p.cluster).histories r then frames_sent (entries_in (world_of p.cluster) r) else p.lies

-- the earliest report of replica r in phase k that serves
abbrev pub serving : SimulationView → Lie → ℕ → ℕ → Option SignedReport
serving p l k r = first_serving l k r (report_sources p r)

-- the serving reports, at most one for each replica, in ascending order
abbrev pub all_serving : SimulationView → Lie → ℕ → List SignedReport
all_serving p l k = filter_map (serving p l k) (range_with_len 0 p.cluster.config.replicas)

-- as many of them as a proof has
abbrev pub proof_for : SimulationView → Lie → ℕ → List SignedReport
proof_for p l k = take (quorum p.cluster.config) (all_serving p l k)

-- the replicas that a lie goes to
abbrev pub lie_receivers : WorldView → Towards → List ℕ
lie_receivers c (towards.One n) = replica_named n ∷ []
lie_receivers c towards.All = correct_in c

-- the injections of these bytes, one for each receiver
abbrev pub injections_to : List ℕ → List ℕ → List WorldStep
injections_to receivers bytes = map (λ r. step.Inject r bytes) receivers

-- the liar's next leaf signs the statement
abbrev pub Signed : WorldView → ℕ → Statement → Result (List ℕ) SignFault → WorldView → Type 0
Signed c liar said given d = SignsFor (λ x. x) c liar (statement_bytes said) given d

-- the liar signs the statement, and its frame is injected
pub record TellsLie (meaning : Meanings) (l : Lie) (c : WorldView) (said : Statement) (signature : List ℕ) (text : List ℕ)
    (d : WorldView) : Type 0 where
  pub mid : WorldView
  pub signs : Signed c l.liar said (Ok signature) mid
  pub injected : StepsEach meaning step_text mid
      (injections_to (lie_receivers mid l.to) (frame_bytes (record { statement = said; signature = signature }))) text d

-- the frame of a statement and its signature
abbrev pub frame_with : Statement → List ℕ → List ℕ
frame_with said signature = frame_bytes (record { statement = said; signature = signature })

-- the outcome of a lie that a liar is asked to sign: it is told, or no leaf is left
abbrev pub EndsLie : Meanings → Lie → Statement → SimulationView → Result (List ℕ) SignFault → List ℕ → SimulationView → Type 0
EndsLie meaning l said p (Ok signature) text q =
    TellsLie meaning l p.cluster said signature text q.cluster × (q.lies ≡ p.lies ++ frame_with said signature ∷ [])
EndsLie meaning l said p (Err sign.Exhausted) text q =
    Signed p.cluster l.liar said (Err sign.Exhausted) q.cluster × (q.lies ≡ p.lies) × (text ≡ with_line_feed (codes "exhausted"))
EndsLie meaning l said p (Err sign.NoMemory) text q = ⊥

-- a liar tells the lie; a replica that is not a liar tells none
abbrev pub Lies : Meanings → Lie → Statement → SimulationView → List ℕ → SimulationView → Type 0
Lies meaning l said p text q =
    ((given : Result (List ℕ) SignFault) × EndsLie meaning l said p given text q)
    ⊎ ((liar_at p.cluster l.liar ≡ None) × (q ≡ p) × (text ≡ []))

-- a liar tells a lock with this proof, if there are enough serving reports; otherwise the text is that it cannot
abbrev pub LiesLock : Meanings → Lie → List SignedReport → List ℕ → SimulationView → List ℕ → SimulationView → Type 0
LiesLock meaning l proof cannot p text q =
    MatchBool (nat_lt (length proof) (quorum p.cluster.config))
    ((text ≡ cannot) × (q ≡ p))
    (Lies meaning l (statement.Lock (lying_lock l proof)) p text q)

-- ---- commands

-- a command that stands for a step
abbrev pub PlaysStep : Meanings → SimulationView → WorldStep → List ℕ → SimulationView → Type 0
PlaysStep meaning p s text q = Steps meaning step_text p.cluster s text q.cluster × (q.lies ≡ p.lies)

-- each correct replica ends its round, and nothing is passed on
abbrev pub PlaysSilent : Meanings → SimulationView → List ℕ → SimulationView → Type 0
PlaysSilent meaning p text q = (passes : List WorldStep)
    × (EndsEach meaning (correct_in p.cluster) p.cluster (correct_in p.cluster) text passes q.cluster × (q.lies ≡ p.lies))

-- the step of the world that a command stands for, if it stands for one
abbrev pub step_of : Command → Option WorldStep
step_of (command.Submit r bytes) = Some (step.Submit (replica_named r) bytes)
step_of (command.Propose r h) = Some (step.Propose (replica_named r) h)
step_of (command.End r) = Some (step.RoundEnd (replica_named r))
step_of (command.Pass from index to) = Some (step.Pass (replica_named from) index (replica_named to))
step_of (command.Inject r bytes) = Some (step.Inject (replica_named r) bytes)
step_of (command.Execute r) = Some (step.Execute (replica_named r))
step_of (command.Query r key) = Some (step.Query (replica_named r) key 0)
step_of (command.Retire r floor) = Some (step.Retire (replica_named r) floor)
step_of _ = None

-- what the other commands do, and what is printed for them
abbrev pub PlaysOther : Meanings → SimulationView → Command → List ℕ → SimulationView → Type 0
PlaysOther meaning p (command.Info r) text q = (text ≡ info_text meaning p.cluster.config (world_of p.cluster) (replica_named r)) × (q ≡ p)
PlaysOther meaning p command.Silent text q = PlaysSilent meaning p text q
PlaysOther meaning p command.Round text q = PlaysRound meaning p.cluster text q.cluster × (q.lies ≡ p.lies)
PlaysOther meaning p (command.LieReport l) text q = Lies meaning l (statement.Report (lying_report l)) p text q
PlaysOther meaning p (command.LieLock l) text q = LiesLock meaning l (proof_for p l l.phase)
    (with_line_feed (codes "lie-lock cannot")) p text q
PlaysOther meaning p (command.LieStale l k) text q = LiesLock meaning l (proof_for p l k)
    (with_line_feed (codes "lie-stale cannot")) p text q
PlaysOther meaning p (command.LieAck l) text q = Lies meaning l (statement.Ack (lying_ack l)) p text q
PlaysOther meaning p _ text q = ⊥

-- what a command does, and what is printed for it
unfoldable pub Plays : Meanings → SimulationView → Command → List ℕ → SimulationView → Type 0
Plays meaning p c text q = by_step (step_of c)
  where
    by_step : Option WorldStep → Type 0
    by_step (Some s) = PlaysStep meaning p s text q
    by_step None = PlaysOther meaning p c text q

-- what commands do, one after another
unfoldable pub PlaysAll : Meanings → SimulationView → List Command → List ℕ → SimulationView → Type 0
PlaysAll meaning p [] text q = (text ≡ []) × (q ≡ p)
PlaysAll meaning p (c ∷ cs) text q =
    (mid : SimulationView) × ((first : List ℕ)
    × ((rest : List ℕ) × (Plays meaning p c first mid × PlaysAll meaning mid cs rest q × (text ≡ first ++ rest))))

-- ---- the results of calls

-- the replica that a step addresses
abbrev pub target : WorldStep → ℕ
target (step.Submit r bytes) = r
target (step.Propose r h) = r
target (step.RoundEnd r) = r
target (step.Execute r) = r
target (step.Query r key h) = r
target (step.Retire r floor) = r
target (step.Pass from index to) = to
target (step.Inject r bytes) = r

-- the text for a reply, given the heights that weren't decided before
abbrev pub answer_text : Config → List ℕ → WorldReply → World → List ℕ
answer_text config before (answer.Refused why) new = with_line_feed (refusal_text why)
answer_text config before (answer.Done r i) new = entry_text config r before (entries_in new r) (slice_get (entries_in new r) i)

-- the step was taken with this reply, and its text was appended
pub record PrintsStep (meaning : Meanings) (print : Config → World → WorldReply → World → List ℕ) (c : WorldView) (s : WorldStep)
    (given : WorldReply)
    (d : WorldView) (before after : List ℕ) : Type 0 where
  pub answered : IsAnswered meaning c s given d
  pub printed : after ≡ before ++ print c.config (world_of c) given (world_of d)

-- the result of asking a liar to sign
abbrev pub IsSigning : WorldView → ℕ → Statement → Signing → WorldView → Type 0
IsSigning c liar said (signing.Signed frame) d = (frame.statement ≡ said) × Signed c liar said (Ok frame.signature) d
IsSigning c liar said signing.Exhausted d = Signed c liar said (Err sign.Exhausted) d
IsSigning c liar said signing.NoLiar d = (liar_at c liar ≡ None) × (d ≡ c)

-- the replica ends its round; its text, and the passes of what it sent, were appended
pub record EndsRound (meaning : Meanings) (correct : List ℕ) (c : WorldView) (r : ℕ) (before after : List ℕ) (passes more : List WorldStep)
    (d : WorldView) : Type 0
  where
    pub text : List ℕ
    pub end : Steps meaning step_text c (step.RoundEnd r) text d
    pub printed : after ≡ before ++ text
    pub passed : more ≡ passes ++ passes_of correct (length (frames_sent (entries_in (world_of c) r))) end.given (world_of d)

-- whatever the command, steps of the definitions lead from the old cluster to the new one, which has the same
-- configuration and keys
pub record IsReachedByRun (meaning : Meanings) (c d : WorldView) : Type 0 where
  pub steps : List WorldStep
  pub answers : List WorldReply
  pub runs : Runs meaning c.config c.ring (world_of c) steps answers (world_of d)
  pub config : d.config ≡ c.config
  pub ring : d.ring ≡ c.ring
