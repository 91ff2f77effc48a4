-- The run that locks, decides and commits is lawful.
use Rattle.ledger_model.specs.Kinds.{meaning_of}
use Rattle.std.proofs.Common.{◌≡◌, ℕ, ◌+◌, ◌<◌, ◌≤◌, ◌&&◌, true, false, inl, inr, List, [], ◌∷◌, ◌++◌, refl, sym, ap, subst, ◌∙◌}
use Rattle.std.proofs.Common.{append-nil, lit≤, lit<, arith, Result, is_some}
use Rattle.std.specs.Prelude.{nat_eq, Some, None, Ok, map, IsTrue, filter, if◌then◌else◌}
use Rattle.std.specs.List.{filter_map, flat_map, AllByRecursion, cons_option}
use Rattle.std.proofs.lemmas.Bool.{cases_Bool, eqb-true}
use Rattle.std.proofs.lemmas.Option.{same_Some}
use Rattle.ledger_model.specs.Limits.{last_round}
use Rattle.ledger_model.specs.declared.config.Config.{Config}
use Rattle.ledger_model.specs.declared.config.AppKind.TheVariants.{KvStore}
use Rattle.ledger_model.specs.declared.version.Version.TheVariants.{One, Two}
use Rattle.ledger_model.specs.declared.event.Event.TheVariants as event
use Rattle.ledger_model.specs.declared.reply.Reply.TheVariants as reply
use Rattle.ledger_model.specs.declared.reply.RoundEnded.{RoundEnded}
use Rattle.ledger_model.specs.declared.reply.Sent.{Sent}
use Rattle.ledger_model.specs.declared.history.Entry.{Entry}
use Rattle.ledger_model.specs.declared.statement.SignedStatement.{SignedStatement}
use Rattle.ledger_model.specs.declared.statement.Statement.{Statement}
use Rattle.ledger_model.specs.declared.statement.Statement.TheVariants as statement
use Rattle.ledger_model.specs.Values.{Value}
use Rattle.ledger_model.specs.Spelling.{frame_bytes, IsFrameIn}
use Rattle.ledger_model.specs.Reading.{reading, reading_in}
use Rattle.ledger_model.specs.declared.statement.SignedReport.{SignedReport}
use Rattle.ledger_model.specs.Commits.{commits_of, pool_of, pool_after, floor_of, submit_reply, propose_reply, execute_reply, block_of}
use Rattle.ledger_model.specs.Replies.{check_reply}
use Rattle.ledger_model.specs.Kinds.{store}
use Rattle.ledger_model.specs.Notes.{Has, initial_of, is_lock, Note, Proposed, Round, OwnStatement, Read, clock_of, open_of, version_of}
use Rattle.ledger_model.specs.Logs.{is_mute, height_of, if_some, made_notes, statements_sent, statements_made, own_ack, notes_of, log_of, log_after}
use Rattle.ledger_model.specs.Rules.{Ring, with_signature, MayMake, report_of, causes, answer_to}
use Rattle.ledger_model.specs.Proper.{is_all_proper, proper_values}
use Rattle.ledger_model.specs.Locks.{held_values, holds, took, decided_of}
use Rattle.ledger_model.specs.Rounds.{place_of, release_place, number_of}
use Rattle.ledger_model.specs.Versions.{reads}
use Rattle.ledger_model.specs.declared.reply.Ignored.{Ignored}
use Rattle.ledger_model.specs.declared.reply.Addressee.TheVariants as addressee
use Rattle.ledger_model.specs.declared.statement.Lock.{Lock}
use Rattle.ledger_model.specs.declared.history.History.{History}
use Rattle.ledger_model.specs.Groups.{AreCorrect, AllProposed, Backed, BackedWhole, is_correct, log_in}
use Rattle.ledger_laws.proofs.Refuted.{Is_0, Is_1, Is_2, replica_of_three, each_of_three}
use Rattle.ledger_model.specs.Lawful.{Lawful, Follows, FollowsFrom, LawfulRoundEnd, IsSentRight, never_falls, locks_sent_on, held_locks, clock_at, answer}
use Rattle.ledger_model.proofs.FrameReading.{reading-again}
use Rattle.ledger_model.proofs.Staying.{log_after-append}
use Rattle.ledger_laws.specs.Examples.{four, a, tx_a, quiet_end}
use Rattle.ledger_laws.specs.Vacuity.{takes, proposes, send_entry, accept_entry, runs_block, first_result}
use Rattle.ledger_laws.specs.PlainRun.{IsSendable, Signing, PlainRunCommits, report_shown, owner_entries, other_entries, plain_histories, AreSendable, report_sent, lock_sent, ack_sent}

abbrev K : Config
K = four KvStore

-- ---- the logs, entry by entry

-- the log of a replica at height 1, and at every other height
pub record Logs (id : ℕ) (front : List Entry) (log other : List Note) : Type 0 where
  here : log_of K id 1 front ≡ log
  there : (h : ℕ) → nat_eq 1 h ≡ false → log_of K id h front ≡ other

log_more : (id h : ℕ) (front : List Entry) (e : Entry) (log : List Note) → log_of K id h front ≡ log
    → log_of K id h (front ++ e ∷ []) ≡ log ++ notes_of K id h log e.event e.reply
unfolding log_of log_after
log_more id h front e log is = log_after-append K id h [] front (e ∷ []) ∙ ap (λ l. l ++ notes_of K id h l e.event e.reply) is

-- an entry of which the logs have no note
no_note : (id : ℕ) (front : List Entry) (e : Entry) (log other : List Note)
    → ((h : ℕ) (l : List Note) → notes_of K id h l e.event e.reply ≡ []) → Logs id front log other → Logs id (front ++ e ∷ []) log other
no_note id front e log other none at = record {
  here = log_more id 1 front e log at.here ∙ ap (λ ns. log ++ ns) (none 1 log) ∙ append-nil log;
  there = λ h not. log_more id h front e other (at.there h not) ∙ ap (λ ns. other ++ ns) (none h other) ∙ append-nil other;
}

-- a frame of height 1 is read
read_one : (s : SignedStatement) → IsFrameIn One s → reading_in One (frame_bytes s) ≡ Some s
read_one s is = reading-again One s is

accepted : (id : ℕ) (front : List Entry) (s : SignedStatement) (log other : List Note) → IsFrameIn One s → height_of s.statement ≡ 1
    → Logs id front log other → Logs id (front ++ accept_entry s ∷ []) (log ++ Read (clock_of log) s ∷ []) other
unfolding notes_of
accepted id front s log other is height at = record {
  here = log_more id 1 front (accept_entry s) log at.here
      ∙ ap (λ o. log ++ if_some o (λ t. if nat_eq (height_of t.statement) 1 then Read (clock_of log) t ∷ [] else [])) (read_one s is)
      ∙ ap (λ n. log ++ (if nat_eq n 1 then Read (clock_of log) s ∷ [] else [])) height;
  there = λ h not. log_more id h front (accept_entry s) other (at.there h not)
      ∙ ap (λ o. other ++ if_some o (λ t. if nat_eq (height_of t.statement) h then Read (clock_of other) t ∷ [] else [])) (read_one s is)
      ∙ ap (λ n. other ++ (if nat_eq n h then Read (clock_of other) s ∷ [] else [])) height
      ∙ ap (λ b. other ++ (if b then Read (clock_of other) s ∷ [] else [])) not
      ∙ append-nil other;
}

-- the end of a round
abbrev ends : List Sent → Entry
ends frames = record { event = event.RoundEnd; reply = reply.RoundEnded (Ok (record { mute = false; frames = frames })) }

-- what the replica makes at height 1 as a round opens, and that it makes nothing elsewhere
record Makes (id : ℕ) (log other : List Note) (frames : List Sent) (made : List SignedStatement) : Type 0 where
  here : statements_made K id 1 log (clock_of log + 1) (record { mute = false; frames = frames }) ≡ made
  there : (h : ℕ) → nat_eq 1 h ≡ false → statements_made K id h other (clock_of other + 1) (record { mute = false; frames = frames }) ≡ []

round_ended : (id : ℕ) (front : List Entry) (frames : List Sent) (made : List SignedStatement) (log other : List Note)
    → Makes id log other frames made → Logs id front log other
    → Logs id (front ++ ends frames ∷ [])
    (log ++ Round (clock_of log + 1) ∷ flat_map (made_notes log (clock_of log + 1)) made) (other ++ Round (clock_of other + 1) ∷ [])
unfolding notes_of
round_ended id front frames made log other makes at = record {
  here = log_more id 1 front (ends frames) log at.here
      ∙ ap (λ ss. log ++ Round (clock_of log + 1) ∷ flat_map (made_notes log (clock_of log + 1)) ss) makes.here;
  there = λ h not. log_more id h front (ends frames) other (at.there h not)
      ∙ ap (λ ss. other ++ Round (clock_of other + 1) ∷ flat_map (made_notes other (clock_of other + 1)) ss) (makes.there h not);
}

-- ---- lawful entries

-- the replica makes nothing where the height isn't open
may_none : (id h c : ℕ) (log : List Note) (made : List Statement) → open_of log ≡ None → made ≡ [] → MayMake K id h log c false made
unfolding MayMake
may_none id h c log made shut none = rw shut none

-- what is to be shown of the frames that a round end sends
record IsSending (frames : List Sent) : Type 0 where
  right : AllByRecursion (IsSentRight K) frames
  statements : List SignedStatement
  read : filter_map (λ f. reading f.frame) frames ≡ statements
  order : IsTrue (never_falls (map (λ s. height_of s.statement) statements))
  own_height : (h : ℕ) → nat_eq 1 h ≡ false → filter (λ s. nat_eq (height_of s.statement) h) statements ≡ []

-- what is to be shown of a round end
record IsEnd (id : ℕ) (front : List Entry) (log other : List Note) (frames : List Sent) : Type 0 where
  few : clock_at front < last_round
  loud : is_mute front ≡ false
  sends : IsSending frames
  made : List SignedStatement
  makes : Makes id log other frames made
  may : MayMake K id 1 log (clock_of log + 1) false (map (λ s. s.statement) made)
  on : IsTrue (nat_eq (place_of (clock_of log + 1)) release_place) → statements_sent 1
      (record { mute = false; frames = frames }) ≡ locks_sent_on log
  shut : open_of other ≡ None

-- what a replica may make at one height, by the log there
abbrev MakesRight : ℕ → ℕ → RoundEnded → List Note → Type 0
MakesRight id h ended log =
    MayMake K id h log (clock_of log + 1) ended.mute (map (λ s. s.statement) (statements_made K id h log (clock_of log + 1) ended))

-- and what it sends on there
abbrev SendsRight : ℕ → RoundEnded → List Note → Type 0
SendsRight h ended log = IsTrue (nat_eq (place_of (clock_of log + 1)) release_place) → statements_sent h ended ≡ locks_sent_on log

module _ (id : ℕ) (front : List Entry) (log other : List Note) (frames : List Sent) (end : IsEnd id front log other frames)
    (at : Logs id front log other) where
  abbrev E : RoundEnded
  E = record { mute = false; frames = frames }

  makes_right : (h : ℕ) → MakesRight id h E (log_of K id h front)
  makes_right h = elim (cases_Bool (nat_eq 1 h)) [
    | inl one ↦ subst (λ k. MakesRight id k E (log_of K id k front)) (eqb-true 1 h one)
        (subst (MakesRight id 1 E) (sym at.here)
        (subst (λ m. MayMake K id 1 log (clock_of log + 1) false (map (λ s. s.statement) m)) (sym end.makes.here) end.may))
    | inr not ↦ subst (MakesRight id h E) (sym (at.there h not))
        (may_none id h (clock_of other + 1) other _ end.shut (ap (map (λ s. s.statement)) (end.makes.there h not)))
  ]

  sends_nothing : (h : ℕ) → nat_eq 1 h ≡ false → SendsRight h E other
  unfolding statements_sent
  sends_nothing h not place =
      ap (filter (λ s. nat_eq (height_of s.statement) h)) end.sends.read ∙ end.sends.own_height h not
      ∙ sym (ap (λ o. if is_some o then held_locks other else []) end.shut)

  sends_right : (h : ℕ) → SendsRight h E (log_of K id h front)
  sends_right h = elim (cases_Bool (nat_eq 1 h)) [
    | inl one ↦ subst (λ k. SendsRight k E (log_of K id k front)) (eqb-true 1 h one) (subst (SendsRight 1 E) (sym at.here) end.on)
    | inr not ↦ subst (SendsRight h E) (sym (at.there h not)) (sends_nothing h not)
  ]

  lawful_end : (clock_at front < last_round) × LawfulRoundEnd K id front E
  lawful_end = (
    end.few,
    record {
      mute = λ mute. subst IsTrue end.loud mute;
      frames = end.sends.right;
      order = subst (λ ss. IsTrue (never_falls (map (λ s. height_of s.statement) ss))) (sym end.sends.read) end.sends.order;
      makes = makes_right;
      sends_on = sends_right;
    },
  )

-- a frame that passes every test is accepted lawfully
lawful_accept : (ring : Ring) (id : ℕ) (front : List Entry) (s : SignedStatement) (log other : List Note) → IsFrameIn One s
    → height_of s.statement ≡ 1 → Logs id front log other → ◌≡◌ {A = Result (Unit {0}) Ignored} (Ok tt) (answer_to K ring log s)
    → Lawful meaning_of K ring id front (event.Deliver (frame_bytes s)) (reply.Delivered (Ok tt))
lawful_accept ring id front s log other is height at ok =
    ok ∙ ap (λ l. answer_to K ring l s) (sym at.here) ∙ ap (λ n. answer_to K ring (log_of K id n front) s) (sym height)
    ∙ ap (answer K ring id front) (sym (read_one s is))

-- ---- the run

-- a frame to all
abbrev to_all : SignedStatement → Sent
to_all s = record { addressee = addressee.All; frame = frame_bytes s }

-- a frame that is read as its statement, of version 1
sent_frame : (s : SignedStatement) → version_of s.statement ≡ One → IsFrameIn One s → reading (frame_bytes s) ≡ Some s
sent_frame s version is = reading-again Two s (record {
  read = subst (λ v. IsTrue (reads Two v)) (sym version) refl;
  statement = is.statement;
  signature = is.signature;
  short = is.short;
})

-- a frame of a statement of height 1, to all
sent_one : (s : SignedStatement) → version_of s.statement ≡ One → IsFrameIn One s → filter_map (λ f. reading f.frame)
    (to_all s ∷ []) ≡ s ∷ []
sent_one s version is = ap (λ o. cons_option o []) (sent_frame s version is)

not_own : (s : SignedStatement) → height_of s.statement ≡ 1 → (h : ℕ) → nat_eq 1 h ≡ false
    → filter (λ t. nat_eq (height_of t.statement) h) (s ∷ []) ≡ []
not_own s height h not = ap (λ n. if nat_eq n h then s ∷ [] else []) height ∙ ap (λ b. if b then s ∷ [] else []) not

-- no frame is sent
sends_none : IsSending []
sends_none = record { right = tt; statements = []; read = refl; order = refl; own_height = λ h not. refl }

-- one frame is sent, of a statement of height 1
sends_one : (f : Sent) (right : IsSentRight K f) → height_of right.signed.statement ≡ 1 → IsSending (f ∷ [])
sends_one f right height = record {
  right = (right, tt);
  statements = right.signed ∷ [];
  read = ap (λ o. cons_option o []) right.spelled;
  order = refl;
  own_height = not_own right.signed height;
}

module _ (ring : Ring) (sign : Signing) (are : AreSendable ring sign) where
  abbrev rep : ℕ → SignedStatement
  rep r = report_sent sign r

  abbrev lock : SignedStatement
  lock = lock_sent sign

  abbrev own_ack_1 : SignedStatement
  own_ack_1 = record { statement = (ack_sent sign 1).statement; signature = [] }

  report_frame : (r : ℕ) → r ≤ 2 → IsFrameIn One (rep r)
  report_frame r le = (are.report r le).frame

  -- ---- the owner's logs
  abbrev log_after_report : List Note
  log_after_report = Proposed a ∷ Round 1 ∷ OwnStatement 1 (rep 1).statement ∷ Read 1 (rep 1) ∷ []

  abbrev log_after_reports : List Note
  log_after_reports = log_after_report ++ Read 1 (rep 0) ∷ Read 1 (rep 2) ∷ []

  abbrev log_after_lock : List Note
  log_after_lock = log_after_reports ++ Round 2 ∷ OwnStatement 2 lock.statement ∷ Read 2 lock ∷ []

  abbrev log_after_ack : List Note
  log_after_ack = log_after_lock ++ Round 3 ∷ OwnStatement 3 own_ack_1.statement ∷ Read 3 own_ack_1 ∷ []

  abbrev log_after_acks : List Note
  log_after_acks = log_after_ack ++ Read 3 (ack_sent sign 0) ∷ Read 3 (ack_sent sign 2) ∷ []

  -- ---- the owner's entries, up to each
  abbrev entries_after_start : List Entry
  entries_after_start = takes tx_a ∷ proposes a ∷ []

  abbrev entries_after_report : List Entry
  entries_after_report = entries_after_start ++ send_entry (rep 1) ∷ []

  abbrev entries_after_reports : List Entry
  entries_after_reports = entries_after_report ++ accept_entry (rep 0) ∷ accept_entry (rep 2) ∷ []

  abbrev entries_after_lock : List Entry
  entries_after_lock = entries_after_reports ++ send_entry lock ∷ []

  abbrev entries_after_ack : List Entry
  entries_after_ack = entries_after_lock ++ quiet_end ∷ []

  abbrev entries_after_acks : List Entry
  entries_after_acks = entries_after_ack ++ accept_entry (ack_sent sign 0) ∷ accept_entry (ack_sent sign 2) ∷ []

  abbrev entries_after_end : List Entry
  entries_after_end = entries_after_acks ++ send_entry lock ∷ []

  -- what a replica has noted once it opened the height
  begun : (id : ℕ) → Logs id entries_after_start (Proposed a ∷ []) []
  unfolding log_of log_after notes_of
  begun id = record { here = refl; there = λ h not. ap (λ b. if b then Proposed a ∷ [] else []) not }

  -- its report
  makes_report : (id : ℕ) → id ≤ 2 → Makes id (Proposed a ∷ []) [] (to_all (rep id) ∷ []) (rep id ∷ [])
  unfolding statements_made statements_sent own_ack
  makes_report id le =
      let sent = sent_one (rep id) refl (report_frame id le) in
      record {
        here = ap (λ ss. filter (λ s. nat_eq (height_of s.statement) 1) ss ++ []) sent;
        there = λ h not. ap (λ ss. filter (λ s. nat_eq (height_of s.statement) h) ss ++ []) sent
            ∙ ap (λ ss. ss ++ []) (not_own (rep id) refl h not);
      }

  end_1 : (id : ℕ) → id ≤ 2 → IsEnd id entries_after_start (Proposed a ∷ []) [] (to_all (rep id) ∷ [])
  unfolding MayMake report_of is_all_proper proper_values held_values holds
  end_1 id le = record {
    few = lit< tt;
    loud = refl;
    sends = sends_one (to_all (rep id))
        (record { signed = rep id; spelled = sent_frame (rep id) refl (report_frame id le); addressed = refl }) refl;
    made = rep id ∷ [];
    makes = makes_report id le;
    may = refl;
    on = λ place. absurd (cc place);
    shut = refl;
  }

  reported : (id : ℕ) → id ≤ 2 → Logs id (entries_after_start ++ send_entry (rep id) ∷ [])
      (Proposed a ∷ Round 1 ∷ OwnStatement 1 (rep id).statement ∷ Read 1 (rep id) ∷ []) (Round 1 ∷ [])
  reported id le = round_ended id entries_after_start (to_all (rep id) ∷ []) (rep id ∷ []) (Proposed a ∷ []) [] (makes_report id le)
      (begun id)

  pub read_reports : Logs 1 entries_after_reports log_after_reports (Round 1 ∷ [])
  read_reports =
      accepted 1 (entries_after_report ++ accept_entry (rep 0) ∷ []) (rep 2) (log_after_report ++ Read 1 (rep 0) ∷ []) (Round 1 ∷ [])
      (report_frame 2 (lit≤ tt)) refl
      (accepted 1 entries_after_report (rep 0) log_after_report (Round 1 ∷ []) (report_frame 0 (lit≤ tt)) refl (reported 1 (lit≤ tt)))

  -- the owner locks
  makes_lock : Makes 1 log_after_reports (Round 1 ∷ []) (to_all lock ∷ []) (lock ∷ [])
  unfolding statements_made statements_sent own_ack
  makes_lock =
      let sent = sent_one lock refl are.lock.frame in
      record {
        here = ap (λ ss. filter (λ s. nat_eq (height_of s.statement) 1) ss ++ []) sent;
        there = λ h not. ap (λ ss. filter (λ s. nat_eq (height_of s.statement) h) ss ++ []) sent
            ∙ ap (λ ss. ss ++ []) (not_own lock refl h not);
      }

  proof_read : (p : SignedReport) → Has (report_shown sign 0 ∷ report_shown sign 1 ∷ report_shown sign 2 ∷ []) p → Has log_after_reports
      (Read 1 (with_signature p))
  proof_read p (inl is) = subst (λ x. Has log_after_reports (Read 1 (with_signature x))) is (inr (inr (inr (inr (inl refl)))))
  proof_read p (inr (inl is)) = subst (λ x. Has log_after_reports (Read 1 (with_signature x))) is (inr (inr (inr (inl refl))))
  proof_read p (inr (inr (inl is))) = subst (λ x. Has log_after_reports (Read 1 (with_signature x))) is
      (inr (inr (inr (inr (inr (inl refl))))))
  proof_read p (inr (inr (inr none))) = absurd none

  end_2 : IsEnd 1 entries_after_reports log_after_reports (Round 1 ∷ []) (to_all lock ∷ [])
  unfolding MayMake
  end_2 = record {
    few = lit< tt;
    loud = refl;
    sends = sends_one (to_all lock) (record { signed = lock; spelled = sent_frame lock refl are.lock.frame; addressed = refl }) refl;
    made = lock ∷ [];
    makes = makes_lock;
    may = inl (
      _,
      refl,
      record {
        of_version = refl;
        of_height = refl;
        of_phase = refl;
        own = refl;
        quorate = refl;
        supporting = refl;
        read = proof_read;
      },
    );
    on = λ place. absurd (cc place);
    shut = refl;
  }

  locked : Logs 1 entries_after_lock log_after_lock (Round 1 ∷ Round 2 ∷ [])
  unfolding held_values holds
  locked = round_ended 1 entries_after_reports (to_all lock ∷ []) (lock ∷ []) log_after_reports (Round 1 ∷ []) makes_lock read_reports

  -- the owner acknowledges its own lock, and sends nothing
  makes_own_ack : Makes 1 log_after_lock (Round 1 ∷ Round 2 ∷ []) [] (own_ack_1 ∷ [])
  unfolding statements_made statements_sent own_ack
  makes_own_ack = record { here = refl; there = λ h not. refl }

  end_3 : IsEnd 1 entries_after_lock log_after_lock (Round 1 ∷ Round 2 ∷ []) []
  unfolding MayMake
  end_3 = record {
    few = lit< tt;
    loud = refl;
    sends = sends_none;
    made = own_ack_1 ∷ [];
    makes = makes_own_ack;
    may = refl;
    on = λ place. absurd (cc place);
    shut = refl;
  }

  acked : Logs 1 entries_after_ack log_after_ack (Round 1 ∷ Round 2 ∷ Round 3 ∷ [])
  acked = round_ended 1 entries_after_lock [] (own_ack_1 ∷ []) log_after_lock (Round 1 ∷ Round 2 ∷ []) makes_own_ack locked

  read_acks : Logs 1 entries_after_acks log_after_acks (Round 1 ∷ Round 2 ∷ Round 3 ∷ [])
  read_acks =
      accepted 1 (entries_after_ack ++ accept_entry (ack_sent sign 0) ∷ []) (ack_sent sign 2) (log_after_ack ++ Read 3 (ack_sent sign 0) ∷ [])
      (Round 1 ∷ Round 2 ∷ Round 3 ∷ []) are.ack_2.frame refl
      (accepted 1 entries_after_ack (ack_sent sign 0) log_after_ack (Round 1 ∷ Round 2 ∷ Round 3 ∷ []) are.ack_0.frame refl acked)

  -- it sends its lock on
  makes_none : Makes 1 log_after_acks (Round 1 ∷ Round 2 ∷ Round 3 ∷ []) (to_all lock ∷ []) []
  unfolding statements_made
  makes_none = record { here = refl; there = λ h not. refl }

  end_4 : IsEnd 1 entries_after_acks log_after_acks (Round 1 ∷ Round 2 ∷ Round 3 ∷ []) (to_all lock ∷ [])
  unfolding MayMake statements_sent held_locks held_values holds
  end_4 = record {
    few = lit< tt;
    loud = refl;
    sends = sends_one (to_all lock) (record { signed = lock; spelled = sent_frame lock refl are.lock.frame; addressed = refl }) refl;
    made = [];
    makes = makes_none;
    may = refl;
    on = λ place. ap (filter (λ s. nat_eq (height_of s.statement) 1)) (sent_one lock refl are.lock.frame);
    shut = refl;
  }

  decided : Logs 1 entries_after_end (log_after_acks ++ Round 4 ∷ []) (Round 1 ∷ Round 2 ∷ Round 3 ∷ Round 4 ∷ [])
  decided = round_ended 1 entries_after_acks (to_all lock ∷ []) [] log_after_acks (Round 1 ∷ Round 2 ∷ Round 3 ∷ []) makes_none read_acks

  -- ---- what the owner accepts

  accepts_0 : ◌≡◌ {A = Result (Unit {0}) Ignored} (Ok tt) (answer_to K ring log_after_report (rep 0))
  unfolding causes
  accepts_0 = rw (are.report 0 (lit≤ tt)).signed refl

  accepts_2 : ◌≡◌ {A = Result (Unit {0}) Ignored} (Ok tt) (answer_to K ring (log_after_report ++ Read 1 (rep 0) ∷ []) (rep 2))
  unfolding causes
  accepts_2 = rw (are.report 2 (lit≤ tt)).signed refl

  accepts_ack_0 : ◌≡◌ {A = Result (Unit {0}) Ignored} (Ok tt) (answer_to K ring log_after_ack (ack_sent sign 0))
  unfolding causes
  accepts_ack_0 = rw are.ack_0.signed refl

  accepts_ack_2 : ◌≡◌ {A = Result (Unit {0}) Ignored} (Ok tt)
      (answer_to K ring (log_after_ack ++ Read 3 (ack_sent sign 0) ∷ []) (ack_sent sign 2))
  unfolding causes
  accepts_ack_2 = rw are.ack_2.signed refl

  -- ---- the owner's history is lawful

  runs_a : Lawful meaning_of K ring 1 entries_after_end event.Execute (reply.Executed (Ok (first_result a)))
  unfolding execute_reply commits_of decided_of
  runs_a = ap (λ l. block_of meaning_of K [] (decided_of K l)) (sym decided.here)

  submits_a : (id : ℕ) → Lawful meaning_of K ring id [] (event.Submit tx_a) (reply.Submitted (Ok tt))
  unfolding submit_reply commits_of pool_of pool_after check_reply store
  submits_a id = refl

  proposes_a : (id : ℕ) → Lawful meaning_of K ring id (takes tx_a ∷ []) (event.Propose 1) (reply.Proposed (Ok a))
  unfolding propose_reply commits_of pool_of pool_after floor_of log_of log_after notes_of
  proposes_a id = refl

  pub owner_follows : Follows meaning_of K ring 1 (owner_entries sign)
  unfolding Follows FollowsFrom
  owner_follows = (
    submits_a 1,
    (
      proposes_a 1,
      (
        lawful_end 1 entries_after_start (Proposed a ∷ []) [] (to_all (rep 1) ∷ []) (end_1 1 (lit≤ tt)) (begun 1),
        (
          lawful_accept ring 1 entries_after_report (rep 0) log_after_report (Round 1 ∷ []) (report_frame 0 (lit≤ tt)) refl
              (reported 1 (lit≤ tt)) accepts_0,
          (
            lawful_accept ring 1 (entries_after_report ++ accept_entry (rep 0) ∷ []) (rep 2) (log_after_report ++ Read 1 (rep 0) ∷ [])
                (Round 1 ∷ []) (report_frame 2 (lit≤ tt)) refl
                (accepted 1 entries_after_report (rep 0) log_after_report (Round 1 ∷ []) (report_frame 0 (lit≤ tt)) refl
                (reported 1 (lit≤ tt))) accepts_2,
            (
              lawful_end 1 entries_after_reports log_after_reports (Round 1 ∷ []) (to_all lock ∷ []) end_2 read_reports,
              (
                lawful_end 1 entries_after_lock log_after_lock (Round 1 ∷ Round 2 ∷ []) [] end_3 locked,
                (
                  lawful_accept ring 1 entries_after_ack (ack_sent sign 0) log_after_ack
                      (Round 1 ∷ Round 2 ∷ Round 3 ∷ []) are.ack_0.frame refl acked accepts_ack_0,
                  (
                    lawful_accept ring 1 (entries_after_ack ++ accept_entry (ack_sent sign 0) ∷ []) (ack_sent sign 2)
                        (log_after_ack ++ Read 3 (ack_sent sign 0) ∷ [])
                        (Round 1 ∷ Round 2 ∷ Round 3 ∷ []) are.ack_2.frame refl
                        (accepted 1 entries_after_ack (ack_sent sign 0) log_after_ack
                        (Round 1 ∷ Round 2 ∷ Round 3 ∷ []) are.ack_0.frame refl acked) accepts_ack_2,
                    (
                      lawful_end 1 entries_after_acks log_after_acks (Round 1 ∷ Round 2 ∷ Round 3 ∷ []) (to_all lock ∷ []) end_4 read_acks,
                      (runs_a, tt),
                    ),
                  ),
                ),
              ),
            ),
          ),
        ),
      ),
    ),
  )

  -- ---- the other two

  module _ (r : ℕ) (le : r ≤ 2) (not_1 : nat_eq 1 r ≡ false) (ack : IsSendable ring (ack_sent sign r)) where
    abbrev other_log_after_report : List Note
    other_log_after_report = Proposed a ∷ Round 1 ∷ OwnStatement 1 (rep r).statement ∷ Read 1 (rep r) ∷ []

    abbrev other_log_after_lock : List Note
    other_log_after_lock = other_log_after_report ++ Round 2 ∷ Read 2 lock ∷ []

    abbrev other_log_after_ack : List Note
    other_log_after_ack = other_log_after_lock ++ Round 3 ∷ OwnStatement 3 (ack_sent sign r).statement ∷ Read 3 (ack_sent sign r) ∷ []

    abbrev other_entries_after_report : List Entry
    other_entries_after_report = entries_after_start ++ send_entry (rep r) ∷ []

    abbrev other_entries_after_lock : List Entry
    other_entries_after_lock = other_entries_after_report ++ quiet_end ∷ accept_entry lock ∷ []

    -- it makes no lock
    makes_nothing : Makes r other_log_after_report (Round 1 ∷ []) [] []
    unfolding statements_made statements_sent own_ack
    makes_nothing = record { here = refl; there = λ h not. refl }

    other_end_2 : IsEnd r other_entries_after_report other_log_after_report (Round 1 ∷ []) []
    unfolding MayMake
    other_end_2 = record {
      few = lit< tt;
      loud = refl;
      sends = sends_none;
      made = [];
      makes = makes_nothing;
      may = rw not_1 refl;
      on = λ place. absurd (cc place);
      shut = refl;
    }

    waited : Logs r (other_entries_after_report ++ quiet_end ∷ []) (other_log_after_report ++ Round 2 ∷ []) (Round 1 ∷ Round 2 ∷ [])
    waited = round_ended r other_entries_after_report [] [] other_log_after_report (Round 1 ∷ []) makes_nothing (reported r le)

    -- it takes the lock
    takes_lock : ◌≡◌ {A = Result (Unit {0}) Ignored} (Ok tt) (answer_to K ring (other_log_after_report ++ Round 2 ∷ []) lock)
    unfolding causes held_values holds
    takes_lock = rw (
      are.lock.signed,
      (are.report 0 (lit≤ tt)).signed,
      (are.report 1 (lit≤ tt)).signed,
      (are.report 2 (lit≤ tt)).signed,
    ) refl

    took_lock : Logs r other_entries_after_lock other_log_after_lock (Round 1 ∷ Round 2 ∷ [])
    took_lock = accepted r (other_entries_after_report ++ quiet_end ∷ []) lock (other_log_after_report ++ Round 2 ∷ [])
        (Round 1 ∷ Round 2 ∷ []) are.lock.frame refl waited

    -- and acknowledges it
    abbrev ack_frame : Sent
    ack_frame = record { addressee = addressee.One 1; frame = frame_bytes (ack_sent sign r) }

    ack_read : filter_map (λ f. reading f.frame) (ack_frame ∷ []) ≡ ack_sent sign r ∷ []
    ack_read = ap (λ o. cons_option o []) (sent_frame (ack_sent sign r) refl ack.frame)

    makes_ack : Makes r other_log_after_lock (Round 1 ∷ Round 2 ∷ []) (ack_frame ∷ []) (ack_sent sign r ∷ [])
    unfolding statements_made statements_sent own_ack
    makes_ack = record {
      here = rw not_1 (ap (λ ss. filter (λ s. nat_eq (height_of s.statement) 1) ss ++ []) ack_read);
      there = λ h not. ap (λ ss. filter (λ s. nat_eq (height_of s.statement) h) ss ++ []) ack_read
          ∙ ap (λ ss. ss ++ []) (not_own (ack_sent sign r) refl h not);
    }

    other_end_3 : IsEnd r other_entries_after_lock other_log_after_lock (Round 1 ∷ Round 2 ∷ []) (ack_frame ∷ [])
    unfolding MayMake
    other_end_3 = record {
      few = lit< tt;
      loud = refl;
      sends = sends_one ack_frame
          (record { signed = ack_sent sign r; spelled = sent_frame (ack_sent sign r) refl ack.frame; addressed = refl }) refl;
      made = ack_sent sign r ∷ [];
      makes = makes_ack;
      may = refl;
      on = λ place. absurd (cc place);
      shut = refl;
    }

    acknowledged : Logs r (other_entries sign r) other_log_after_ack (Round 1 ∷ Round 2 ∷ Round 3 ∷ [])
    acknowledged = round_ended r other_entries_after_lock (ack_frame ∷ []) (ack_sent sign r ∷ []) other_log_after_lock
        (Round 1 ∷ Round 2 ∷ []) makes_ack took_lock

    pub other_follows : Follows meaning_of K ring r (other_entries sign r)
    unfolding Follows FollowsFrom
    other_follows = (
      submits_a r,
      (
        proposes_a r,
        (
          lawful_end r entries_after_start (Proposed a ∷ []) [] (to_all (rep r) ∷ []) (end_1 r le) (begun r),
          (
            lawful_end r other_entries_after_report other_log_after_report (Round 1 ∷ []) [] other_end_2 (reported r le),
            (
              lawful_accept ring r (other_entries_after_report ++ quiet_end ∷ []) lock (other_log_after_report ++ Round 2 ∷ [])
                  (Round 1 ∷ Round 2 ∷ []) are.lock.frame refl waited takes_lock,
              (
                lawful_end r other_entries_after_lock other_log_after_lock (Round 1 ∷ Round 2 ∷ [])
                    (ack_frame ∷ []) other_end_3 took_lock,
                tt,
              ),
            ),
          ),
        ),
      ),
    )

  -- ---- the three together

  abbrev H : List History
  H = plain_histories sign

  abbrev log_after_end : List Note
  log_after_end = log_after_acks ++ Round 4 ∷ []

  owner_logs : Logs 1 (owner_entries sign) log_after_end (Round 1 ∷ Round 2 ∷ Round 3 ∷ Round 4 ∷ [])
  unfolding notes_of
  owner_logs = no_note 1 entries_after_end (runs_block (first_result a)) log_after_end (Round 1 ∷ Round 2 ∷ Round 3 ∷ Round 4 ∷ [])
      (λ h l. refl) decided

  logs_0 : Logs 0 (other_entries sign 0) (other_log_after_ack 0 (lit≤ tt) refl are.ack_0) (Round 1 ∷ Round 2 ∷ Round 3 ∷ [])
  logs_0 = acknowledged 0 (lit≤ tt) refl are.ack_0

  logs_2 : Logs 2 (other_entries sign 2) (other_log_after_ack 2 (lit≤ tt) refl are.ack_2) (Round 1 ∷ Round 2 ∷ Round 3 ∷ [])
  logs_2 = acknowledged 2 (lit≤ tt) refl are.ack_2

  correct : AreCorrect meaning_of K ring H
  correct = record {
    follows = each_of_three (other_entries sign 0) (owner_entries sign) (other_entries sign 2)
        (λ r m. Follows meaning_of K ring r m.entries)
        (other_follows 0 (lit≤ tt) refl are.ack_0) owner_follows (other_follows 2 (lit≤ tt) refl are.ack_2);
    below = λ r is. elim (replica_of_three (other_entries sign 0) (owner_entries sign) (other_entries sign 2) r is) [
      | Is_0 at ↦ omega (arith, at)
      | Is_1 at ↦ omega (arith, at)
      | Is_2 at ↦ omega (arith, at)
    ];
    enough = lit≤ tt;
  }

  -- ---- what they read was made

  backed_report : (r : ℕ) → (log other : List Note) → log_in K H 1 r ≡ log → Has log (OwnStatement 1 (rep r).statement)
      → Backed K H (rep r).statement
  backed_report r log other is has correct_r = (1, subst (λ l. Has l (OwnStatement 1 (rep r).statement)) (sym is) has)

  report_0 : Backed K H (rep 0).statement
  report_0 = backed_report 0 (other_log_after_ack 0 (lit≤ tt) refl are.ack_0) [] logs_0.here (inr (inr (inl refl)))

  report_1 : Backed K H (rep 1).statement
  report_1 = backed_report 1 log_after_end [] owner_logs.here (inr (inr (inl refl)))

  report_2 : Backed K H (rep 2).statement
  report_2 = backed_report 2 (other_log_after_ack 2 (lit≤ tt) refl are.ack_2) [] logs_2.here (inr (inr (inl refl)))

  no_lock : (s : Statement) → is_lock (λ l. true) s ≡ false → Backed K H s → BackedWhole K H s
  no_lock s free own = record { own = own; reports = λ l p is has. absurd (let lock_is = ap (is_lock (λ m. true)) is in cc) }

  lock_proof : (p : SignedReport) → Has (report_shown sign 0 ∷ report_shown sign 1 ∷ report_shown sign 2 ∷ []) p
      → Backed K H (statement.Report p.report)
  lock_proof p (inl is) = subst (λ (x : SignedReport). Backed K H (statement.Report x.report)) is report_0
  lock_proof p (inr (inl is)) = subst (λ (x : SignedReport). Backed K H (statement.Report x.report)) is report_1
  lock_proof p (inr (inr (inl is))) = subst (λ (x : SignedReport). Backed K H (statement.Report x.report)) is report_2
  lock_proof p (inr (inr (inr none))) = absurd none

  same_lock : (l m : Lock) → statement.Lock l ≡ statement.Lock m → l ≡ m
  same_lock l m is = cc

  lock_whole : BackedWhole K H lock.statement
  lock_whole = record {
    own = λ correct_1. (
      2,
      subst (λ l. Has l (OwnStatement 2 lock.statement)) (sym owner_logs.here)
          (inr (inr (inr (inr (inr (inr (inr (inl refl)))))))),
    );
    reports = λ l p is has. lock_proof p (subst (λ (m : Lock). Has m.proof p) (sym (same_lock _ l is)) has);
  }

  ack_0 : BackedWhole K H (ack_sent sign 0).statement
  ack_0 = no_lock _ refl (λ correct_0. (
    3,
    subst (λ l. Has l (OwnStatement 3 (ack_sent sign 0).statement)) (sym logs_0.here)
        (inr (inr (inr (inr (inr (inr (inr (inl refl)))))))),
  ))

  ack_1 : BackedWhole K H (ack_sent sign 1).statement
  ack_1 = no_lock _ refl (λ correct_1. (
    3,
    subst (λ l. Has l (OwnStatement 3 (ack_sent sign 1).statement)) (sym owner_logs.here)
        (inr (inr (inr (inr (inr (inr (inr (inr (inr (inr (inl refl))))))))))),
  ))

  ack_2 : BackedWhole K H (ack_sent sign 2).statement
  ack_2 = no_lock _ refl (λ correct_2. (
    3,
    subst (λ l. Has l (OwnStatement 3 (ack_sent sign 2).statement)) (sym logs_2.here)
        (inr (inr (inr (inr (inr (inr (inr (inl refl)))))))),
  ))

  -- a note that reads something reads what is backed
  abbrev IsReadBacked : Note → Type 0
  IsReadBacked (Read c s) = BackedWhole K H s.statement
  IsReadBacked _ = Unit {0}

  each_read : (log : List Note) → AllByRecursion IsReadBacked log → (c : ℕ) (s : SignedStatement) → Has log (Read c s)
      → BackedWhole K H s.statement
  each_read [] all c s has = absurd has
  each_read (n ∷ ns) (first, rest) c s (inl is) = subst IsReadBacked is first
  each_read (n ∷ ns) (first, rest) c s (inr has) = each_read ns rest c s has

  abbrev ReadsAt : ℕ → ℕ → Type 0
  ReadsAt h r = AllByRecursion IsReadBacked (log_in K H h r)

  rep_whole_0 : BackedWhole K H (rep 0).statement
  rep_whole_0 = no_lock _ refl report_0

  rep_whole_1 : BackedWhole K H (rep 1).statement
  rep_whole_1 = no_lock _ refl report_1

  rep_whole_2 : BackedWhole K H (rep 2).statement
  rep_whole_2 = no_lock _ refl report_2

  reads_here_0 : ReadsAt 1 0
  reads_here_0 = subst (AllByRecursion IsReadBacked) (sym logs_0.here)
      (tt, (tt, (tt, (rep_whole_0, (tt, (lock_whole, (tt, (tt, (ack_0, tt)))))))))

  reads_here_2 : ReadsAt 1 2
  reads_here_2 = subst (AllByRecursion IsReadBacked) (sym logs_2.here)
      (tt, (tt, (tt, (rep_whole_2, (tt, (lock_whole, (tt, (tt, (ack_2, tt)))))))))

  reads_here_1 : ReadsAt 1 1
  reads_here_1 = subst (AllByRecursion IsReadBacked) (sym owner_logs.here) (
    tt,
    (
      tt,
      (
        tt,
        (
          rep_whole_1,
          (
            rep_whole_0,
            (
              rep_whole_2,
              (tt, (tt, (lock_whole, (tt, (tt, (ack_1, (ack_0, (ack_2, (tt, tt))))))))),
            ),
          ),
        ),
      ),
    ),
  )

  reads_at : (h r : ℕ) → is_correct H r ≡ true → ReadsAt h r
  reads_at h r is = elim (cases_Bool (nat_eq 1 h)) [
    | inl one ↦ subst (λ k. ReadsAt k r) (eqb-true 1 h one)
        (elim (replica_of_three (other_entries sign 0) (owner_entries sign) (other_entries sign 2) r is) [
          | Is_0 at ↦ subst (ReadsAt 1) at reads_here_0
          | Is_1 at ↦ subst (ReadsAt 1) at reads_here_1
          | Is_2 at ↦ subst (ReadsAt 1) at reads_here_2
        ])
    | inr not ↦ elim (replica_of_three (other_entries sign 0) (owner_entries sign) (other_entries sign 2) r is) [
      | Is_0 at ↦ subst (ReadsAt h) at (subst (AllByRecursion IsReadBacked) (sym (logs_0.there h not)) (tt, (tt, (tt, tt))))
      | Is_1 at ↦ subst (ReadsAt h) at (subst (AllByRecursion IsReadBacked) (sym (owner_logs.there h not)) (tt, (tt, (tt, (tt, tt)))))
      | Is_2 at ↦ subst (ReadsAt h) at (subst (AllByRecursion IsReadBacked) (sym (logs_2.there h not)) (tt, (tt, (tt, tt))))
    ]
  ]

  -- ---- what came of it

  same_proposal : (r : ℕ) (log : List Note) → log_in K H 1 r ≡ log → initial_of log ≡ Some a → (w : Value)
      → initial_of (log_in K H 1 r) ≡ Some w → w ≡ a
  same_proposal r log is own w began = sym (same_Some a w (sym own ∙ ap initial_of (sym is) ∙ began))

  proposed_a : AllProposed K H 1 a
  proposed_a r w is began = elim (replica_of_three (other_entries sign 0) (owner_entries sign) (other_entries sign 2) r is) [
    | Is_0 at ↦ same_proposal 0 (other_log_after_ack 0 (lit≤ tt) refl are.ack_0) logs_0.here refl w
        (subst (λ x. initial_of (log_in K H 1 x) ≡ Some w) (sym at) began)
    | Is_1 at ↦ same_proposal 1 log_after_end owner_logs.here refl w (subst (λ x. initial_of (log_in K H 1 x) ≡ Some w) (sym at) began)
    | Is_2 at ↦ same_proposal 2 (other_log_after_ack 2 (lit≤ tt) refl are.ack_2) logs_2.here refl w
        (subst (λ x. initial_of (log_in K H 1 x) ≡ Some w) (sym at) began)
  ]

  took_at : (r : ℕ) (log : List Note) → log_in K H 1 r ≡ log → took log a 1 ≡ true → took (log_in K H 1 r) a 1 ≡ true
  took_at r log is took_it = ap (λ l. took l a 1) is ∙ took_it

  all_took : 3 ≤ number_of K (λ r. is_correct H r && took (log_in K H 1 r) a 1)
  all_took = rw (took_at 0 (other_log_after_ack 0 (lit≤ tt) refl are.ack_0) logs_0.here refl, took_at 1 log_after_end owner_logs.here refl, took_at 2 (other_log_after_ack 2 (lit≤ tt) refl are.ack_2) logs_2.here refl)
      (lit≤ tt)

  decides_a : decided_of K (log_in K H 1 1) ≡ Some a
  unfolding decided_of
  decides_a = ap (decided_of K) owner_logs.here

  commits_a : commits_of K 1 (owner_entries sign) ≡ a ∷ []
  unfolding commits_of decided_of
  commits_a = ap (λ l. cons_option (decided_of K l) []) owner_logs.here

pub plain_run_commits : PlainRunCommits
plain_run_commits ring sign are = (
  correct ring sign are,
  λ h r c s is has. each_read ring sign are _ (reads_at ring sign are h r is) c s has,
  proposed_a ring sign are,
  all_took ring sign are,
  decides_a ring sign are,
  commits_a ring sign are,
)
