-- From what was done to the exit status of the program.
use Rattle.app_states.specs.ProgramWords.{ProgramWords}
use Rattle.ledger_model.specs.declared.config.AppKinds.{AppKinds}
use Rattle.ledger_model.specs.Meanings.{Meanings}
use Rattle.std.proofs.Common.{◌≡◌, ℕ, ◌≤◌, List, [], refl, sym, subst, ◌∙◌, inl, inr, arith}
use Rattle.command_line.specs.declared.given_keys.GivenKeys.{GivenKeys}
use Rattle.std.specs.Prelude.{◌⊎◌, Option, None, Result, Ok, Err, IfOk, MatchResult}
use Rattle.std.specs.Io.KnownBytes.{Appends, Keeps}
use Rattle.std.proofs.KnownBytes.{Appends-kept, Consumes-nil}
use Rattle.ledger_model.specs.Spelling.{frame_bytes}
use Rattle.cluster_setup.specs.declared.settings.Settings.{Settings}
use Rattle.cluster_setup.specs.declared.settings.Settings.TheVariants.{Sign, Deliver, Simulate, Audit, Draw, Cluster, Serve, Keys}
use Rattle.cluster_setup.specs.declared.cluster_seed.ClusterSeed.{ClusterSeed}
use Rattle.cluster_setup.specs.declared.sign_settings.SignSettings.{SignSettings}
use Rattle.cluster_setup.specs.declared.deliver_settings.DeliverSettings.{DeliverSettings}
use Rattle.cluster_setup.specs.declared.simulate_settings.SimulateSettings.{SimulateSettings}
use Rattle.cluster_setup.specs.declared.audit_settings.AuditSettings.{AuditSettings}
use Rattle.cluster_setup.specs.declared.draw_settings.DrawSettings.{DrawSettings}
use Rattle.program.specs.Statements.{signed}
use Rattle.command_line.specs.declared.usage_fault.UsageFault.{UsageFault}
use Rattle.command_line.specs.declared.usage_fault.UsageFault.TheVariants as fault
use Rattle.command_line.specs.Faults.{AskForHelp, AskForHelpAlone, IsRightFault, kinds_of}
use Rattle.command_line.proofs.FaultLemmas.{asked, not_alone}
use Rattle.command_line.specs.Options.{AsksForText, IsRefused, IsSet, WantsMemory}
use Rattle.byte_streams.specs.Responding.{Responds}
use Rattle.byte_streams.specs.Writing.{AppendsSome}
use Rattle.byte_streams.proofs.RespondingLemmas.{responds_some}
use Rattle.program.specs.declared.stream_end.StreamEnd.{StreamEnd}
use Rattle.program.specs.declared.stream_end.StreamEnd.TheVariants as stream
use Rattle.program.specs.Streams.{DeliversStream, DeliversStreamSome}
use Rattle.program.specs.declared.text_end.TextEnd.{TextEnd}
use Rattle.program.specs.declared.text_end.TextEnd.TheVariants as scenario
use Rattle.program.specs.Simulating.{PlaysText, PlaysTextSome}
use Rattle.program.specs.Auditing.{Audits, AuditsSome}
use Rattle.program.specs.Drawing.{Draws, DrawsSome}
use Rattle.program.specs.Publishing.{IsFileOf}
use Rattle.program.proofs.DrawingLemmas.{drawn_small}
use Rattle.program.proofs.AuditingLemmas.{audited_small}
use Rattle.program.specs.declared.outcome.Conclusion.{Conclusion}
use Rattle.program.specs.declared.outcome.Outcome.{Outcome}
use Rattle.program.specs.declared.outcome.Outcome.TheVariants as outcome
use Rattle.program.specs.declared.outcome.Piped.{Piped}
use Rattle.program.specs.declared.outcome.Piped.TheVariants as piped
use Rattle.program.specs.Doing.{AsksForHistories, StartsRun, Done, ExplainsHistories, FollowsHistories, Halted, IfEnded, IfHanded, IsHanded, IsQuiet, Performs}
use Rattle.program.specs.Doing.{settings_of, status_of_stream, status_of_text}

-- the frame was written
pub signed_done : (kinds : AppKinds) (meaning : Meanings) (x : Piped) (s : SignSettings) (status : ℕ) (unread before after : Option (List ℕ))
    → x ≡ piped.Sign s → status ≡ 0
    → Appends before after (frame_bytes (signed s)) → Done kinds meaning (settings_of x) status unread unread before after
signed_done kinds meaning x s status unread before after is zero written =
    subst (λ y. Done kinds meaning (settings_of y) status unread unread before after) (sym is) (
      zero,
      record {
        input = [];
        text = frame_bytes (signed s);
        goes_with = (refl, refl);
        read = Consumes-nil unread;
        written =
            written;
      },
    )

-- a prefix of it was
pub signed_halted : (kinds : AppKinds) (meaning : Meanings) (x : Piped) (s : SignSettings) (unread before after : Option (List ℕ)) → x ≡ piped.Sign s
    → AppendsSome before after (frame_bytes (signed s)) → Halted kinds meaning (settings_of x) unread unread before after
signed_halted kinds meaning x s unread before after is written =
    subst (λ y. Halted kinds meaning (settings_of y) unread unread before after) (sym is)
    (record { input = []; text = frame_bytes (signed s); goes_with = (refl, refl); read = Consumes-nil unread; written = written })

-- a stream was delivered
pub delivered_done : (kinds : AppKinds) (meaning : Meanings) (x : Piped) (s : DeliverSettings) (end : StreamEnd) (status : ℕ)
    (unread left before after : Option (List ℕ))
    → x ≡ piped.Deliver s → status ≡ status_of_stream end
    → DeliversStream meaning s end unread left before after → Done kinds meaning (settings_of x) status unread left before after
delivered_done kinds meaning x s end status unread left before after is answered done =
    subst (λ y. Done kinds meaning (settings_of y) status unread left before after) (sym is) (end, (answered, done))

pub delivered_halted : (kinds : AppKinds) (meaning : Meanings) (x : Piped) (s : DeliverSettings) (unread left before after : Option (List ℕ))
    → x ≡ piped.Deliver s
    → DeliversStreamSome meaning s unread left before after → Halted kinds meaning (settings_of x) unread left before after
delivered_halted kinds meaning x s unread left before after is some = subst (λ y. Halted kinds meaning (settings_of y) unread left before after)
    (sym is) some

-- a text was played
pub played_done : (kinds : AppKinds) (meaning : Meanings) (x : Piped) (s : SimulateSettings) (end : TextEnd) (status : ℕ)
    (unread left before after : Option (List ℕ))
    → x ≡ piped.Simulate s → status ≡ status_of_text end
    → PlaysText kinds meaning s end unread left before after → Done kinds meaning (settings_of x) status unread left before after
played_done kinds meaning x s end status unread left before after is answered done =
    subst (λ y. Done kinds meaning (settings_of y) status unread left before after) (sym is) (end, (answered, done))

pub played_halted : (kinds : AppKinds) (meaning : Meanings) (x : Piped) (s : SimulateSettings) (unread left before after : Option (List ℕ))
    → x ≡ piped.Simulate s
    → PlaysTextSome kinds meaning s unread left before after → Halted kinds meaning (settings_of x) unread left before after
played_halted kinds meaning x s unread left before after is some = subst (λ y. Halted kinds meaning (settings_of y) unread left before after)
    (sym is) some

-- histories were audited
pub audited_done : (kinds : AppKinds) (meaning : Meanings) → {E : Type 0} (x : Piped) (s : AuditSettings) (r : Result Conclusion E)
    (unread left before after : Option (List ℕ))
    → x ≡ piped.Audit s
    → MatchResult r (λ ending. Audits meaning s ending.status unread left before after) (λ _. AuditsSome meaning s unread left before after)
    → MatchResult r (λ ending. Done kinds meaning (settings_of x) ending.status unread left before after)
    (λ _. Halted kinds meaning (settings_of x) unread left before after)
audited_done kinds meaning x s r unread left before after is done =
    subst (λ y. MatchResult r (λ ending. Done kinds meaning (settings_of y) ending.status unread left before after)
    (λ _. Halted kinds meaning (settings_of y) unread left before after)) (sym is) done

pub audit_explains : {E : Type 0} (x : Piped) (s : AuditSettings) (r : Result Conclusion E) → x ≡ piped.Audit s
    → IfOk r (λ ending. (ending.explanation ≡ None) ⊎ (ending.status ≡ 1)) → IfOk r (ExplainsHistories (settings_of x))
audit_explains x s (Ok ending) is (inl none) = inl none
audit_explains x s (Ok ending) is (inr one) = inr (one, subst (λ y. FollowsHistories (settings_of y)) (sym is) tt)
audit_explains x s (Err fault) is explains = tt

-- histories were drawn
pub drawn_done : (kinds : AppKinds) (meaning : Meanings) → {E : Type 0} (x : Piped) (s : DrawSettings) (r : Result Conclusion E)
    (unread left before after : Option (List ℕ))
    → x ≡ piped.Draw s
    → MatchResult r (λ ending. Draws meaning s ending.status unread left before after) (λ _. DrawsSome meaning s unread left before after)
    → MatchResult r (λ ending. Done kinds meaning (settings_of x) ending.status unread left before after)
    (λ _. Halted kinds meaning (settings_of x) unread left before after)
drawn_done kinds meaning x s r unread left before after is done =
    subst (λ y. MatchResult r (λ ending. Done kinds meaning (settings_of y) ending.status unread left before after)
    (λ _. Halted kinds meaning (settings_of y) unread left before after)) (sym is) done

pub draw_explains : {E : Type 0} (x : Piped) (s : DrawSettings) (r : Result Conclusion E) → x ≡ piped.Draw s
    → IfOk r (λ ending. (ending.explanation ≡ None) ⊎ (ending.status ≡ 1)) → IfOk r (ExplainsHistories (settings_of x))
draw_explains x s (Ok ending) is (inl none) = inl none
draw_explains x s (Ok ending) is (inr one) = inr (one, subst (λ y. FollowsHistories (settings_of y)) (sym is) tt)
draw_explains x s (Err fault) is explains = tt

-- the public file of a cluster was written
pub published_done : (kinds : AppKinds) (meaning : Meanings) (x : Piped) (c : ClusterSeed) (status : ℕ) (unread before after : Option (List ℕ))
    → x ≡ piped.Keys c → status ≡ 0
    → (text : List ℕ) × (IsFileOf c text × Appends before after text) → Done kinds meaning (settings_of x) status unread unread before after
published_done kinds meaning x c status unread before after is zero (text, (file, written)) =
    subst (λ y. Done kinds meaning (settings_of y) status unread unread before after) (sym is)
    (zero, record { input = []; text = text; goes_with = (refl, file); read = Consumes-nil unread; written = written })

-- a part of it was, or nothing
pub published_halted : (kinds : AppKinds) (meaning : Meanings) (x : Piped) (c : ClusterSeed) (unread before after : Option (List ℕ))
    → x ≡ piped.Keys c
    → (text : List ℕ) × (((text ≡ []) ⊎ IsFileOf c text) × AppendsSome before after text) → Halted kinds meaning (settings_of x) unread unread before after
published_halted kinds meaning x c unread before after is (text, (part, written)) =
    subst (λ y. Halted kinds meaning (settings_of y) unread unread before after) (sym is)
    (record { input = []; text = text; goes_with = (refl, part); read = Consumes-nil unread; written = written })

-- all was written, and then flushed
responds_kept : (P : List ℕ → List ℕ → Type 0) (unread left before mid after : Option (List ℕ)) → Responds P unread left before mid
    → Keeps mid after → Responds P unread left before after
responds_kept P unread left before mid after done keeps = record {
  input = done.input;
  text = done.text;
  goes_with = done.goes_with;
  read = done.read;
  written = Appends-kept before mid after done.text done.written keeps;
}

pub done_flushed : (kinds : AppKinds) (meaning : Meanings) (x : Piped) (status : ℕ) (unread left before mid after : Option (List ℕ))
    → Done kinds meaning (settings_of x) status unread left before mid → Keeps mid after
    → Done kinds meaning (settings_of x) status unread left before after
done_flushed kinds meaning (piped.Sign s) status unread left before mid after (is, done) keeps =
    (is, responds_kept _ unread left before mid after done keeps)
done_flushed kinds meaning (piped.Deliver s) status unread left before mid after (end, (is, (to_end, done))) keeps =
    (end, (is, (to_end, responds_kept _ unread left before mid after done keeps)))
done_flushed kinds meaning (piped.Simulate s) status unread left before mid after (end, (is, done)) keeps =
    (end, (is, responds_kept _ unread left before mid after done keeps))
done_flushed kinds meaning (piped.Audit s) status unread left before mid after (to_end, done) keeps =
    (to_end, responds_kept _ unread left before mid after done keeps)
done_flushed kinds meaning (piped.Draw s) status unread left before mid after (to_end, done) keeps =
    (to_end, responds_kept _ unread left before mid after done keeps)
done_flushed kinds meaning (piped.Keys c) status unread left before mid after (is, done) keeps =
    (is, responds_kept _ unread left before mid after done keeps)

-- all was written, and then a flush failed
pub done_halted : (kinds : AppKinds) (meaning : Meanings) (x : Piped) (status : ℕ) (unread left before mid after : Option (List ℕ))
    → Done kinds meaning (settings_of x) status unread left before mid → Keeps mid after → Halted kinds meaning (settings_of x) unread left before after
done_halted kinds meaning (piped.Sign s) status unread left before mid after (is, done) keeps =
    responds_some _ _ unread left before mid after (λ input text does. does) done keeps
done_halted kinds meaning (piped.Deliver s) status unread left before mid after (end, (is, (to_end, done))) keeps =
    responds_some _ _ unread left before mid after (λ input text does. inr (end, does)) done keeps
done_halted kinds meaning (piped.Simulate s) status unread left before mid after (end, (is, done)) keeps =
    responds_some _ _ unread left before mid after (λ input text does. (does.1.0, inr (end, does.1.1))) done keeps
done_halted kinds meaning (piped.Audit s) status unread left before mid after (to_end, done) keeps =
    responds_some _ _ unread left before mid after (λ input text does. inr (to_end, (status, does))) done keeps
done_halted kinds meaning (piped.Draw s) status unread left before mid after (to_end, done) keeps =
    responds_some _ _ unread left before mid after (λ input text does. inr (to_end, (status, does))) done keeps
done_halted kinds meaning (piped.Keys c) status unread left before mid after (is, done) keeps =
    responds_some _ _ unread left before mid after (λ input text does. (does.0, inr does.1)) done keeps

-- a status of what was done is 0 or 1
stream_small : (end : StreamEnd) → status_of_stream end ≤ 1
stream_small stream.Whole = omega arith
stream_small stream.Cut = omega arith
stream_small (stream.Fault fault) = omega arith

text_small : (end : TextEnd) → status_of_text end ≤ 1
text_small scenario.Whole = omega arith
text_small (scenario.BadLine n) = omega arith

done_small : (kinds : AppKinds) (meaning : Meanings) (x : Settings) (status : ℕ) (unread left before after : Option (List ℕ))
    → Done kinds meaning x status unread left before after → status ≤ 1
done_small kinds meaning (Sign s) status unread left before after (is, done) = omega (arith, is)
done_small kinds meaning (Deliver s) status unread left before after (end, (is, done)) = omega (arith, is, stream_small end)
done_small kinds meaning (Simulate s) status unread left before after (end, (is, done)) = omega (arith, is, text_small end)
done_small kinds meaning (Audit s) status unread left before after
    (to_end, done) = audited_small meaning s done.input status done.text done.goes_with
done_small kinds meaning (Draw s) status unread left before after (to_end, done) = drawn_small meaning s done.input status done.text
    done.goes_with
done_small kinds meaning (Keys c) status unread left before after (is, done) = omega (arith, is)
done_small kinds meaning (Cluster s) status unread left before after done = absurd done
done_small kinds meaning (Serve s) status unread left before after done = absurd done

-- what was done for settings, and the status of it
abbrev pub Settled : AppKinds → Meanings → Settings → ℕ → Option (List ℕ) → Option (List ℕ) → Option (List ℕ) → Option (List ℕ) → Type 0 → Type 0
Settled kinds meaning s status unread left before after Quiet =
    (Quiet × Done kinds meaning s status unread left before after) ⊎ ((status ≡ 3) × Halted kinds meaning s unread left before after)

-- the status of what was done
pub settled : (kinds : AppKinds) (meaning : Meanings) → {E : Type 0} (s x : Settings) (r : Result Conclusion E) (status : ℕ)
    (unread left before after mute told : Option (List ℕ))
    → s ≡ x
    → MatchResult r (λ ending. Done kinds meaning s ending.status unread left before after) (λ _. Halted kinds meaning s unread left before after)
    → IfOk r (ExplainsHistories s)
    → MatchResult r (λ ending. (status ≡ ending.status) × (ending.explanation ≡ None → Keeps mute told)) (λ _. status ≡ 3)
    → Settled kinds meaning x status unread left before after (IsQuiet x status mute told)
settled kinds meaning s x (Ok ending) status unread left before after mute told same done explains is =
    inl (
      quiet explains,
      subst (λ y. Done kinds meaning y status unread left before after) same
          (subst (λ n. Done kinds meaning s n unread left before after) (sym is.0) done),
    )
  where
    quiet : ExplainsHistories s ending → IsQuiet x status mute told
    quiet (inl none) = inl (is.1 none)
    quiet (inr (one, follows)) = inr (is.0 ∙ one, subst FollowsHistories same follows)
settled kinds meaning s x (Err e) status unread left before after mute told same halted explains is =
    inr (is, subst (λ y. Halted kinds meaning y unread left before after) same halted)

module _ (program : ProgramWords) (meaning : Meanings) (given : GivenKeys) (words : List (List ℕ)) (s : Settings) (set : IsSet program meaning given words s) (taken : kinds_of program words ≡ [])
    (status : ℕ)
    (unread left before after : Option (List ℕ)) where
  pub settled_finishes : (Q : Type 0) → Settled program.kinds meaning s status unread left before after Q → (status ≡ 0) ⊎ (status ≡ 1)
      → Performs program meaning given words status unread left before after
  settled_finishes Q (inl (quiet, done)) small = record { settings = s; set = set; taken = taken; done = done }
  settled_finishes Q (inr (is, halted)) (inl zero) = absurd (omega (arith, zero, is))
  settled_finishes Q (inr (is, halted)) (inr one) = absurd (omega (arith, one, is))

  pub settled_quiet : (mute told : Option (List ℕ)) → Settled program.kinds meaning s status unread left before after (IsQuiet s status mute told)
      → status ≡ 0
      → Keeps mute told
  settled_quiet mute told (inl (inl keeps, done)) zero = keeps
  settled_quiet mute told (inl (inr (one, follows), done)) zero = absurd (omega (arith, zero, one))
  settled_quiet mute told (inr (is, halted)) zero = absurd (omega (arith, zero, is))

  pub settled_explains : (mute told : Option (List ℕ)) → Settled program.kinds meaning s status unread left before after (IsQuiet s status mute told)
      → status ≡ 1 → Keeps mute told ⊎ AsksForHistories program meaning given words
  settled_explains mute told (inl (inl keeps, done)) one = inl keeps
  settled_explains mute told (inl (inr (is, follows), done)) one = inr (s, (set, follows))
  settled_explains mute told (inr (is, halted)) one = absurd (omega (arith, one, is))

  pub settled_refuses : (Q P : Type 0) → Settled program.kinds meaning s status unread left before after Q → status ≡ 2 → P
  settled_refuses Q P (inl (quiet, done)) two = let small =
      done_small program.kinds meaning s status unread left before after done in absurd (omega (arith, small, two))
  settled_refuses Q P (inr (is, halted)) two = absurd (omega (arith, two, is))

  pub settled_stops : (Q : Type 0) → Settled program.kinds meaning s status unread left before after Q → status ≡ 3
      → StartsRun program meaning given words unread left before after
  settled_stops Q (inl (quiet, done)) three = let small =
      done_small program.kinds meaning s status unread left before after done in absurd (omega (arith, small, three))
  settled_stops Q (inr (is, halted)) three = record { settings = s; set = set; taken = taken; halted = halted }

  pub settled_known : (Q : Type 0) → Settled program.kinds meaning s status unread left before after Q → status ≤ 3
  settled_known Q (inl (quiet, done)) = let small = done_small program.kinds meaning s status unread left before after done in omega (arith, small)
  settled_known Q (inr (is, halted)) = omega (arith, is)

-- what was printed of words that set nothing: the help or the version, or what is wrong with them
abbrev pub HelpOrFault : UsageFault → ℕ → Type 0 → Type 0 → Type 0
HelpOrFault f status Quiet Refuses =
    (AsksForText f × (((status ≡ 0) × Quiet) ⊎ (status ≡ 3)))
    ⊎ (((AsksForText f → ⊥) × Refuses) × (((status ≡ 2) × (WantsMemory f → ⊥)) ⊎ (status ≡ 3)))

-- who asks for the help or the version doesn't want memory
asks_no_memory : (f : UsageFault) → AsksForText f → WantsMemory f → ⊥
asks_no_memory (fault.CommandLine error) (inl help) wants = let bad = sym help ∙ wants in absurd cc
asks_no_memory (fault.CommandLine error) (inr version) wants = let bad = sym version ∙ wants in absurd cc
asks_no_memory (fault.Number option least most word) asks wants = asks
asks_no_memory (fault.Neither option one other word) asks wants = asks
asks_no_memory (fault.Kind word) asks wants = asks
asks_no_memory (fault.Seed taken word) asks wants = asks
asks_no_memory (fault.SeedFile file) asks wants = asks
asks_no_memory fault.TwoSeeds asks wants = asks
asks_no_memory fault.UnwrittenSeed asks wants = asks
asks_no_memory (fault.BesideFile option) asks wants = asks
asks_no_memory (fault.ClusterFile file) asks wants = asks
asks_no_memory (fault.TooFew replicas faults) asks wants = asks
asks_no_memory (fault.Spelling option why) asks wants = asks
asks_no_memory (fault.NoTransaction option word) asks wants = asks
asks_no_memory (fault.Rejected option code word) asks wants = asks
asks_no_memory (fault.NamedInput name input word) asks wants = asks
asks_no_memory (fault.Receipt word) asks wants = asks
asks_no_memory (fault.What word) asks wants = asks
asks_no_memory (fault.Level word) asks wants = asks
asks_no_memory (fault.Missing option) asks wants = asks
asks_no_memory fault.NoSubcommand asks wants = asks
asks_no_memory fault.NoMemory asks wants = asks

module _ (program : ProgramWords) (meaning : Meanings) (given : GivenKeys) (words : List (List ℕ)) (f : UsageFault) (status : ℕ) (Q K : Type 0) (right : IsRightFault program meaning given.seed words f)
    (refused : (WantsMemory f → ⊥) → IsRefused program meaning given words) where
  pub told_finishes : HelpOrFault f status Q K → (status ≡ 0) ⊎ (status ≡ 1) → IsRefused program meaning given words × (AskForHelp program words × (status ≡ 0))
  told_finishes (inl (asks, inl (zero, quiet))) small = (refused (asks_no_memory f asks), (asked program meaning given.seed words f right asks, zero))
  told_finishes (inl (asks, inr three)) (inl zero) = absurd (omega (arith, zero, three))
  told_finishes (inl (asks, inr three)) (inr one) = absurd (omega (arith, one, three))
  told_finishes (inr (kept, inl (two, enough))) (inl zero) = absurd (omega (arith, zero, two))
  told_finishes (inr (kept, inl (two, enough))) (inr one) = absurd (omega (arith, one, two))
  told_finishes (inr (kept, inr three)) (inl zero) = absurd (omega (arith, zero, three))
  told_finishes (inr (kept, inr three)) (inr one) = absurd (omega (arith, one, three))

  pub told_quiet : HelpOrFault f status Q K → (status ≡ 0) ⊎ (status ≡ 1) → Q
  told_quiet (inl (asks, inl (zero, quiet))) small = quiet
  told_quiet (inl (asks, inr three)) (inl zero) = absurd (omega (arith, zero, three))
  told_quiet (inl (asks, inr three)) (inr one) = absurd (omega (arith, one, three))
  told_quiet (inr (kept, inl (two, enough))) (inl zero) = absurd (omega (arith, zero, two))
  told_quiet (inr (kept, inl (two, enough))) (inr one) = absurd (omega (arith, one, two))
  told_quiet (inr (kept, inr three)) (inl zero) = absurd (omega (arith, zero, three))
  told_quiet (inr (kept, inr three)) (inr one) = absurd (omega (arith, one, three))

  pub told_refuses : HelpOrFault f status Q K → status ≡ 2 → IsRefused program meaning given words × ((AskForHelpAlone program words → ⊥) × K)
  told_refuses (inl (asks, inl (zero, quiet))) is = absurd (omega (arith, is, zero))
  told_refuses (inl (asks, inr three)) is = absurd (omega (arith, is, three))
  told_refuses (inr ((other, kept), inl (two, enough))) is = (refused enough, (not_alone program meaning given.seed words f right other enough, kept))
  told_refuses (inr (kept, inr three)) is = absurd (omega (arith, is, three))

  pub told_stops : HelpOrFault f status Q K → status ≡ 3 → K ⊎ (IsRefused program meaning given words × AskForHelp program words)
  told_stops (inl (asks, told)) is = inr (refused (asks_no_memory f asks), asked program meaning given.seed words f right asks)
  told_stops (inr ((other, kept), told)) is = inl kept

  pub told_known : HelpOrFault f status Q K → status ≤ 3
  told_known (inl (asks, inl (zero, quiet))) = omega (arith, zero)
  told_known (inl (asks, inr three)) = omega (arith, three)
  told_known (inr (kept, inl (two, enough))) = omega (arith, two)
  told_known (inr (kept, inr three)) = omega (arith, three)

-- what follows of the status, and of the settings that were handed back
pub if_ended : (o : Outcome) (P Q : ℕ → Type 0) → ((status : ℕ) → P status → Q status) → IfEnded o P → IfEnded o Q
if_ended (outcome.Ended status) P Q so holds = so status holds
if_ended (outcome.Cluster s) P Q so holds = tt
if_ended (outcome.Serve s) P Q so holds = tt

pub if_handed : (o : Outcome) (P Q : Settings → Type 0) → ((s : Settings) → P s → Q s) → IfHanded o P → IfHanded o Q
if_handed (outcome.Ended status) P Q so holds = tt
if_handed (outcome.Cluster s) P Q so holds = so (Cluster s) holds
if_handed (outcome.Serve s) P Q so holds = so (Serve s) holds

-- settings that are handed back are no end
pub handed_ends : (x : Settings) (o : Outcome) (P : ℕ → Type 0) → IsHanded x o → IfEnded o P
handed_ends x (outcome.Ended status) P is = absurd is
handed_ends x (outcome.Cluster s) P is = tt
handed_ends x (outcome.Serve s) P is = tt

pub handed_settings : (x : Settings) (o : Outcome) (K L M : Type 0) → IsHanded x o → K → L → M → IfHanded o (λ s. (s ≡ x) × K × L × M)
handed_settings x (outcome.Ended status) K L M is k l m = tt
handed_settings x (outcome.Cluster s) K L M is k l m = (sym is, k, l, m)
handed_settings x (outcome.Serve s) K L M is k l m = (sym is, k, l, m)
