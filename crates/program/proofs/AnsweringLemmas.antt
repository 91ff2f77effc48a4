-- A replica that takes events one after the other.
use Rattle.ledger_model.specs.Meanings.{Meanings}
use Rattle.std.proofs.Common.{◌≡◌, ℕ, ◌≤◌, List, [], ◌∷◌, ◌++◌, map, length, refl, sym, ap, subst, ◌∙◌, append_assoc, append-nil, arith}
use Rattle.std.specs.Prelude.{MatchResult, IfErr, IsErrOf, OnOk, Result, Ok, Err, is_ok}
use Rattle.std.proofs.lemmas.List.{map-append}
use Rattle.std.proofs.lemmas.List.Concat.{flat_map-append}
use Rattle.ledger_model.specs.declared.event.Event.{Event}
use Rattle.ledger_model.specs.declared.event.Event.TheVariants as event
use Rattle.ledger_model.specs.declared.reply.Reply.{Reply}
use Rattle.ledger_model.specs.declared.reply.Reply.TheVariants as reply
use Rattle.ledger_model.specs.declared.history.Entry.{Entry}
use Rattle.ledger_model.specs.Lawful.{Lawful, Replay}
use Rattle.ledger_model.specs.Limits.{max_history_len}
use Rattle.locked_replica.specs.Applying.{AppliesEvent, RefusesEvent, IsSound}
use Rattle.ledger_model.specs.declared.fault.ApplyFault.{ApplyFault}
use Rattle.ledger_model.specs.declared.fault.ApplyFault.TheVariants as fault
use Rattle.locked_replica.specs.States.{StateView, AccountsForLeaves, UsesAsSigned}
use Rattle.program.specs.Lines.{lines_of, frame_reply_text}
use Rattle.program.specs.Answering.{AnswersEvents, AnswersSome, TakesNoEvent}

-- the replica is the same but for what events change
abbrev pub IsSame : StateView → StateView → Type 0
IsSame old new = new ≡ record old { used = new.used; entries = new.entries; machine = new.machine }

-- no event
pub answers_none : (meaning : Meanings) (a : StateView) → AnswersEvents meaning a [] [] a
answers_none meaning a = record {
  added = [];
  grown = record { entries = sym (append-nil a.entries); same = refl; replay = λ x. x; signed = refl; account = λ x. x };
  these = refl;
  lines = refl;
}

-- one event
pub answers_one : (meaning : Meanings) (old new : StateView) (e : Event) (r : Reply) (text : List ℕ)
    → new.entries ≡ old.entries ++ record { event = e; reply = r } ∷ []
    → IsSame old new → Replay meaning new.config new.ring new.id new.entries → UsesAsSigned old new → AccountsForLeaves new
    → frame_reply_text r ≡ text
    → AnswersEvents meaning old (e ∷ []) text new
answers_one meaning old new e r text grown same replay signed account line = record {
  added = record { event = e; reply = r } ∷ [];
  grown = record { entries = grown; same = same; replay = λ _. replay; signed = signed; account = λ _. account };
  these = refl;
  lines = append-nil (frame_reply_text r) ∙ line;
}

-- events, and then others
pub answers_both : (meaning : Meanings) (a b c : StateView) (xs ys : List Event) (s t : List ℕ) → AnswersEvents meaning a xs s b
    → AnswersEvents meaning b ys t c
    → AnswersEvents meaning a (xs ++ ys) (s ++ t) c
answers_both meaning a b c xs ys s t first second = record {
  added = first.added ++ second.added;
  grown = record {
    entries = second.grown.entries ∙ ap (λ l. l ++ second.added) first.grown.entries ∙ append_assoc a.entries first.added second.added;
    same = second.grown.same ∙ ap (λ (r : StateView). record r { used = c.used; entries = c.entries; machine = c.machine })
        first.grown.same;
    replay = λ x. second.grown.replay (first.grown.replay x);
    signed = (let one = first.grown.signed in let two = second.grown.signed in omega (arith, one, two));
    account = λ x. second.grown.account (first.grown.account x);
  };
  these = map-append _ first.added second.added ∙ ap (λ l. l ++ map (λ (e : Entry). e.event) second.added) first.these
      ∙ ap (λ l. xs ++ l) second.these;
  lines = flat_map-append _ first.added second.added ∙ ap (λ l. l ++ lines_of second.added) first.lines ∙ ap (λ l. s ++ l) second.lines;
}

-- all of the events are the first of them
pub some_all : (meaning : Meanings) (a b : StateView) (xs : List Event) (s : List ℕ) → AnswersEvents meaning a xs s b
    → AnswersSome meaning a xs s b
some_all meaning a b xs s all = record {
  taken = xs;
  later = [];
  split = append-nil xs;
  last = b;
  answers = all;
  refused = record
      { same = refl; least = omega arith };
}

-- none is, of any events
pub some_none : (meaning : Meanings) (a b : StateView) (xs : List Event) → TakesNoEvent a b → AnswersSome meaning a xs [] b
some_none meaning a b xs none = record { taken = []; later = xs; split = refl; last = a; answers = answers_none meaning a; refused = none }

-- events, and then the first of others
pub some_after : (meaning : Meanings) (a b c : StateView) (xs ys : List Event) (s t : List ℕ) → AnswersEvents meaning a xs s b
    → AnswersSome meaning b ys t c
    → AnswersSome meaning a (xs ++ ys) (s ++ t) c
some_after meaning a b c xs ys s t first second = record {
  taken = xs ++ second.taken;
  later = second.later;
  split = append_assoc xs second.taken second.later ∙ ap (λ l. xs ++ l) second.split;
  last = second.last;
  answers = answers_both meaning a b second.last xs second.taken s t first second.answers;
  refused = second.refused;
}

-- the first of some events are the first of more
pub some_longer : (meaning : Meanings) (a b : StateView) (xs ys : List Event) (s : List ℕ) → AnswersSome meaning a xs s b
    → AnswersSome meaning a (xs ++ ys) s b
some_longer meaning a b xs ys s some = record {
  taken = some.taken;
  later = some.later ++ ys;
  split = sym (append_assoc some.taken some.later ys) ∙ ap (λ l. l ++ ys) some.split;
  last = some.last;
  answers = some.answers;
  refused = some.refused;
}

-- what is answered to other events than deliveries prints nothing
pub submit_silent : (meaning : Meanings) (a : StateView) (bytes : List ℕ) (r : Reply)
    → Lawful meaning a.config a.ring a.id a.entries (event.Submit bytes) r
    → frame_reply_text r ≡ []
submit_silent meaning a bytes (reply.Submitted r) lawful = refl
submit_silent meaning a bytes (reply.Proposed r) lawful = refl
submit_silent meaning a bytes (reply.Delivered r) lawful = absurd lawful
submit_silent meaning a bytes (reply.RoundEnded r) lawful = refl
submit_silent meaning a bytes (reply.Executed r) lawful = refl
submit_silent meaning a bytes (reply.Queried r) lawful = refl
submit_silent meaning a bytes (reply.Retired r) lawful = refl

pub propose_silent : (meaning : Meanings) (a : StateView) (h : ℕ) (r : Reply)
    → Lawful meaning a.config a.ring a.id a.entries (event.Propose h) r → frame_reply_text r ≡ []
propose_silent meaning a h (reply.Submitted r) lawful = refl
propose_silent meaning a h (reply.Proposed r) lawful = refl
propose_silent meaning a h (reply.Delivered r) lawful = absurd lawful
propose_silent meaning a h (reply.RoundEnded r) lawful = refl
propose_silent meaning a h (reply.Executed r) lawful = refl
propose_silent meaning a h (reply.Queried r) lawful = refl
propose_silent meaning a h (reply.Retired r) lawful = refl

pub round_end_silent : (meaning : Meanings) (a : StateView) (r : Reply) → Lawful meaning a.config a.ring a.id a.entries event.RoundEnd r
    → frame_reply_text r ≡ []
round_end_silent meaning a (reply.Submitted r) lawful = refl
round_end_silent meaning a (reply.Proposed r) lawful = refl
round_end_silent meaning a (reply.Delivered r) lawful = absurd lawful
round_end_silent meaning a (reply.RoundEnded r) lawful = refl
round_end_silent meaning a (reply.Executed r) lawful = refl
round_end_silent meaning a (reply.Queried r) lawful = refl
round_end_silent meaning a (reply.Retired r) lawful = refl

-- an event that prints nothing, applied or refused
pub taken_silently : (meaning : Meanings) → {F : Type 0} (old new : StateView) (e : Event) (outcome : Result ℕ ApplyFault)
    (result : Result (Unit {0}) F)
    → is_ok result ≡ is_ok outcome
    → OnOk outcome (AppliesEvent meaning old e new) → IfErr outcome (λ why. RefusesEvent old e why new) → IsSound meaning new
    → ((r : Reply) → Lawful meaning old.config old.ring old.id old.entries e r → frame_reply_text r ≡ [])
    → MatchResult result (λ _. AnswersEvents meaning old (e ∷ []) [] new) (λ _. TakesNoEvent old new)
taken_silently meaning old new e (Ok index) (Ok u) alike applied refused sound silent =
    answers_one meaning old new e applied.reply [] applied.added applied.rest sound.replay applied.used sound.account
    (silent applied.reply applied.lawful)
taken_silently meaning old new e (Err why) (Err stop) alike applied refused sound silent = record
    { same = refused.rest; least = refused.least }
taken_silently meaning old new e (Ok index) (Err stop) alike applied refused sound silent = absurd cc
taken_silently meaning old new e (Err why) (Ok u) alike applied refused sound silent = absurd cc

-- a full history is the same after the refused event
pub still_full : (old new : StateView) (e : Event) (outcome : Result ℕ ApplyFault) → IfErr outcome (λ why. RefusesEvent old e why new)
    → IsErrOf outcome fault.HistoryFull → max_history_len ≤ length new.entries
still_full old new e outcome refused full =
    let refuses : RefusesEvent old e fault.HistoryFull new = subst (λ r. IfErr r (λ why. RefusesEvent old e why new)) full refused in
    subst (λ (s : StateView). max_history_len ≤ length s.entries) (sym (refuses.stays refl)) (refuses.full.0 refl)
