-- From the replies of a replica to what `abft deliver` prints.
use Rattle.ledger_model.specs.Meanings.{Meanings}
use Rattle.std.proofs.Common.{◌≡◌, ℕ, ◌≤◌, List, [], ◌++◌, length, refl, ap, sym, subst, ◌∙◌, inl, inr, arith}
use Rattle.std.specs.Prelude.{Option}
use Rattle.std.specs.Io.KnownBytes.{Appends}
use Rattle.std.proofs.KnownBytes.{Appends-trans, Consumes-nil}
use Rattle.ledger_model.specs.declared.config.Config.{Config}
use Rattle.ledger_model.specs.declared.event.Event.{Event}
use Rattle.ledger_model.specs.Rules.{Ring}
use Rattle.ledger_model.specs.Lawful.{Replay, ReplaysFrom}
use Rattle.key_ring.specs.Signers.{leaves_of}
use Rattle.cluster_setup.specs.Keys.{ring_of, secret_of}
use Rattle.replica_core.specs.Leaves.{signed_after, signed_by, IsMuteForWant}
use Rattle.replica_core.proofs.SpentLeaves.{account_none, none_lost}
use Rattle.locked_replica.specs.States.{StateView}
use Rattle.cluster_setup.specs.declared.deliver_settings.DeliverSettings.{DeliverSettings}
use Rattle.program.specs.declared.stream_end.StreamEnd.{StreamEnd}
use Rattle.program.specs.Lines.{last_line}
use Rattle.byte_streams.specs.Writing.{AppendsSome}
use Rattle.program.specs.Answering.{AnswersEvents, AnswersSome, deliveries, fresh, starting}
use Rattle.program.specs.Streams.{Delivers, DeliversSome, DeliversStream, DeliversStreamSome}
use Rattle.program.specs.Streams.{StreamHasEnded, FillsHistory, IsMuteOnlySpent, SplitsWithEnd, StreamHasStopped}
use Rattle.ledger_model.specs.Spelling.{Frames}
use Rattle.byte_streams.proofs.WritingLemmas.{nothing_some, then_some}
use Rattle.program.proofs.AnsweringLemmas.{answers_both, some_after, some_longer}
use Rattle.ledger_model.specs.Limits.{max_history_len}

-- nothing is a replay
replay_none : (meaning : Meanings) (config : Config) (ring : Ring) (id : ℕ) → Replay meaning config ring id []
unfolding Replay ReplaysFrom
replay_none meaning config ring id = tt

-- what was added is a replay
added_replay : (meaning : Meanings) (s : DeliverSettings) (d : StateView) (events : List Event) (text : List ℕ)
    → (answers : AnswersEvents meaning (fresh meaning s) events text d)
    → Replay meaning s.cluster.config (ring_of s.cluster) s.replica answers.added
added_replay meaning s d events text answers =
    let replay = answers.grown.replay (replay_none meaning s.cluster.config (ring_of s.cluster) s.replica) in
    subst (λ l. Replay meaning s.cluster.config (ring_of s.cluster) s.replica l) answers.grown.entries
    (subst (λ (r : StateView). Replay meaning r.config r.ring r.id d.entries) answers.grown.same replay)

-- nothing was signed yet
none_signed : signed_by [] ≡ 0
unfolding signed_after
none_signed = refl

-- after what was added the replica is mute only where its leaves were too few for what it had signed and what was due
added_mute : (meaning : Meanings) (s : DeliverSettings) (d : StateView) (events : List Event) (text : List ℕ)
    → (answers : AnswersEvents meaning (fresh meaning s) events text d)
    → IsMuteOnlySpent s answers.added
added_mute meaning s d events text answers =
    let same = answers.grown.same in
    let signed = answers.grown.signed in
    let none = none_signed in
    let mute = none_lost d.config d.id (leaves_of d.secret) d.used d.entries
    (answers.grown.account (account_none s.cluster.config s.replica (leaves_of (secret_of s.cluster s.replica)) 0))
    (omega (arith, signed, none)) in
    subst (λ l. IsMuteOnlySpent s l) answers.grown.entries
    (subst (λ (r : StateView). IsMuteForWant r.config r.id (leaves_of r.secret) 0 d.entries) same mute)

-- all events were taken
delivers : (meaning : Meanings) (s : DeliverSettings) (b d : StateView) (unread left before after : Option (List ℕ)) (end : StreamEnd)
    → AnswersEvents meaning (fresh meaning s) (starting s) [] b
    → (ended : StreamHasEnded meaning b unread left before after d end) → Delivers meaning s ended.input end (ended.text ++ last_line end)
delivers meaning s b d unread left before after end first ended =
    let all = answers_both meaning (fresh meaning s) b d (starting s)
    (deliveries ended.frames) [] ended.text first ended.answers in record {
      frames = ended.frames;
      stands = subst (λ (r : StateView). SplitsWithEnd r.config.frames ended.input ended.frames end) first.grown.same ended.stands;
      entries = all.added;
      events = all.these;
      replay = added_replay meaning s d (starting s ++ deliveries ended.frames) ended.text all;
      mute = added_mute meaning s d (starting s ++ deliveries ended.frames) ended.text all;
      lines = ap (λ l. l ++ last_line end) all.lines;
    }

-- it came to the end
pub done_to_end : (meaning : Meanings) (s : DeliverSettings) (a b d : StateView) (unread left before mid after : Option (List ℕ))
    (end : StreamEnd)
    → a ≡ fresh meaning s → AnswersEvents meaning a (starting s) [] b
    → StreamHasEnded meaning b unread left before mid d end → Appends mid after (last_line end)
    → DeliversStream meaning s end unread left before after
done_to_end meaning s a b d unread left before mid after end is first ended last = (
  ended.found,
  record {
    input = ended.input;
    text = ended.text ++ last_line end;
    goes_with = delivers meaning s b d unread left before mid end (subst (λ r. AnswersEvents meaning r (starting s) [] b) is first) ended;
    read = ended.read;
    written = Appends-trans before mid after ended.text (last_line end) ended.written last;
  },
)

-- its last line could not be written
pub halted_at_end : (meaning : Meanings) (s : DeliverSettings) (a b d : StateView) (unread left before mid after : Option (List ℕ))
    (end : StreamEnd)
    → a ≡ fresh meaning s → AnswersEvents meaning a (starting s) [] b
    → StreamHasEnded meaning b unread left before mid d end → AppendsSome mid after (last_line end)
    → DeliversStreamSome meaning s unread left before after
halted_at_end meaning s a b d unread left before mid after end is first ended last = record {
  input = ended.input;
  text = ended.text ++ last_line end;
  goes_with = inr (
    end,
    delivers meaning s b d unread left before mid end
        (subst (λ r. AnswersEvents meaning r (starting s) [] b) is first) ended,
  );
  read = ended.read;
  written = then_some before mid after ended.text (last_line end) ended.written last;
}

-- some events were taken of these bytes, and these are all entries of the replica
abbrev pub SomeDelivered : Meanings → DeliverSettings → List ℕ → List ℕ → StateView → Type 0
SomeDelivered meaning s input text d = (some : DeliversSome meaning s input text) × (some.entries ≡ d.entries)

-- it stopped within the stream
some_within : (meaning : Meanings) (s : DeliverSettings) (a b d : StateView) (unread left before after : Option (List ℕ))
    → a ≡ fresh meaning s
    → AnswersEvents meaning a (starting s) [] b
    → (stopped : StreamHasStopped meaning b unread left before after d) → SomeDelivered meaning s stopped.input stopped.text d
some_within meaning s a b d unread left before after is first stopped =
    let some = some_after meaning (fresh meaning s) b d (starting s) (deliveries stopped.frames) [] stopped.text
    (subst (λ r. AnswersEvents meaning r (starting s) [] b) is first) stopped.answers in (
      record {
        frames = stopped.frames;
        rest = stopped.rest;
        stands = subst (λ (r : StateView). Frames r.config.frames stopped.input stopped.frames stopped.rest)
            (subst (λ r. AnswersEvents meaning r (starting s) [] b) is first).grown.same stopped.stands;
        entries = some.answers.added;
        later = some.later;
        events = ap (λ l. l ++ some.later) some.answers.these ∙ some.split;
        replay = added_replay meaning s some.last some.taken stopped.text some.answers;
        mute = added_mute meaning s some.last some.taken stopped.text some.answers;
        lines = some.answers.lines;
      },
      sym some.answers.grown.entries ∙ sym (ap (λ (r : StateView). r.entries) some.refused.same),
    )

pub halted_within : (meaning : Meanings) (s : DeliverSettings) (a b d : StateView) (unread left before after : Option (List ℕ))
    → a ≡ fresh meaning s
    → AnswersEvents meaning a (starting s) [] b
    → StreamHasStopped meaning b unread left before after d → DeliversStreamSome meaning s unread left before after
halted_within meaning s a b d unread left before after is first stopped = record {
  input = stopped.input;
  text = stopped.text;
  goes_with = inl (some_within meaning s a b d unread left before after is first stopped).0;
  read = stopped.read;
  written = stopped.written;
}

-- and the history was full there
pub filled_within : (meaning : Meanings) (s : DeliverSettings) (a b d : StateView) (unread left before after : Option (List ℕ))
    → a ≡ fresh meaning s
    → AnswersEvents meaning a (starting s) [] b
    → StreamHasStopped meaning b unread left before after d → max_history_len ≤ length d.entries
    → FillsHistory meaning s unread left before after
filled_within meaning s a b d unread left before after is first stopped full =
    let some = some_within meaning s a b d unread left before after is first stopped in record {
      input = stopped.input;
      text = stopped.text;
      goes_with = (some.0, subst (λ l. max_history_len ≤ length l) (sym some.1) full);
      read = stopped.read;
      written = stopped.written;
    }

-- it stopped before the first frame
some_before : (meaning : Meanings) (s : DeliverSettings) (a b : StateView) → a ≡ fresh meaning s → AnswersSome meaning a (starting s) [] b
    → SomeDelivered meaning s [] [] b
some_before meaning s a b is first =
    let some = some_longer meaning (fresh meaning s) b (starting s) [] []
    (subst (λ r. AnswersSome meaning r (starting s) [] b) is first) in (
      record {
        frames = [];
        rest = [];
        stands = (tt, refl);
        entries = some.answers.added;
        later = some.later;
        events = ap (λ l. l ++ some.later) some.answers.these ∙ some.split;
        replay = added_replay meaning s some.last some.taken [] some.answers;
        mute = added_mute meaning s some.last some.taken [] some.answers;
        lines = some.answers.lines;
      },
      sym some.answers.grown.entries ∙ sym (ap (λ (r : StateView). r.entries) some.refused.same),
    )

pub halted_before : (meaning : Meanings) (s : DeliverSettings) (a b : StateView) (unread before : Option (List ℕ)) → a ≡ fresh meaning s
    → AnswersSome meaning a (starting s) [] b → DeliversStreamSome meaning s unread unread before before
halted_before meaning s a b unread before is first = record {
  input = [];
  text = [];
  goes_with = inl (some_before meaning s a b is first).0;
  read = Consumes-nil unread;
  written = nothing_some before [];
}

pub filled_before : (meaning : Meanings) (s : DeliverSettings) (a b : StateView) (unread before : Option (List ℕ)) → a ≡ fresh meaning s
    → AnswersSome meaning a (starting s) [] b → max_history_len ≤ length b.entries
    → FillsHistory meaning s unread unread before before
filled_before meaning s a b unread before is first full =
    let some = some_before meaning s a b is first in record {
      input = [];
      text = [];
      goes_with = (some.0, subst (λ l. max_history_len ≤ length l) (sym some.1) full);
      read = Consumes-nil unread;
      written = nothing_some before [];
    }

-- no replica could be made
pub halted_at_first : (meaning : Meanings) (s : DeliverSettings) (unread before : Option (List ℕ))
    → DeliversStreamSome meaning s unread unread before before
halted_at_first meaning s unread before = record {
  input = [];
  text = [];
  goes_with = inl (record {
    frames = [];
    rest = [];
    stands = (tt, refl);
    entries = [];
    later = starting s ++ deliveries [];
    events = refl;
    replay = replay_none meaning s.cluster.config (ring_of s.cluster) s.replica;
    mute = λ mute. absurd (cc mute);
    lines = refl;
  });
  read = Consumes-nil unread;
  written = nothing_some before [];
}
