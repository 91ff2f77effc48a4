-- From what is done with histories to what a subcommand writes for a stream of them.
use Rattle.std.proofs.Common.{◌≡◌, ℕ, List, [], refl, inl, inr}
use Rattle.std.specs.Prelude.{Option, Some, None, Result, Ok, Err, IfOk, MatchResult}
use Rattle.std.specs.Io.KnownBytes.{Consumes}
use Rattle.ledger_model.specs.declared.history.History.{History}
use Rattle.ledger_model.specs.declared.version.Version.{Version}
use Rattle.history_bytes.specs.HistoryReading.{histories_reading}
use Rattle.byte_streams.specs.Writing.{Writes}
use Rattle.byte_streams.proofs.Faults.{each_way}
use Rattle.byte_streams.proofs.WritingLemmas.{nothing_some}
use Rattle.program.specs.declared.outcome.Conclusion.{Conclusion}
use Rattle.program.specs.HistoryInput.{Outputs, OutputsSome, OutputsDone, OutputsDoneSome, ReadsWhole, bad_history}

-- nothing was written of what is done with histories
pub done_nothing : (Done : List History → ℕ → List ℕ → Type 0) (histories : List History) (before : Option (List ℕ))
    → OutputsDoneSome Done histories before before
done_nothing Done histories before = ([], (inl refl, nothing_some before []))

module _ (frames : Version) (Done : List History → ℕ → List ℕ → Type 0) (input : List ℕ) (unread left : Option (List ℕ)) where
  -- nothing was written
  pub outputs_nothing : (before : Option (List ℕ)) → Consumes unread left input → OutputsSome frames Done unread left before before
  outputs_nothing before read =
      record { input = input; text = []; goes_with = inl refl; read = read; written = nothing_some before [] }

  -- the input is histories, and something was done with them
  outputs_whole : (histories : List History) (status : ℕ) (before after : Option (List ℕ)) → ReadsWhole unread left input
      → histories_reading frames input ≡ Some histories → OutputsDone Done histories status before after
      → Outputs frames Done status unread left before after
  outputs_whole histories status before after (read, to_end) reads (text, (done_with, written)) = (
    to_end,
    record { input = input; text = text; goes_with = inr (histories, reads, done_with); read = read; written = written },
  )

  outputs_part : (histories : List History) (before after : Option (List ℕ)) → ReadsWhole unread left input
      → histories_reading frames input ≡ Some histories → OutputsDoneSome Done histories before after
      → OutputsSome frames Done unread left before after
  outputs_part histories before after (read, to_end) reads (text, (inl none, written)) =
      record { input = input; text = text; goes_with = inl none; read = read; written = written }
  outputs_part histories before after (read, to_end) reads (text, (inr (status, done_with), written)) = record {
    input = input;
    text = text;
    goes_with = inr (to_end, (status, inr (histories, reads, done_with)));
    read = read;
    written = written;
  }

  pub outputs_histories : {E : Type 0} (r : Result Conclusion E) (histories : List History) (before after : Option (List ℕ))
      → ReadsWhole unread left input → histories_reading frames input ≡ Some histories
      → MatchResult r (λ ending. OutputsDone Done histories ending.status before after)
      (λ _. OutputsDoneSome Done histories before after)
      → MatchResult r (λ ending. Outputs frames Done ending.status unread left before after) (λ _. OutputsSome frames Done unread left before after)
  outputs_histories r histories before after whole reads done =
      each_way _ _ _ _ r (λ ending written. outputs_whole histories ending.status before after whole reads written)
      (λ fault part. outputs_part histories before after whole reads part) done

  -- the input is not spelled as histories, and the program printed so
  pub outputs_none : {E : Type 0} (r : Result Conclusion E) (before after : Option (List ℕ)) → ReadsWhole unread left input
      → histories_reading frames input ≡ None → Writes r before after bad_history
      → IfOk r (λ ending. (ending.explanation ≡ None) × (ending.status ≡ 1))
      → MatchResult r (λ ending. Outputs frames Done ending.status unread left before after) (λ _. OutputsSome frames Done unread left before after)
  outputs_none (Ok ending) before after (read, to_end) none written is = (
    to_end,
    record { input = input; text = bad_history; goes_with = inl (none, is.1, refl); read = read; written = written },
  )
  outputs_none (Err fault) before after (read, to_end) none written is = record {
    input = input;
    text = bad_history;
    goes_with = inr (to_end, (1, inl (none, refl, refl)));
    read = read;
    written = written;
  }
