-- A reader's answer is determined by the stream.
use Rattle.std.proofs.Common.{◌≡◌, inl, inr, ℕ, List, [], ◌++◌, Result, Ok, Err, refl, ap, subst}
use Rattle.std.specs.Prelude.{IfOk, IfErr, MatchResult}
use Rattle.ledger_model.specs.declared.statement.SignedStatement.{SignedStatement}
use Rattle.ledger_model.specs.declared.version.Version.{Version}
use Rattle.ledger_model.specs.Streams.{BeginsTooLong, BeginsMalformed, SplitsTo, BreaksOff}
use Rattle.ledger_model.proofs.FrameReading.{one_split, split_or_break, one_break}
use Rattle.signed_frames.specs.declared.fault.FrameFault.{FrameFault}
use Rattle.signed_frames.specs.declared.fault.FrameFault.TheVariants as fault
use Rattle.signed_frames.specs.Reader.{ReaderState, Reading, Found, Failed, LeavesReader, FailsWith, HandsOut, ReturnsFault, FaultAt}

-- what is handed out of frames and less than one more
whole_handed : (version : Version) (bytes rest : List ℕ) (frames out : List SignedStatement) (new : ReaderState)
    → SplitsTo version bytes frames rest
    → LeavesReader version bytes out new → (out ≡ frames) × (new ≡ Reading rest)
whole_handed version bytes rest frames out (Reading left) split leaves =
    let same = one_split version bytes out frames left rest leaves split in
    (same.0, ap (λ (r : List ℕ). Reading r) same.1)
whole_handed version bytes rest frames out (Found fault.TooLong) split leaves = absurd
    ((split_or_break version bytes frames out rest split).0 leaves.1)
whole_handed version bytes rest frames out (Found fault.Malformed) split leaves = absurd
    ((split_or_break version bytes frames out rest split).1 leaves.1)
whole_handed version bytes rest frames out (Found fault.Failed) split leaves = absurd leaves
whole_handed version bytes rest frames out (Found fault.NoMemory) split leaves = absurd leaves
whole_handed version bytes rest frames out Failed split leaves = absurd leaves

-- no fault is reported there
whole_told : (version : Version) (kept piece rest : List ℕ) (frames : List SignedStatement) (told : FrameFault) (new : ReaderState)
    → SplitsTo version (kept ++ piece) frames rest → FailsWith version kept piece told new → told ≡ fault.NoMemory
whole_told version kept piece rest frames fault.TooLong new split faults = absurd
    ((split_or_break version (kept ++ piece) frames [] rest split).0 faults.0)
whole_told version kept piece rest frames fault.Malformed new split faults =
    absurd ((split_or_break version (kept ++ piece) frames [] rest split).1 faults.0)
whole_told version kept piece rest frames fault.Failed new split faults = absurd faults
whole_told version kept piece rest frames fault.NoMemory new split faults = refl

-- what is handed out before a length that is too long
long_handed : (version : Version) (bytes : List ℕ) (frames out : List SignedStatement) (new : ReaderState)
    → BreaksOff BeginsTooLong version bytes frames
    → LeavesReader version bytes out new → (out ≡ frames) × (new ≡ Found fault.TooLong)
long_handed version bytes frames out (Reading left) breaks leaves = absurd ((split_or_break version bytes out frames left leaves).0 breaks)
long_handed version bytes frames out (Found fault.TooLong) breaks leaves = ((one_break version bytes out frames).0 leaves.1 breaks, refl)
long_handed version bytes frames out (Found fault.Malformed) breaks leaves = absurd ((one_break version bytes frames out).2 breaks leaves.1)
long_handed version bytes frames out (Found fault.Failed) breaks leaves = absurd leaves
long_handed version bytes frames out (Found fault.NoMemory) breaks leaves = absurd leaves
long_handed version bytes frames out Failed breaks leaves = absurd leaves

-- and which fault is reported there
long_told : (version : Version) (kept piece : List ℕ) (frames : List SignedStatement) (told : FrameFault) (new : ReaderState)
    → BreaksOff BeginsTooLong version (kept ++ piece) frames → FailsWith version kept piece told new → FaultAt frames fault.TooLong told
long_told version kept piece frames fault.TooLong new breaks faults = inl
    (refl, (one_break version (kept ++ piece) frames []).0 breaks faults.0)
long_told version kept piece frames fault.Malformed new breaks faults = absurd
    ((one_break version (kept ++ piece) frames []).2 breaks faults.0)
long_told version kept piece frames fault.Failed new breaks faults = absurd faults
long_told version kept piece frames fault.NoMemory new breaks faults = inr refl

-- what is handed out before a body that is not spelled
bad_handed : (version : Version) (bytes : List ℕ) (frames out : List SignedStatement) (new : ReaderState)
    → BreaksOff BeginsMalformed version bytes frames
    → LeavesReader version bytes out new → (out ≡ frames) × (new ≡ Found fault.Malformed)
bad_handed version bytes frames out (Reading left) breaks leaves = absurd ((split_or_break version bytes out frames left leaves).1 breaks)
bad_handed version bytes frames out (Found fault.TooLong) breaks leaves = absurd ((one_break version bytes out frames).2 leaves.1 breaks)
bad_handed version bytes frames out (Found fault.Malformed) breaks leaves = ((one_break version bytes out frames).1 leaves.1 breaks, refl)
bad_handed version bytes frames out (Found fault.Failed) breaks leaves = absurd leaves
bad_handed version bytes frames out (Found fault.NoMemory) breaks leaves = absurd leaves
bad_handed version bytes frames out Failed breaks leaves = absurd leaves

-- and which fault is reported there
bad_told : (version : Version) (kept piece : List ℕ) (frames : List SignedStatement) (told : FrameFault) (new : ReaderState)
    → BreaksOff BeginsMalformed version (kept ++ piece) frames → FailsWith version kept piece told new → FaultAt frames fault.Malformed told
bad_told version kept piece frames fault.TooLong new breaks faults = absurd
    ((one_break version (kept ++ piece) [] frames).2 faults.0 breaks)
bad_told version kept piece frames fault.Malformed new breaks faults = inl
    (refl, (one_break version (kept ++ piece) frames []).1 breaks faults.0)
bad_told version kept piece frames fault.Failed new breaks faults = absurd faults
bad_told version kept piece frames fault.NoMemory new breaks faults = inr refl

-- what a reader that was reading answered
module _ {T : Type 0} (version : Version) (items : T → List SignedStatement) (old new : ReaderState) (kept piece : List ℕ)
    (was : old ≡ Reading kept) where
  -- of frames and less than one more
  pub is_whole : (result : Result T FrameFault) (rest : List ℕ) (frames : List SignedStatement)
      → IfOk result (λ out. HandsOut version old piece (items out) new) → IfErr result (λ told. ReturnsFault version old piece told new)
      → SplitsTo version (kept ++ piece) frames rest
      → MatchResult result (λ out. (items out ≡ frames) × (new ≡ Reading rest)) (λ told. told ≡ fault.NoMemory)
  is_whole (Ok out) rest frames handed told split =
      whole_handed version (kept ++ piece) rest frames (items out) new split
      (subst (λ (r : ReaderState). HandsOut version r piece (items out) new) was handed)
  is_whole (Err e) rest frames handed told split =
      whole_told version kept piece rest frames e new split (subst (λ (r : ReaderState). ReturnsFault version r piece e new) was told)

  -- of frames and a length that is too long
  pub is_long : (result : Result T FrameFault) (frames : List SignedStatement)
      → IfOk result (λ out. HandsOut version old piece (items out) new)
      → IfErr result (λ told. ReturnsFault version old piece told new)
      → BreaksOff BeginsTooLong version (kept ++ piece) frames
      → MatchResult result (λ out. (items out ≡ frames) × (new ≡ Found fault.TooLong)) (λ told. FaultAt frames fault.TooLong told)
  is_long (Ok out) frames handed told breaks =
      long_handed version (kept ++ piece) frames (items out) new breaks
      (subst (λ (r : ReaderState). HandsOut version r piece (items out) new) was handed)
  is_long (Err e) frames handed told breaks =
      long_told version kept piece frames e new breaks (subst (λ (r : ReaderState). ReturnsFault version r piece e new) was told)

  -- of frames and a body that is not spelled
  pub is_bad : (result : Result T FrameFault) (frames : List SignedStatement)
      → IfOk result (λ out. HandsOut version old piece (items out) new)
      → IfErr result (λ told. ReturnsFault version old piece told new)
      → BreaksOff BeginsMalformed version (kept ++ piece) frames
      → MatchResult result (λ out. (items out ≡ frames) × (new ≡ Found fault.Malformed)) (λ told. FaultAt frames fault.Malformed told)
  is_bad (Ok out) frames handed told breaks =
      bad_handed version (kept ++ piece) frames (items out) new breaks
      (subst (λ (r : ReaderState). HandsOut version r piece (items out) new) was handed)
  is_bad (Err e) frames handed told breaks =
      bad_told version kept piece frames e new breaks (subst (λ (r : ReaderState). ReturnsFault version r piece e new) was told)
