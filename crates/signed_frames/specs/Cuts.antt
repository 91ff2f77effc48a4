-- However a stream is cut into pieces, a reader returns the same frames and the same fault.
use Rattle.std.specs.Prelude.{◌≡◌, ℕ, List, [], ◌∷◌, ◌++◌, Option, Some, None}
use Rattle.std.specs.List.{flat_map}
use Rattle.ledger_model.specs.declared.statement.SignedStatement.{SignedStatement}
use Rattle.ledger_model.specs.declared.version.Version.{Version}
use Rattle.ledger_model.specs.Streams.{IsPartial}
use Rattle.signed_frames.specs.declared.fault.FrameFault.{FrameFault}
use Rattle.signed_frames.specs.declared.fault.FrameFault.TheVariants as fault
use Rattle.signed_frames.specs.Reader.{ReaderState, Reading, Found, Failed, HandsOut, ReturnsFault}

-- two pieces, one after the other, give the same frames as the joined piece
abbrev pub FramesHoweverCut : Type 0
FramesHoweverCut =
    (version : Version) (old mid new : ReaderState) (p q : List ℕ) (first second : List SignedStatement)
    → HandsOut version old p first mid → HandsOut version mid q second new → HandsOut version old (p ++ q) (first ++ second) new

-- a reader's answer to a piece
pub data Answer : Type 0 where
  Frames : (frames : List SignedStatement) → Answer
  Fault : (told : FrameFault) → Answer

-- the answer to a piece, and the reader afterwards, if memory doesn't run out
abbrev pub TakesPiece : Version → ReaderState → List ℕ → Answer → ReaderState → Type 0
TakesPiece version old piece (Frames frames) new = HandsOut version old piece frames new
TakesPiece version old piece (Fault fault.TooLong) new = ReturnsFault version old piece fault.TooLong new
TakesPiece version old piece (Fault fault.Malformed) new = ReturnsFault version old piece fault.Malformed new
TakesPiece version old piece (Fault fault.Failed) new = ReturnsFault version old piece fault.Failed new
TakesPiece version old piece (Fault fault.NoMemory) new = ⊥

-- the answers to the pieces in order, and the reader afterwards
abbrev pub TakesAll : Version → ReaderState → List (List ℕ) → List Answer → ReaderState → Type 0
TakesAll version old [] [] new = new ≡ old
TakesAll version old [] (a ∷ more) new = ⊥
TakesAll version old (p ∷ ps) [] new = ⊥
TakesAll version old (p ∷ ps) (a ∷ more) new = (mid : ReaderState) × (TakesPiece version old p a mid × TakesAll version mid ps more new)

-- all frames that were returned, in order
abbrev pub returned_frames : List Answer → List SignedStatement
returned_frames [] = []
returned_frames (Frames frames ∷ more) = frames ++ returned_frames more
returned_frames (Fault told ∷ more) = returned_frames more

-- the first fault that was returned, or the one that the reader has found and returns next
abbrev pub returned_fault : List Answer → ReaderState → Option FrameFault
returned_fault [] (Reading kept) = None
returned_fault [] (Found found) = Some found
returned_fault [] Failed = None
returned_fault (Frames frames ∷ more) new = returned_fault more new
returned_fault (Fault told ∷ more) new = Some told

-- A reader that has less than a whole frame returns the same frames and the same fault for any two lists of pieces that are the same bytes.
abbrev pub SameHoweverCut : Type 0
SameHoweverCut =
    (version : Version) (kept : List ℕ) (pieces others : List (List ℕ)) (answers those : List Answer) (new end : ReaderState)
    → IsPartial version kept → flat_map (λ piece. piece) pieces ≡ flat_map (λ piece. piece) others
    → TakesAll version (Reading kept) pieces answers new → TakesAll version (Reading kept) others those end
    → (returned_frames answers ≡ returned_frames those) × (returned_fault answers new ≡ returned_fault those end)
