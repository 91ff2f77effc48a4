-- The sent frames that go to one replica, in an order in which a binary search finds the source of a delivery.
use Rattle.std.specs.Prelude.{◌≡◌, ℕ, ◌<◌, ◌≤◌, nat_lt, ◌==◌, Bool, true, false, ◌&&◌, ◌||◌, List, length, get_or, Option, Some, None}
use Rattle.std.specs.Prelude.{slice_get, slice_index_or}
use Rattle.std.specs.List.{All, Contains, IsDistinct}
use Rattle.ledger_model.specs.Addressing.{goes_to}
use Rattle.ledger_model.specs.Values.{same_bytes}
use Rattle.run_picture.specs.declared.sent_frames.SentFrame.{SentFrame}
use Rattle.run_picture.specs.declared.incoming.IncomingFrame.{IncomingFrame}

-- Different frames have different numbers: the number of sent frame j is the position of its bytes in the table of strings.
pub record IsNumbering (sent : List SentFrame) (strings : List (List ℕ)) (numbers : List ℕ) : Type 0 where
  pub count : length numbers ≡ length sent
  pub bytes_at : (j : ℕ) (s : SentFrame) → slice_get sent j ≡ Some s → slice_get strings (get_or numbers j 0) ≡ Some s.bytes
  pub distinct : IsDistinct same_bytes strings

-- sent frame j
abbrev pub incoming_frame : List ℕ → ℕ → SentFrame → IncomingFrame
incoming_frame numbers j s = record { number = get_or numbers j 0; round = s.at.round; sent = j }

-- x is a sent frame that goes to replica `to`
pub record IsIncoming (sent : List SentFrame) (numbers : List ℕ) (to : ℕ) (x : IncomingFrame) : Type 0 where
  pub frame : SentFrame
  pub at : slice_get sent x.sent ≡ Some frame
  pub is : x ≡ incoming_frame numbers x.sent frame
  pub goes : goes_to frame.addressee frame.at.replica to ≡ true

-- those of the first n sent frames that go to replica `to`
pub record AreIncomingTo (sent : List SentFrame) (numbers : List ℕ) (to n : ℕ) (frames : List IncomingFrame) : Type 0 where
  pub each : All (IsIncoming sent numbers to) frames
  pub all : (j : ℕ) (s : SentFrame) → j < n → slice_get sent j ≡ Some s → goes_to s.addressee s.at.replica to ≡ true
      → Contains frames (incoming_frame numbers j s)

-- frame x comes before frame y: by the number, then the round, then the index
abbrev pub comes_before : IncomingFrame → IncomingFrame → Bool
comes_before x y =
    nat_lt x.number y.number
    || ((x.number == y.number) && (nat_lt x.round y.round || ((x.round == y.round) && nat_lt x.sent y.sent)))

-- no frame comes before an earlier one
abbrev pub IsInOrder : List IncomingFrame → Type 0
IsInOrder frames = (i j : ℕ) (d : IncomingFrame) → i ≤ j → j < length frames
    → comes_before (slice_index_or frames j d) (slice_index_or frames i d) ≡ false

-- the frames that go to replica `to`, in order
pub record AreIncoming (sent : List SentFrame) (numbers : List ℕ) (to : ℕ) (frames : List IncomingFrame) : Type 0 where
  pub are : AreIncomingTo sent numbers to (length sent) frames
  pub order : IsInOrder frames

-- frame x has a lower number, or this one and is sent before round c
abbrev pub is_before : ℕ → ℕ → IncomingFrame → Bool
is_before number c x = nat_lt x.number number || ((x.number == number) && nat_lt x.round c)

-- Round b is at least as near to round c as round r: of two rounds up to c the later, and of two later rounds the earlier.
pub record IsNoFarther (c b r : ℕ) : Type 0 where
  pub up_to : r ≤ c → (r ≤ b) × (b ≤ c)
  pub later : c < r → b ≤ r

-- the round of the nearest of the frames that have the number; None, if no frame has it
abbrev pub IsNearestRound : List IncomingFrame → ℕ → ℕ → Option ℕ → Type 0
IsNearestRound frames number c None = (y : IncomingFrame) → Contains frames y → y.number ≡ number → ⊥
IsNearestRound frames number c (Some b) =
    ((x : IncomingFrame) × (Contains frames x × (x.number ≡ number) × (x.round ≡ b)))
    × ((y : IncomingFrame) → Contains frames y → y.number ≡ number → IsNoFarther c b y.round)

-- the least index of a frame that has the number and is sent in round b
abbrev pub IsFirstIndex : List IncomingFrame → ℕ → ℕ → ℕ → Type 0
IsFirstIndex frames number b i =
    ((x : IncomingFrame) × (Contains frames x × (x.number ≡ number) × (x.round ≡ b) × (x.sent ≡ i)))
    × ((y : IncomingFrame) → Contains frames y → y.number ≡ number → y.round ≡ b → i ≤ y.sent)

-- the index of the first frame of the nearest round that has the number; None, if no frame has it
abbrev pub IsNearest : List IncomingFrame → ℕ → ℕ → Option ℕ → Type 0
IsNearest frames number c None = IsNearestRound frames number c None
IsNearest frames number c (Some i) = (b : ℕ) × (IsNearestRound frames number c (Some b) × IsFirstIndex frames number b i)
