-- Splitting frames off the front of bytes.
use Rattle.std.proofs.Common.{◌≡◌, ℕ, ◌+◌, ◌-◌, ◌≤◌, ◌<◌, true, ◌&&◌, leb, eqb, List, [], ◌∷◌, ◌++◌, length, take, drop, None, refl, sym}
use Rattle.std.proofs.Common.{ap, ◌∙◌, append_assoc, arith}
use Rattle.std.specs.List.{flat_map, AllByRecursion}
use Rattle.std.proofs.lemmas.Bool.{and_from, le-leb, eq-eqb}
use Rattle.std.proofs.lemmas.List.{take-append-drop, take-take, drop-take, drop-drop, length-take-le, length-drop, length-append}
use Rattle.std.proofs.lemmas.List.Concat.{flat_map-append}
use Rattle.ledger_model.specs.declared.statement.SignedStatement.{SignedStatement}
use Rattle.ledger_model.specs.Spelling.{IsFrameIn, Frames, frame_bytes}
use Rattle.ledger_model.specs.Reading.{reading_in, body_reading}
use Rattle.ledger_model.specs.Streams.{announced, BeginsMalformed}
use Rattle.signed_frames.proofs.FrameParts.{frame_length}
use Rattle.ledger_model.specs.Versions.{body_limit}
use Rattle.ledger_model.specs.declared.version.Version.{Version}
use Rattle.ledger_model.proofs.Lists.{each_append}

-- the reading of a whole frame is that of its body
pub reading_front : (version : Version) (bytes : List ℕ) (len : ℕ) → 4 + len ≤ length bytes → announced bytes ≡ len
    → reading_in version (take (4 + len) bytes) ≡ body_reading version (take len (drop 4 bytes))
unfolding reading_in
reading_front version bytes len whole says =
    let front = take (4 + len) bytes in
    let size : length front ≡ 4 + len = length-take-le (4 + len) bytes whole in
    let long : leb 4 (length front) ≡ true = le-leb 4 (length front) (omega arith) in
    let head : take 4 front ≡ take 4 bytes = take-take 4 (4 + len) bytes (omega arith) in
    let tail : drop 4 front ≡ take len (drop 4 bytes) = drop-take 4 len bytes in
    let tail_size : length (take len (drop 4 bytes)) ≡ len = length-take-le len (drop 4 bytes) (omega (arith, length-drop 4 bytes)) in
    let test : eqb (length (take len (drop 4 bytes))) len ≡ true = eq-eqb _ _ tail_size in
    rw (long, head, tail, says, test) refl

-- so a body that isn't spelled stands there
pub is_malformed : (version : Version) (bytes : List ℕ) (len : ℕ) → 4 + len ≤ length bytes → announced bytes ≡ len
    → len ≤ body_limit version
    → reading_in version (take (4 + len) bytes) ≡ None → BeginsMalformed version bytes
is_malformed version bytes len whole says short none = (
  omega arith,
  omega (arith, says),
  omega (arith, says),
  ap (λ (n : ℕ). body_reading version (take n (drop 4 bytes))) says
      ∙ sym (reading_front version bytes len whole says) ∙ none,
)

-- what comes first and is a frame
pub is_front : (bytes : List ℕ) (n : ℕ) (s : SignedStatement) → n ≤ length bytes → take n bytes ≡ frame_bytes s
    → bytes ≡ frame_bytes s ++ drop (length (frame_bytes s)) bytes
is_front bytes n s fits e =
    let size : length (frame_bytes s) ≡ n = ap length (sym e) ∙ length-take-le n bytes fits in
    sym (take-append-drop n bytes) ∙ ap (λ (x : List ℕ). x ++ drop n bytes) e ∙ ap (λ (k : ℕ). frame_bytes s ++ drop k bytes) (sym size)

-- frames, and then more of them
pub frames_join : (version : Version) (bytes mid rest : List ℕ) (frames more : List SignedStatement) → Frames version bytes frames mid
    → Frames version mid more rest
    → Frames version bytes (frames ++ more) rest
frames_join version bytes mid rest frames more f g = (
  each_append (IsFrameIn version) frames more f.0 g.0,
  f.1 ∙ ap (λ (x : List ℕ). flat_map frame_bytes frames ++ x) g.1
      ∙ sym (append_assoc (flat_map frame_bytes frames) (flat_map frame_bytes more) rest)
      ∙ ap (λ (x : List ℕ). x ++ rest) (sym (flat_map-append frame_bytes frames more)),
)

-- what was used so far is some frames
pub record TakesUp (version : Version) (bytes : List ℕ) (frames : List SignedStatement) (used : ℕ) : Type 0 where
  pub within : used ≤ length bytes
  pub split : Frames version bytes frames (drop used bytes)

-- nothing at first
pub none_used : (version : Version) (bytes : List ℕ) → TakesUp version bytes [] 0
none_used version bytes = record { within = omega arith; split = (tt, refl) }

-- one frame more
pub one_more : (version : Version) (bytes : List ℕ) (frames : List SignedStatement) (used : ℕ) (s : SignedStatement)
    → TakesUp version bytes frames used → IsFrameIn version s
    → drop used bytes ≡ frame_bytes s ++ drop (length (frame_bytes s)) (drop used bytes)
    → TakesUp version bytes (frames ++ s ∷ []) (used + length (frame_bytes s))
one_more version bytes frames used s so_far is e =
    let next : drop (length (frame_bytes s)) (drop used bytes) ≡ drop (used + length (frame_bytes s)) bytes =
    drop-drop (length (frame_bytes s)) used bytes in
    let one : Frames version (drop used bytes) (s ∷ []) (drop (used + length (frame_bytes s)) bytes) =
    ((is, tt), e ∙ ap (λ (x : List ℕ). frame_bytes s ++ x) next ∙ one_alone (frame_bytes s) (drop (used + length (frame_bytes s)) bytes)) in
    record {
      within = omega (
        arith,
        so_far.within,
        length-drop used bytes,
        ap length e,
        length-append (frame_bytes s)
            (drop (length (frame_bytes s)) (drop used bytes)),
      );
      split =
          frames_join version bytes (drop used bytes) (drop (used + length (frame_bytes s)) bytes) frames (s ∷ []) so_far.split one;
    }
  where
    one_alone : (x y : List ℕ) → x ++ y ≡ (x ++ []) ++ y
    one_alone x y = simp append_assoc

-- a frame has bytes
pub some_bytes : (s : SignedStatement) → 0 < length (frame_bytes s)
some_bytes s = omega (arith, frame_length s)

-- so less is left
pub less_left : (version : Version) (bytes : List ℕ) (frames : List SignedStatement) (used n : ℕ) (s : SignedStatement)
    → TakesUp version bytes frames (used + n)
    → n ≡ length (frame_bytes s) → length bytes - (used + n) < length bytes - used
less_left version bytes frames used n s after e = omega (arith, after.within, some_bytes s)
