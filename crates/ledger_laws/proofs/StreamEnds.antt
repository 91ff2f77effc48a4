-- Each stream of bytes consists of frames, followed by less than a whole frame or by a break.
use Rattle.std.proofs.Common.{◌≡◌, ℕ, zero, suc, ◌+◌, ◌≤◌, ◌⊎◌, inl, inr, List, [], ◌∷◌, ◌++◌, length, take, drop, Option, Some, None, refl}
use Rattle.std.proofs.Common.{sym, ap, ◌∙◌, append_assoc, arith}
use Rattle.std.specs.List.{flat_map}
use Rattle.std.specs.Int.{w32, to_be_bytes}
use Rattle.std.proofs.lemmas.Bool.{cases_lt}
use Rattle.std.proofs.lemmas.List.{take-append-drop, length-take, length-drop}
use Rattle.ledger_model.specs.declared.statement.SignedStatement.{SignedStatement}
use Rattle.ledger_model.specs.Spelling.{IsFrameIn, body_bytes, frame_bytes, Frames}
use Rattle.ledger_model.specs.Reading.{body_reading}
use Rattle.ledger_model.specs.Streams.{announced}
use Rattle.ledger_model.specs.GrammarLaws.{IsBytes, Ends, EveryStreamEnds}
use Rattle.ledger_model.proofs.Readers.{IsBytes-take, IsBytes-drop, wide32}
use Rattle.ledger_model.proofs.FrameReading.{body_reading-spells}
use Rattle.ledger_model.specs.Versions.{body_limit}
use Rattle.ledger_model.specs.declared.version.Version.{Version}

-- a body that is there in whole and is read is that of a frame
pub frame_first : (version : Version) (bytes : List ℕ) (s : SignedStatement) → IsBytes bytes → 4 + announced bytes ≤ length bytes
    → announced bytes ≤ body_limit version
    → body_reading version (take (announced bytes) (drop 4 bytes)) ≡ Some s
    → IsFrameIn version s × (bytes ≡ frame_bytes s ++ drop (announced bytes) (drop 4 bytes))
unfolding frame_bytes
frame_first version bytes s fits whole short e =
    let n = announced bytes in
    let body = take n (drop 4 bytes) in
    let rest = drop n (drop 4 bytes) in
    let is = body_reading-spells version body s (IsBytes-take n (drop 4 bytes) (IsBytes-drop 4 bytes fits)) e in
    let len : length body ≡ n = omega (arith, length-take n (drop 4 bytes), length-drop 4 bytes) in
    let same : length (body_bytes s) ≡ n = ap length (sym is.1) ∙ len in
    let lead : to_be_bytes w32 n ≡ take 4 bytes =
    wide32.back (take 4 bytes) (omega (arith, length-take 4 bytes)) (IsBytes-take 4 bytes fits) in
    let parts : bytes ≡ (to_be_bytes w32 (length (body_bytes s)) ++ body_bytes s) ++ rest =
    sym (take-append-drop 4 bytes) ∙ ap (λ (t : List ℕ). take 4 bytes ++ t) (sym (take-append-drop n (drop 4 bytes)))
    ∙ ap (λ (t : List ℕ). t ++ (body ++ rest)) (sym lead ∙ ap (to_be_bytes w32) (sym same))
    ∙ ap (λ (t : List ℕ). to_be_bytes w32 (length (body_bytes s)) ++ (t ++ rest)) is.1
    ∙ sym (append_assoc (to_be_bytes w32 (length (body_bytes s))) (body_bytes s) rest) in
    (is.0, parts)

frames_more : (version : Version) (s : SignedStatement) (bytes rest tail : List ℕ) (frames : List SignedStatement) → IsFrameIn version s
    → bytes ≡ frame_bytes s ++ rest
    → Frames version rest frames tail → Frames version bytes (s ∷ frames) tail
frames_more version s bytes rest tail frames is parts f =
    ((is, f.0), parts ∙ ap (λ (t : List ℕ). frame_bytes s ++ t) f.1 ∙ sym (append_assoc (frame_bytes s) (flat_map frame_bytes frames) tail))

ends_more : (version : Version) (s : SignedStatement) (bytes rest : List ℕ) (frames : List SignedStatement) → IsFrameIn version s → bytes
    ≡ frame_bytes s ++ rest
    → Ends version rest frames → Ends version bytes (s ∷ frames)
ends_more version s bytes rest frames is parts (inl split) = inl
    (split.0, (frames_more version s bytes rest split.0 frames is parts split.1.0, split.1.1))
ends_more version s bytes rest frames is parts (inr (inl broken)) =
    inr (inl (broken.0, (frames_more version s bytes rest broken.0 frames is parts broken.1.0, broken.1.1)))
ends_more version s bytes rest frames is parts (inr (inr broken)) =
    inr (inr (broken.0, (frames_more version s bytes rest broken.0 frames is parts broken.1.0, broken.1.1)))

found_or_not : {A : Type 0} (o : Option A) → (o ≡ None) ⊎ ((x : A) × (o ≡ Some x))
found_or_not None = inl refl
found_or_not (Some x) = inr (x, refl)

ends_within : (version : Version) (n : ℕ) (bytes : List ℕ) → length bytes ≤ n → IsBytes bytes → (frames : List SignedStatement)
    × Ends version bytes frames
ends_within version zero bytes le fits = ([], inl (bytes, ((tt, refl), inl (omega arith))))
ends_within version (suc n) bytes le fits =
    let len = announced bytes in
    elim (cases_lt (length bytes) 4) [
      | inl few ↦ ([], inl (bytes, ((tt, refl), inl few)))
      | inr four ↦ elim (cases_lt (body_limit version) len) [
        | inl long ↦ ([], inr (inl (bytes, ((tt, refl), (four, long)))))
        | inr short ↦ elim (cases_lt (length bytes) (4 + len)) [
          | inl less ↦ ([], inl (bytes, ((tt, refl), inr (short, less))))
          | inr whole ↦ elim (found_or_not (body_reading version (take len (drop 4 bytes)))) [
            | inl none ↦ ([], inr (inr (bytes, ((tt, refl), (four, short, whole, none)))))
            | inr some ↦
                let rest = drop len (drop 4 bytes) in
                let first = frame_first version bytes some.0 fits whole short some.1 in
                let later = ends_within version n rest (omega (arith, length-drop len (drop 4 bytes), length-drop 4 bytes))
                (IsBytes-drop len (drop 4 bytes) (IsBytes-drop 4 bytes fits)) in
                (some.0 ∷ later.0, ends_more version some.0 bytes rest later.0 first.0 first.1 later.1)
          ]
        ]
      ]
    ]

pub every_stream_ends : EveryStreamEnds
every_stream_ends version bytes fits = ends_within version (length bytes) bytes (omega arith) fits
