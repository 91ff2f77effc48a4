-- The offsets of the parts of a frame in its bytes.
use Rattle.std.proofs.Common.{◌≡◌, ℕ, ◌+◌, ◌-◌, ◌≤◌, List, ◌++◌, length, take, drop, refl, sym, ap, subst, ◌∙◌, append_assoc, arith}
use Rattle.std.specs.Int.{w16, w32, to_be_bytes}
use Rattle.std.proofs.lemmas.List.{take_at, drop_at, length-append, length-drop}
use Rattle.ledger_model.specs.declared.statement.SignedStatement.{SignedStatement}
use Rattle.ledger_model.specs.declared.statement.Statement.{Statement}
use Rattle.ledger_model.specs.Spelling.{IsStatement, IsSignature, SpellsFrame, statement_bytes, signature_bytes, body_bytes, frame_bytes}
use Rattle.signed_frames.specs.Parts.{signed_by_last, HoldsFrame}
use Rattle.ledger_model.specs.Versions.{body_limit}
use Rattle.ledger_model.specs.Notes.{version_of}
use Rattle.ledger_model.specs.declared.version.Version.{Version}
use Rattle.ledger_model.specs.declared.version.Version.TheVariants.{Two}
use Rattle.ledger_model.proofs.FrameReading.{any_frame}

-- a frame with its signature apart
pub frame_parts : (s : SignedStatement)
    → frame_bytes s ≡ (to_be_bytes w32 (length (body_bytes s)) ++ statement_bytes s.statement ++ to_be_bytes w16 (length s.signature))
    ++ s.signature
unfolding frame_bytes body_bytes
frame_parts s = ap (λ (x : List ℕ). to_be_bytes w32 (length (body_bytes s)) ++ x)
    (sym (append_assoc (statement_bytes s.statement) (to_be_bytes w16 (length s.signature)) s.signature))

-- a body is a statement, two bytes and a signature
pub body_length : (s : SignedStatement) → length (body_bytes s) ≡ length (statement_bytes s.statement) + (2 + length s.signature)
unfolding body_bytes
body_length s = omega (arith, length-append (statement_bytes s.statement) (signature_bytes s.signature))

-- so a frame has six bytes more than its statement and its signature
pub frame_length : (s : SignedStatement) → length (frame_bytes s) ≡ 6 + length (statement_bytes s.statement) + length s.signature
unfolding frame_bytes
frame_length s = omega (arith, body_length s)

-- the last bytes of two lists joined
pub last_part : (front last : List ℕ) → drop (length (front ++ last) - length last) (front ++ last) ≡ last
last_part front last = drop_at front last (length (front ++ last) - length last) (omega (arith, length-append front last))

-- the signature of spelled bytes is the last of them
pub last_is : (bytes : List ℕ) (s : SignedStatement) → bytes ≡ frame_bytes s → signed_by_last bytes s.statement (length s.signature) ≡ s
last_is bytes s e =
    let front = to_be_bytes w32 (length (body_bytes s)) ++ statement_bytes s.statement ++ to_be_bytes w16 (length s.signature) in
    let whole : bytes ≡ front ++ s.signature = e ∙ frame_parts s in
    let last : drop (length bytes - length s.signature) bytes ≡ s.signature = rw whole (last_part front s.signature) in
    let signed : List ℕ → SignedStatement = λ x. record { statement = s.statement; signature = x } in
    ap signed last

-- so the bytes spell the frame with that signature
pub spelled_by_last : (version : Version) (bytes : List ℕ) (s : SignedStatement) → SpellsFrame version bytes s
    → SpellsFrame version bytes (signed_by_last bytes s.statement (length s.signature))
spelled_by_last version bytes s spells = subst (SpellsFrame version bytes) (sym (last_is bytes s spells.1)) spells

-- and hold it
pub holds : (version : Version) (bytes : List ℕ) (s : SignedStatement) → SpellsFrame version bytes s
    → HoldsFrame bytes s.statement (length s.signature)
holds version bytes s spells =
    let is = last_is bytes s spells.1 in
    record {
      spelled = spelled_by_last Two bytes s (any_frame version s spells.0, spells.1);
      signed = ap (λ (x : SignedStatement). length x.signature) is;
    }

-- the same of the bytes of a frame
pub holds_length : (bytes : List ℕ) (statement : Statement) (len : ℕ) → HoldsFrame bytes statement len
    → length bytes ≡ 6 + length (statement_bytes statement) + len
holds_length bytes statement len h =
    ap length h.spelled.1 ∙ frame_length (signed_by_last bytes statement len)
    ∙ ap (λ (n : ℕ). 6 + length (statement_bytes statement) + n) h.signed

-- the statement stands between the length and the signature
pub statement_part : (bytes : List ℕ) (statement : Statement) (len : ℕ) → HoldsFrame bytes statement len
    → take (length (drop 4 bytes) - 2 - len) (drop 4 bytes) ≡ statement_bytes statement
unfolding frame_bytes body_bytes
statement_part bytes statement len h =
    let s = signed_by_last bytes statement len in
    let behind : drop 4 bytes ≡ statement_bytes statement ++ signature_bytes s.signature = ap (drop 4) h.spelled.1 in
    let n : length (statement_bytes statement) ≡ length (drop 4 bytes) - 2 - len =
    omega (arith, holds_length bytes statement len h, length-drop 4 bytes) in
    subst (λ (k : ℕ). take k (drop 4 bytes) ≡ statement_bytes statement) n
    (ap (take (length (statement_bytes statement))) behind
    ∙ take_at (statement_bytes statement) (signature_bytes s.signature) (length (statement_bytes statement)) refl)

-- what is written field by field is spelled
pub written : (statement : Statement) (signature message bytes : List ℕ) (len : ℕ) → IsStatement statement → IsSignature signature
    → length (body_bytes (record { statement = statement; signature = signature })) ≤ body_limit (version_of statement) → message
    ≡ statement_bytes statement
    → len ≡ length message + 2 + length signature
    → bytes ≡ ((to_be_bytes w32 len ++ message) ++ to_be_bytes w16 (length signature)) ++ signature
    → SpellsFrame Two bytes (record { statement = statement; signature = signature })
written statement signature message bytes len is signed short says counts e =
    let s : SignedStatement = record { statement = statement; signature = signature } in
    let total : len ≡ length (body_bytes s) = omega (arith, counts, body_length s, ap length says) in
    let text : bytes ≡ ((to_be_bytes w32 (length (body_bytes s)) ++ statement_bytes statement) ++ to_be_bytes w16 (length signature))
    ++ signature = subst (λ (n : ℕ). bytes ≡ ((to_be_bytes w32 n ++ statement_bytes statement) ++ to_be_bytes w16 (length signature))
    ++ signature) total (subst (λ (m : List ℕ). bytes ≡ ((to_be_bytes w32 len ++ m) ++ to_be_bytes w16 (length signature))
    ++ signature) says e) in
    (record { read = refl; statement = is; signature = signed; short = short }, text ∙ sym (frame_parts s))
