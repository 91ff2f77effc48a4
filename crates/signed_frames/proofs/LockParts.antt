-- The offsets of the reports of a lock's proof in the lock's frame.
use Rattle.std.proofs.Common.{◌≡◌, ℕ, ◌+◌, ◌-◌, ◌≤◌, List, [], ◌∷◌, ◌++◌, length, take, drop, refl, sym, ap, ◌∙◌, append_assoc, arith}
use Rattle.std.specs.Prelude.{slice_range}
use Rattle.std.specs.List.{flat_map}
use Rattle.std.specs.Int.{w32, to_be_bytes}
use Rattle.std.proofs.lemmas.List.{take_at, drop_at, drop-drop, length-append, length-drop}
use Rattle.ledger_model.specs.declared.statement.Lock.{Lock}
use Rattle.ledger_model.specs.declared.statement.SignedReport.{SignedReport}
use Rattle.ledger_model.specs.declared.statement.Statement.TheVariants as statement
use Rattle.ledger_model.specs.Values.{value_bytes}
use Rattle.ledger_model.specs.Versions.{first_byte}
use Rattle.ledger_model.specs.Spelling.{signed_bytes, signature_bytes, lock_bytes, statement_bytes, frame_bytes, body_bytes}
use Rattle.signed_frames.specs.Lending.{SignedPartView}
use Rattle.signed_frames.specs.Parts.{signed_by_last, HoldsFrame}
use Rattle.signed_frames.proofs.FrameParts.{holds_length}

-- what stands between two places, and after the second
pub cut : (frame m behind : List ℕ) (at end : ℕ) → drop at frame ≡ m ++ behind → end ≡ at + length m
    → (slice_range frame at end ≡ m) × (drop end frame ≡ behind)
cut frame m behind at end e n = (
  ap (take (end - at)) e ∙ take_at m behind (end - at) (omega (arith, n)),
  ap (λ (k : ℕ). drop k frame) n ∙ sym (drop-drop (length m) at frame) ∙ ap (drop (length m)) e ∙ drop_at m behind (length m) refl,
)

-- so it ends within the list, if it isn't empty
pub cut_within : (frame m behind : List ℕ) (at : ℕ) → drop at frame ≡ m ++ behind → 1 ≤ length m → at + length m ≤ length frame
cut_within frame m behind at e some = omega (arith, some, length-drop at frame, ap length e, length-append m behind)

-- a message, two bytes and a signature, and what is after them
pub signed_cut : (frame m w s rest : List ℕ) (at : ℕ) → drop at frame ≡ (m ++ (w ++ s)) ++ rest → length w ≡ 2
    → (slice_range frame at (at + length m) ≡ m)
    × (slice_range frame (at + length m + 2) (at + length m + 2 + length s) ≡ s)
    × (drop (at + length m + 2 + length s) frame ≡ rest)
signed_cut frame m w s rest at e two =
    let whole : drop at frame ≡ m ++ (w ++ (s ++ rest)) =
    e ∙ append_assoc m (w ++ s) rest ∙ ap (λ (x : List ℕ). m ++ x) (append_assoc w s rest) in
    let first = cut frame m (w ++ (s ++ rest)) at (at + length m) whole refl in
    let second = cut frame w (s ++ rest) (at + length m) (at + length m + 2) first.1 (omega (arith, two)) in
    let third = cut frame s rest (at + length m + 2) (at + length m + 2 + length s) second.1 refl in
    (first.0, third.0, third.1)

-- its last byte stands within the frame
pub signed_within : (frame m w s rest : List ℕ) (at : ℕ) → drop at frame ≡ (m ++ (w ++ s)) ++ rest → length w ≡ 2
    → at + length m + 2 + length s ≤ length frame
signed_within frame m w s rest at e two =
    omega (arith, two, length-drop at frame, ap length e, length-append (m ++ (w ++ s)) rest, length-append m (w ++ s), length-append w s)

-- what this replica signed
abbrev pub part_of : ℕ → List ℕ → List ℕ → SignedPartView
part_of r m s = record { signer = r; message = m; signature = s }

-- the same parts
pub same_part : (r : ℕ) (m n s t : List ℕ) → m ≡ n → s ≡ t → part_of r m s ≡ part_of r n t
same_part r m n s t e f = ap (λ (x : List ℕ). part_of r x s) e ∙ ap (λ (x : List ℕ). part_of r n x) f

-- the reports are the last bytes of a lock
reports_last : (l : Lock) → (front : List ℕ) × (lock_bytes l ≡ front ++ flat_map signed_bytes l.proof)
reports_last l = (
  first_byte l.version 2 ∷ to_be_bytes w32 l.height ++ to_be_bytes w32 l.phase ++ (l.signer ∷ []) ++ value_bytes l.value
      ++ (length l.proof ∷ []),
  refl,
)

-- so they begin there in the lock's frame, and fit
module _ (bytes : List ℕ) (l : Lock) (len : ℕ) (h : HoldsFrame bytes (statement.Lock l) len) where
  abbrev pub reports : List ℕ
  reports = flat_map signed_bytes l.proof

  abbrev pub signature : List ℕ
  signature = signature_bytes (signed_by_last bytes (statement.Lock l) len).signature

  lengths : length bytes ≡ 6 + (length (reports_last l).0 + length reports) + len
  unfolding statement_bytes reports_last
  lengths = holds_length bytes (statement.Lock l) len h ∙ ap (λ (n : ℕ). 6 + n + len)
      (ap length (reports_last l).1 ∙ length-append (reports_last l).0 reports)

  pub reports_fit : 2 + length reports ≤ length bytes - len
  reports_fit = omega (arith, lengths)

  pub reports_at : drop (length bytes - len - 2 - length reports) bytes ≡ reports ++ signature
  unfolding statement_bytes frame_bytes body_bytes reports_last
  reports_at =
      let parts = reports_last l in
      let behind : drop 4 bytes ≡ parts.0 ++ (reports ++ signature) =
      ap (drop 4) h.spelled.1 ∙ ap (λ (x : List ℕ). x ++ signature) parts.1 ∙ append_assoc parts.0 reports signature in
      (cut bytes parts.0 (reports ++ signature) 4 (length bytes - len - 2 - length reports) behind (omega (arith, lengths))).1
