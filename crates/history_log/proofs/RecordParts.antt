-- Where a record's length, content, tag and rest are in the bytes that begin with it, and the converse. The reader and the
-- laws both use these places.
use Rattle.std.proofs.Common.{◌≡◌, ℕ, ◌+◌, ◌<◌, ◌≤◌, List, ◌++◌, length, take, drop, get_or, refl, sym, ap, ◌∙◌, append_assoc, length-append, length-take, length-drop, inl, inr, arith}
use Rattle.std.proofs.lemmas.Bool.{cases_lt}
use Rattle.std.proofs.lemmas.List.{take_at, drop_at, take-append-drop, length-take-le, get_or-take, get_or_past}
use Rattle.std.proofs.lemmas.Nat.{be_bytes_4, from_be_bytes-to_be_bytes_4}
use Rattle.std.specs.Int.{w32, from_be_bytes, to_be_bytes}
use Rattle.sha2.specs.Sha256.{sha256}
use Rattle.sha2.proofs.Facts256.{length-sha256}
use Rattle.history_log.specs.Records.{max_content_len, tag_after, record_bytes, BeginsWithRecord, announced_len, HasTagAt}

-- a tag has 16 bytes
pub length-tag_after : (tag content : List ℕ) → length (tag_after tag content) ≡ 16
unfolding tag_after
length-tag_after tag content = length-take-le 16 (sha256 (tag ++ content)) (omega (arith, length-sha256 (tag ++ content)))

-- a record's length
pub length-record_bytes : (tag content : List ℕ) → length (record_bytes tag content) ≡ 4 + length content + 16
unfolding record_bytes
length-record_bytes tag content =
    let lead : length (to_be_bytes w32 (length content)) ≡ 4 = refl in
    omega (
      arith,
      lead,
      length-tag_after tag content,
      length-append (to_be_bytes w32 (length content)) content,
      length-append (to_be_bytes w32 (length content) ++ content) (tag_after tag content),
    )

-- bytes in four pieces
pub pieces_at : (bytes lead content tag rest : List ℕ) → bytes ≡ lead ++ content ++ tag ++ rest → length lead ≡ 4 → length tag ≡ 16
    → (take 4 bytes ≡ lead) × (take (length content) (drop 4 bytes) ≡ content) × (take 16 (drop (length content) (drop 4 bytes)) ≡ tag)
    × (drop 16 (drop (length content) (drop 4 bytes)) ≡ rest) × (length bytes ≡ 4 + length content + 16 + length rest)
pieces_at bytes lead content tag rest is four sixteen =
    let whole : bytes ≡ lead ++ (content ++ (tag ++ rest)) =
    is ∙ append_assoc (lead ++ content) tag rest ∙ append_assoc lead content (tag ++ rest) in
    let after_lead : drop 4 bytes ≡ content ++ (tag ++ rest) = ap (drop 4) whole ∙ drop_at lead (content ++ (tag ++ rest)) 4 four in
    let after_content : drop (length content) (drop 4 bytes) ≡ tag ++ rest =
    ap (drop (length content)) after_lead ∙ drop_at content (tag ++ rest) (length content) refl in (
      ap (take 4) whole ∙ take_at lead (content ++ (tag ++ rest)) 4 four,
      ap (take (length content)) after_lead ∙ take_at content (tag ++ rest) (length content) refl,
      ap (take 16) after_content ∙ take_at tag rest 16 sixteen,
      ap (drop 16) after_content ∙ drop_at tag rest 16 sixteen,
      omega (arith, ap length whole, length-append lead (content ++ (tag ++ rest)), length-append content (tag ++ rest), length-append tag rest),
    )

-- what bytes that begin with a record are, place by place
pub record RecordParts (tag bytes content rest : List ℕ) : Type 0 where
  pub few : length content ≤ max_content_len
  pub announced : announced_len bytes ≡ length content
  pub content_at : take (length content) (drop 4 bytes) ≡ content
  pub tag_at : take 16 (drop (length content) (drop 4 bytes)) ≡ tag_after tag content
  pub rest_at : drop 16 (drop (length content) (drop 4 bytes)) ≡ rest
  pub len : length bytes ≡ 4 + length content + 16 + length rest

pub parts_of : (tag bytes content rest : List ℕ) → BeginsWithRecord tag bytes content rest → RecordParts tag bytes content rest
unfolding record_bytes
parts_of tag bytes content rest begins =
    let p = pieces_at bytes (to_be_bytes w32 (length content)) content (tag_after tag content) rest begins.written refl
    (length-tag_after tag content) in
    record {
      few = begins.few;
      announced = ap (from_be_bytes w32) p.0 ∙ from_be_bytes-to_be_bytes_4 (length content) (omega (arith, begins.few));
      content_at = p.1;
      tag_at = p.2;
      rest_at = p.3;
      len = p.4;
    }

-- the content has its tag where its length places it
pub tagged : (tag bytes content rest : List ℕ) → RecordParts tag bytes content rest → HasTagAt tag (drop 4 bytes) (length content)
tagged tag bytes content rest parts = parts.tag_at ∙ ap (tag_after tag) (sym parts.content_at)

-- the first four bytes are bytes
below_256 : (bytes : List ℕ) → ((i : ℕ) → get_or bytes i 0 < 256) → (i : ℕ) → get_or (take 4 bytes) i 0 < 256
below_256 bytes fits i =
    elim (cases_lt i 4) [
      | inl lt ↦ rw (get_or-take 4 bytes i 0 lt) (fits i)
      | inr le ↦ rw (get_or_past (take 4 bytes) i 0 (omega (arith, length-take 4 bytes))) (omega arith)
    ]

-- bytes that announce a length n, and have the tag of the n bytes after it following them, begin with a record
pub begins_of : (tag bytes content rest : List ℕ) → ((i : ℕ) → get_or bytes i 0 < 256) → length bytes ≡ 4 + length content + 16 + length rest
    → announced_len bytes ≡ length content → length content ≤ max_content_len → drop 4 bytes ≡ content ++ (tag_after tag content ++ rest)
    → BeginsWithRecord tag bytes content rest
unfolding record_bytes
begins_of tag bytes content rest fits len announced few after_lead =
    let four : length (take 4 bytes) ≡ 4 = length-take-le 4 bytes (omega arith) in
    let lead : to_be_bytes w32 (length content) ≡ take 4 bytes =
    be_bytes_4 (take 4 bytes) (length content) four
    (below_256 bytes fits) (sym announced) in
    let joined : bytes ≡ take 4 bytes ++ drop 4 bytes = sym (take-append-drop 4 bytes) in
    record {
      few = few;
      written = joined ∙ ap (λ (t : List ℕ). take 4 bytes ++ t) after_lead
          ∙ ap (λ (t : List ℕ). t ++ (content ++ (tag_after tag content ++ rest))) (sym lead)
          ∙ sym (append_assoc (to_be_bytes w32 (length content)) content (tag_after tag content ++ rest))
          ∙ sym (append_assoc (to_be_bytes w32 (length content) ++ content) (tag_after tag content) rest);
    }

-- a record is found where each of its parts is
pub record_found : (tag bytes : List ℕ) (n : ℕ) → ((i : ℕ) → get_or bytes i 0 < 256) → 4 ≤ length bytes → n ≡ announced_len bytes
    → n ≤ max_content_len → n ≤ length (drop 4 bytes) → 16 ≤ length (drop n (drop 4 bytes)) → HasTagAt tag (drop 4 bytes) n
    → BeginsWithRecord tag bytes (take n (drop 4 bytes)) (drop 16 (drop n (drop 4 bytes)))
record_found tag bytes n fits four announced few content sixteen has =
    let body = drop 4 bytes in
    let count : length (take n body) ≡ n = length-take-le n body content in
    let tail : drop n body ≡ tag_after tag (take n body) ++ drop 16 (drop n body) =
    sym (take-append-drop 16 (drop n body)) ∙ ap (λ (t : List ℕ). t ++ drop 16 (drop n body)) has in
    begins_of tag bytes (take n body) (drop 16 (drop n body)) fits
    (omega (arith, count, length-drop 4 bytes, length-drop n body, length-drop 16 (drop n body)))
    (sym announced ∙ sym count) (omega (arith, count))
    (sym (take-append-drop n body) ∙ ap (λ (t : List ℕ). take n body ++ t) tail)

-- what a reader that goes forward compares is the tag at its place, and the tag that belongs there
pub tag_read : (tag bytes : List ℕ) (n : ℕ) (start body tail written content next : List ℕ) → start ≡ bytes → body ≡ drop 4 start
    → content ≡ take n body → tail ≡ drop n body → written ≡ take 16 tail → next ≡ tag_after tag content
    → (written ≡ next → HasTagAt tag (drop 4 bytes) n) × (HasTagAt tag (drop 4 bytes) n → written ≡ next)
tag_read tag bytes n start body tail written content next whole from front back sixteen after =
    let body_is : body ≡ drop 4 bytes = from ∙ ap (drop 4) whole in
    let written_is : written ≡ take 16 (drop n (drop 4 bytes)) = sixteen ∙ ap (take 16) (back ∙ ap (drop n) body_is) in
    let next_is : next ≡ tag_after tag (take n (drop 4 bytes)) = after ∙ ap (tag_after tag) (front ∙ ap (take n) body_is) in
    (λ same. sym written_is ∙ same ∙ next_is, λ has. written_is ∙ has ∙ sym next_is)
