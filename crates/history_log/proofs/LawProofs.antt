-- The laws of records, proved from where a record's parts are.
use Rattle.std.proofs.Common.{◌≡◌, ℕ, ◌+◌, ◌-◌, ◌<◌, ◌≤◌, ◌⊎◌, List, All, [], ◌∷◌, ◌++◌, length, take, drop, inl, inr, refl, sym, ap, subst, ◌∙◌, append_assoc, length-append, length-drop, arith}
use Rattle.std.proofs.lemmas.Bool.{cases_lt}
use Rattle.std.proofs.lemmas.List.{append-nil, take_at, drop_at, take-append-drop, take-append-le, drop-append-le, nil_from_length}
use Rattle.std.specs.Int.{w32, from_be_bytes, to_be_bytes}
use Rattle.std.proofs.lemmas.Nat.{from_be_bytes-to_be_bytes_4}
use Rattle.history_log.specs.Records.{max_content_len, first_tag, log_bytes, tag_after, record_bytes, records_bytes, last_tag, announced_len, BeginsWithRecord, BeginsWithNoRecord}
use Rattle.history_log.specs.RecordLaws.{WrittenRecordBegins, OneRecord, HasRecords, OneRecords, LogGrows, LastTagFollows, IsCutRecord, CutIsNoRecord, CutIsTorn, CutHasInnerTag, CutRecords, LongerIsDamage, ChangedLengthIsDamage, ImpossibleLengthIsDamage}
use Rattle.history_log.proofs.RecordParts.{length-tag_after, length-record_bytes, pieces_at, parts_of}
use Rattle.history_log.proofs.TagPlaces.{tag_within}

-- ---- what is written is read back

pub written_begins : WrittenRecordBegins
written_begins tag content rest fit = record { few = fit; written = refl }

pub one_record : OneRecord
one_record tag bytes content other rest other_rest begins begins_too =
    let p = parts_of tag bytes content rest begins in
    let q = parts_of tag bytes other other_rest begins_too in
    let n : length content ≡ length other = sym p.announced ∙ q.announced in (
      sym p.content_at ∙ ap (λ (k : ℕ). take k (drop 4 bytes)) n ∙ q.content_at,
      sym p.rest_at ∙ ap (λ (k : ℕ). drop 16 (drop k (drop 4 bytes))) n ∙ q.rest_at,
    )

-- the first of several records
first_begins : (tag bytes content : List ℕ) (contents : List (List ℕ)) (rest : List ℕ) → HasRecords tag bytes (content ∷ contents) rest
    → BeginsWithRecord tag bytes content (records_bytes (tag_after tag content) contents ++ rest)
first_begins tag bytes content contents rest has = record {
  few = has.fit.0;
  written = has.written ∙ append_assoc (record_bytes tag content) (records_bytes (tag_after tag content) contents) rest;
}

-- the records after the first
later_records : (tag bytes content : List ℕ) (contents : List (List ℕ)) (rest : List ℕ) → HasRecords tag bytes (content ∷ contents) rest
    → HasRecords (tag_after tag content) (records_bytes (tag_after tag content) contents ++ rest) contents rest
later_records tag bytes content contents rest has = record { fit = has.fit.1; written = refl; last = has.last }

same_records : (tag other bytes others rest : List ℕ) (contents : List (List ℕ)) → tag ≡ other → bytes ≡ others → HasRecords tag bytes contents rest
    → HasRecords other others contents rest
same_records tag other bytes others rest contents t b has =
    subst (λ (x : List ℕ). HasRecords x others contents rest) t (subst (λ (x : List ℕ). HasRecords tag x contents rest) b has)

pub one_records : OneRecords
one_records tag bytes [] [] rest other_rest has has_too = (refl, sym has.written ∙ has_too.written)
one_records tag bytes [] (other ∷ others) rest other_rest has has_too =
    absurd (has.last other (records_bytes (tag_after tag other) others ++ other_rest)
    (subst (λ (x : List ℕ). BeginsWithRecord tag x other (records_bytes (tag_after tag other) others ++ other_rest)) has.written
    (first_begins tag bytes other others other_rest has_too)))
one_records tag bytes (content ∷ contents) [] rest other_rest has has_too =
    absurd (has_too.last content (records_bytes (tag_after tag content) contents ++ rest)
    (subst (λ (x : List ℕ). BeginsWithRecord tag x content (records_bytes (tag_after tag content) contents ++ rest)) has_too.written
    (first_begins tag bytes content contents rest has)))
one_records tag bytes (content ∷ contents) (other ∷ others) rest other_rest has has_too =
    let first = one_record tag bytes content other (records_bytes (tag_after tag content) contents ++ rest)
    (records_bytes (tag_after tag other) others ++ other_rest) (first_begins tag bytes content contents rest has)
    (first_begins tag bytes other others other_rest has_too) in
    let later = one_records (tag_after tag content) (records_bytes (tag_after tag content) contents ++ rest) contents others rest other_rest
    (later_records tag bytes content contents rest has)
    (same_records (tag_after tag other) (tag_after tag content) (records_bytes (tag_after tag other) others ++ other_rest)
    (records_bytes (tag_after tag content) contents ++ rest) other_rest others (ap (tag_after tag) (sym first.0)) (sym first.1)
    (later_records tag bytes other others other_rest has_too)) in
    (ap (λ (x : List ℕ). x ∷ contents) first.0 ∙ ap (λ (xs : List (List ℕ)). other ∷ xs) later.0, later.1)

-- several records and one more
records_grow : (tag : List ℕ) (contents : List (List ℕ)) (content : List ℕ)
    → records_bytes tag (contents ++ content ∷ []) ≡ records_bytes tag contents ++ record_bytes (last_tag tag contents) content
records_grow tag [] content = append-nil (record_bytes tag content)
records_grow tag (first ∷ contents) content =
    ap (λ (t : List ℕ). record_bytes tag first ++ t) (records_grow (tag_after tag first) contents content)
    ∙ sym (append_assoc (record_bytes tag first) (records_bytes (tag_after tag first) contents)
    (record_bytes (last_tag (tag_after tag first) contents) content))

pub log_grows : LogGrows
unfolding log_bytes
log_grows header contents content =
    ap (λ (t : List ℕ). header ++ t) (records_grow (first_tag header) contents content)
    ∙ sym (append_assoc header (records_bytes (first_tag header) contents) (record_bytes (last_tag (first_tag header) contents) content))

pub last_tag_follows : LastTagFollows
last_tag_follows tag [] content = refl
last_tag_follows tag (first ∷ contents) content = last_tag_follows (tag_after tag first) contents content

-- ---- what a cut leaves

-- a cut record is shorter than the record
cut_short : (tag content cut lost : List ℕ) → IsCutRecord tag content cut lost → length cut < 4 + length content + 16
cut_short tag content cut lost is =
    omega (arith, is.some, ap length is.whole, length-append cut lost, length-record_bytes tag content)

-- a cut record of four bytes or more announces the content's length
cut_announces : (tag content cut lost : List ℕ) → IsCutRecord tag content cut lost → 4 ≤ length cut → announced_len cut ≡ length content
unfolding record_bytes
cut_announces tag content cut lost is long =
    let lead = to_be_bytes w32 (length content) in
    let whole : lead ++ (content ++ tag_after tag content) ≡ cut ++ lost = sym (append_assoc lead content (tag_after tag content)) ∙ is.whole in
    let four : take 4 cut ≡ lead =
    sym (take-append-le 4 cut lost long) ∙ ap (take 4) (sym whole) ∙ take_at lead (content ++ tag_after tag content) 4 refl in
    ap (from_be_bytes w32) four ∙ from_be_bytes-to_be_bytes_4 (length content) (omega (arith, is.fit))

-- a cut record ends within what it announces
cut_within : (tag content cut lost : List ℕ) → IsCutRecord tag content cut lost → length cut ≤ 4 + announced_len cut + 16
cut_within tag content cut lost is =
    elim (cases_lt (length cut) 4) [
      | inl lt ↦ omega arith
      | inr le ↦ omega (arith, cut_announces tag content cut lost is le, cut_short tag content cut lost is)
    ]

-- a cut record announces nothing, or a content's length
cut_possible : (tag content cut lost : List ℕ) → IsCutRecord tag content cut lost
    → (length cut < 4) ⊎ (announced_len cut ≤ max_content_len)
cut_possible tag content cut lost is =
    elim (cases_lt (length cut) 4) [
      | inl lt ↦ inl lt
      | inr le ↦ inr (omega (arith, cut_announces tag content cut lost is le, is.fit))
    ]

pub cut_is_no_record : CutIsNoRecord
cut_is_no_record tag content cut lost is found rest begins =
    let p = parts_of tag cut found rest begins in
    omega (arith, p.len, p.announced, cut_announces tag content cut lost is (omega (arith, p.len)), cut_short tag content cut lost is)

pub cut_is_torn : CutIsTorn
cut_is_torn tag content cut lost is untagged =
    inr (record { untagged = untagged; possible = cut_possible tag content cut lost is; within = cut_within tag content cut lost is })

pub cut_has_inner_tag : CutHasInnerTag
unfolding record_bytes
cut_has_inner_tag tag content cut lost is has =
    let n = has.0 in
    let lead = to_be_bytes w32 (length content) in
    let body = content ++ tag_after tag content in
    let inside : n + 16 ≤ length (drop 4 cut) = tag_within tag (drop 4 cut) n has.2 in
    let size : length (drop 4 cut) ≡ length cut - 4 = length-drop 4 cut in
    let long : 4 ≤ length cut = omega arith in
    let whole : lead ++ body ≡ cut ++ lost = sym (append_assoc lead content (tag_after tag content)) ∙ is.whole in
    let after_lead : body ≡ drop 4 cut ++ lost =
    sym (drop_at lead body 4 refl) ∙ ap (drop 4) whole ∙ drop-append-le 4 cut lost long in
    let front : take n body ≡ take n (drop 4 cut) = ap (take n) after_lead ∙ take-append-le n (drop 4 cut) lost (omega arith) in
    let sixteen : take 16 (drop n body) ≡ take 16 (drop n (drop 4 cut)) =
    ap (λ (t : List ℕ). take 16 (drop n t)) after_lead ∙ ap (take 16) (drop-append-le n (drop 4 cut) lost (omega arith))
    ∙ take-append-le 16 (drop n (drop 4 cut)) lost (omega (arith, length-drop n (drop 4 cut))) in
    (n, omega (arith, cut_short tag content cut lost is), sixteen ∙ has.2 ∙ ap (tag_after tag) (sym front))

-- no record begins where no byte is
none_begins : (tag : List ℕ) → BeginsWithNoRecord tag []
none_begins tag content rest begins = omega (arith, (parts_of tag [] content rest begins).len)

-- a list cut within its first part
cut_first : (whole more kept lost : List ℕ) → whole ++ more ≡ kept ++ lost → length kept < length whole
    → (whole ≡ kept ++ drop (length kept) whole) × (0 < length (drop (length kept) whole))
cut_first whole more kept lost is short =
    let front : take (length kept) whole ≡ kept =
    sym (take-append-le (length kept) whole more (omega arith)) ∙ ap (take (length kept)) is ∙ take_at kept lost (length kept) refl in (
      sym (take-append-drop (length kept) whole) ∙ ap (λ (t : List ℕ). t ++ drop (length kept) whole) front,
      omega (arith, length-drop (length kept) whole),
    )

-- a list cut behind its first part
cut_later : (whole more kept lost : List ℕ) → whole ++ more ≡ kept ++ lost → length whole ≤ length kept
    → (kept ≡ whole ++ drop (length whole) kept) × (more ≡ drop (length whole) kept ++ lost)
cut_later whole more kept lost is long =
    let front : take (length whole) kept ≡ whole =
    sym (take-append-le (length whole) kept lost long) ∙ ap (take (length whole)) (sym is) ∙ take_at whole more (length whole) refl in (
      sym (take-append-drop (length whole) kept) ∙ ap (λ (t : List ℕ). t ++ drop (length whole) kept) front,
      sym (drop_at whole more (length whole) refl) ∙ ap (drop (length whole)) is ∙ drop-append-le (length whole) kept lost long,
    )

pub cut_records : CutRecords
cut_records tag [] kept lost fit is =
    let none : kept ≡ [] = nil_from_length kept (omega (arith, ap length is, length-append kept lost)) in (
      [],
      [],
      [],
      record {
        all = refl;
        records = record { fit = tt; written = none; last = none_begins tag };
        left = refl;
      },
    )
cut_records tag (content ∷ contents) kept lost fit is =
    elim (cases_lt (length kept) (length (record_bytes tag content))) [
      | inl short ↦
          let cut = cut_first (record_bytes tag content) (records_bytes (tag_after tag content) contents) kept lost is short in
          let left : IsCutRecord tag content kept (drop (length kept) (record_bytes tag content)) =
          record { fit = fit.0; whole = cut.0; some = cut.1 } in (
            [],
            content ∷ contents,
            kept,
            record {
              all = refl;
              records = record {
                fit = tt;
                written = refl;
                last = cut_is_no_record tag content kept (drop (length kept) (record_bytes tag content)) left;
              };
              left = (drop (length kept) (record_bytes tag content), left);
            },
          )
      | inr long ↦
          let cut = cut_later (record_bytes tag content) (records_bytes (tag_after tag content) contents) kept lost is long in
          let later = cut_records (tag_after tag content) contents (drop (length (record_bytes tag content)) kept) lost fit.1 cut.1 in (
            content ∷ later.0,
            later.1,
            later.2,
            record {
              all = ap (λ (xs : List (List ℕ)). content ∷ xs) later.3.all;
              records = record {
                fit = (fit.0, later.3.records.fit);
                written = cut.0 ∙ ap (λ (t : List ℕ). record_bytes tag content ++ t) later.3.records.written
                    ∙ sym (append_assoc (record_bytes tag content) (records_bytes (tag_after tag content) later.0) later.2);
                last = later.3.records.last;
              };
              left = later.3.left;
            },
          )
    ]

-- ---- which changes are damage

pub longer_is_damage : LongerIsDamage
longer_is_damage tag bytes nonzero longer torn =
    elim torn [
      | inl zero ↦ nonzero zero
      | inr cut ↦ omega (arith, cut.within, longer)
    ]

pub changed_length_is_damage : ChangedLengthIsDamage
changed_length_is_damage tag lead content rest four fit nonzero torn =
    let bytes = lead ++ content ++ tag_after tag content ++ rest in
    let p = pieces_at bytes lead content (tag_after tag content) rest refl four (length-tag_after tag content) in
    elim torn [
      | inl zero ↦ nonzero zero
      | inr cut ↦ cut.untagged (length content, fit, p.2 ∙ ap (tag_after tag) (sym p.1))
    ]

-- zeros announce an empty content
zeros_announce : (bytes : List ℕ) → 4 ≤ length bytes → All (λ byte. byte ≡ 0) bytes → announced_len bytes ≡ 0
zeros_announce [] long zero = omega arith
zeros_announce (a ∷ []) long zero = omega arith
zeros_announce (a ∷ b ∷ []) long zero = omega arith
zeros_announce (a ∷ b ∷ c ∷ []) long zero = omega arith
zeros_announce (a ∷ b ∷ c ∷ d ∷ bytes) long zero =
    let first : a ≡ 0 = zero 0 0 (omega arith) in
    let second : b ≡ 0 = zero 1 0 (omega arith) in
    let third : c ≡ 0 = zero 2 0 (omega arith) in
    let fourth : d ≡ 0 = zero 3 0 (omega arith) in
    rw (first, second, third, fourth) refl

pub impossible_length_is_damage : ImpossibleLengthIsDamage
impossible_length_is_damage tag bytes long more torn =
    elim torn [
      | inl zero ↦ omega (arith, zeros_announce bytes long zero, more)
      | inr cut ↦
          elim cut.possible [
            | inl lt ↦ omega (arith, lt, long)
            | inr le ↦ omega (arith, le, more)
          ]
    ]
