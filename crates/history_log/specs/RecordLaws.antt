-- The laws of records, stated over the definitions alone: what was written is read back, what a cut leaves, and which
-- changes are damage. No law says that tags of different bytes differ. Where a law needs that, a premise says so.
use Rattle.std.specs.Prelude.{◌≡◌, ℕ, ◌+◌, ◌<◌, ◌≤◌, List, [], ◌∷◌, ◌++◌, length, drop, All}
use Rattle.std.specs.List.{AllByRecursion}
use Rattle.history_log.specs.Records.{max_content_len, first_tag, tag_after, record_bytes, records_bytes, last_tag, log_bytes, announced_len, BeginsWithRecord, BeginsWithNoRecord, HasTag, HasTagAt, IsTorn}

-- a content that fits into a record
abbrev pub IsContent : List ℕ → Type 0
IsContent content = length content ≤ max_content_len

-- ---- what is written is read back

-- bytes that are a record and a rest begin with that record
abbrev pub WrittenRecordBegins : Type 0
WrittenRecordBegins =
    (tag content rest : List ℕ) → IsContent content
    → BeginsWithRecord tag (record_bytes tag content ++ rest) content rest

-- bytes begin with at most one record
abbrev pub OneRecord : Type 0
OneRecord =
    (tag bytes content other rest other_rest : List ℕ) → BeginsWithRecord tag bytes content rest
    → BeginsWithRecord tag bytes other other_rest → (content ≡ other) × (rest ≡ other_rest)

-- the bytes are records of these contents and this rest, where no record begins
pub record HasRecords (tag bytes : List ℕ) (contents : List (List ℕ)) (rest : List ℕ) : Type 0 where
  pub fit : AllByRecursion IsContent contents
  pub written : bytes ≡ records_bytes tag contents ++ rest
  pub last : BeginsWithNoRecord (last_tag tag contents) rest

-- bytes are records of one list of contents, with one rest
abbrev pub OneRecords : Type 0
OneRecords =
    (tag bytes : List ℕ) (contents others : List (List ℕ)) (rest other_rest : List ℕ)
    → HasRecords tag bytes contents rest
    → HasRecords tag bytes others other_rest → (contents ≡ others) × (rest ≡ other_rest)

-- a log with one more content has one more record
abbrev pub LogGrows : Type 0
LogGrows =
    (header : List ℕ) (contents : List (List ℕ)) (content : List ℕ)
    → log_bytes header (contents ++ content ∷ [])
    ≡ log_bytes header contents ++ record_bytes (last_tag (first_tag header) contents) content

-- the last tag is then that of the new record
abbrev pub LastTagFollows : Type 0
LastTagFollows =
    (tag : List ℕ) (contents : List (List ℕ)) (content : List ℕ)
    → last_tag tag (contents ++ content ∷ []) ≡ tag_after (last_tag tag contents) content

-- ---- what a cut leaves

-- a record was cut into these two parts, and the second isn't empty
pub record IsCutRecord (tag content cut lost : List ℕ) : Type 0 where
  pub fit : IsContent content
  pub whole : record_bytes tag content ≡ cut ++ lost
  pub some : 0 < length lost

-- no record begins where a record was cut, wherever the cut is
abbrev pub CutIsNoRecord : Type 0
CutIsNoRecord = (tag content cut lost : List ℕ) → IsCutRecord tag content cut lost → BeginsWithNoRecord tag cut

-- a cut record is torn unless it contains a tag
abbrev pub CutIsTorn : Type 0
CutIsTorn =
    (tag content cut lost : List ℕ) → IsCutRecord tag content cut lost → ¬ HasTag tag (drop 4 cut) → IsTorn tag cut

-- after a shorter prefix of the content comes the tag of that prefix: by chance, or because somebody chose the content so
abbrev pub HasInnerTag : List ℕ → List ℕ → Type 0
HasInnerTag tag content = (n : ℕ) × (n < length content) × HasTagAt tag (content ++ tag_after tag content) n

-- a cut record contains a tag only if its content has such an inner tag
abbrev pub CutHasInnerTag : Type 0
CutHasInnerTag =
    (tag content cut lost : List ℕ) → IsCutRecord tag content cut lost → HasTag tag (drop 4 cut)
    → HasInnerTag tag content

-- what follows the last whole record: nothing if no record is missing, and otherwise the next record, cut
abbrev pub IsLeftOf : List ℕ → List (List ℕ) → List ℕ → Type 0
IsLeftOf tag [] rest = rest ≡ []
IsLeftOf tag (content ∷ contents) rest = (lost : List ℕ) × IsCutRecord tag content rest lost

-- what a cut leaves of records: the first of them, and the next one, cut
pub record IsCutAfter (tag kept : List ℕ) (contents before after : List (List ℕ)) (rest : List ℕ) : Type 0 where
  pub all : contents ≡ before ++ after
  pub records : HasRecords tag kept before rest
  pub left : IsLeftOf (last_tag tag before) after rest

-- records may be cut anywhere
abbrev pub CutRecords : Type 0
CutRecords =
    (tag : List ℕ) (contents : List (List ℕ)) (kept lost : List ℕ) → AllByRecursion IsContent contents
    → records_bytes tag contents ≡ kept ++ lost
    → (before : List (List ℕ)) × (after : List (List ℕ)) × (rest : List ℕ)
    × IsCutAfter tag kept contents before after rest

-- ---- which changes are damage

-- bytes that aren't all zero
abbrev pub HasNonzero : List ℕ → Type 0
HasNonzero bytes = ¬ All (λ byte. byte ≡ 0) bytes

-- a record that was changed, but not its length, isn't torn if something follows it
abbrev pub LongerIsDamage : Type 0
LongerIsDamage =
    (tag bytes : List ℕ) → HasNonzero bytes → 4 + announced_len bytes + 16 < length bytes → ¬ IsTorn tag bytes

-- a record of which only the length was changed isn't torn, whatever follows it
abbrev pub ChangedLengthIsDamage : Type 0
ChangedLengthIsDamage =
    (tag lead content rest : List ℕ) → length lead ≡ 4 → IsContent content
    → HasNonzero (lead ++ content ++ tag_after tag content ++ rest)
    → ¬ IsTorn tag (lead ++ content ++ tag_after tag content ++ rest)

-- bytes that announce a longer content than any record has aren't torn
abbrev pub ImpossibleLengthIsDamage : Type 0
ImpossibleLengthIsDamage =
    (tag bytes : List ℕ) → 4 ≤ length bytes → max_content_len < announced_len bytes → ¬ IsTorn tag bytes
