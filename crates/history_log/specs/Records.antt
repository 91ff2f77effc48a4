-- The bytes of a log, and which bytes after its last record are a torn record: the whole format, for readers of
-- contracts. A log is a header and records. What headers and contents mean is defined elsewhere.
use Rattle.std.specs.Prelude.{◌≡◌, ℕ, ◌+◌, ◌^◌, ◌<◌, ◌≤◌, ◌⊎◌, List, [], ◌∷◌, ◌++◌, length, take, drop, All}
use Rattle.std.specs.Int.{w32, from_be_bytes, to_be_bytes}
use Rattle.sha2.specs.Sha256.{sha256}

-- the most bytes of a content
abbrev pub max_content_len : ℕ
max_content_len = 2 ^ 24

-- the tag of a log's header
unfoldable pub first_tag : List ℕ → List ℕ
first_tag header = take 16 (sha256 header)

-- the tag of a record with this content, which follows a record or a header with this tag
unfoldable pub tag_after : List ℕ → List ℕ → List ℕ
tag_after tag content = take 16 (sha256 (tag ++ content))

-- a record: the number of its content's bytes, the content, and the record's tag
unfoldable pub record_bytes : List ℕ → List ℕ → List ℕ
record_bytes tag content = to_be_bytes w32 (length content) ++ content ++ tag_after tag content

-- the tag of the last of the records with these contents
abbrev pub last_tag : List ℕ → List (List ℕ) → List ℕ
last_tag tag [] = tag
last_tag tag (content ∷ contents) = last_tag (tag_after tag content) contents

-- records with these contents, one after another
abbrev pub records_bytes : List ℕ → List (List ℕ) → List ℕ
records_bytes tag [] = []
records_bytes tag (content ∷ contents) = record_bytes tag content ++ records_bytes (tag_after tag content) contents

-- a log
unfoldable pub log_bytes : List ℕ → List (List ℕ) → List ℕ
log_bytes header contents = header ++ records_bytes (first_tag header) contents

-- the bytes begin with a record of this content, which this rest follows
pub record BeginsWithRecord (tag bytes content rest : List ℕ) : Type 0 where
  pub few : length content ≤ max_content_len
  pub written : bytes ≡ record_bytes tag content ++ rest

-- no record begins there
abbrev pub BeginsWithNoRecord : List ℕ → List ℕ → Type 0
BeginsWithNoRecord tag bytes = (content rest : List ℕ) → ¬ BeginsWithRecord tag bytes content rest

-- the number of content bytes that the first four bytes announce; of fewer than four bytes, any number
abbrev pub announced_len : List ℕ → ℕ
announced_len bytes = from_be_bytes w32 (take 4 bytes)

-- the tag of the first n bytes follows them
abbrev pub HasTagAt : List ℕ → List ℕ → ℕ → Type 0
HasTagAt tag bytes n = take 16 (drop n bytes) ≡ tag_after tag (take n bytes)

-- after some prefix that a record may have as its content, the bytes contain the tag of that prefix
abbrev pub HasTag : List ℕ → List ℕ → Type 0
HasTag tag bytes = (n : ℕ) × (n ≤ max_content_len) × HasTagAt tag bytes n

-- what a write leaves that was cut off
-- untagged: no length makes a record of the bytes, so it wasn't only the length that was changed
-- possible: the bytes announce no more than a content may have; fewer than four bytes announce nothing
-- within: the bytes end where the record that they announce would end, or before; so do fewer than four bytes
pub record IsCutOff (tag bytes : List ℕ) : Type 0 where
  pub untagged : ¬ HasTag tag (drop 4 bytes)
  pub possible : (length bytes < 4) ⊎ (announced_len bytes ≤ max_content_len)
  pub within : length bytes ≤ 4 + announced_len bytes + 16

-- the bytes are torn; where no record begins, bytes that aren't torn are damaged
abbrev pub IsTorn : List ℕ → List ℕ → Type 0
IsTorn tag bytes = All (λ byte. byte ≡ 0) bytes ⊎ IsCutOff tag bytes
