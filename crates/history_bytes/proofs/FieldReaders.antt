-- Counts, counted bytes, keys and frames are read back from their encoding.
use Rattle.std.proofs.Common.{◌≡◌, ℕ, ◌+◌, ◌^◌, ◌<◌, ◌≤◌, true, List, [], ◌∷◌, ◌++◌, length, Option, Some, None, refl, sym, ap, subst}
use Rattle.std.proofs.Common.{◌∙◌, append_assoc, arith, leb}
use Rattle.std.specs.Prelude.{is_some}
use Rattle.std.specs.List.{AllByRecursion}
use Rattle.std.specs.Int.{w16, w32, to_be_bytes}
use Rattle.std.proofs.lemmas.Bool.{leb-true, le-leb}
use Rattle.std.proofs.lemmas.List.{length-append}
use Rattle.ledger_model.specs.declared.statement.SignedStatement.{SignedStatement}
use Rattle.ledger_model.specs.Limits.{max_key_len}
use Rattle.ledger_model.specs.declared.version.Version.{Version}
use Rattle.ledger_model.specs.declared.version.Version.TheVariants.{One, Two}
use Rattle.ledger_model.specs.Versions.{body_limit}
use Rattle.ledger_model.specs.Notes.{version_of}
use Rattle.ledger_model.specs.Values.{IsByte}
use Rattle.ledger_model.specs.Spelling.{IsFrameIn, SpellsFrame, body_bytes, frame_bytes}
use Rattle.ledger_model.specs.GrammarLaws.{IsBytes}
use Rattle.ledger_model.specs.Reading.{◌>>=◌, only_if, guarded, bytes_at, byte_at, number_at, reading_in}
use Rattle.ledger_model.proofs.Readers.{bind_some, only_if-some, guarded-some, each_byte, IsReader, byte_takes, bytes_take, bytes_again}
use Rattle.ledger_model.proofs.Readers.{wide16, wide32, number_reader}
use Rattle.ledger_model.proofs.FrameReading.{reading-spells, reading-again}
use Rattle.history_bytes.specs.Histories.{count_in_1, count_in_2, count_in_4}
use Rattle.history_bytes.specs.HistorySpelling.{IsWord, IsShort, IsLong, IsKey, IsFrameText}
use Rattle.history_bytes.specs.HistoryReading.{long_at, short_at, key_at, frame_at}
use Rattle.history_bytes.proofs.Combined.{same_reader, IsSizedReader, counted_reader}

-- ---- numbers

-- a byte
abbrev pub one_byte : ℕ → List ℕ
one_byte b = b ∷ []

pub byte_reader : IsReader one_byte IsByte byte_at
byte_reader = record { takes = λ bytes b rest fits e. byte_takes bytes b rest fits e; again = λ b rest is. refl }

pub word_reader : IsReader (to_be_bytes w32) IsWord (number_at w32)
word_reader = number_reader w32 (2 ^ 32) wide32

-- ---- counts

-- a count that fits is its own low bytes
low_1 : (n : ℕ) → n < 2 ^ 8 → one_byte n ≡ count_in_1 n
low_1 n lt = ap one_byte (omega arith)

low_2 : (n : ℕ) → n < 2 ^ 16 → to_be_bytes w16 n ≡ count_in_2 n
low_2 n lt = ap (to_be_bytes w16) (omega arith)

low_4 : (n : ℕ) → n < 2 ^ 32 → to_be_bytes w32 n ≡ count_in_4 n
low_4 n lt = ap (to_be_bytes w32) (omega arith)

-- a reader of what is spelled otherwise, if it fits
count_reader : {spell : ℕ → List ℕ} {Fits : ℕ → Type 0} {read : List ℕ → Option (ℕ × List ℕ)} → IsReader spell Fits read
    → (count : ℕ → List ℕ) → ((n : ℕ) → Fits n → spell n ≡ count n) → IsReader count Fits read
count_reader {spell} {Fits} {read} reader count low = record {
  takes = λ bytes n rest fits e.
      let t = reader.takes bytes n rest fits e in
      (t.0 ∙ ap (λ (s : List ℕ). s ++ rest) (low n t.1), t.1, t.2);
  again = λ n rest is. ap (λ (s : List ℕ). read (s ++ rest)) (sym (low n is)) ∙ reader.again n rest is;
}

pub count_1_reader : IsReader count_in_1 (λ n. n < 2 ^ 8) byte_at
count_1_reader = count_reader byte_reader count_in_1 low_1

pub count_2_reader : IsReader count_in_2 (λ n. n < 2 ^ 16) (number_at w16)
count_2_reader = count_reader (number_reader w16 (2 ^ 16) wide16) count_in_2 low_2

pub count_4_reader : IsReader count_in_4 (λ n. n < 2 ^ 32) (number_at w32)
count_4_reader = count_reader word_reader count_in_4 low_4

-- ---- counted bytes

-- bytes as they are
abbrev pub same_bytes : List ℕ → List ℕ
same_bytes bytes = bytes

pub text_reader : IsSizedReader same_bytes (AllByRecursion IsByte) length bytes_at
text_reader = record {
  takes = λ n bytes text rest fits e.
      let t = bytes_take n bytes text rest fits e in
      (t.0, each_byte text t.1, t.2, t.3);
  again = λ text rest is. bytes_again text rest;
}

abbrev pub long_bytes : List ℕ → List ℕ
long_bytes bytes = count_in_4 (length bytes) ++ bytes

abbrev pub short_bytes : List ℕ → List ℕ
short_bytes bytes = count_in_1 (length bytes) ++ bytes

pub long_reader : IsReader long_bytes IsLong long_at
unfolding long_at
long_reader = same_reader (counted_reader count_4_reader text_reader) long_bytes IsLong (λ bytes. refl)
    (λ bytes is. record { few = is.0; each = is.1 }) (λ bytes is. (is.few, is.each))

pub short_reader : IsReader short_bytes IsShort short_at
unfolding short_at
short_reader = same_reader (counted_reader count_1_reader text_reader) short_bytes IsShort (λ bytes. refl)
    (λ bytes is. record { few = is.0; each = is.1 }) (λ bytes is. (is.few, is.each))

-- a key's bytes
key_text_reader : IsSizedReader same_bytes IsKey length (λ n bytes. guarded (leb n max_key_len) (bytes_at n bytes))
key_text_reader = record {
  takes = λ n bytes text rest fits e.
      let g = guarded-some (leb n max_key_len) (bytes_at n bytes) (text, rest) e in
      let t = bytes_take n bytes text rest fits g.1 in
      let few : n ≤ max_key_len = leb-true n max_key_len g.0 in
      let len : length text ≡ n = t.3 in
      (t.0, record { few = omega arith; each = each_byte text t.1 }, t.2, t.3);
  again = λ text rest is.
      let few : length text ≤ max_key_len = is.few in
      let test : leb (length text) max_key_len ≡ true = le-leb _ _ few in
      rw test (bytes_again text rest);
}

pub key_reader : IsReader short_bytes IsKey key_at
unfolding key_at
key_reader = same_reader (counted_reader count_1_reader key_text_reader) short_bytes IsKey (λ bytes. refl) (λ bytes is. is.1)
    (λ bytes is. let few : length bytes ≤ max_key_len = is.few in (omega arith, is))

-- ---- frames

-- what is there
is_there : {X : Type 0} (read : Option X) → is_some read ≡ true → (x : X) × (read ≡ Some x)
is_there None is = absurd cc
is_there (Some x) is = (x, refl)

-- a frame's length is in front of it
frame_length_at : (version : Version) (s : SignedStatement) (rest : List ℕ) → IsFrameIn version s
    → number_at w32 (frame_bytes s ++ rest) ≡ Some (length (body_bytes s), body_bytes s ++ rest)
unfolding frame_bytes
frame_length_at version s rest is =
    let short : length (body_bytes s) ≤ 600000 = within (version_of s.statement) is.short in
    ap (number_at w32) (append_assoc (to_be_bytes w32 (length (body_bytes s))) (body_bytes s) rest)
    ∙ word_reader.again (length (body_bytes s)) (body_bytes s ++ rest) (omega arith)
  where
    within : (own : Version) → length (body_bytes s) ≤ body_limit own → length (body_bytes s) ≤ 600000
    within One short = omega (arith, short)
    within Two short = short

frame_header : (s : SignedStatement) → length (frame_bytes s) ≡ 4 + length (body_bytes s)
unfolding frame_bytes
frame_header s = omega (arith, length-append (to_be_bytes w32 (length (body_bytes s))) (body_bytes s))

frame_text_at : (s : SignedStatement) (rest : List ℕ)
    → bytes_at (4 + length (body_bytes s)) (frame_bytes s ++ rest) ≡ Some (frame_bytes s, rest)
frame_text_at s rest =
    subst (λ (n : ℕ). bytes_at n (frame_bytes s ++ rest) ≡ Some (frame_bytes s, rest)) (frame_header s) (bytes_again (frame_bytes s) rest)

frame_spelled : (version : Version) (s : SignedStatement) (rest : List ℕ) → IsFrameIn version s
    → frame_at version (frame_bytes s ++ rest) ≡ Some (frame_bytes s, rest)
unfolding frame_at
frame_spelled version s rest is = rw (frame_length_at version s rest is, frame_text_at s rest, reading-again version s is) refl

pub frame_reader : (version : Version) → IsReader same_bytes (IsFrameText version) (frame_at version)
unfolding frame_at
frame_reader version = record { takes = takes; again = again }
  where
    takes : (bytes frame rest : List ℕ) → IsBytes bytes → frame_at version bytes ≡ Some (frame, rest)
        → (bytes ≡ frame ++ rest) × IsFrameText version frame × IsBytes rest
    takes bytes frame rest fits e =
        let a = bind_some (number_at w32 bytes) (λ len. bytes_at (4 + len.0) bytes >>= λ text. only_if
        (is_some (reading_in version text.0)) text)
        (frame, rest) e in
        let b = bind_some (bytes_at (4 + a.0.0) bytes) (λ text. only_if (is_some (reading_in version text.0)) text) (frame, rest) a.2 in
        let o = only_if-some (is_some (reading_in version b.0.0)) b.0 (frame, rest) b.2 in
        let t = bytes_take (4 + a.0.0) bytes b.0.0 b.0.1 fits b.1 in
        let s = is_there (reading_in version b.0.0) o.0 in
        let spells : SpellsFrame version b.0.0 s.0 = reading-spells version b.0.0 s.0 t.1 s.1 in
        subst (λ (p : List ℕ × List ℕ). (bytes ≡ p.0 ++ p.1) × IsFrameText version p.0 × IsBytes p.1) o.1 (t.0, (s.0, spells), t.2)

    again : (frame rest : List ℕ) → IsFrameText version frame → frame_at version (frame ++ rest) ≡ Some (frame, rest)
    again frame rest is = rw is.1.1 (frame_spelled version is.0 rest is.1.0)
