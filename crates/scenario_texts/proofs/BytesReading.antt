-- Bytes are read back from their text.
use Rattle.std.proofs.Common.{◌≡◌, ◌∙◌, ℕ, ◌<◌, Bool, true, false, cond, List, [], ◌∷◌, refl, ap}
use Rattle.std.specs.Prelude.{◌==◌, Option, Some, None}
use Rattle.std.specs.List.{AllByRecursion}
use Rattle.std.proofs.lemmas.Option.{some_pair_parts}
use Rattle.plain_text.specs.Transactions.{first_spelled_byte, before, byte_of, nibble, StandsFor, bytes_text}
use Rattle.plain_text.proofs.SpellingLemmas.{bytes_text-stands_for, stands_for-bytes_text}
use Rattle.scenario_texts.specs.Reading.{onto, bare_of, word_bytes}

-- a byte that was read comes first
onto_before : (o : Option ℕ) (text rest : List ℕ) (b : ℕ) → before o text ≡ Some (b, rest)
    → onto o (word_bytes text) ≡ onto (Some b) (word_bytes rest)
onto_before None text rest b e = absurd cc
onto_before (Some x) text rest b e = let parts = some_pair_parts x b text rest e in rw (parts.0, parts.1) refl

-- after the first byte the rest is read
bytes_of-first : (text rest : List ℕ) (b : ℕ) → first_spelled_byte text ≡ Some (b, rest) → word_bytes text ≡ onto (Some b) (word_bytes rest)
unfolding word_bytes
bytes_of-first [] rest b e = absurd cc
bytes_of-first (x ∷ []) rest b e = onto_before (bare_of x) [] rest b e
bytes_of-first (x ∷ y ∷ []) rest b e = onto_before (bare_of x) (y ∷ []) rest b e
bytes_of-first (x ∷ y ∷ z ∷ more) rest b e = by_test (x == 0x5c) e
  where
    by_test : (t : Bool) → cond t (before (byte_of (nibble y) (nibble z)) more) (before (bare_of x) (y ∷ z ∷ more)) ≡ Some (b, rest)
        → cond t (onto (byte_of (nibble y) (nibble z)) (word_bytes more)) (onto (bare_of x) (word_bytes (y ∷ z ∷ more)))
        ≡ onto (Some b) (word_bytes rest)
    by_test true h = onto_before (byte_of (nibble y) (nibble z)) more rest b h
    by_test false h = onto_before (bare_of x) (y ∷ z ∷ more) rest b h

-- what stands for bytes is read so
pub bytes_of-stands_for : (text bytes : List ℕ) → StandsFor text bytes → word_bytes text ≡ Some bytes
unfolding word_bytes
bytes_of-stands_for text [] stands = ap word_bytes stands
bytes_of-stands_for text (b ∷ bytes) (rest, (first, stands)) =
    bytes_of-first text rest b first ∙ ap (onto (Some b)) (bytes_of-stands_for rest bytes stands)

-- what was put in front, and what follows
onto_parts : (o : Option ℕ) (p : Option (List ℕ)) (b : ℕ) (bytes : List ℕ) → onto o p ≡ Some (b ∷ bytes) → (o ≡ Some b) × (p ≡ Some bytes)
onto_parts None p b bytes e = absurd cc
onto_parts (Some x) None b bytes e = absurd cc
onto_parts (Some x) (Some xs) b bytes e = (cc, cc)

-- something was put in front
onto_some : (o : Option ℕ) (p : Option (List ℕ)) → onto o p ≡ Some [] → ⊥
onto_some None p e = cc
onto_some (Some x) None e = cc
onto_some (Some x) (Some xs) e = cc

-- where bytes were read there is a first one
first_of_bytes : (text : List ℕ) (b : ℕ) (bytes : List ℕ) → word_bytes text ≡ Some (b ∷ bytes)
    → (rest : List ℕ) × ((first_spelled_byte text ≡ Some (b, rest)) × (word_bytes rest ≡ Some bytes))
unfolding word_bytes
first_of_bytes [] b bytes e = absurd cc
first_of_bytes (x ∷ []) b bytes e =
    let parts = onto_parts (bare_of x) (Some []) b bytes e in ([], (ap (λ o. before o []) parts.0, parts.1))
first_of_bytes (x ∷ y ∷ []) b bytes e =
    let parts = onto_parts (bare_of x) (word_bytes (y ∷ [])) b bytes e in (y ∷ [], (ap (λ o. before o (y ∷ [])) parts.0, parts.1))
first_of_bytes (x ∷ y ∷ z ∷ more) b bytes e = by_test (x == 0x5c) e
  where
    by_test : (t : Bool) → cond t (onto (byte_of (nibble y) (nibble z)) (word_bytes more)) (onto (bare_of x) (word_bytes (y ∷ z ∷ more)))
        ≡ Some (b ∷ bytes)
        → (rest : List ℕ) × ((cond t (before (byte_of (nibble y) (nibble z)) more) (before (bare_of x) (y ∷ z ∷ more)) ≡ Some (b, rest))
        × (word_bytes rest ≡ Some bytes))
    by_test true h = let parts = onto_parts (byte_of (nibble y) (nibble z)) (word_bytes more) b bytes h
        in (more, (ap (λ o. before o more) parts.0, parts.1))
    by_test false h = let parts = onto_parts (bare_of x) (word_bytes (y ∷ z ∷ more)) b bytes h
        in (y ∷ z ∷ more, (ap (λ o. before o (y ∷ z ∷ more)) parts.0, parts.1))

-- no bytes are no text
no_bytes : (text : List ℕ) → word_bytes text ≡ Some [] → text ≡ []
unfolding word_bytes
no_bytes [] e = refl
no_bytes (x ∷ []) e = absurd (onto_some (bare_of x) (Some []) e)
no_bytes (x ∷ y ∷ []) e = absurd (onto_some (bare_of x) (word_bytes (y ∷ [])) e)
no_bytes (x ∷ y ∷ z ∷ more) e = by_test (x == 0x5c) e
  where
    by_test : (t : Bool) → cond t (onto (byte_of (nibble y) (nibble z)) (word_bytes more)) (onto (bare_of x) (word_bytes (y ∷ z ∷ more)))
        ≡ Some [] → x ∷ y ∷ z ∷ more ≡ []
    by_test true h = absurd (onto_some (byte_of (nibble y) (nibble z)) (word_bytes more) h)
    by_test false h = absurd (onto_some (bare_of x) (word_bytes (y ∷ z ∷ more)) h)

-- what was read stands for those bytes
pub stands_for-bytes_of : (text bytes : List ℕ) → word_bytes text ≡ Some bytes → StandsFor text bytes
stands_for-bytes_of text [] e = no_bytes text e
stands_for-bytes_of text (b ∷ bytes) e =
    let (rest, (first, more)) = first_of_bytes text b bytes e in (rest, (first, stands_for-bytes_of rest bytes more))

-- bytes are read
pub bytes_of-again : (bytes : List ℕ) → AllByRecursion (λ b. b < 256) bytes → word_bytes (bytes_text bytes) ≡ Some bytes
bytes_of-again bytes small = bytes_of-stands_for (bytes_text bytes) bytes (stands_for-bytes_text bytes small)

-- what was read is their text
pub bytes_of-sound : (word bytes : List ℕ) → word_bytes word ≡ Some bytes → (word ≡ bytes_text bytes) × AllByRecursion (λ b. b < 256) bytes
bytes_of-sound word bytes e = bytes_text-stands_for word bytes (stands_for-bytes_of word bytes e)

-- where nothing stands there, nothing is read
pub bytes_of-none : (word : List ℕ) → ((bytes : List ℕ) → StandsFor word bytes → ⊥) → word_bytes word ≡ None
bytes_of-none word none = by_answer (word_bytes word) refl
  where
    by_answer : (o : Option (List ℕ)) → word_bytes word ≡ o → o ≡ None
    by_answer None e = refl
    by_answer (Some bytes) e = absurd (none bytes (stands_for-bytes_of word bytes e))
