-- The words of lines consist only of visible characters.
use Rattle.std.proofs.Common.{◌≡◌, ℕ, ◌<◌, ◌≤◌, ◌^◌, Bool, true, false, List, [], ◌∷◌, refl, subst, arith}
use Rattle.std.specs.Prelude.{◌==◌, not, length}
use Rattle.std.specs.List.{All, AllByRecursion, join_with_byte, list_all}
use Rattle.std.proofs.lemmas.Bool.{and_parts, eqb-true}
use Rattle.std.proofs.lemmas.Bool.Decides.{nat_tests}
use Rattle.std.proofs.lemmas.List.Elements.{All-nil, All-cons, All-append, All-weaker}
use Rattle.std.proofs.lemmas.List.Sums.{AllPass-from_list_all}
use Rattle.plain_text.specs.Numbers.{is_digit, number_text}
use Rattle.plain_text.specs.Transactions.{bytes_text}
use Rattle.plain_text.proofs.NumberLemmas.{is_decimal-number_text}
use Rattle.plain_text.proofs.SpellingLemmas.{is_spelled, is_spelled-bytes_text}
use Rattle.scenario_texts.proofs.Splits.{Lacks}

-- a character that is seen
abbrev pub IsVisible : ℕ → Type 0
IsVisible b = (33 ≤ b) × (b ≤ 126)

-- a word of such characters
abbrev pub IsWord : List ℕ → Type 0
IsWord word = All IsVisible word

-- words of such characters
abbrev pub IsWords : List (List ℕ) → Type 0
IsWords words = AllByRecursion IsWord words

visible_spelled : (b : ℕ) → is_spelled b ≡ true → IsVisible b
visible_spelled b e = (grind (arith, nat_tests), grind (arith, nat_tests))

-- bytes as they are written
pub IsWord-bytes_text : (bytes : List ℕ) → AllByRecursion (λ b. b < 256) bytes → IsWord (bytes_text bytes)
IsWord-bytes_text bytes small =
    All-weaker (λ c. is_spelled c ≡ true) IsVisible visible_spelled (bytes_text bytes) (is_spelled-bytes_text bytes small)

comma_spelled : (b : ℕ) → is_spelled b ≡ true → (b == 44) ≡ false
comma_spelled b e = by_test (b == 44) refl
  where
    by_test : (t : Bool) → (b == 44) ≡ t → t ≡ false
    by_test true is = let at : b ≡ 44 = eqb-true b 44 is in let bad : false ≡ true =
        subst (λ (x : ℕ). is_spelled x ≡ true) at e in absurd cc
    by_test false is = refl

-- no comma is in them
pub Lacks-bytes_text : (bytes : List ℕ) → AllByRecursion (λ b. b < 256) bytes → Lacks 44 (bytes_text bytes)
Lacks-bytes_text bytes small =
    All-weaker (λ c. is_spelled c ≡ true) (λ b. (b == 44) ≡ false) comma_spelled (bytes_text bytes) (is_spelled-bytes_text bytes small)

visible_digit : (b : ℕ) → is_digit b ≡ true → IsVisible b
visible_digit b e = (grind (arith, nat_tests), grind (arith, nat_tests))

-- a number
pub IsWord-number_text : (n : ℕ) → n < 2 ^ 32 → IsWord (number_text n)
IsWord-number_text n small =
    All-weaker (λ c. is_digit c ≡ true) IsVisible visible_digit (number_text n)
    (AllPass-from_list_all is_digit (number_text n)
    (and_parts (not (length (number_text n) == 0)) (list_all is_digit (number_text n)) (is_decimal-number_text n small)).1)

space_visible : (b : ℕ) → IsVisible b → (b == 32) ≡ false
space_visible b h = grind (arith, nat_tests)

-- no space is in a word
pub Lacks-word : (word : List ℕ) → IsWord word → Lacks 32 word
Lacks-word word all = All-weaker IsVisible (λ b. (b == 32) ≡ false) space_visible word all

-- nor in words
pub Lacks-words : (words : List (List ℕ)) → IsWords words → AllByRecursion (Lacks 32) words
Lacks-words [] all = tt
Lacks-words (word ∷ words) (first, all) = (Lacks-word word first, Lacks-words words all)

small_visible : (b : ℕ) → IsVisible b → b < 128
small_visible b h = omega arith

-- words joined
pub small_words : (words : List (List ℕ)) → IsWords words → All (λ b. b < 128) (join_with_byte 32 words)
small_words [] all = All-nil (λ b. b < 128)
small_words (word ∷ []) (first, all) = All-weaker IsVisible (λ b. b < 128) small_visible word first
small_words (word ∷ next ∷ more) (first, all) =
    All-append (λ b. b < 128) word (32 ∷ join_with_byte 32 (next ∷ more)) (All-weaker IsVisible (λ b. b < 128) small_visible word first)
    (All-cons (λ b. b < 128) 32 (join_with_byte 32 (next ∷ more)) (omega arith) (small_words (next ∷ more) all))
