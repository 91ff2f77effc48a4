-- Fields are read back from their text: numbers, bytes, and where a lie goes.
use Rattle.std.proofs.Common.{◌≡◌, ◌∙◌, ℕ, ◌≤◌, zero, suc, Bool, true, false, cond, List, [], ◌∷◌, length, refl, sym, ap, subst, inl, inr}
use Rattle.std.proofs.Common.{eq-eqb, arith}
use Rattle.std.specs.Prelude.{◌==◌, ◌⊎◌, codes, Option, Some, None, option_and_then}
use Rattle.std.specs.Option.{option_map}
use Rattle.std.specs.List.{find, Contains}
use Rattle.std.specs.Str.{bytes_eq}
use Rattle.std.proofs.lemmas.Bool.{eqb-true, ne_eqb}
use Rattle.std.proofs.lemmas.Option.{some_pair_parts}
use Rattle.std.proofs.lemmas.Slice.Eq.{bytes_eq-Decides}
use Rattle.hex.specs.Hex.{encode_lower, encode_with}
use Rattle.plain_text.specs.Numbers.{number_text, is_decimal}
use Rattle.plain_text.specs.Transactions.{bytes_text}
use Rattle.plain_text.proofs.NumberLemmas.{is_decimal-number_text}
use Rattle.scenario_texts.specs.Lawful.{IsNumber, IsByteList, IsTowards}
use Rattle.scenario_texts.specs.Reading.{word_number, positive_of, one_number, two_numbers, three_numbers, word_bytes, hex_of, optional}
use Rattle.scenario_texts.specs.Reading.{optional_bytes, optional_hex, towards_of, liar_of}
use Rattle.scenario_texts.specs.Texts.{bytes_words, hex_words, towards_text}
use Rattle.scenario_texts.specs.declared.command.Towards.{Towards}
use Rattle.scenario_texts.specs.declared.command.Towards.TheVariants.{One, All}
use Rattle.scenario_texts.proofs.Options.{bind_some, map_some, unless_some}
use Rattle.scenario_texts.proofs.Numbers.{number_of-sound, number_of-again}
use Rattle.scenario_texts.proofs.BytesReading.{bytes_of-sound, bytes_of-again}
use Rattle.scenario_texts.proofs.HexReading.{hex_of-sound, hex_of-again}

-- a number from 1 on
pub positive_of-sound : (word : List ℕ) (n : ℕ) → positive_of word ≡ Some n → (word ≡ number_text n) × ((1 ≤ n) × IsNumber n)
unfolding positive_of
positive_of-sound word n e =
    let (m, (read, some)) = bind_some (λ m. cond (m == 0) None (Some m)) (word_number word) n e in
    let (positive, same) = unless_some (m == 0) m n some in
    let spelled = number_of-sound word m read in
    let above : n ≡ 0 → ⊥ = λ none. let bad : true ≡ false = subst (λ (x : ℕ). (x == 0) ≡ false) (same ∙ none) positive in cc in
    (spelled.0 ∙ ap number_text same, (omega (arith, above), omega (arith, spelled.1)))

pub positive_of-again : (n : ℕ) → (1 ≤ n) × IsNumber n → positive_of (number_text n) ≡ Some n
unfolding positive_of
positive_of-again n (above, small) = rw (number_of-again n small, ne_eqb n 0 (omega arith)) refl

-- one number
pub one_number-sound : (fields : List (List ℕ)) (n : ℕ) → one_number fields ≡ Some n → (fields ≡ number_text n ∷ []) × IsNumber n
unfolding one_number
one_number-sound [] n e = absurd cc
one_number-sound (a ∷ []) n e = let spelled = number_of-sound a n e in (ap (λ w. w ∷ []) spelled.0, spelled.1)
one_number-sound (a ∷ b ∷ fields) n e = absurd cc

pub one_number-again : (n : ℕ) → IsNumber n → one_number (number_text n ∷ []) ≡ Some n
unfolding one_number
one_number-again n small = number_of-again n small

-- the parts of a pair
two_parts : (o p : Option ℕ) (m n : ℕ)
    → option_and_then {U = ℕ × ℕ} (λ x. option_and_then {U = ℕ × ℕ} (λ y. Some (x, y)) p) o ≡ Some (m, n) → (o ≡ Some m) × (p ≡ Some n)
two_parts None p m n e = absurd cc
two_parts (Some x) None m n e = absurd cc
two_parts (Some x) (Some y) m n e = let parts = some_pair_parts x m y n e in (ap Some parts.0, ap Some parts.1)

-- two numbers
pub two_numbers-sound : (fields : List (List ℕ)) (m n : ℕ) → two_numbers fields ≡ Some (m, n)
    → (fields ≡ number_text m ∷ number_text n ∷ []) × (IsNumber m × IsNumber n)
unfolding two_numbers
two_numbers-sound [] m n e = absurd cc
two_numbers-sound (a ∷ []) m n e = absurd cc
two_numbers-sound (a ∷ b ∷ []) m n e =
    let parts = two_parts (word_number a) (word_number b) m n e in
    let first = number_of-sound a m parts.0 in
    let second = number_of-sound b n parts.1 in
    (cc (first.0, second.0), (first.1, second.1))
two_numbers-sound (a ∷ b ∷ c ∷ fields) m n e = absurd cc

pub two_numbers-again : (m n : ℕ) → IsNumber m → IsNumber n → two_numbers (number_text m ∷ number_text n ∷ []) ≡ Some (m, n)
unfolding two_numbers
two_numbers-again m n fits small = rw (number_of-again m fits, number_of-again n small) refl

-- the triple, or zeros
triple_or : Option (ℕ × ℕ × ℕ) → ℕ × ℕ × ℕ
triple_or (Some t) = t
triple_or None = (0, 0, 0)

-- the parts of a triple
three_parts : (o p q : Option ℕ) (l m n : ℕ)
    → option_and_then {U = ℕ × ℕ × ℕ}
    (λ x. option_and_then {U = ℕ × ℕ × ℕ} (λ y. option_and_then {U = ℕ × ℕ × ℕ} (λ z. Some (x, y, z)) q) p) o ≡ Some (l, m, n)
    → (o ≡ Some l) × (p ≡ Some m) × (q ≡ Some n)
unfolding triple_or
three_parts None p q l m n e = absurd cc
three_parts (Some x) None q l m n e = absurd cc
three_parts (Some x) (Some y) None l m n e = absurd cc
three_parts (Some x) (Some y) (Some z) l m n e =
    (ap (λ o. Some (triple_or o).0) e, ap (λ o. Some (triple_or o).1) e, ap (λ o. Some (triple_or o).2) e)

-- three numbers
pub three_numbers-sound : (fields : List (List ℕ)) (l m n : ℕ) → three_numbers fields ≡ Some (l, m, n)
    → (fields ≡ number_text l ∷ number_text m ∷ number_text n ∷ []) × (IsNumber l × IsNumber m × IsNumber n)
unfolding three_numbers
three_numbers-sound [] l m n e = absurd cc
three_numbers-sound (a ∷ []) l m n e = absurd cc
three_numbers-sound (a ∷ b ∷ []) l m n e = absurd cc
three_numbers-sound (a ∷ b ∷ c ∷ []) l m n e =
    let parts = three_parts (word_number a) (word_number b) (word_number c) l m n e in
    let first = number_of-sound a l parts.0 in
    let second = number_of-sound b m parts.1 in
    let third = number_of-sound c n parts.2 in
    (cc (first.0, second.0, third.0), (first.1, second.1, third.1))
three_numbers-sound (a ∷ b ∷ c ∷ d ∷ fields) l m n e = absurd cc

pub three_numbers-again : (l m n : ℕ) → IsNumber l → IsNumber m → IsNumber n
    → three_numbers (number_text l ∷ number_text m ∷ number_text n ∷ []) ≡ Some (l, m, n)
unfolding three_numbers
three_numbers-again l m n fits room small = rw (number_of-again l fits, number_of-again m room, number_of-again n small) refl

-- a word with a byte isn't empty
full : (b : ℕ) (word : List ℕ) → (length (b ∷ word) == 0) ≡ false
full b word = ne_eqb (length (b ∷ word)) 0 (λ e. omega arith)

some_word : (read : List ℕ → Option (List ℕ)) (b : ℕ) (word : List ℕ) (o : Option (List ℕ))
    → cond (length (b ∷ word) == 0) None (read (b ∷ word)) ≡ o → read (b ∷ word) ≡ o
some_word read b word o e = subst (λ (t : Bool). cond t None (read (b ∷ word)) ≡ o) (full b word) e

-- a field that may be missing
optional-sound : (read : List ℕ → Option (List ℕ)) (fields : List (List ℕ)) (bytes : List ℕ) → optional read fields ≡ Some bytes
    → ((fields ≡ []) × (bytes ≡ [])) ⊎ ((b : ℕ) × ((word : List ℕ) × ((fields ≡ (b ∷ word) ∷ []) × (read (b ∷ word) ≡ Some bytes))))
optional-sound read [] bytes e = inl (refl, cc)
optional-sound read ([] ∷ []) bytes e = absurd cc
optional-sound read ((b ∷ word) ∷ []) bytes e = inr (b, (word, (refl, some_word read b word (Some bytes) e)))
optional-sound read (a ∷ b ∷ fields) bytes e = absurd cc

optional-again : (read : List ℕ → Option (List ℕ)) (word : List ℕ) (b : ℕ) (bytes : List ℕ) → read [] ≡ Some []
    → read word ≡ Some (b ∷ bytes) → optional read (word ∷ []) ≡ Some (b ∷ bytes)
optional-again read [] b bytes none e = let bad : Some [] ≡ Some (b ∷ bytes) = sym none ∙ e in absurd cc
optional-again read (c ∷ word) b bytes none e = subst (λ (t : Bool). cond t None (read (c ∷ word)) ≡ Some (b ∷ bytes)) (sym (full c word)) e

-- bytes, of which there may be none
pub optional_bytes-sound : (fields : List (List ℕ)) (bytes : List ℕ) → optional_bytes fields ≡ Some bytes
    → (fields ≡ bytes_words bytes) × IsByteList bytes
unfolding optional_bytes word_bytes bytes_text
optional_bytes-sound fields bytes e = by_case bytes (optional-sound word_bytes fields bytes e)
  where
    by_case : (bytes : List ℕ) → ((fields ≡ []) × (bytes ≡ []))
        ⊎ ((b : ℕ) × ((word : List ℕ) × ((fields ≡ (b ∷ word) ∷ []) × (word_bytes (b ∷ word) ≡ Some bytes))))
        → (fields ≡ bytes_words bytes) × IsByteList bytes
    by_case [] (inl (none, same)) = (none, tt)
    by_case (x ∷ bytes) (inl (none, same)) = absurd cc
    by_case [] (inr (b, (word, (one, read)))) = let bad : b ∷ word ≡ [] = (bytes_of-sound (b ∷ word) [] read).0 in absurd cc
    by_case (x ∷ bytes) (inr (b, (word, (one, read)))) = let spelled =
        bytes_of-sound (b ∷ word) (x ∷ bytes) read in (one ∙ ap (λ w. w ∷ []) spelled.0, spelled.1)

pub optional_bytes-again : (bytes : List ℕ) → IsByteList bytes → optional_bytes (bytes_words bytes) ≡ Some bytes
unfolding optional_bytes word_bytes
optional_bytes-again [] small = refl
optional_bytes-again (b ∷ bytes) small = optional-again word_bytes (bytes_text (b ∷ bytes)) b bytes refl (bytes_of-again (b ∷ bytes) small)

-- bytes in hexadecimal digits, of which there may be none
pub optional_hex-sound : (fields : List (List ℕ)) (bytes : List ℕ) → optional_hex fields ≡ Some bytes
    → (fields ≡ hex_words bytes) × IsByteList bytes
unfolding optional_hex encode_with
optional_hex-sound fields bytes e = by_case bytes (optional-sound hex_of fields bytes e)
  where
    by_case : (bytes : List ℕ) → ((fields ≡ []) × (bytes ≡ []))
        ⊎ ((b : ℕ) × ((word : List ℕ) × ((fields ≡ (b ∷ word) ∷ []) × (hex_of (b ∷ word) ≡ Some bytes))))
        → (fields ≡ hex_words bytes) × IsByteList bytes
    by_case [] (inl (none, same)) = (none, tt)
    by_case (x ∷ bytes) (inl (none, same)) = absurd cc
    by_case [] (inr (b, (word, (one, read)))) = let bad : b ∷ word ≡ [] = (hex_of-sound (b ∷ word) [] read).0 in absurd cc
    by_case (x ∷ bytes) (inr (b, (word, (one, read)))) = let spelled =
        hex_of-sound (b ∷ word) (x ∷ bytes) read in (one ∙ ap (λ w. w ∷ []) spelled.0, spelled.1)

pub optional_hex-again : (bytes : List ℕ) → IsByteList bytes → optional_hex (hex_words bytes) ≡ Some bytes
unfolding optional_hex encode_with
optional_hex-again [] small = refl
optional_hex-again (b ∷ bytes) small =
    optional-again hex_of (encode_lower (b ∷ bytes)) b bytes (hex_of-again [] tt) (hex_of-again (b ∷ bytes) small)

-- `all` is no number
all_word : (word : List ℕ) → bytes_eq word (codes "all") ≡ true → word ≡ codes "all"
all_word word e = (bytes_eq-Decides word (codes "all")).0 e

-- where a lie goes
pub towards_of-sound : (word : List ℕ) (to : Towards) → towards_of word ≡ Some to → (word ≡ towards_text to) × IsTowards to
unfolding towards_of
towards_of-sound word to e = by_test (bytes_eq word (codes "all")) refl to e
  where
    by_test : (t : Bool) → bytes_eq word (codes "all") ≡ t → (to : Towards) → cond t (Some All) (option_map One (word_number word)) ≡ Some to
        → (word ≡ towards_text to) × IsTowards to
    by_test true is All e = (all_word word is, tt)
    by_test true is (One n) e = absurd cc
    by_test false is All e = let (n, (read, same)) = map_some One (word_number word) All e in absurd cc
    by_test false is (One n) e =
        let (m, (read, same)) = map_some One (word_number word) (One n) e in
        let equal : m ≡ n = cc in
        let spelled = number_of-sound word m read in
        (spelled.0 ∙ ap number_text equal, subst IsNumber equal spelled.1)

pub towards_of-again : (to : Towards) → IsTowards to → towards_of (towards_text to) ≡ Some to
unfolding towards_of
towards_of-again All is = refl
towards_of-again (One n) small = by_test (bytes_eq (number_text n) (codes "all")) refl
  where
    by_test : (t : Bool) → bytes_eq (number_text n) (codes "all") ≡ t
        → cond t (Some All) (option_map One (word_number (number_text n))) ≡ Some (One n)
    by_test true is =
        let word : number_text n ≡ codes "all" = all_word (number_text n) is in
        let digits : is_decimal (codes "all") ≡ true = subst (λ (w : List ℕ). is_decimal w ≡ true) word (is_decimal-number_text n small) in
        let bad : false ≡ true = digits in absurd cc
    by_test false is = rw (number_of-again n small) refl

-- a replica found is among them
found_among : (n r : ℕ) (liars : List ℕ) → find (λ liar. liar == n) liars ≡ Some r → (r ≡ n) × Contains liars r
found_among n r [] e = absurd cc
found_among n r (x ∷ liars) e = by_test (x == n) refl e (found_among n r liars)
  where
    by_test : (t : Bool) → (x == n) ≡ t → cond t (Some x) (find (λ liar. liar == n) liars) ≡ Some r
        → (find (λ liar. liar == n) liars ≡ Some r → (r ≡ n) × Contains liars r)
        → (r ≡ n) × Contains (x ∷ liars) r
    by_test true is e later = let same : x ≡ r = cc in (sym same ∙ eqb-true x n is, (0, omega arith, same))
    by_test false is e later = let (equal, (k, within, at)) = later e in (equal, (suc k, omega arith, at))

-- one among them is found
among_found : (r : ℕ) (liars : List ℕ) → Contains liars r → find (λ liar. liar == r) liars ≡ Some r
among_found r [] (k, within, at) = absurd (omega arith)
among_found r (x ∷ liars) (zero, within, at) = rw (eq-eqb x r at) (ap Some at)
among_found r (x ∷ liars) (suc k, within, at) = by_test (x == r) refl (among_found r liars (k, omega arith, at))
  where
    by_test : (t : Bool) → (x == r) ≡ t → find (λ liar. liar == r) liars ≡ Some r
        → cond t (Some x) (find (λ liar. liar == r) liars) ≡ Some r
    by_test true is later = ap Some (eqb-true x r is)
    by_test false is later = later

-- a liar
pub liar_of-sound : (liars : List ℕ) (word : List ℕ) (r : ℕ) → liar_of liars word ≡ Some r
    → (word ≡ number_text r) × (Contains liars r × IsNumber r)
unfolding liar_of
liar_of-sound liars word r e =
    let (n, (read, found)) = bind_some (λ n. find (λ liar. liar == n) liars) (word_number word) r e in
    let spelled = number_of-sound word n read in
    let is = found_among n r liars found in
    (spelled.0 ∙ ap number_text (sym is.0), (is.1, subst IsNumber (sym is.0) spelled.1))

pub liar_of-again : (liars : List ℕ) (r : ℕ) → Contains liars r → IsNumber r → liar_of liars (number_text r) ≡ Some r
unfolding liar_of
liar_of-again liars r is small = rw (number_of-again r small) (among_found r liars is)
