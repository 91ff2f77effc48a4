-- A reader takes an encoded value from the front of bytes, and each value is read back from its encoding.
use Rattle.std.proofs.Common.{◌≡◌, ℕ, zero, suc, ◌+◌, ◌^◌, ◌<◌, ◌≤◌, Bool, true, false, List, [], ◌∷◌, ◌++◌, length, take, drop, Option}
use Rattle.std.proofs.Common.{Some, None, refl, sym, ap, subst, ◌∙◌, append_assoc, arith, inl, inr, leb}
use Rattle.std.specs.List.{flat_map, AllByRecursion}
use Rattle.std.specs.Int.{Width, w16, w32, byte_len, from_be_bytes, to_be_bytes}
use Rattle.std.proofs.lemmas.Bool.{cases_lt, leb-true, le-leb}
use Rattle.std.proofs.lemmas.List.{take_at, drop_at, take-append-drop, length-append, length-take, get_or-drop, get_or-take, get_or_past}
use Rattle.std.proofs.lemmas.Nat.{be_bytes_2, be_bytes_4, from_be_bytes-to_be_bytes_2, from_be_bytes-to_be_bytes_4}
use Rattle.ledger_model.specs.Values.{IsByte}
use Rattle.ledger_model.specs.GrammarLaws.{IsBytes}
use Rattle.ledger_model.specs.Reading.{◌>>=◌, only_if, guarded, bytes_at, byte_at, number_at}

-- ---- steps

-- the value of a step that read something
pub bind_some : {A B : Type 0} (o : Option A) (f : A → Option B) (y : B) → (o >>= f) ≡ Some y → (x : A) × (o ≡ Some x) × (f x ≡ Some y)
bind_some (Some x) f y e = (x, refl, e)
bind_some None f y e = absurd cc

-- the same, for what is shown of that value
pub bind_then : {A B P : Type 0} (o : Option A) (f : A → Option B) (y : B) → (o >>= f) ≡ Some y → ((x : A) → o ≡ Some x → f x ≡ Some y → P)
    → P
bind_then o f y e shown = let a = bind_some o f y e in shown a.0 a.1 a.2

pub only_if-some : {A : Type 0} (test : Bool) (x y : A) → only_if test x ≡ Some y → (test ≡ true) × (x ≡ y)
only_if-some true x y e = (refl, cc)
only_if-some false x y e = absurd cc

pub guarded-some : {A : Type 0} (test : Bool) (read : Option A) (y : A) → guarded test read ≡ Some y → (test ≡ true) × (read ≡ Some y)
guarded-some true read y e = (refl, e)
guarded-some false read y e = absurd cc

abbrev found : {A : Type 0} → A → Option A
found x = Some x

pub some_is : {A : Type 0} (x y : A) → found x ≡ found y → x ≡ y
some_is x y e = cc

-- ---- bytes

pub IsBytes-drop : (n : ℕ) (bytes : List ℕ) → IsBytes bytes → IsBytes (drop n bytes)
IsBytes-drop n bytes fits i = rw get_or-drop (fits (n + i))

pub IsBytes-take : (n : ℕ) (bytes : List ℕ) → IsBytes bytes → IsBytes (take n bytes)
IsBytes-take n bytes fits i =
    elim (cases_lt i n) [
      | inl lt ↦ rw (get_or-take n bytes i 0 lt) (fits i)
      | inr le ↦ rw (get_or_past (take n bytes) i 0 (omega (arith, length-take n bytes))) (omega arith)
    ]

pub IsBytes-tail : (b : ℕ) (bytes : List ℕ) → IsBytes (b ∷ bytes) → IsBytes bytes
IsBytes-tail b bytes fits i = fits (suc i)

-- the same by recursion
pub each_byte : (bytes : List ℕ) → IsBytes bytes → AllByRecursion IsByte bytes
each_byte [] fits = tt
each_byte (b ∷ bytes) fits = (fits 0, each_byte bytes (IsBytes-tail b bytes fits))

pub IsBytes-each : (bytes : List ℕ) → AllByRecursion IsByte bytes → IsBytes bytes
IsBytes-each [] each i = omega arith
IsBytes-each (b ∷ bytes) each zero = each.0
IsBytes-each (b ∷ bytes) each (suc i) = IsBytes-each bytes each.1 i

-- ---- readers

-- what is read from the front is spelled there and may be spelled, and what may be spelled is read from its spelling
pub record IsReader {X : Type 0} (spell : X → List ℕ) (Is : X → Type 0) (read : List ℕ → Option (X × List ℕ)) : Type 0 where
  pub takes : (bytes : List ℕ) (x : X) (rest : List ℕ) → IsBytes bytes → read bytes ≡ Some (x, rest)
      → (bytes ≡ spell x ++ rest) × Is x × IsBytes rest
  pub again : (x : X) (rest : List ℕ) → Is x → read (spell x ++ rest) ≡ Some (x, rest)

-- no spelling begins another, where each thing is read from its spelling
pub read_once : {X : Type 0} (spell : X → List ℕ) (Is : X → Type 0) (read : List ℕ → Option (X × List ℕ))
    → ((x : X) (rest : List ℕ) → Is x → read (spell x ++ rest) ≡ Some (x, rest))
    → (x y : X) (rest more : List ℕ) → Is x → Is y → spell x ++ rest ≡ spell y ++ more → (x ≡ y) × (rest ≡ more)
read_once {X} spell Is read again x y rest more is_x is_y e =
    let same : (x, rest) ≡ (y, more) = some_is (x, rest) (y, more) (sym (again x rest is_x) ∙ ap read e ∙ again y more is_y) in
    (ap (λ (p : X × List ℕ). p.0) same, ap (λ (p : X × List ℕ). p.1) same)

-- many things, one after the other
pub many_takes : {X : Type 0} {spell : X → List ℕ} {Is : X → Type 0} {read : List ℕ → Option (X × List ℕ)} → IsReader spell Is read
    → (reads : ℕ → List ℕ → Option (List X × List ℕ)) → ((bytes : List ℕ) → reads zero bytes ≡ Some ([], bytes))
    → ((n : ℕ) (bytes : List ℕ) → reads (suc n) bytes
    ≡ (read bytes >>= λ first. reads n first.1 >>= λ others. Some (first.0 ∷ others.0, others.1)))
    → (n : ℕ) (bytes : List ℕ) (xs : List X) (rest : List ℕ) → IsBytes bytes → reads n bytes ≡ Some (xs, rest)
    → (bytes ≡ flat_map spell xs ++ rest) × AllByRecursion Is xs × IsBytes rest × (length xs ≡ n)
many_takes {X} {spell} {Is} {read} reader reads none more zero bytes xs rest fits e =
    let same : ([], bytes) ≡ (xs, rest) = some_is ([], bytes) (xs, rest) (sym (none bytes) ∙ e) in
    subst (λ (p : List X × List ℕ). (bytes ≡ flat_map spell p.0 ++ p.1) × AllByRecursion Is p.0 × IsBytes p.1 × (length p.0 ≡ 0)) same
    (refl, tt, fits, refl)
many_takes {X} {spell} {Is} {read} reader reads none more (suc n) bytes xs rest fits e =
    let a = bind_some (read bytes) (λ first. reads n first.1 >>= λ others. Some (first.0 ∷ others.0, others.1)) (xs, rest)
    (sym (more n bytes) ∙ e) in
    let b = bind_some (reads n a.0.1) (λ others. Some (a.0.0 ∷ others.0, others.1)) (xs, rest) a.2 in
    let first = reader.takes bytes a.0.0 a.0.1 fits a.1 in
    let others = many_takes reader reads none more n a.0.1 b.0.0 b.0.1 first.2 b.1 in
    let parts : bytes ≡ (spell a.0.0 ++ flat_map spell b.0.0) ++ b.0.1 =
    first.0 ∙ ap (λ (t : List ℕ). spell a.0.0 ++ t) others.0 ∙ sym (append_assoc (spell a.0.0) (flat_map spell b.0.0) b.0.1) in
    let made : List X × List ℕ = (a.0.0 ∷ b.0.0, b.0.1) in
    subst (λ (p : List X × List ℕ). (bytes ≡ flat_map spell p.0 ++ p.1) × AllByRecursion Is p.0 × IsBytes p.1 × (length p.0 ≡ suc n))
    (some_is made (xs, rest) b.2)
    (parts, (first.1, others.1), others.2, ap suc others.3)

pub many_again : {X : Type 0} {spell : X → List ℕ} {Is : X → Type 0} {read : List ℕ → Option (X × List ℕ)} → IsReader spell Is read
    → (reads : ℕ → List ℕ → Option (List X × List ℕ)) → ((bytes : List ℕ) → reads zero bytes ≡ Some ([], bytes))
    → ((n : ℕ) (bytes : List ℕ) → reads (suc n) bytes
    ≡ (read bytes >>= λ first. reads n first.1 >>= λ others. Some (first.0 ∷ others.0, others.1)))
    → (xs : List X) (rest : List ℕ) → AllByRecursion Is xs → reads (length xs) (flat_map spell xs ++ rest) ≡ Some (xs, rest)
many_again reader reads none more [] rest each = none rest
many_again {X} {spell} {Is} {read} reader reads none more (x ∷ xs) rest each =
    let regrouped : flat_map spell (x ∷ xs) ++ rest ≡ spell x ++ (flat_map spell xs ++ rest) =
    append_assoc (spell x) (flat_map spell xs) rest in
    ap (reads (suc (length xs))) regrouped ∙ more (length xs) (spell x ++ (flat_map spell xs ++ rest))
    ∙ rw (reader.again x (flat_map spell xs ++ rest) each.0, many_again reader reads none more xs rest each.1) refl

-- ---- single bytes, strings and numbers

pub byte_takes : (bytes : List ℕ) (b : ℕ) (rest : List ℕ) → IsBytes bytes → byte_at bytes ≡ Some (b, rest)
    → (bytes ≡ b ∷ rest) × IsByte b × IsBytes rest
byte_takes [] b rest fits e = absurd cc
byte_takes (c ∷ bytes) b rest fits e =
    subst (λ (p : ℕ × List ℕ). (c ∷ bytes ≡ p.0 ∷ p.1) × IsByte p.0 × IsBytes p.1) (some_is (c, bytes) (b, rest) e)
    (refl, fits 0, IsBytes-tail c bytes fits)

pub bytes_take : (n : ℕ) (bytes text rest : List ℕ) → IsBytes bytes → bytes_at n bytes ≡ Some (text, rest)
    → (bytes ≡ text ++ rest) × IsBytes text × IsBytes rest × (length text ≡ n)
bytes_take n bytes text rest fits e =
    let g = only_if-some (leb n (length bytes)) (take n bytes, drop n bytes) (text, rest) e in
    let long : n ≤ length bytes = leb-true n (length bytes) g.0 in
    subst (λ (p : List ℕ × List ℕ). (bytes ≡ p.0 ++ p.1) × IsBytes p.0 × IsBytes p.1 × (length p.0 ≡ n)) g.1
    (sym (take-append-drop n bytes), IsBytes-take n bytes fits, IsBytes-drop n bytes fits, omega (arith, length-take n bytes))

pub bytes_again : (text rest : List ℕ) → bytes_at (length text) (text ++ rest) ≡ Some (text, rest)
bytes_again text rest =
    let long : leb (length text) (length (text ++ rest)) ≡ true = le-leb _ _ (omega (arith, length-append text rest)) in
    rw (long, take_at text rest (length text) refl, drop_at text rest (length text) refl) refl

-- numbers of a width below a limit and their bytes are each other's
pub record IsWide (w : Width) (limit : ℕ) : Type 0 where
  pub len : (n : ℕ) → length (to_be_bytes w n) ≡ byte_len w
  pub back : (bytes : List ℕ) → length bytes ≡ byte_len w → IsBytes bytes → to_be_bytes w (from_be_bytes w bytes) ≡ bytes
  pub again : (n : ℕ) → n < limit → from_be_bytes w (to_be_bytes w n) ≡ n
  pub below : (bytes : List ℕ) → IsBytes bytes → from_be_bytes w bytes < limit

pub wide16 : IsWide w16 (2 ^ 16)
wide16 = record {
  len = λ n. refl;
  back = λ bytes len fits. be_bytes_2 bytes _ len fits refl;
  again = λ n lt. from_be_bytes-to_be_bytes_2 n lt;
  below = λ bytes fits. omega (arith, fits 0, fits 1);
}

pub wide32 : IsWide w32 (2 ^ 32)
wide32 = record {
  len = λ n. refl;
  back = λ bytes len fits. be_bytes_4 bytes _ len fits refl;
  again = λ n lt. from_be_bytes-to_be_bytes_4 n lt;
  below = λ bytes fits. omega (arith, fits 0, fits 1, fits 2, fits 3);
}

pub number_reader : (w : Width) (limit : ℕ) → IsWide w limit → IsReader (to_be_bytes w) (λ n. n < limit) (number_at w)
number_reader w limit wide = record {
  takes = λ bytes n rest fits e.
      let b = bind_some (bytes_at (byte_len w) bytes) (λ p. Some (from_be_bytes w p.0, p.1)) (n, rest) e in
      let t = bytes_take (byte_len w) bytes b.0.0 b.0.1 fits b.1 in
      let parts : bytes ≡ to_be_bytes w (from_be_bytes w b.0.0) ++ b.0.1 = rw (wide.back b.0.0 t.3 t.1) t.0 in
      subst (λ (p : ℕ × List ℕ). (bytes ≡ to_be_bytes w p.0 ++ p.1) × (p.0 < limit) × IsBytes p.1)
      (some_is (from_be_bytes w b.0.0, b.0.1) (n, rest) b.2) (parts, wide.below b.0.0 t.1, t.2);
  again = λ n rest lt.
      let one : bytes_at (byte_len w) (to_be_bytes w n ++ rest) ≡ Some (to_be_bytes w n, rest) =
      subst (λ (k : ℕ). bytes_at k (to_be_bytes w n ++ rest) ≡ Some (to_be_bytes w n, rest)) (wide.len n)
      (bytes_again (to_be_bytes w n) rest) in
      rw (one, wide.again n lt) refl;
}
