-- Readers that are made of other readers: one after another, by a count, by a number.
use Rattle.std.proofs.Common.{◌≡◌, ℕ, zero, suc, Bool, true, false, cond, List, [], ◌∷◌, ◌++◌, length, Option, Some}
use Rattle.std.proofs.Common.{Result, Ok, Err, refl, sym, ap, subst, ◌∙◌, append_assoc, eqb}
use Rattle.std.specs.Prelude.{find}
use Rattle.std.specs.List.{flat_map, AllByRecursion}
use Rattle.std.proofs.lemmas.Bool.{eqb-true}
use Rattle.ledger_model.specs.GrammarLaws.{IsBytes}
use Rattle.ledger_model.specs.Reading.{◌>>=◌, byte_at}
use Rattle.ledger_model.proofs.Readers.{bind_some, some_is, only_if-some, IsReader, many_takes, many_again, byte_takes}
use Rattle.history_bytes.specs.HistoryReading.{outcome_at, nothing_at, refusal_numbered, only_refusal}

-- ---- steps

-- what a reader took
abbrev pub IsTaken : {X : Type 0} → (X → List ℕ) → (X → Type 0) → List ℕ → X → List ℕ → Type 0
IsTaken spell Is bytes x rest = (bytes ≡ spell x ++ rest) × Is x × IsBytes rest

-- what the first reader took, for what is shown of that
pub taken : {X Y P : Type 0} {spell : X → List ℕ} {Is : X → Type 0} {read : List ℕ → Option (X × List ℕ)} → IsReader spell Is read
    → (bytes : List ℕ) (f : X × List ℕ → Option Y) (y : Y) → IsBytes bytes → (read bytes >>= f) ≡ Some y
    → ((x : X) (rest : List ℕ) → bytes ≡ spell x ++ rest → Is x → IsBytes rest → f (x, rest) ≡ Some y → P) → P
taken {X} {Y} {P} {spell} {Is} {read} reader bytes f y fits e shown =
    let a = bind_some (read bytes) f y e in
    let t = reader.takes bytes a.0.0 a.0.1 fits a.1 in
    shown a.0.0 a.0.1 t.0 t.1 t.2 a.2

-- the branch that was read
pub if_some : {A P : Type 0} (test : Bool) (one other : Option A) (y : A) → cond test one other ≡ Some y → (test ≡ true → one ≡ Some y → P)
    → (test ≡ false → other ≡ Some y → P) → P
if_some true one other y e at_true at_false = at_true refl e
if_some false one other y e at_true at_false = at_false refl e

-- the same reader, with its words spelled otherwise
pub same_reader : {X : Type 0} {spell : X → List ℕ} {Is : X → Type 0} {read : List ℕ → Option (X × List ℕ)} → IsReader spell Is read
    → (again : X → List ℕ) (Also : X → Type 0) → ((x : X) → spell x ≡ again x) → ((x : X) → Is x → Also x) → ((x : X) → Also x → Is x)
    → IsReader again Also read
same_reader {X} {spell} {Is} {read} reader again Also same to from = record {
  takes = λ bytes x rest fits e.
      let t = reader.takes bytes x rest fits e in
      (t.0 ∙ ap (λ (s : List ℕ). s ++ rest) (same x), to x t.1, t.2);
  again = λ x rest is. ap (λ (s : List ℕ). read (s ++ rest)) (sym (same x)) ∙ reader.again x rest (from x is);
}

-- ---- one after the other

-- two parts of which one thing is made
pub pair_reader : {A B X : Type 0} {sa : A → List ℕ} {IsA : A → Type 0} {ra : List ℕ → Option (A × List ℕ)} → IsReader sa IsA ra
    → {sb : B → List ℕ} {IsB : B → Type 0} {rb : List ℕ → Option (B × List ℕ)} → IsReader sb IsB rb → (make : A → B → X) (one : X → A)
    (two : X → B) → ((x : X) → make (one x) (two x) ≡ x) → ((a : A) (b : B) → one (make a b) ≡ a) → ((a : A) (b : B) → two (make a b) ≡ b)
    → IsReader (λ x. sa (one x) ++ sb (two x)) (λ x. IsA (one x) × IsB (two x))
    (λ bytes. ra bytes >>= λ a. rb a.1 >>= λ b. Some (make a.0 b.0, b.1))
pair_reader {A} {B} {X} {sa} {IsA} {ra} first {sb} {IsB} {rb} second make one two whole is_one is_two = record {
  takes = λ bytes x rest fits e.
      taken first bytes (λ a. rb a.1 >>= λ b. Some (make a.0 b.0, b.1)) (x, rest) fits e
      (λ a more a_parts a_is a_fits f. taken second more (λ b. Some (make a b.0, b.1)) (x, rest) a_fits f
      (λ b last b_parts b_is b_fits g.
      let parts : bytes ≡ (sa a ++ sb b) ++ last =
      a_parts ∙ ap (λ (t : List ℕ). sa a ++ t) b_parts ∙ sym (append_assoc (sa a) (sb b) last) in
      let made : X × List ℕ = (make a b, last) in
      let whole_parts : bytes ≡ (sa (one (make a b)) ++ sb (two (make a b))) ++ last =
      parts ∙ ap (λ (t : List ℕ). (t ++ sb b) ++ last) (ap sa (sym (is_one a b)))
      ∙ ap (λ (t : List ℕ). (sa (one (make a b)) ++ t) ++ last) (ap sb (sym (is_two a b))) in
      subst (λ (p : X × List ℕ). (bytes ≡ (sa (one p.0) ++ sb (two p.0)) ++ p.1) × (IsA (one p.0) × IsB (two p.0)) × IsBytes p.1)
      (some_is made (x, rest) g)
      (whole_parts, (subst IsA (sym (is_one a b)) a_is, subst IsB (sym (is_two a b)) b_is), b_fits)));
  again = λ x rest is.
      let regrouped : (sa (one x) ++ sb (two x)) ++ rest ≡ sa (one x) ++ (sb (two x) ++ rest) =
      append_assoc (sa (one x)) (sb (two x)) rest in
      rw (regrouped, first.again (one x) (sb (two x) ++ rest) is.0, second.again (two x) rest is.1, whole x) refl;
}

-- ---- by a count

-- what is read by its size
pub record IsSizedReader {X : Type 0} (spell : X → List ℕ) (Is : X → Type 0) (size : X → ℕ)
    (reads : ℕ → List ℕ → Option (X × List ℕ)) : Type 0 where
  pub takes : (n : ℕ) (bytes : List ℕ) (x : X) (rest : List ℕ) → IsBytes bytes → reads n bytes ≡ Some (x, rest)
      → (bytes ≡ spell x ++ rest) × Is x × IsBytes rest × (size x ≡ n)
  pub again : (x : X) (rest : List ℕ) → Is x → reads (size x) (spell x ++ rest) ≡ Some (x, rest)

-- many things, one after the other
pub many_reader : {X : Type 0} {spell : X → List ℕ} {Is : X → Type 0} {read : List ℕ → Option (X × List ℕ)} → IsReader spell Is read
    → (reads : ℕ → List ℕ → Option (List X × List ℕ)) → ((bytes : List ℕ) → reads zero bytes ≡ Some ([], bytes))
    → ((n : ℕ) (bytes : List ℕ) → reads (suc n) bytes
    ≡ (read bytes >>= λ first. reads n first.1 >>= λ others. Some (first.0 ∷ others.0, others.1)))
    → IsSizedReader (flat_map spell) (AllByRecursion Is) length reads
many_reader reader reads none more = record { takes = many_takes reader reads none more; again = many_again reader reads none more }

-- a size, followed by what has this size
pub counted_reader : {X : Type 0} {count : ℕ → List ℕ} {Fits : ℕ → Type 0} {number : List ℕ → Option (ℕ × List ℕ)}
    → IsReader count Fits number → {spell : X → List ℕ} {Is : X → Type 0} {size : X → ℕ} {reads : ℕ → List ℕ → Option (X × List ℕ)}
    → IsSizedReader spell Is size reads
    → IsReader (λ x. count (size x) ++ spell x) (λ x. Fits (size x) × Is x) (λ bytes. number bytes >>= λ n. reads n.0 n.1)
counted_reader {X} {count} {Fits} {number} first {spell} {Is} {size} {reads} second = record {
  takes = λ bytes x rest fits e.
      taken first bytes (λ n. reads n.0 n.1) (x, rest) fits e
      (λ n more n_parts n_is n_fits f.
      let t = second.takes n more x rest n_fits f in
      let parts : bytes ≡ (count (size x) ++ spell x) ++ rest =
      n_parts ∙ ap (λ (s : List ℕ). count n ++ s) t.0 ∙ ap (λ (k : ℕ). count k ++ (spell x ++ rest)) (sym t.3)
      ∙ sym (append_assoc (count (size x)) (spell x) rest) in
      (parts, (subst Fits (sym t.3) n_is, t.1), t.2));
  again = λ x rest is.
      rw (append_assoc (count (size x)) (spell x) rest, first.again (size x) (spell x ++ rest) is.0) (second.again x rest is.1);
}

-- ---- by a number

-- what is read after its number
pub record IsTagged {X : Type 0} (number : X → ℕ) (tail : X → List ℕ) (Is : X → Type 0)
    (reads : ℕ → List ℕ → Option (X × List ℕ)) : Type 0 where
  pub takes : (n : ℕ) (bytes : List ℕ) (x : X) (rest : List ℕ) → IsBytes bytes → reads n bytes ≡ Some (x, rest)
      → (bytes ≡ tail x ++ rest) × Is x × IsBytes rest × (number x ≡ n)
  pub again : (x : X) (rest : List ℕ) → Is x → reads (number x) (tail x ++ rest) ≡ Some (x, rest)

-- what was read, as one of several kinds of things
abbrev pub as_kind : {X E : Type 0} → (X → E) → Option (X × List ℕ) → Option (E × List ℕ)
as_kind {X} {E} kind read = read >>= shown
  where
    shown : X × List ℕ → Option (E × List ℕ)
    shown x = Some (kind x.0, x.1)

-- one of several kinds of things, each with a reader
pub branch_takes : {X E : Type 0} {spell : X → List ℕ} {Is : X → Type 0} {read : List ℕ → Option (X × List ℕ)} → IsReader spell Is read
    → (number : E → ℕ) (tail : E → List ℕ) (IsE : E → Type 0) (kind : X → E) (n : ℕ) → ((x : X) → number (kind x) ≡ n)
    → ((x : X) → spell x ≡ tail (kind x)) → ((x : X) → Is x → IsE (kind x)) → (bytes : List ℕ) (y : E) (rest : List ℕ) → IsBytes bytes
    → as_kind kind (read bytes) ≡ Some (y, rest)
    → (bytes ≡ tail y ++ rest) × IsE y × IsBytes rest × (number y ≡ n)
branch_takes {X} {E} {spell} {Is} {read} reader number tail IsE kind n numbers spells is_e bytes y rest fits e =
    let shown : X × List ℕ → Option (E × List ℕ) = λ x. Some (kind x.0, x.1) in
    taken reader bytes shown (y, rest) fits e
    (λ x more x_parts x_is x_fits f.
    let made : E × List ℕ = (kind x, more) in
    subst (λ (p : E × List ℕ). (bytes ≡ tail p.0 ++ p.1) × IsE p.0 × IsBytes p.1 × (number p.0 ≡ n)) (some_is made (y, rest) f)
    (x_parts ∙ ap (λ (s : List ℕ). s ++ more) (spells x), is_e x x_is, x_fits, numbers x))

-- nothing at all
abbrev pub nothing_bytes : Unit {0} → List ℕ
nothing_bytes _ = []

abbrev pub IsNothing : Unit {0} → Type 0
IsNothing _ = Unit {0}

pub nothing_reader : IsReader nothing_bytes IsNothing nothing_at
nothing_reader = record {
  takes = λ bytes x rest fits e.
      let made : Unit {0} × List ℕ = (tt, bytes) in
      subst (λ (p : Unit {0} × List ℕ). (bytes ≡ p.1) × Unit {0} × IsBytes p.1) (some_is made (x, rest) e) (refl, tt, fits);
  again = λ x rest is. refl;
}

-- ---- refusals by their number

-- a refusal that is its number alone
pub numbered_tagged : {E : Type 0} (number : E → ℕ) (of : ℕ → Option E) → ((n : ℕ) (r : E) → of n ≡ Some r → number r ≡ n)
    → ((r : E) → of (number r) ≡ Some r) → IsTagged number (λ _. []) (λ _. Unit {0}) (refusal_numbered of)
numbered_tagged {E} number of is_number back = record {
  takes = λ n bytes r rest fits e.
      let a = bind_some (of n) (λ x. Some (x, bytes)) (r, rest) e in
      let made : E × List ℕ = (a.0, bytes) in
      subst (λ (p : E × List ℕ). (bytes ≡ p.1) × Unit {0} × IsBytes p.1 × (number p.0 ≡ n)) (some_is made (r, rest) a.2)
      (refl, tt, fits, is_number n a.0 a.1);
  again = λ r rest is. rw (back r) refl;
}

-- the only refusal of its kind
pub only_tagged : {E : Type 0} (only : E) → ((r : E) → only ≡ r)
    → IsTagged (λ (r : E). 1) (λ _. []) (λ _. Unit {0}) (refusal_numbered (only_refusal only))
only_tagged {E} only one = numbered_tagged (λ (r : E). 1) (only_refusal only)
    (λ n r e. sym (eqb-true n 1 (only_if-some (eqb n 1) only r e).0))
    (λ r. ap (λ (x : E). Some x) (one r))

-- ---- outcomes

-- 0 and the result, or the number of the refusal and its data
abbrev pub outcome_bytes : {T E : Type 0} → (T → List ℕ) → (E → ℕ) → (E → List ℕ) → Result T E → List ℕ
outcome_bytes success number tail (Ok x) = 0 ∷ success x
outcome_bytes success number tail (Err r) = number r ∷ tail r

abbrev pub IsOutcome : {T E : Type 0} → (T → Type 0) → (E → Type 0) → Result T E → Type 0
IsOutcome IsT IsE (Ok x) = IsT x
IsOutcome IsT IsE (Err r) = IsE r

pub outcome_reader : {T E : Type 0} {spell : T → List ℕ} {IsT : T → Type 0} {read : List ℕ → Option (T × List ℕ)} → IsReader spell IsT read
    → {number : E → ℕ} {tail : E → List ℕ} {IsE : E → Type 0} {reads : ℕ → List ℕ → Option (E × List ℕ)} → IsTagged number tail IsE reads
    → ((r : E) → eqb (number r) 0 ≡ false)
    → IsReader (outcome_bytes spell number tail) (IsOutcome IsT IsE) (outcome_at read reads)
outcome_reader {T} {E} {spell} {IsT} {read} success {number} {tail} {IsE} {reads} refusals some =
    record { takes = takes; again = again }
  where
    success_of : T × List ℕ → Option (Result T E × List ℕ)
    success_of t = Some (Ok t.0, t.1)

    refusal_of : E × List ℕ → Option (Result T E × List ℕ)
    refusal_of r = Some (Err r.0, r.1)

    at_number : (bytes : List ℕ) (x : Result T E) (rest : List ℕ) (n : ℕ) (more : List ℕ) → bytes ≡ n ∷ more → IsBytes more
        → cond (eqb n 0) (read more >>= success_of) (reads n more >>= refusal_of) ≡ Some (x, rest)
        → IsTaken (outcome_bytes spell number tail) (IsOutcome IsT IsE) bytes x rest
    at_number bytes x rest n more parts fits e =
        if_some (eqb n 0) (read more >>= success_of) (reads n more >>= refusal_of) (x, rest) e
        (λ is f. taken success more success_of (x, rest) fits f
        (λ t last t_parts t_is t_fits g.
        let zero_is : n ≡ 0 = eqb-true n 0 is in
        let made : Result T E × List ℕ = (Ok t, last) in
        subst (λ (p : Result T E × List ℕ). IsTaken (outcome_bytes spell number tail) (IsOutcome IsT IsE) bytes p.0 p.1)
        (some_is made (x, rest) g)
        (parts ∙ ap (λ (k : ℕ). k ∷ more) zero_is ∙ ap (λ (s : List ℕ). 0 ∷ s) t_parts, t_is, t_fits)))
        (λ is f.
        let a = bind_some (reads n more) refusal_of (x, rest) f in
        let t = refusals.takes n more a.0.0 a.0.1 fits a.1 in
        let made : Result T E × List ℕ = (Err a.0.0, a.0.1) in
        subst (λ (p : Result T E × List ℕ). IsTaken (outcome_bytes spell number tail) (IsOutcome IsT IsE) bytes p.0 p.1)
        (some_is made (x, rest) a.2)
        (parts ∙ ap (λ (k : ℕ). k ∷ more) (sym t.3) ∙ ap (λ (s : List ℕ). number a.0.0 ∷ s) t.0, t.1, t.2))

    takes : (bytes : List ℕ) (x : Result T E) (rest : List ℕ) → IsBytes bytes → outcome_at read reads bytes ≡ Some (x, rest)
        → (bytes ≡ outcome_bytes spell number tail x ++ rest) × IsOutcome IsT IsE x × IsBytes rest
    takes bytes x rest fits e =
        let a = bind_some (byte_at bytes) (λ n. cond (eqb n.0 0) (read n.1 >>= success_of) (reads n.0 n.1 >>= refusal_of)) (x, rest) e in
        let first = byte_takes bytes a.0.0 a.0.1 fits a.1 in
        at_number bytes x rest a.0.0 a.0.1 first.0 first.2 a.2

    again : (x : Result T E) (rest : List ℕ) → IsOutcome IsT IsE x
        → outcome_at read reads (outcome_bytes spell number tail x ++ rest) ≡ Some (x, rest)
    again (Ok x) rest is = rw (success.again x rest is) refl
    again (Err r) rest is = rw (some r, refusals.again r rest is) refl
