-- Numbers for the frames, one by one.
use Rattle.std.proofs.Common.{◌≡◌, ◌∙◌, ℕ, ◌+◌, ◌<◌, ◌≤◌, List, [], ◌∷◌, ◌++◌, length, get_or, refl, sym, ap, subst, ◌⊎◌, inl, inr, Bool}
use Rattle.std.proofs.Common.{true, false, cond, arith, length-append}
use Rattle.std.specs.Prelude.{Some, slice_get}
use Rattle.std.proofs.lemmas.List.{get_or_append_left}
use Rattle.std.specs.List.{IsDistinct}
use Rattle.std.proofs.Common.{zero, suc}
use Rattle.ledger_model.specs.Values.{same_bytes}
use Rattle.std.proofs.lemmas.Option.{slice_get_within, get_or_from_slice_get}
use Rattle.locked_replica.specs.Strings.{with_string}
use Rattle.ledger_model.specs.Pools.{is_among}
use Rattle.run_picture.specs.declared.sent_frames.SentFrame.{SentFrame}
use Rattle.run_picture.specs.Incoming.{IsNumbering}

-- the first n sent frames have their numbers
pub record AreNumbered (sent : List SentFrame) (strings : List (List ℕ)) (numbers : List ℕ) (n : ℕ) : Type 0 where
  pub count : length numbers ≡ n
  pub bytes_at : (j : ℕ) (s : SentFrame) → j < n → slice_get sent j ≡ Some s → slice_get strings (get_or numbers j 0) ≡ Some s.bytes

-- a string that the table has stays where it is
still_there : (strings : List (List ℕ)) (s : List ℕ) (k : ℕ) (x : List ℕ) → slice_get strings k ≡ Some x
    → slice_get (with_string strings s) k ≡ Some x
still_there strings s k x at = by (is_among strings s)
  where
    left : (xs ys : List (List ℕ)) (k : ℕ) → slice_get xs k ≡ Some x → slice_get (xs ++ ys) k ≡ Some x
    left [] ys k h = absurd (cc)
    left (z ∷ zs) ys zero h = h
    left (z ∷ zs) ys (suc k) h = left zs ys k h

    by : (b : Bool) → slice_get (cond b strings (strings ++ s ∷ [])) k ≡ Some x
    by true = at
    by false = left strings (s ∷ []) k at

-- one frame more has its number
pub numbered_next : (sent : List SentFrame) (strings next : List (List ℕ)) (numbers more : List ℕ) (n position : ℕ) (t : SentFrame)
    (bytes : List ℕ)
    → n < length sent → t ≡ get_or sent n t → bytes ≡ t.bytes → next ≡ with_string strings bytes → slice_get next position ≡ Some bytes
    → more ≡ numbers ++ position ∷ [] → AreNumbered sent strings numbers n → AreNumbered sent next more (n + 1)
numbered_next sent strings next numbers more n position t bytes inside is same grows at adds before = record {
  count = ap length adds ∙ length-append numbers (position ∷ []) ∙ ap (λ k. k + 1) before.count;
  bytes_at = λ j s below there. elim (last_or j below) [
    | inl earlier ↦
        let kept : slice_get next (get_or numbers j 0) ≡ Some s.bytes =
        subst (λ table. slice_get table (get_or numbers j 0) ≡ Some s.bytes) (sym grows)
        (still_there strings bytes (get_or numbers j 0) s.bytes (before.bytes_at j s earlier there)) in
        ap (slice_get next) (ap (λ l. get_or l j 0) adds ∙ get_or_append_left numbers (position ∷ []) 0 j
        (in_numbers j earlier before.count)) ∙ kept
    | inr last ↦
        let one : s ≡ t = at_last s (subst (λ k. slice_get sent k ≡ Some s) last there) in
        ap (slice_get next) (ap (λ l. get_or l j 0) adds ∙ end_of numbers position j (before.count ∙ sym last)) ∙ at ∙ ap (λ b. Some b) same
        ∙ ap (λ (x : SentFrame). Some x.bytes) (sym one)
  ];
}
  where
    last_or : (j : ℕ) → j < n + 1 → (j < n) ⊎ (j ≡ n)
    last_or j below = grind (arith)

    in_numbers : (j : ℕ) → j < n → length numbers ≡ n → j < length numbers
    in_numbers j below count = omega (arith, below, count)

    at_last : (s : SentFrame) → slice_get sent n ≡ Some s → s ≡ t
    at_last s there = sym (get_or_from_slice_get sent n s t there) ∙ sym is

    end_of : (xs : List ℕ) (x j : ℕ) → length xs ≡ j → get_or (xs ++ x ∷ []) j 0 ≡ x
    end_of [] x j count = subst (λ k. get_or (x ∷ []) k 0 ≡ x) count refl
    end_of (y ∷ ys) x j count = subst (λ k. get_or (y ∷ (ys ++ x ∷ [])) k 0 ≡ x) count (end_of ys x (length ys) refl)

-- all frames have theirs
pub all_numbered : (sent : List SentFrame) (strings : List (List ℕ)) (numbers : List ℕ) (n : ℕ) → n ≤ length sent → length sent ≤ n
    → IsDistinct same_bytes strings → AreNumbered sent strings numbers n → IsNumbering sent strings numbers
all_numbered sent strings numbers n low high distinct before = record {
  count = let count : length numbers ≡ n = before.count in omega arith;
  bytes_at = λ j s there. before.bytes_at j s (let within = slice_get_within sent j s there in omega arith) there;
  distinct = distinct;
}
