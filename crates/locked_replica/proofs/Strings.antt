-- Tables of strings that grow, and the strings of a history with one more entry.
use Rattle.std.proofs.Common.{◌≡◌, ℕ, ◌<◌, Bool, true, false, ◌||◌, cond, inl, inr, List, [], ◌∷◌, ◌++◌, length, take, refl, sym, ap, subst}
use Rattle.std.proofs.Common.{◌∙◌, append_assoc, length-append, arith}
use Rattle.std.specs.Prelude.{Some, slice_get}
use Rattle.std.proofs.Math.Seq.{take-append_seam}
use Rattle.std.proofs.lemmas.Bool.{cases_Bool}
use Rattle.std.proofs.lemmas.Grind.{flat_map-append}
use Rattle.std.proofs.lemmas.List.{append-nil, get_or_append_left}
use Rattle.std.proofs.lemmas.List.Folds.{list_any-append}
use Rattle.std.proofs.lemmas.Option.{get_or_from_slice_get, slice_get_within}
use Rattle.ledger_model.specs.Values.{same_bytes}
use Rattle.ledger_model.specs.Pools.{is_among}
use Rattle.ledger_model.specs.declared.history.Entry.{Entry}
use Rattle.std.proofs.Math.Bool.{or-false}
use Rattle.locked_replica.proofs.Found.{bytes_equal}
use Rattle.locked_replica.specs.Strings.{with_string, with_strings, strings_in, strings_of, all_strings, string_at, Extends, HaveSame}

-- ---- a table that grows

-- nothing was put in
pub extends_none : (strings : List (List ℕ)) → Extends strings strings
extends_none strings = record { more = []; is = sym (append-nil strings) }

-- one string was put in
pub extends_one : (strings : List (List ℕ)) (s : List ℕ) → Extends strings (with_string strings s)
extends_one strings s = elim (is_among strings s) as (λ b. Extends strings (cond b strings (strings ++ s ∷ []))) [
  | true ↦ extends_none strings
  | false ↦ record { more = s ∷ []; is = refl }
]

-- it grew, and then again
pub extends_more : (old mid new : List (List ℕ)) → Extends old mid → Extends mid new → Extends old new
extends_more old mid new first second = record {
  more = first.more ++ second.more;
  is = second.is ∙ ap (λ l. l ++ second.more) first.is ∙ append_assoc old first.more second.more;
}

-- a position of the old table is one of the new
pub within_still : (old new : List (List ℕ)) (position : ℕ) → Extends old new → position < length old → position < length new
within_still old new position grown below =
    subst (λ l. position < length l) (sym grown.is) (omega (arith, length-append old grown.more, below))

-- and the string there stays
pub string_still : (old new : List (List ℕ)) (position : ℕ) → Extends old new → position < length old
    → string_at new position ≡ string_at old position
string_still old new position grown below =
    ap (λ l. string_at l position) grown.is ∙ get_or_append_left old grown.more [] position below

-- cut back to its old length, it is the old table
pub cut_back : (old new : List (List ℕ)) → Extends old new → take (length old) new ≡ old
cut_back old new grown = ap (take (length old)) grown.is ∙ take-append_seam old grown.more

-- a string that stands at a position is the string there
pub put_within : (strings : List (List ℕ)) (position : ℕ) (s : List ℕ) → slice_get strings position ≡ Some s → position < length strings
put_within strings position s there = slice_get_within strings position s there

pub put_at : (strings : List (List ℕ)) (position : ℕ) (s : List ℕ) → slice_get strings position ≡ Some s → string_at strings position ≡ s
put_at strings position s there = get_or_from_slice_get strings position s [] there

-- ---- the strings of a history

-- some strings, and then others
pub with_strings-append : (strings xs ys : List (List ℕ)) → with_strings strings (xs ++ ys) ≡ with_strings (with_strings strings xs) ys
with_strings-append strings [] ys = refl
with_strings-append strings (x ∷ xs) ys = with_strings-append (with_string strings x) xs ys

-- one more entry adds its strings
pub strings_of-snoc : (entries : List Entry) (e : Entry) → strings_of (entries ++ e ∷ []) ≡ with_strings (strings_of entries) (strings_in e)
strings_of-snoc entries e =
    ap (with_strings []) (flat_map-append strings_in entries (e ∷ []) ∙ ap (λ l. all_strings entries ++ l) (append-nil (strings_in e)))
    ∙ with_strings-append [] (all_strings entries) (strings_in e)

-- ---- which strings a table has

-- with one more it has that one, and what it had
among_with : (strings : List (List ℕ)) (s x : List ℕ) → is_among (with_string strings s) x ≡ (is_among strings x || same_bytes x s)
among_with strings s x =
    elim (cases_Bool (is_among strings s)) [
      | inl there ↦ simp there (elim (cases_Bool (same_bytes x s)) [
        | inl same ↦
            let has : is_among strings x ≡ true = ap (is_among strings) (bytes_equal x s same) ∙ there in
            has ∙ sym (ap (λ b. b || same_bytes x s) has)
        | inr other ↦ sym (ap (λ b. is_among strings x || b) other ∙ or-false (is_among strings x))
      ])
      | inr new ↦ simp new (list_any-append (same_bytes x) strings (s ∷ [])
          ∙ ap (λ b. is_among strings x || b) (or-false (same_bytes x s)))
    ]

-- with more, it has those and what it had
among_all : (strings ss : List (List ℕ)) (x : List ℕ) → is_among (with_strings strings ss) x ≡ (is_among strings x || is_among ss x)
among_all strings [] x = sym (or-false (is_among strings x))
among_all strings (s ∷ ss) x =
    among_all (with_string strings s) ss x ∙ ap (λ b. b || is_among ss x) (among_with strings s x)
    ∙ regroup (is_among strings x) (same_bytes x s) (is_among ss x)
  where
    regroup : (a b c : Bool) → ((a || b) || c) ≡ (a || (b || c))
    regroup true b c = refl
    regroup false b c = refl

-- the strings of a history are all that it has
pub same_strings : (entries : List Entry) → HaveSame (strings_of entries) (all_strings entries)
same_strings entries x = among_all [] (all_strings entries) x
