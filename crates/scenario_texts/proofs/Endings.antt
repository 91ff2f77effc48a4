-- The lines so far, and what their text may still encode.
use Rattle.ledger_model.specs.declared.config.AppKinds.{AppKinds}
use Rattle.std.proofs.Common.{◌≡◌, ◌∙◌, ℕ, ◌+◌, ◌<◌, ◌≤◌, Bool, true, false, cond, List, [], ◌∷◌, ◌++◌, length, refl, sym, ap, subst, inl}
use Rattle.std.proofs.Common.{inr, append_assoc, arith}
use Rattle.std.specs.Prelude.{◌≢◌, ◌⊎◌, ◌==◌, Option, Some, None}
use Rattle.std.specs.List.{flat_map, AllByRecursion}
use Rattle.std.proofs.lemmas.Bool.{eqb-true}
use Rattle.std.proofs.lemmas.List.{append-nil, length-append}
use Rattle.std.proofs.lemmas.List.Concat.{flat_map-append}
use Rattle.std.proofs.lemmas.List.Elements.{All-head, All-tail, filter-append}
use Rattle.std.proofs.SliceLists.{all_by_recursion_push}
use Rattle.scenario_texts.specs.Plans.{Plan}
use Rattle.scenario_texts.specs.Lawful.{IsPlan}
use Rattle.scenario_texts.specs.Texts.{plan_lines}
use Rattle.scenario_texts.specs.Lines.{max_lines, whole_line, IsUnbroken, counts, counted_lines, line_limit, AreWithinLengths, SpellsPlan, IsPlanSoFar, IsBadAt}
use Rattle.scenario_texts.specs.Reading.{next_of, limit_after}
use Rattle.scenario_texts.proofs.LineLimits.{short_more, no_line, limit_is}
use Rattle.scenario_texts.proofs.LineReading.{Shows, line_shows, line_of_words}
use Rattle.scenario_texts.proofs.Runs.{run, run-append, run-cons, run-bad, plan_again}

-- these lines were read, and gave this
pub record Going (kinds : AppKinds) (text left : List ℕ) (number : ℕ) (s : Option Plan) : Type 0 where
  pub lines : List (List ℕ)
  pub whole : text ≡ flat_map whole_line lines ++ left
  pub unbroken : AllByRecursion IsUnbroken lines
  pub numbered : number ≡ length lines + 1
  pub few : length lines ≤ max_lines
  pub short : AreWithinLengths lines
  pub read : run kinds None (counted_lines lines) ≡ Some s
  pub shows : Shows kinds s (counted_lines lines)

-- before the first line
pub started : (kinds : AppKinds) (text : List ℕ) → Going kinds text text 1 None
unfolding run
started kinds text = record {
  lines = [];
  whole = refl;
  unbroken = tt;
  numbered = omega arith;
  few = omega arith;
  short = λ before after line e. absurd (no_line before after line e);
  read = refl;
  shows = refl;
}

-- the limit of the next line is that of the plan so far
at_limit : (kinds : AppKinds) (text left : List ℕ) (number : ℕ) (s : Option Plan) (going : Going kinds text left number s) (line : List ℕ)
    → length line ≤ limit_after s → length line ≤ line_limit going.lines
at_limit kinds text left number s going line short =
    subst (λ (limit : ℕ). length line ≤ limit) (sym (limit_is kinds s going.lines going.shows)) short

-- the text with a line more
pub whole_more : (text : List ℕ) (lines : List (List ℕ)) (left line rest : List ℕ) → text ≡ flat_map whole_line lines ++ left
    → left ≡ line ++ 10 ∷ rest → text ≡ flat_map whole_line (lines ++ line ∷ []) ++ rest
whole_more text lines left line rest whole cut =
    whole ∙ ap (λ l. flat_map whole_line lines ++ l) (cut ∙ sym (append_assoc line (10 ∷ []) rest))
    ∙ sym (append_assoc (flat_map whole_line lines) (whole_line line) rest)
    ∙ ap (λ t. t ++ rest) (sym (flat_map-append whole_line lines (line ∷ []) ∙ ap (λ l. flat_map whole_line lines ++ l) (append-nil (whole_line line))))

-- a line more that counts, among those that count
counted_more : (lines : List (List ℕ)) (line : List ℕ) → counts line ≡ true → counted_lines (lines ++ line ∷ []) ≡ counted_lines lines ++ line ∷ []
counted_more lines line yes' = filter-append counts lines (line ∷ []) ∙ ap (λ (t : Bool). counted_lines lines ++ cond t (line ∷ []) []) yes'

-- one that is passed over
passed_more : (lines : List (List ℕ)) (line : List ℕ) → counts line ≡ false → counted_lines (lines ++ line ∷ []) ≡ counted_lines lines
passed_more lines line over = filter-append counts lines (line ∷ []) ∙ ap (λ (t : Bool). counted_lines lines ++ cond t (line ∷ []) []) over
    ∙ append-nil (counted_lines lines)

-- a line that is passed over
pub goes_over : (kinds : AppKinds) (text left : List ℕ) (number : ℕ) (s : Option Plan) (line rest : List ℕ) → Going kinds text left number s
    → left ≡ line ++ 10 ∷ rest → IsUnbroken line → number ≤ max_lines → length line ≤ limit_after s
    → counts line ≡ false → Going kinds text rest (number + 1) s
goes_over kinds text left number s line rest going cut unbroken few short over = record {
  lines = going.lines ++ line ∷ [];
  whole = whole_more text going.lines left line rest going.whole cut;
  unbroken = all_by_recursion_push IsUnbroken going.lines line going.unbroken unbroken;
  numbered = omega (arith, going.numbered, length-append going.lines (line ∷ []));
  few = omega (arith, going.numbered, length-append going.lines (line ∷ []));
  short = short_more going.lines line going.short (at_limit kinds text left number s going line short);
  read = ap (run kinds None) (passed_more going.lines line over) ∙ going.read;
  shows = subst (Shows kinds s) (sym (passed_more going.lines line over)) going.shows;
}

-- a line that counts
pub goes_further : (kinds : AppKinds) (text left : List ℕ) (number : ℕ) (s : Option Plan) (line rest : List ℕ) (p : Plan) → Going kinds text left number s
    → left ≡ line ++ 10 ∷ rest → IsUnbroken line → number ≤ max_lines → length line ≤ limit_after s
    → counts line ≡ true → next_of kinds s line ≡ Some p → Going kinds text rest (number + 1) (Some p)
unfolding run
goes_further kinds text left number s line rest p going cut unbroken few short is next =
    let more = line_shows kinds s line p (counted_lines going.lines) next going.shows in
    let same : counted_lines (going.lines ++ line ∷ []) ≡ counted_lines going.lines ++ line ∷ [] = counted_more going.lines line is in
    record {
      lines = going.lines ++ line ∷ [];
      whole = whole_more text going.lines left line rest going.whole cut;
      unbroken = all_by_recursion_push IsUnbroken going.lines line going.unbroken unbroken;
      numbered = omega (arith, going.numbered, length-append going.lines (line ∷ []));
      few = omega (arith, going.numbered, length-append going.lines (line ∷ []));
      short = short_more going.lines line going.short (at_limit kinds text left number s going line short);
      read = ap (run kinds None) same ∙ run-append kinds None s (counted_lines going.lines) (line ∷ []) going.read ∙ run-cons kinds s line [] p next;
      shows = (same ∙ ap (λ l. counted_lines going.lines ++ l ∷ []) (sym (line_of_words line)) ∙ more.spelled, more.lawful);
    }

-- so far nothing is wrong
going_on : (kinds : AppKinds) (text left : List ℕ) (number : ℕ) (s : Option Plan) (going : Going kinds text left number s) → IsPlanSoFar kinds going.lines
going_on kinds text left number None going = record { short = going.short; begun = inl going.shows }
going_on kinds text left number (Some p) going = record { short = going.short; begun = inr (p, going.shows) }

-- a text has one first line
pub first_same : (a b x y : List ℕ) → IsUnbroken a → IsUnbroken b → a ++ 10 ∷ x ≡ b ++ 10 ∷ y → (a ≡ b) × (x ≡ y)
first_same [] [] x y p q e = (refl, cc)
first_same [] (c ∷ b) x y p q e = let bad : c ≡ 10 = cc in absurd (All-head (λ d. d ≢ 10) c b q bad)
first_same (c ∷ a) [] x y p q e = let bad : c ≡ 10 = cc in absurd (All-head (λ d. d ≢ 10) c a p bad)
first_same (c ∷ a) (d ∷ b) x y p q e =
    let heads : c ≡ d = cc in
    let tails : a ++ 10 ∷ x ≡ b ++ 10 ∷ y = cc in
    let (same, rest) = first_same a b x y (All-tail (λ d. d ≢ 10) c a p) (All-tail (λ d. d ≢ 10) d b q) tails in
    (cc (heads, same), rest)

-- a line feed somewhere isn't nothing
some_feed : (a x : List ℕ) → a ++ 10 ∷ x ≡ [] → ⊥
some_feed [] x e = cc
some_feed (c ∷ a) x e = cc

-- the lines of a text begin with those that were read
rest_of_lines : (lines others : List (List ℕ)) (left : List ℕ) → AllByRecursion IsUnbroken lines → AllByRecursion IsUnbroken others
    → flat_map whole_line lines ++ left ≡ flat_map whole_line others
    → (more : List (List ℕ)) × ((others ≡ lines ++ more) × (left ≡ flat_map whole_line more))
rest_of_lines [] others left u v e = (others, (refl, e))
rest_of_lines (l ∷ lines) [] left u v e = absurd (some_feed l (flat_map whole_line lines ++ left) (sym (joined l lines left) ∙ e))
  where
    joined : (l : List ℕ) (ls : List (List ℕ)) (left : List ℕ)
        → (whole_line l ++ flat_map whole_line ls) ++ left ≡ l ++ 10 ∷ (flat_map whole_line ls ++ left)
    joined l ls left = append_assoc (whole_line l) (flat_map whole_line ls) left ∙ append_assoc l (10 ∷ []) (flat_map whole_line ls ++ left)
rest_of_lines (l ∷ lines) (o ∷ others) left (p, u) (q, v) e =
    let here : (whole_line l ++ flat_map whole_line lines) ++ left ≡ l ++ 10 ∷ (flat_map whole_line lines ++ left) =
    append_assoc (whole_line l) (flat_map whole_line lines) left ∙ append_assoc l (10 ∷ []) (flat_map whole_line lines ++ left) in
    let there : whole_line o ++ flat_map whole_line others ≡ o ++ 10 ∷ flat_map whole_line others = append_assoc o (10 ∷ []) (flat_map whole_line others) in
    let (same, rest) = first_same l o (flat_map whole_line lines ++ left) (flat_map whole_line others) p q (sym here ∙ e ∙ there) in
    let (more, (tails, ends)) = rest_of_lines lines others left u v rest in
    (more, (cc (same, tails), ends))

-- the second part, of which each holds
pub each_second : (P : List ℕ → Type 0) (xs ys : List (List ℕ)) → AllByRecursion P (xs ++ ys) → AllByRecursion P ys
each_second P [] ys all = all
each_second P (x ∷ xs) ys (first, all) = each_second P xs ys all

-- what is left of a text that spells a plan
record Rest (kinds : AppKinds) (left : List ℕ) (number : ℕ) (s : Option Plan) (q : Plan) : Type 0 where
  more : List (List ℕ)
  whole : left ≡ flat_map whole_line more
  unbroken : AllByRecursion IsUnbroken more
  few : number + length more ≤ max_lines + 1
  short : (line : List ℕ) (after : List (List ℕ)) → more ≡ line ∷ after → length line ≤ limit_after s
  read : run kinds s (counted_lines more) ≡ Some (Some q)

rest_of : (kinds : AppKinds) (text left : List ℕ) (number : ℕ) (s : Option Plan) (q : Plan) → Going kinds text left number s → SpellsPlan kinds text q → Rest kinds left number s q
rest_of kinds text left number s q going spells =
    let (more, (others, ends)) = rest_of_lines going.lines spells.lines left going.unbroken spells.unbroken
    (sym going.whole ∙ spells.whole) in
    let those : counted_lines spells.lines ≡ counted_lines going.lines ++ counted_lines more = ap counted_lines others ∙ filter-append counts going.lines more in
    let count : length spells.lines ≡ length going.lines + length more = ap length others ∙ length-append going.lines more in
    record {
      more = more;
      whole = ends;
      unbroken = each_second IsUnbroken going.lines more (subst (AllByRecursion IsUnbroken) others spells.unbroken);
      few = omega (arith, going.numbered, spells.few, count);
      short = λ line after first. subst (λ (limit : ℕ). length line ≤ limit) (limit_is kinds s going.lines going.shows)
          (spells.short going.lines after line (others ∙ ap (λ (m : List (List ℕ)). going.lines ++ m) first));
      read = sym (run-append kinds None s (counted_lines going.lines) (counted_lines more) going.read) ∙ ap (run kinds None) (sym those ∙ spells.those)
          ∙ plan_again kinds q spells.lawful;
    }

-- why the line is bad
pub data IsBad (kinds : AppKinds) (number : ℕ) (s : Option Plan) (line : List ℕ) : Type 0 where
  too_many : max_lines < number → IsBad kinds number s line
  too_long : limit_after s < length line → IsBad kinds number s line
  refused : counts line ≡ true → next_of kinds s line ≡ None → IsBad kinds number s line

-- no text that has it there spells a plan
bad_rest : (kinds : AppKinds) (number : ℕ) (s : Option Plan) (line rest : List ℕ) (q : Plan) → IsUnbroken line → IsBad kinds number s line
    → Rest kinds (line ++ 10 ∷ rest) number s q → ⊥
bad_rest kinds number s line rest q unbroken bad left = by_more left.more left.whole left.unbroken left.few left.short left.read
  where
    by_reason : (more : List (List ℕ)) → IsBad kinds number s line → number + length (line ∷ more) ≤ max_lines + 1 → length line ≤ limit_after s
        → run kinds s (counted_lines (line ∷ more)) ≡ Some (Some q) → ⊥
    by_reason more (too_many many) few short read = omega (arith, many, few)
    by_reason more (too_long long) few short read = omega (arith, long, short)
    by_reason more (refused is none) few short read =
        let there : counted_lines (line ∷ more) ≡ line ∷ counted_lines more = ap (λ (t : Bool). cond t (line ∷ counted_lines more) (counted_lines more)) is in
        let nothing : None ≡ Some (Some q) = sym (run-bad kinds s line (counted_lines more) none) ∙ ap (run kinds s) (sym there) ∙ read in
        cc

    by_more : (more : List (List ℕ)) → line ++ 10 ∷ rest ≡ flat_map whole_line more → AllByRecursion IsUnbroken more
        → number + length more ≤ max_lines + 1
        → ((first : List ℕ) (after : List (List ℕ)) → more ≡ first ∷ after → length first ≤ limit_after s)
        → run kinds s (counted_lines more) ≡ Some (Some q) → ⊥
    by_more [] whole u few short read = some_feed line rest whole
    by_more (o ∷ more) whole (v, u) few short read =
        let same : line ≡ o = (first_same line o rest (flat_map whole_line more) unbroken v
        (whole ∙ append_assoc o (10 ∷ []) (flat_map whole_line more))).0 in
        by_reason more bad few (subst (λ (l : List ℕ). length l ≤ limit_after s) (sym same) (short o more refl))
        (subst (λ (l : List ℕ). run kinds s (counted_lines (l ∷ more)) ≡ Some (Some q)) (sym same) read)

-- with it the lines don't go on
not_on : (kinds : AppKinds) (text left : List ℕ) (number : ℕ) (s : Option Plan) (line : List ℕ) (going : Going kinds text left number s) → IsBad kinds number s line
    → (max_lines ≤ length going.lines) ⊎ (IsPlanSoFar kinds (going.lines ++ line ∷ []) → ⊥)
not_on kinds text left number s line going (too_many many) = inl (omega (arith, many, going.numbered))
not_on kinds text left number s line going (too_long long) =
    inr (λ on. let short : length line ≤ limit_after s =
    subst (λ (limit : ℕ). length line ≤ limit) (limit_is kinds s going.lines going.shows) (on.short going.lines [] line refl) in
    omega (arith, long, short))
not_on kinds text left number s line going (refused is none) = inr (λ on. by_begun on.begun)
  where
    there : counted_lines (going.lines ++ line ∷ []) ≡ counted_lines going.lines ++ line ∷ []
    there = counted_more going.lines line is

    some_line : (xs : List (List ℕ)) → xs ++ line ∷ [] ≡ [] → ⊥
    some_line [] e = cc
    some_line (x ∷ xs) e = cc

    by_begun : (counted_lines (going.lines ++ line ∷ []) ≡ []) ⊎ ((p : Plan) × ((counted_lines (going.lines ++ line ∷ []) ≡ plan_lines p) × IsPlan kinds p))
        → ⊥
    by_begun (inl nothing) = some_line (counted_lines going.lines) (sym there ∙ nothing)
    by_begun (inr (p, (spelled, lawful))) =
        let bad : None ≡ Some (Some p) =
        sym (run-append kinds None s (counted_lines going.lines) (line ∷ []) going.read ∙ run-bad kinds s line [] none)
        ∙ ap (run kinds None) (sym there ∙ spelled) ∙ plan_again kinds p lawful in
        cc

-- the line is the first bad one, and the text spells nothing
pub bad_line : (kinds : AppKinds) (text left : List ℕ) (number : ℕ) (s : Option Plan) (line rest : List ℕ) → Going kinds text left number s
    → left ≡ line ++ 10 ∷ rest → IsUnbroken line → IsBad kinds number s line
    → IsBadAt kinds text number × ((q : Plan) → SpellsPlan kinds text q → ⊥)
bad_line kinds text left number s line rest going cut unbroken bad = (
  record {
    before = going.lines;
    rest = left;
    whole = going.whole;
    unbroken = going.unbroken;
    few = going.few;
    numbered = going.numbered;
    goes_on = going_on kinds text left number s going;
    bad = inl (record {
      line = line;
      after = rest;
      ends = cut ∙ sym (append_assoc line (10 ∷ []) rest);
      unbroken = unbroken;
      bad =
          not_on kinds text left number s line going bad;
    });
  },
  λ q spells. bad_rest kinds number s line rest q unbroken bad
      (subst (λ (l : List ℕ). Rest kinds l number s q) cut (rest_of kinds text left number s q going spells)),
)

-- an unbroken text is no ended line
pub not_ended : (line after : List ℕ) → IsUnbroken (whole_line line ++ after) → ⊥
not_ended [] after u = All-head (λ d. d ≢ 10) 10 after u refl
not_ended (c ∷ line) after u = not_ended line after (All-tail (λ d. d ≢ 10) c (whole_line line ++ after) u)

-- the text ends badly there
bad_end : (kinds : AppKinds) (text left : List ℕ) (number : ℕ) (s : Option Plan) → Going kinds text left number s → IsUnbroken left → (left ≢ []) ⊎ (s ≡ None)
    → IsBadAt kinds text number × ((q : Plan) → SpellsPlan kinds text q → ⊥)
unfolding run
bad_end kinds text left number s going unbroken bad = (
  record {
    before = going.lines;
    rest = left;
    whole = going.whole;
    unbroken = going.unbroken;
    few = going.few;
    numbered = going.numbered;
    goes_on = going_on kinds text left number s going;
    bad = inr (record { unended = unbroken; bad = why bad });
  },
  λ q spells. let over = rest_of kinds text left number s q going spells in none_left over.more q over.whole over.read bad,
)
  where
    why : (left ≢ []) ⊎ (s ≡ None) → (left ≢ []) ⊎ (counted_lines going.lines ≡ [])
    why (inl some) = inl some
    why (inr none) = inr (subst (λ (o : Option Plan). Shows kinds o (counted_lines going.lines)) none going.shows)

    none_left : (more : List (List ℕ)) (q : Plan) → left ≡ flat_map whole_line more → run kinds s (counted_lines more) ≡ Some (Some q)
        → (left ≢ []) ⊎ (s ≡ None) → ⊥
    none_left [] q whole read (inl some) = some whole
    none_left [] q whole read (inr none) = let at : s ≡ Some q = cc in cc
    none_left (o ∷ more) q whole read why = not_ended o (flat_map whole_line more) (subst IsUnbroken whole unbroken)

-- the text spells the plan, and no other
good_end : (kinds : AppKinds) (text : List ℕ) (number : ℕ) (p : Plan) → Going kinds text [] number (Some p) → SpellsPlan kinds text p × ((q : Plan) → SpellsPlan kinds text q → p ≡ q)
unfolding run
good_end kinds text number p going = (
  record {
    lines = going.lines;
    whole = going.whole ∙ append-nil (flat_map whole_line going.lines);
    unbroken = going.unbroken;
    few = going.few;
    short = going.short;
    those = going.shows.0;
    lawful = going.shows.1;
  },
  λ q spells. let over = rest_of kinds text [] number (Some p) q going spells in by_more over.more q over.whole over.read,
)
  where
    by_more : (more : List (List ℕ)) (q : Plan) → [] ≡ flat_map whole_line more → run kinds (Some p) (counted_lines more) ≡ Some (Some q) → p ≡ q
    by_more [] q whole read = cc
    by_more (o ∷ more) q whole read =
        absurd (some_feed o (flat_map whole_line more) (sym (append_assoc o (10 ∷ []) (flat_map whole_line more)) ∙ sym whole))

-- nothing stands there
nothing_left : (left : List ℕ) → (length left == 0) ≡ true → left ≡ []
nothing_left [] e = refl
nothing_left (b ∷ left) e = absurd (omega (arith, eqb-true (length (b ∷ left)) 0 e))

-- something stands there
something_left : (left : List ℕ) → (length left == 0) ≡ false → left ≢ []
something_left [] e = λ none. let bad : true ≡ false = e in cc
something_left (b ∷ left) e = λ none. cc

-- the text ends well there
pub ends_well : (kinds : AppKinds) (text left : List ℕ) (number : ℕ) (s : Option Plan) (p : Plan) → Going kinds text left number s → (length left == 0) ≡ true
    → s ≡ Some p → SpellsPlan kinds text p × ((q : Plan) → SpellsPlan kinds text q → p ≡ q)
ends_well kinds text left number s p going empty is =
    good_end kinds text number p (subst (λ (o : Option Plan). Going kinds text [] number o) is
    (subst (λ (l : List ℕ). Going kinds text l number s) (nothing_left left empty) going))

-- or badly
pub ends_badly : (kinds : AppKinds) (text left : List ℕ) (number : ℕ) (s : Option Plan) → Going kinds text left number s → IsUnbroken left
    → ((length left == 0) ≡ false) ⊎ (s ≡ None) → IsBadAt kinds text number × ((q : Plan) → SpellsPlan kinds text q → ⊥)
ends_badly kinds text left number s going unbroken bad = bad_end kinds text left number s going unbroken (why bad)
  where
    why : ((length left == 0) ≡ false) ⊎ (s ≡ None) → (left ≢ []) ⊎ (s ≡ None)
    why (inl some) = inl (something_left left some)
    why (inr none) = inr none
