-- Texts that are too large, and texts that are read byte by byte.
use Rattle.ledger_model.specs.declared.config.AppKinds.{AppKinds}
use Rattle.std.proofs.Common.{◌≡◌, ◌∙◌, ℕ, ◌+◌, ◌<◌, ◌≤◌, Bool, true, false, List, [], ◌∷◌, ◌++◌, length, refl, sym, ap, subst, inl, inr}
use Rattle.std.proofs.Common.{append_assoc, append-nil, arith, take, drop, get_or, suc}
use Rattle.std.specs.Prelude.{◌≢◌, ◌⊎◌, ◌==◌}
use Rattle.std.specs.List.{flat_map, AllByRecursion}
use Rattle.std.proofs.lemmas.Bool.{eqb-true}
use Rattle.std.proofs.Math.Seq.{take-suc}
use Rattle.std.proofs.lemmas.List.{length-append, take-append-drop}
use Rattle.std.proofs.lemmas.List.Concat.{flat_map-append}
use Rattle.std.proofs.lemmas.List.Elements.{All-append, All-cons, All-head, All-nil, All-push, All-tail}
use Rattle.std.proofs.SliceLists.{all_by_recursion_push}
use Rattle.scenario_texts.specs.declared.line_count.LineCount.{LineCount}
use Rattle.scenario_texts.specs.Lines.{max_lines, max_line_len, line_limit, whole_line, IsUnbroken, AreWithinLengths, SpellsPlan, IsPlanSoFar, FollowsBad}
use Rattle.scenario_texts.specs.Lines.{EndsBadly, IsBadAt}
use Rattle.scenario_texts.specs.Lines.{HasLines, IsTooLarge, IsCounted}
use Rattle.scenario_texts.specs.Plans.{Plan}
use Rattle.scenario_texts.proofs.LineLimits.{limit_most}
use Rattle.scenario_texts.proofs.Endings.{first_same, not_ended, whole_more}

-- no byte is a line feed
none_unbroken : IsUnbroken []
none_unbroken = All-nil (λ b. b ≢ 10)

-- the line has at most as many bytes as any line may have
abbrev IsShort : List ℕ → Type 0
IsShort line = length line ≤ max_line_len

-- lines that are short by the lines before them
each_at_most : (front lines : List (List ℕ)) → AreWithinLengths (front ++ lines) → AllByRecursion IsShort lines
each_at_most front [] short = tt
each_at_most front (line ∷ lines) short =
    let within : length line ≤ line_limit front = short front lines line refl in (
      omega (arith, within, limit_most front),
      each_at_most (front ++ line ∷ []) lines (subst AreWithinLengths (sym (append_assoc front (line ∷ []) lines)) short),
    )

-- ---- counting

-- no byte
pub none_counted : (count : LineCount) → count.ended ≡ 0 → count.under_way ≡ 0 → HasLines [] count
none_counted count none short =
    record { lines = []; rest = []; whole = refl; unbroken = tt; under_way = none_unbroken; ended = sym none; long = sym short }

-- a text with a byte more after its lines
behind : (lines : List (List ℕ)) (text rest more : List ℕ) → text ≡ flat_map whole_line lines ++ rest
    → text ++ more ≡ flat_map whole_line lines ++ (rest ++ more)
behind lines text rest more whole = ap (λ t. t ++ more) whole ∙ append_assoc (flat_map whole_line lines) rest more

-- the byte is one too many, since the lines are
pub behind_last : (text : List ℕ) (old new : LineCount) (b : ℕ) → max_lines ≤ old.ended → HasLines text old
    → IsCounted false (text ++ b ∷ []) new
behind_last text old new b many has = record {
  lines = has.lines;
  line = has.rest;
  after = b ∷ [];
  whole = behind has.lines text has.rest (b ∷ []) has.whole;
  unbroken = has.unbroken;
  begun = has.under_way;
  bad = inr (omega (arith, many, has.ended), omega (arith, length-append has.rest (b ∷ [])));
}

-- a line feed ends the line
pub line_ended : (text : List ℕ) (old new : LineCount) (b : ℕ) → b ≡ 10 → new.ended ≡ old.ended + 1 → new.under_way ≡ 0 → HasLines text old
    → IsCounted true (text ++ b ∷ []) new
line_ended text old new b feed more none has = record {
  lines = has.lines ++ has.rest ∷ [];
  rest = [];
  whole = whole_more (text ++ b ∷ []) has.lines (has.rest ++ b ∷ []) has.rest [] (behind has.lines text has.rest (b ∷ []) has.whole)
      (ap (λ c. has.rest ++ c ∷ []) feed);
  unbroken = all_by_recursion_push IsUnbroken has.lines has.rest has.unbroken has.under_way;
  under_way = none_unbroken;
  ended = omega (arith, length-append has.lines (has.rest ∷ []), has.ended, more);
  long = sym none;
}

-- a byte makes the line too long
pub line_too_long : (text : List ℕ) (old new : LineCount) (b : ℕ) → b ≢ 10 → max_line_len ≤ old.under_way → HasLines text old
    → IsCounted false (text ++ b ∷ []) new
line_too_long text old new b other long has = record {
  lines = has.lines;
  line = has.rest ++ b ∷ [];
  after = [];
  whole = behind has.lines text has.rest (b ∷ []) has.whole
      ∙ ap (λ r. flat_map whole_line has.lines ++ r) (sym (append-nil (has.rest ++ b ∷ [])));
  unbroken = has.unbroken;
  begun = All-push (λ c. c ≢ 10) has.rest b has.under_way other;
  bad = inl (omega (arith, long, has.long, length-append has.rest (b ∷ [])));
}

-- or longer
pub line_longer : (text : List ℕ) (old new : LineCount) (b : ℕ) → b ≢ 10 → new.ended ≡ old.ended → new.under_way ≡ old.under_way + 1
    → HasLines text old → IsCounted true (text ++ b ∷ []) new
line_longer text old new b other same more has = record {
  lines = has.lines;
  rest = has.rest ++ b ∷ [];
  whole = behind has.lines text has.rest (b ∷ []) has.whole;
  unbroken = has.unbroken;
  under_way = All-push (λ c. c ≢ 10) has.rest b has.under_way other;
  ended = omega (arith, has.ended, same);
  long = omega (arith, has.long, more, length-append has.rest (b ∷ []));
}

-- ---- texts that are too large

-- what goes on is too large, too
pub larger : (text more : List ℕ) → IsTooLarge text → IsTooLarge (text ++ more)
larger text more large = record {
  lines = large.lines;
  line = large.line;
  after = large.after ++ more;
  whole = behind large.lines text (large.line ++ large.after) more large.whole
      ∙ ap (λ r. flat_map whole_line large.lines ++ r) (append_assoc large.line large.after more);
  unbroken = large.unbroken;
  begun = large.begun;
  bad = still large.bad;
}
  where
    still : (max_line_len < length large.line) ⊎ ((max_lines ≤ length large.lines) × (1 ≤ length (large.line ++ large.after)))
        → (max_line_len < length large.line) ⊎ ((max_lines ≤ length large.lines) × (1 ≤ length (large.line ++ (large.after ++ more))))
    still (inl long) = inl long
    still (inr (many, some)) = inr (
      many,
      omega (
        arith,
        some,
        length-append large.line large.after,
        length-append large.line (large.after ++ more),
        length-append
            large.after more,
      ),
    )

-- so a text is with all of the bytes that follow, where it is with one more than the first of them
pub all_larger : (text bytes : List ℕ) (i d : ℕ) → i < length bytes → IsTooLarge (text ++ take i bytes ++ get_or bytes i d ∷ [])
    → IsTooLarge (text ++ bytes)
all_larger text bytes i d within large =
    subst IsTooLarge whole (larger (text ++ take i bytes ++ get_or bytes i d ∷ []) (drop (suc i) bytes) large)
  where
    whole : (text ++ take i bytes ++ get_or bytes i d ∷ []) ++ drop (suc i) bytes ≡ text ++ bytes
    whole =
        ap (λ t. t ++ drop (suc i) bytes)
        (append_assoc text (take i bytes) (get_or bytes i d ∷ []) ∙ ap (λ t. text ++ t) (sym (take-suc bytes i d within)))
        ∙ append_assoc text (take (suc i) bytes) (drop (suc i) bytes) ∙ ap (λ t. text ++ t) (take-append-drop (suc i) bytes)

-- one byte more
pub one_more : (text bytes : List ℕ) (i d : ℕ) → i < length bytes
    → (text ++ take i bytes) ++ get_or bytes i d ∷ [] ≡ text ++ take (i + 1) bytes
one_more text bytes i d within =
    let next : suc i ≡ i + 1 = omega arith in
    append_assoc text (take i bytes) (get_or bytes i d ∷ [])
    ∙ ap (λ t. text ++ t) (sym (take-suc bytes i d within) ∙ ap (λ k. take k bytes) next)

-- bytes without a line feed are part of the line that they begin
part_of_line : (line after rest z : List ℕ) → IsUnbroken line → line ++ after ≡ rest ++ 10 ∷ z → length line ≤ length rest
part_of_line [] after rest z u e = omega arith
part_of_line (b ∷ line) after [] z u e = let feed : b ≡ 10 = cc in absurd (All-head (λ d. d ≢ 10) b line u feed)
part_of_line (b ∷ line) after (c ∷ rest) z u e =
    let tails : line ++ after ≡ rest ++ 10 ∷ z = cc in
    let short = part_of_line line after rest z (All-tail (λ d. d ≢ 10) b line u) tails in
    omega (arith, short)

-- a line and its end, before others
ended_then : (line more : List ℕ) → whole_line line ++ more ≡ line ++ 10 ∷ more
ended_then line more = append_assoc line (10 ∷ []) more

-- where a text is too large, and its ended lines are not, the line under way is too long, or one too many
under_way_bad : (k : ℕ) (lines before : List (List ℕ)) (line after rest : List ℕ) → AllByRecursion IsUnbroken lines
    → AllByRecursion IsUnbroken before → IsUnbroken line → IsUnbroken rest
    → k + length before ≤ max_lines → AllByRecursion IsShort before
    → (max_line_len < length line) ⊎ ((max_lines ≤ k + length lines) × (1 ≤ length (line ++ after)))
    → flat_map whole_line lines ++ (line ++ after) ≡ flat_map whole_line before ++ rest
    → (max_line_len < length rest) ⊎ ((max_lines ≤ k + length before) × (1 ≤ length rest))
under_way_bad k [] [] line after rest u v begun w few short (inl long) e = inl (omega (arith, long, ap length e, length-append line after))
under_way_bad k [] [] line after rest u v begun w few short (inr (many, some)) e = inr (many, omega (arith, some, ap length e))
under_way_bad k [] (o ∷ before) line after rest u v begun w few short (inl long) e =
    let cut : line ++ after ≡ o ++ 10 ∷ (flat_map whole_line before ++ rest) =
    e ∙ append_assoc (whole_line o) (flat_map whole_line before) rest ∙ ended_then o (flat_map whole_line before ++ rest) in
    absurd (omega (arith, long, short.0, part_of_line line after o (flat_map whole_line before ++ rest) begun cut))
under_way_bad k [] (o ∷ before) line after rest u v begun w few short (inr (many, some)) e = absurd (omega (arith, many, few))
under_way_bad k (l ∷ lines) [] line after rest u v begun w few short bad e =
    absurd (not_ended l (flat_map whole_line lines ++ (line ++ after))
    (subst IsUnbroken (sym e ∙ append_assoc (whole_line l) (flat_map whole_line lines) (line ++ after)) w))
under_way_bad k (l ∷ lines) (o ∷ before) line after rest (p, u) (q, v) begun w few (first, short) bad e =
    let here : flat_map whole_line (l ∷ lines) ++ (line ++ after) ≡ l ++ 10 ∷ (flat_map whole_line lines ++ (line ++ after)) =
    append_assoc (whole_line l) (flat_map whole_line lines) (line ++ after) ∙ ended_then l (flat_map whole_line lines ++ (line ++ after)) in
    let there : flat_map whole_line (o ∷ before) ++ rest ≡ o ++ 10 ∷ (flat_map whole_line before ++ rest) =
    append_assoc (whole_line o) (flat_map whole_line before) rest ∙ ended_then o (flat_map whole_line before ++ rest) in
    let tails = (first_same l o (flat_map whole_line lines ++ (line ++ after)) (flat_map whole_line before ++ rest) p q (sym here ∙ e ∙ there)).1 in
    counted (under_way_bad (k + 1) lines before line after rest u v begun w (omega (arith, few)) short (one_less bad) tails)
  where
    one_less : (max_line_len < length line) ⊎ ((max_lines ≤ k + length (l ∷ lines)) × (1 ≤ length (line ++ after)))
        → (max_line_len < length line) ⊎ ((max_lines ≤ k + 1 + length lines) × (1 ≤ length (line ++ after)))
    one_less (inl long) = inl long
    one_less (inr (many, some)) = inr (omega (arith, many), some)

    counted : (max_line_len < length rest) ⊎ ((max_lines ≤ k + 1 + length before) × (1 ≤ length rest))
        → (max_line_len < length rest) ⊎ ((max_lines ≤ k + length (o ∷ before)) × (1 ≤ length rest))
    counted (inl long) = inl long
    counted (inr (many, some)) = inr (omega (arith, many), some)

large_under_way : (text : List ℕ) (before : List (List ℕ)) (rest : List ℕ) → IsTooLarge text → text ≡ flat_map whole_line before ++ rest
    → AllByRecursion IsUnbroken before → IsUnbroken rest
    → length before ≤ max_lines → AllByRecursion IsShort before
    → (max_line_len < length rest) ⊎ ((max_lines ≤ length before) × (1 ≤ length rest))
large_under_way text before rest large whole u w few short =
    from_none (under_way_bad 0 large.lines before large.line large.after rest large.unbroken u large.begun w (omega (arith, few)) short
    (with_none large.bad) (sym large.whole ∙ whole))
  where
    with_none : (max_line_len < length large.line) ⊎ ((max_lines ≤ length large.lines) × (1 ≤ length (large.line ++ large.after)))
        → (max_line_len < length large.line) ⊎ ((max_lines ≤ 0 + length large.lines) × (1 ≤ length (large.line ++ large.after)))
    with_none (inl long) = inl long
    with_none (inr (many, some)) = inr (omega (arith, many), some)

    from_none : (max_line_len < length rest) ⊎ ((max_lines ≤ 0 + length before) × (1 ≤ length rest))
        → (max_line_len < length rest) ⊎ ((max_lines ≤ length before) × (1 ≤ length rest))
    from_none (inl long) = inl long
    from_none (inr (many, some)) = inr (omega (arith, many), some)

-- no text that is too large spells a plan
pub large_spells_none : (kinds : AppKinds) (text : List ℕ) (p : Plan) → IsTooLarge text → SpellsPlan kinds text p → ⊥
large_spells_none kinds text p large spells =
    none (large_under_way text spells.lines [] large (spells.whole ∙ sym (append-nil (flat_map whole_line spells.lines))) spells.unbroken
    none_unbroken spells.few (each_at_most [] spells.lines spells.short))
  where
    none : (max_line_len < 0) ⊎ ((max_lines ≤ length spells.lines) × (1 ≤ 0)) → ⊥
    none (inl long) = omega (arith, long)
    none (inr (many, some)) = omega (arith, some)

-- bytes up to the first line feed, or to their end
pub data IsSplit (text : List ℕ) : Type 0 where
  has_none : IsUnbroken text → IsSplit text
  has_one : (line after : List ℕ) → IsUnbroken line → text ≡ line ++ 10 ∷ after → IsSplit text

longer_split : (b : ℕ) (text : List ℕ) → b ≢ 10 → IsSplit text → IsSplit (b ∷ text)
longer_split b text other (has_none u) = has_none (All-cons (λ c. c ≢ 10) b text other u)
longer_split b text other (has_one line after u cut) =
    has_one (b ∷ line) after (All-cons (λ c. c ≢ 10) b line other u) (ap (λ t. b ∷ t) cut)

split_by : (b : ℕ) (text : List ℕ) (q : Bool) → (b == 10) ≡ q → IsSplit text → IsSplit (b ∷ text)
split_by b text true is rest = has_one [] text none_unbroken (ap (λ c. c ∷ text) (eqb-true b 10 is))
split_by b text false is rest = longer_split b text (λ same. let bad : true ≡ false = sym (ap (λ c. c == 10) same) ∙ is in absurd cc) rest

split : (text : List ℕ) → IsSplit text
split [] = has_none none_unbroken
split (b ∷ text) = split_by b text (b == 10) refl (split text)

-- one after the other
unbroken_both : (a b : List ℕ) → IsUnbroken a → IsUnbroken b → IsUnbroken (a ++ b)
unbroken_both a b u v = All-append (λ c. c ≢ 10) a b u v

-- where a text is too large, its first bad line is the same one however it goes on
pub bad_anyway : (kinds : AppKinds) (text more : List ℕ) (n : ℕ) → IsTooLarge text → IsBadAt kinds text n → IsBadAt kinds (text ++ more) n
bad_anyway kinds text more n large at = record {
  before = at.before;
  rest = at.rest ++ more;
  whole = behind at.before text at.rest more at.whole;
  unbroken = at.unbroken;
  few = at.few;
  numbered = at.numbered;
  goes_on = at.goes_on;
  bad = goes at.bad;
}
  where
    not_short : max_line_len < length at.rest → (line : List ℕ) → IsPlanSoFar kinds (at.before ++ (at.rest ++ line) ∷ []) → ⊥
    not_short long line on =
        let within : length (at.rest ++ line) ≤ line_limit at.before = on.short at.before [] (at.rest ++ line) refl in
        omega (arith, long, within, limit_most at.before, length-append at.rest line)

    by_split : IsUnbroken at.rest → (max_line_len < length at.rest) ⊎ ((max_lines ≤ length at.before) × (1 ≤ length at.rest))
        → IsSplit more → FollowsBad kinds at.before (at.rest ++ more) ⊎ EndsBadly at.before (at.rest ++ more)
    by_split u why (has_none v) = inr (record { unended = unbroken_both at.rest more u v; bad = inl (some why) })
      where
        some : (max_line_len < length at.rest) ⊎ ((max_lines ≤ length at.before) × (1 ≤ length at.rest)) → at.rest ++ more ≢ []
        some (inl long) = λ none. omega (arith, long, ap length none, length-append at.rest more)
        some (inr (many, one)) = λ none. omega (arith, one, ap length none, length-append at.rest more)
    by_split u why (has_one line after v cut) = inl (record {
      line = at.rest ++ line;
      after = after;
      ends = ap (λ m. at.rest ++ m) cut ∙ sym (append_assoc at.rest line (10 ∷ after)) ∙ sym (ended_then (at.rest ++ line) after);
      unbroken = unbroken_both at.rest line u v;
      bad = reason why;
    })
      where
        reason : (max_line_len < length at.rest) ⊎ ((max_lines ≤ length at.before) × (1 ≤ length at.rest))
            → (max_lines ≤ length at.before) ⊎ (IsPlanSoFar kinds (at.before ++ (at.rest ++ line) ∷ []) → ⊥)
        reason (inl long) = inr (not_short long line)
        reason (inr (many, one)) = inl many

    goes : FollowsBad kinds at.before at.rest ⊎ EndsBadly at.before at.rest
        → FollowsBad kinds at.before (at.rest ++ more) ⊎ EndsBadly at.before (at.rest ++ more)
    goes (inl bad) = inl (record {
      line = bad.line;
      after = bad.after ++ more;
      ends = ap (λ r. r ++ more) bad.ends ∙ append_assoc (whole_line bad.line) bad.after more;
      unbroken = bad.unbroken;
      bad = bad.bad;
    })
    goes (inr bad) = by_split bad.unended
        (large_under_way text at.before at.rest large at.whole at.unbroken bad.unended at.few
        (each_at_most [] at.before at.goes_on.short)) (split more)

-- ---- texts that are not too large

-- a number that isn't more than the limit
at_most : (n limit : ℕ) → (limit < n → ⊥) → n ≤ limit
at_most n limit none = omega (arith, none)

-- the ended lines of a text that is not too large are short
each_short : (before lines : List (List ℕ)) (rest : List ℕ) → AllByRecursion IsUnbroken before → AllByRecursion IsUnbroken lines
    → (IsTooLarge (flat_map whole_line before ++ (flat_map whole_line lines ++ rest)) → ⊥) → AllByRecursion IsShort lines
each_short before [] rest u v small = tt
each_short before (l ∷ lines) rest u (p, v) small = (
  at_most (length l) max_line_len (λ long. small (record {
    lines = before;
    line = l;
    after = 10 ∷ (flat_map whole_line lines ++ rest);
    whole = ap (λ t. flat_map whole_line before ++ t)
        (append_assoc (whole_line l) (flat_map whole_line lines) rest ∙ ended_then l (flat_map whole_line lines ++ rest));
    unbroken = u;
    begun = p;
    bad = inl long;
  })),
  each_short (before ++ l ∷ []) lines rest (all_by_recursion_push IsUnbroken before l u p) v (λ large. small (subst IsTooLarge same large)),
)
  where
    same : flat_map whole_line (before ++ l ∷ []) ++ (flat_map whole_line lines ++ rest) ≡ flat_map whole_line before
        ++ (flat_map whole_line (l ∷ lines) ++ rest)
    same =
        ap (λ t. t ++ (flat_map whole_line lines ++ rest))
        (flat_map-append whole_line before (l ∷ []) ∙ ap (λ m. flat_map whole_line before ++ m) (append-nil (whole_line l)))
        ∙ append_assoc (flat_map whole_line before) (whole_line l) (flat_map whole_line lines ++ rest)
        ∙ ap (λ t. flat_map whole_line before ++ t) (sym (append_assoc (whole_line l) (flat_map whole_line lines) rest))

module _ (text : List ℕ) (old : LineCount) (has : HasLines text old) (small : IsTooLarge text → ⊥) where
  lines_short : AllByRecursion IsShort has.lines
  lines_short = each_short [] has.lines has.rest tt has.unbroken (λ large. small (subst IsTooLarge (sym has.whole) large))

  rest_short : IsShort has.rest
  rest_short = at_most (length has.rest) max_line_len (λ long. small (record {
    lines = has.lines;
    line = has.rest;
    after = [];
    whole = has.whole ∙ ap (λ r. flat_map whole_line has.lines ++ r) (sym (append-nil has.rest));
    unbroken = has.unbroken;
    begun = has.under_way;
    bad = inl long;
  }))

  -- nor is it too large with the end of its line
  pub fits_ended : (b : ℕ) → b ≡ 10 → old.ended < max_lines → IsTooLarge (text ++ b ∷ []) → ⊥
  fits_ended b feed few large =
      none (large_under_way (text ++ b ∷ []) (has.lines ++ has.rest ∷ []) [] large
      (whole_more (text ++ b ∷ []) has.lines (has.rest ++ b ∷ []) has.rest [] (behind has.lines text has.rest (b ∷ []) has.whole)
      (ap (λ c. has.rest ++ c ∷ []) feed))
      (all_by_recursion_push IsUnbroken has.lines has.rest has.unbroken has.under_way) none_unbroken
      (omega (arith, few, has.ended, length-append has.lines (has.rest ∷ [])))
      (all_by_recursion_push IsShort has.lines has.rest lines_short rest_short))
    where
      none : (max_line_len < 0) ⊎ ((max_lines ≤ length (has.lines ++ has.rest ∷ [])) × (1 ≤ 0)) → ⊥
      none (inl long) = omega (arith, long)
      none (inr (many, some)) = omega (arith, some)

  -- nor with a byte more in its line
  pub fits_longer : (b : ℕ) → b ≢ 10 → old.ended < max_lines → old.under_way < max_line_len → IsTooLarge (text ++ b ∷ []) → ⊥
  fits_longer b other few room large =
      none (large_under_way (text ++ b ∷ []) has.lines (has.rest ++ b ∷ []) large (behind has.lines text has.rest (b ∷ []) has.whole)
      has.unbroken (All-push (λ c. c ≢ 10) has.rest b has.under_way other) (omega (arith, few, has.ended)) lines_short)
    where
      none : (max_line_len < length (has.rest ++ b ∷ [])) ⊎ ((max_lines ≤ length has.lines) × (1 ≤ length (has.rest ++ b ∷ []))) → ⊥
      none (inl long) = omega (arith, long, room, has.long, length-append has.rest (b ∷ []))
      none (inr (many, some)) = omega (arith, many, few, has.ended)

-- no byte is too large
pub nothing_fits : IsTooLarge [] → ⊥
nothing_fits large = none (large_under_way [] [] [] large refl tt none_unbroken (omega arith) tt)
  where
    none : (max_line_len < 0) ⊎ ((max_lines ≤ 0) × (1 ≤ 0)) → ⊥
    none (inl long) = omega (arith, long)
    none (inr (many, some)) = omega (arith, some)
