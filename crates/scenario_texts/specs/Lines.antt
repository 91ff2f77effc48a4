-- The lines of a text, and which text encodes a plan.
use Rattle.ledger_model.specs.declared.config.AppKinds.{AppKinds}
use Rattle.std.specs.Prelude.{◌≡◌, ◌≢◌, ◌⊎◌, ℕ, ◌+◌, ◌<◌, ◌≤◌, ◌==◌, not, Bool, true, false, List, [], ◌∷◌, ◌++◌, length, filter, codes}
use Rattle.std.specs.Prelude.{if◌then◌else◌}
use Rattle.std.specs.List.{flat_map, list_any, All, AllByRecursion}
use Rattle.std.specs.Str.{bytes_eq}
use Rattle.scenario_texts.specs.declared.line_count.LineCount.{LineCount}
use Rattle.scenario_texts.specs.Plans.{Plan}
use Rattle.scenario_texts.specs.Texts.{plan_lines}
use Rattle.scenario_texts.specs.Lawful.{IsPlan}

-- the most lines of a text
abbrev pub max_lines : ℕ
max_lines = 10000

-- the most bytes of a line after a line `frames 2`, and so of any line, without its line feed
abbrev pub max_line_len : ℕ
max_line_len = 1300000

-- the most bytes of a line, without its line feed, if no line `frames 2` precedes it
abbrev pub short_line_len : ℕ
short_line_len = 400000

-- the line sets version 2 for the frames
abbrev pub sets_frames : List ℕ → Bool
sets_frames line = bytes_eq line (codes "frames 2")

-- the most bytes of a line after these lines, without its line feed
abbrev pub line_limit : List (List ℕ) → ℕ
line_limit before = if list_any sets_frames before then max_line_len else short_line_len

-- a line with its line feed
abbrev pub whole_line : List ℕ → List ℕ
whole_line line = line ++ 10 ∷ []

-- the line contains no line feed
abbrev pub IsUnbroken : List ℕ → Type 0
IsUnbroken line = All (λ b. b ≢ 10) line

-- the line counts: it is neither empty nor a comment, which starts with `#`
abbrev pub counts : List ℕ → Bool
counts [] = false
counts (b ∷ line) = not (b == 0x23)

-- the lines that count
abbrev pub counted_lines : List (List ℕ) → List (List ℕ)
counted_lines lines = filter counts lines

-- each line has at most as many bytes as the lines before it allow
abbrev pub AreWithinLengths : List (List ℕ) → Type 0
AreWithinLengths lines = (before after : List (List ℕ)) (line : List ℕ) → lines ≡ before ++ line ∷ after → length line ≤ line_limit before

-- the text encodes the plan, for a program that has these kinds of applications
pub record SpellsPlan (kinds : AppKinds) (text : List ℕ) (p : Plan) : Type 0 where
  pub lines : List (List ℕ)
  pub whole : text ≡ flat_map whole_line lines
  pub unbroken : AllByRecursion IsUnbroken lines
  pub few : length lines ≤ max_lines
  pub short : AreWithinLengths lines
  pub those : counted_lines lines ≡ plan_lines p
  pub lawful : IsPlan kinds p

-- `count` has the number of lines that a line feed ended, and the number of bytes after the last line feed
pub record HasLines (text : List ℕ) (count : LineCount) : Type 0 where
  pub lines : List (List ℕ)
  pub rest : List ℕ
  pub whole : text ≡ flat_map whole_line lines ++ rest
  pub unbroken : AllByRecursion IsUnbroken lines
  pub under_way : IsUnbroken rest
  pub ended : length lines ≡ count.ended
  pub long : length rest ≡ count.under_way

-- the text has at most as many lines as it may have, and at most as many bytes after the last line feed as any line may have
abbrev pub IsWithinLineLimits : LineCount → Type 0
IsWithinLineLimits count = (count.ended ≤ max_lines) × (count.under_way ≤ max_line_len)

-- a line of the text has more bytes than any line may have, or bytes follow the last line that a text may have
pub record IsTooLarge (text : List ℕ) : Type 0 where
  pub lines : List (List ℕ)
  pub line : List ℕ
  pub after : List ℕ
  pub whole : text ≡ flat_map whole_line lines ++ (line ++ after)
  pub unbroken : AllByRecursion IsUnbroken lines
  pub begun : IsUnbroken line
  pub bad : (max_line_len < length line) ⊎ ((max_lines ≤ length lines) × (1 ≤ length (line ++ after)))

-- if the text is not too large, `count` has its lines; otherwise it is too large
abbrev pub IsCounted : Bool → List ℕ → LineCount → Type 0
IsCounted true text count = HasLines text count
IsCounted false text count = IsTooLarge text

-- nothing is wrong so far: none of these lines counts, or those that count are the lines of a plan
pub record IsPlanSoFar (kinds : AppKinds) (lines : List (List ℕ)) : Type 0 where
  pub short : AreWithinLengths lines
  pub begun : (counted_lines lines ≡ []) ⊎ ((p : Plan) × ((counted_lines lines ≡ plan_lines p) × IsPlan kinds p))

-- a bad line follows these: it is one too many, or a plan can't continue with it
pub record FollowsBad (kinds : AppKinds) (lines : List (List ℕ)) (rest : List ℕ) : Type 0 where
  pub line : List ℕ
  pub after : List ℕ
  pub ends : rest ≡ whole_line line ++ after
  pub unbroken : IsUnbroken line
  pub bad : (max_lines ≤ length lines) ⊎ (IsPlanSoFar kinds (lines ++ line ∷ []) → ⊥)

-- the text may not end after these lines: bytes follow the last line feed, or no line counts
pub record EndsBadly (lines : List (List ℕ)) (rest : List ℕ) : Type 0 where
  pub unended : IsUnbroken rest
  pub bad : (rest ≢ []) ⊎ (counted_lines lines ≡ [])

-- line n of the text, from 1 on, is the first bad one
pub record IsBadAt (kinds : AppKinds) (text : List ℕ) (n : ℕ) : Type 0 where
  pub before : List (List ℕ)
  pub rest : List ℕ
  pub whole : text ≡ flat_map whole_line before ++ rest
  pub unbroken : AllByRecursion IsUnbroken before
  pub few : length before ≤ max_lines
  pub numbered : n ≡ length before + 1
  pub goes_on : IsPlanSoFar kinds before
  pub bad : FollowsBad kinds before rest ⊎ EndsBadly before rest
