-- How long the next line may be follows from the plan so far.
use Rattle.ledger_model.specs.declared.config.AppKinds.{AppKinds}
use Rattle.std.proofs.Common.{◌≡◌, ◌∙◌, ℕ, ◌≤◌, Bool, true, false, cond, List, [], ◌∷◌, ◌++◌, map, length, refl, sym, ap, inl, inr, arith}
use Rattle.std.specs.Prelude.{◌⊎◌, ◌||◌, nat_eq, codes, Option, Some, None}
use Rattle.std.specs.List.{list_any}
use Rattle.std.proofs.lemmas.Slice.Eq.{bytes_eq-Decides}
use Rattle.ledger_model.specs.declared.version.Version.{Version}
use Rattle.ledger_model.specs.declared.version.Version.TheVariants as version
use Rattle.std.proofs.Math.Bool.{or-false}
use Rattle.lm_ots.specs.declared.params.Params.{Params}
use Rattle.plain_text.specs.Numbers.{number_text}
use Rattle.scenario_texts.specs.Plans.{Plan}
use Rattle.scenario_texts.specs.Lines.{max_line_len, short_line_len, sets_frames, line_limit, AreWithinLengths, counts, counted_lines}
use Rattle.scenario_texts.specs.Texts.{words_text, command_words, command_text, config_words, params_words}
use Rattle.scenario_texts.specs.Texts.{keys_lines, frames_lines, liar_text, plan_lines}
use Rattle.scenario_texts.specs.Reading.{is_first, limit_after}
use Rattle.scenario_texts.specs.declared.command.Command.{Command}
use Rattle.scenario_texts.specs.declared.command.Command.TheVariants as command
use Rattle.scenario_texts.proofs.LineReading.{Shows}

-- ---- one line more

-- no line is among none
pub no_line : (before after : List (List ℕ)) (line : List ℕ) → [] ≡ before ++ line ∷ after → ⊥
no_line [] after line e = cc
no_line (b ∷ before) after line e = cc

-- a line among others and one more is that one, or among the others
abbrev IsPlaced : List (List ℕ) → List ℕ → List (List ℕ) → List ℕ → Type 0
IsPlaced lines last before line = ((before ≡ lines) × (line ≡ last)) ⊎ ((more : List (List ℕ)) × (lines ≡ before ++ line ∷ more))

placed_later : (l : List ℕ) (lines : List (List ℕ)) (last : List ℕ) (before : List (List ℕ)) (line : List ℕ)
    → IsPlaced lines last before line → IsPlaced (l ∷ lines) last (l ∷ before) line
placed_later l lines last before line (inl (same, is)) = inl (ap (λ (ls : List (List ℕ)). l ∷ ls) same, is)
placed_later l lines last before line (inr (more, same)) = inr (more, ap (λ (ls : List (List ℕ)). l ∷ ls) same)

placed : (lines : List (List ℕ)) (last : List ℕ) (before after : List (List ℕ)) (line : List ℕ)
    → lines ++ last ∷ [] ≡ before ++ line ∷ after → IsPlaced lines last before line
placed [] last [] after line e = inl (refl, cc)
placed [] last (b ∷ before) after line e =
    let tails : [] ≡ before ++ line ∷ after = cc in
    absurd (no_line before after line tails)
placed (l ∷ lines) last [] after line e =
    let heads : l ≡ line = cc in
    inr (lines, ap (λ (x : List ℕ). x ∷ lines) heads)
placed (l ∷ lines) last (b ∷ before) after line e =
    let heads : l ≡ b = cc in
    let tails : lines ++ last ∷ [] ≡ before ++ line ∷ after = cc in
    rw (sym heads) (placed_later l lines last before line (placed lines last before after line tails))

-- one short line more
pub short_more : (lines : List (List ℕ)) (last : List ℕ) → AreWithinLengths lines → length last ≤ line_limit lines → AreWithinLengths (lines ++ last ∷ [])
short_more lines last short fits before after line e = by_place (placed lines last before after line e)
  where
    by_place : IsPlaced lines last before line → length line ≤ line_limit before
    by_place (inl (same, is)) = rw (same, is) fits
    by_place (inr (more, same)) = short before more line same

-- ---- the limit by the lines of a plan

any_append : (xs ys : List (List ℕ)) → list_any sets_frames (xs ++ ys) ≡ (list_any sets_frames xs || list_any sets_frames ys)
any_append [] ys = refl
any_append (x ∷ xs) ys = by_test (sets_frames x) (any_append xs ys)
  where
    by_test : (t : Bool) → list_any sets_frames (xs ++ ys) ≡ (list_any sets_frames xs || list_any sets_frames ys)
        → (t || list_any sets_frames (xs ++ ys)) ≡ ((t || list_any sets_frames xs) || list_any sets_frames ys)
    by_test true e = refl
    by_test false e = e

-- the line that sets a version counts
frames_count : (line : List ℕ) → counts line ≡ false → sets_frames line ≡ false
frames_count line over = by_test (sets_frames line) refl
  where
    by_test : (t : Bool) → sets_frames line ≡ t → t ≡ false
    by_test true e =
        let bad : counts (codes "frames 2") ≡ false = ap counts (sym ((bytes_eq-Decides line (codes "frames 2")).0 e)) ∙ over in
        absurd cc
    by_test false e = refl

any_counted : (lines : List (List ℕ)) → list_any sets_frames lines ≡ list_any sets_frames (counted_lines lines)
any_counted [] = refl
any_counted (line ∷ lines) = by_count (counts line) refl (any_counted lines)
  where
    by_count : (t : Bool) → counts line ≡ t → list_any sets_frames lines ≡ list_any sets_frames (counted_lines lines)
        → (sets_frames line || list_any sets_frames lines) ≡ list_any sets_frames (cond t (line ∷ counted_lines lines) (counted_lines lines))
    by_count true e later = ap (λ (t : Bool). sets_frames line || t) later
    by_count false e later = rw (frames_count line e) later

-- the first word begins as `frames` does
abbrev begins_so : List (List ℕ) → Bool
begins_so ((b ∷ word) ∷ words) = nat_eq b 102
begins_so _ = true

-- other words set no version
other_words : (words : List (List ℕ)) → begins_so words ≡ false → sets_frames (words_text words) ≡ false
other_words [] other = absurd cc
other_words ([] ∷ words) other = absurd cc
other_words ((b ∷ word) ∷ words) other =
    let (rest, is) = first words in by_test rest is (sets_frames (words_text ((b ∷ word) ∷ words))) refl
  where
    first : (words : List (List ℕ)) → (rest : List ℕ) × (words_text ((b ∷ word) ∷ words) ≡ b ∷ rest)
    first [] = (word, refl)
    first (next ∷ words) = (word ++ 32 ∷ words_text (next ∷ words), refl)

    by_test : (rest : List ℕ) → words_text ((b ∷ word) ∷ words) ≡ b ∷ rest → (t : Bool)
        → sets_frames (words_text ((b ∷ word) ∷ words)) ≡ t → t ≡ false
    by_test rest is true e =
        let same : b ∷ rest ≡ codes "frames 2" =
        sym is ∙ (bytes_eq-Decides (words_text ((b ∷ word) ∷ words)) (codes "frames 2")).0 e in
        let head : b ≡ 102 = cc in
        let bad : true ≡ false = ap (λ (x : ℕ). nat_eq x 102) (sym head) ∙ other in
        absurd cc
    by_test rest is false e = refl

command_begins : (c : Command) → begins_so (command_words c) ≡ false
command_begins (command.Submit replica bytes) = refl
command_begins (command.Propose replica height) = refl
command_begins (command.End replica) = refl
command_begins (command.Pass from index to) = refl
command_begins (command.Inject to bytes) = refl
command_begins (command.Execute replica) = refl
command_begins (command.Query replica key) = refl
command_begins (command.Retire replica floor) = refl
command_begins (command.Info replica) = refl
command_begins command.Silent = refl
command_begins command.Round = refl
command_begins (command.LieReport lie) = refl
command_begins (command.LieLock lie) = refl
command_begins (command.LieStale lie source) = refl
command_begins (command.LieAck lie) = refl

no_command : (c : Command) → sets_frames (command_text c) ≡ false
unfolding command_text
no_command c = other_words (command_words c) (command_begins c)

no_commands : (commands : List Command) → list_any sets_frames (map command_text commands) ≡ false
no_commands [] = refl
no_commands (c ∷ commands) = rw (no_command c) (no_commands commands)

no_liars : (liars : List ℕ) → list_any sets_frames (map liar_text liars) ≡ false
no_liars [] = refl
no_liars (n ∷ liars) = let liar : sets_frames (liar_text n) ≡ false = other_words (codes "liar" ∷ number_text n ∷ []) refl in rw liar
    (no_liars liars)

no_keys : (keys : Option Params) → list_any sets_frames (keys_lines keys) ≡ false
no_keys None = refl
no_keys (Some keys) =
    let line : sets_frames (words_text (params_words keys)) ≡ false = other_words (params_words keys) refl in
    rw line refl

-- the limit of a version
limit_of_version : (own : Version) → cond (list_any sets_frames (frames_lines own)) max_line_len short_line_len
    ≡ cond (is_first own) short_line_len max_line_len
limit_of_version version.One = refl
limit_of_version version.Two = refl

plan_sets : (p : Plan) → list_any sets_frames (plan_lines p) ≡ list_any sets_frames (frames_lines p.frames)
unfolding plan_lines
plan_sets p =
    let config : List ℕ = words_text (config_words p.replicas p.faults p.kind) in
    let none : sets_frames config ≡ false = other_words (config_words p.replicas p.faults p.kind) refl in
    let front : list_any sets_frames (config ∷ keys_lines p.keys) ≡ false = rw none (no_keys p.keys) in
    any_append (((config ∷ keys_lines p.keys) ++ frames_lines p.frames) ++ map liar_text p.liars) (map command_text p.commands)
    ∙ rw (
      any_append ((config ∷ keys_lines p.keys) ++ frames_lines p.frames) (map liar_text p.liars),
      any_append (config ∷ keys_lines p.keys) (frames_lines p.frames),
      front,
      no_liars p.liars,
      no_commands p.commands,
    ) (or-false _ ∙ or-false _)

-- the most bytes of a line after these lines, by the plan that they show
pub limit_is : (kinds : AppKinds) (s : Option Plan) (lines : List (List ℕ)) → Shows kinds s (counted_lines lines) → line_limit lines ≡ limit_after s
limit_is kinds None lines none =
    ap (λ (t : Bool). cond t max_line_len short_line_len) (any_counted lines ∙ ap (list_any sets_frames) none)
limit_is kinds (Some p) lines (spelled, is) =
    ap (λ (t : Bool). cond t max_line_len short_line_len) (any_counted lines ∙ ap (list_any sets_frames) spelled ∙ plan_sets p)
    ∙ limit_of_version p.frames

-- no line has more bytes than any line may have
pub limit_most : (before : List (List ℕ)) → line_limit before ≤ max_line_len
limit_most before = by_test (list_any sets_frames before)
  where
    by_test : (t : Bool) → cond t max_line_len short_line_len ≤ max_line_len
    by_test true = omega arith
    by_test false = omega arith
