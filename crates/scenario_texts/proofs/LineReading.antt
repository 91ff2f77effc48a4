-- A line adds to a plan exactly what its text is.
use Rattle.ledger_model.specs.declared.config.AppKinds.{AppKinds}
use Rattle.std.proofs.Common.{◌≡◌, ◌∙◌, Bor, ℕ, ◌<◌, Bool, true, false, List, [], ◌∷◌, ◌++◌, map, refl, sym, ap, subst, append_assoc, arith}
use Rattle.std.specs.Prelude.{◌==◌, ◌||◌, nat_eq, codes, Option, Some, None, Result, Ok, Err, MatchResult, Contains, option_and_then}
use Rattle.std.specs.List.{list_all, list_any, All, AllPass, AllByRecursion, slice_split}
use Rattle.std.specs.Char.{is_ascii}
use Rattle.std.specs.Cmp.{nat_eq_equiv}
use Rattle.std.specs.Option.{option_map}
use Rattle.std.specs.Result.{result_ok}
use Rattle.std.specs.Str.{IsUtf8}
use Rattle.std.proofs.lemmas.Bool.Decides.{nat_tests}
use Rattle.std.proofs.lemmas.List.Sums.{AllPass-from_list_all, list_all-from_AllPass}
use Rattle.std.proofs.lemmas.Str.{IsUtf8-from_ascii}
use Rattle.std.proofs.lemmas.Str.Ascii.{IsAscii-from_all}
use Rattle.std.proofs.lemmas.List.{map_push, append-nil, length-append}
use Rattle.std.proofs.lemmas.Map.Keys.{IsDistinct-push}
use Rattle.std.proofs.lemmas.List.Elements.{All-from_recursion, All-contains, All-weaker}
use Rattle.std.proofs.lemmas.List.Splits.{join_with_byte-slice_split}
use Rattle.std.proofs.lemmas.Option.{cond_some}
use Rattle.std.proofs.SliceLists.{all_by_recursion_push}
use Rattle.ledger_model.specs.declared.config.AppKind.{AppKind}
use Rattle.ledger_model.specs.declared.version.Version.TheVariants as version
use Rattle.lm_ots.specs.Parameters.{bits_of, levels_of}
use Rattle.lm_ots.specs.declared.params.Params.{Params}
use Rattle.ledger_model.specs.Numbers.{kind_number}
use Rattle.scenario_texts.specs.Plans.{Plan}
use Rattle.scenario_texts.specs.Words.{keyword_text}
use Rattle.scenario_texts.specs.Lawful.{IsNumber, IsSetup, IsPlan, IsCommand}
use Rattle.scenario_texts.specs.Texts.{words_text, command_text, config_words, params_words, keys_lines, frames_lines}
use Rattle.scenario_texts.specs.Texts.{frames_words, liar_text}
use Rattle.scenario_texts.specs.Texts.{setup_lines, plan_lines}
use Rattle.scenario_texts.specs.Reading.{ascii_of, keyword_of, command_of, with_keys, with_frames, with_liar, with_command, going_on}
use Rattle.scenario_texts.specs.Reading.{first_plan}
use Rattle.scenario_texts.specs.Reading.{next_by_keyword, next_by_words, next_of}
use Rattle.scenario_texts.specs.declared.keyword.Keyword.{Keyword}
use Rattle.scenario_texts.specs.declared.keyword.Keyword.TheVariants as keyword
use Rattle.scenario_texts.specs.declared.command.Command.{Command}
use Rattle.scenario_texts.proofs.Options.{bind_some}
use Rattle.scenario_texts.proofs.Splits.{slice_split-join}
use Rattle.scenario_texts.proofs.Visible.{IsWords, IsWord-number_text, Lacks-word, Lacks-words, small_words}
use Rattle.scenario_texts.proofs.CommandReading.{keyword_of-sound, keyword_of-again, command_of-sound}
use Rattle.scenario_texts.proofs.CommandAgain.{seen_word, words_of_command}
use Rattle.scenario_texts.proofs.PlanReading.{cluster, kind_number-small, begun_of-sound, params_small, with_keys-sound, with_frames-sound}
use Rattle.scenario_texts.proofs.PlanReading.{with_liar-sound, IsEarly}
use Rattle.scenario_texts.proofs.PlanReading.{MayLie}

-- these are the lines that count of what was read
abbrev pub Shows : AppKinds → Option Plan → List (List ℕ) → Type 0
Shows kinds None lines = lines ≡ []
Shows kinds (Some p) lines = (lines ≡ plan_lines p) × IsPlan kinds p

-- after a line more, whose words are of visible characters
pub record ShowsMore (kinds : AppKinds) (lines : List (List ℕ)) (words : List (List ℕ)) (q : Plan) : Type 0 where
  pub spelled : lines ++ words_text words ∷ [] ≡ plan_lines q
  pub lawful : IsPlan kinds q
  pub visible : IsWords words

-- a liar's number is small
pub liar_small : (kinds : AppKinds) (p : Plan) → IsPlan kinds p → (r : ℕ) → Contains p.liars r → IsNumber r
liar_small kinds p is r among =
    let below : r < p.replicas = All-contains (λ liar. liar < p.replicas) p.liars r
    (All-from_recursion (λ liar. liar < p.replicas) p.liars is.setup.replicas) among in
    omega (arith, is.setup.bounded)

-- a step more
plan_lines-command : (p : Plan) (c : Command)
    → plan_lines (record p { commands = p.commands ++ c ∷ [] }) ≡ plan_lines p ++ command_text c ∷ []
unfolding plan_lines
plan_lines-command p c = ap (λ ls. setup_lines p ++ ls) (map_push command_text p.commands c)
    ∙ sym (append_assoc (setup_lines p) (map command_text p.commands) (command_text c ∷ []))

with_command_shows : (kinds : AppKinds) (p : Plan) (k : Keyword) (fields : List (List ℕ)) (q : Plan) (lines : List (List ℕ))
    → with_command p k fields ≡ Some q → Shows kinds (Some p) lines → ShowsMore kinds lines (keyword_text k ∷ fields) q
unfolding with_command command_text
with_command_shows kinds p k fields q lines e (spelled, is) =
    let make : Command → Option Plan = λ c. Some (record p { commands = p.commands ++ c ∷ [] }) in
    let (c, (read, some)) = bind_some make (command_of p.frames p.liars k fields) q e in
    let next : Plan = record p { commands = p.commands ++ c ∷ [] } in
    let same : next ≡ q = cc in
    let said = command_of-sound p.frames p.liars k fields c read in
    let lawful : IsPlan kinds next = record {
      setup =
          record {
            kind = is.setup.kind;
            enough = is.setup.enough;
            bounded = is.setup.bounded;
            tolerant = is.setup.tolerant;
            few = is.setup.few;
            replicas =
                is.setup.replicas;
            different = is.setup.different;
          };
      commands = all_by_recursion_push (IsCommand p.frames p.liars) p.commands c is.commands said.1;
    } in
    subst (λ (x : Plan). ShowsMore kinds lines (keyword_text k ∷ fields) x) same (record {
      spelled = ap (λ ls. ls ++ words_text (keyword_text k ∷ fields) ∷ []) spelled ∙ ap (λ ws. plan_lines p ++ words_text ws ∷ []) said.0
          ∙ sym (plan_lines-command p c);
      lawful = lawful;
      visible = subst IsWords (sym said.0) (words_of_command p.frames p.liars (liar_small kinds p is) c said.1);
    })

-- a liar's line more, where no step stands
lines_liar : (head : List (List ℕ)) (liars : List ℕ) (n : ℕ) (steps : List Command) → steps ≡ []
    → (head ++ map liar_text (liars ++ n ∷ [])) ++ map command_text steps ≡ ((head ++ map liar_text liars) ++ map command_text steps)
    ++ liar_text n ∷ []
lines_liar head liars n [] e =
    append-nil (head ++ map liar_text (liars ++ n ∷ []))
    ∙ ap (λ ls. head ++ ls) (map_push liar_text liars n)
    ∙ sym (append_assoc head (map liar_text liars) (liar_text n ∷ []))
    ∙ ap (λ ls. ls ++ liar_text n ∷ []) (sym (append-nil (head ++ map liar_text liars)))
lines_liar head liars n (c ∷ steps) e = absurd cc

-- a liar more
plan_lines-liar : (p : Plan) (n : ℕ) → p.commands ≡ []
    → plan_lines (record p { liars = p.liars ++ n ∷ [] }) ≡ plan_lines p ++ liar_text n ∷ []
unfolding plan_lines
plan_lines-liar p n none = lines_liar (words_text (config_words p.replicas p.faults p.kind) ∷ keys_lines p.keys ++ frames_lines p.frames)
    p.liars n p.commands none

-- none of them is the number
turned : (n : ℕ) (liars : List ℕ) → list_any (λ liar. liar == n) liars ≡ false → list_any (nat_eq n) liars ≡ false
turned n [] e = refl
turned n (x ∷ liars) e = by_test (x == n) refl e (turned n liars)
  where
    by_test : (t : Bool) → (x == n) ≡ t → (t || list_any (λ liar. liar == n) liars) ≡ false
        → (list_any (λ liar. liar == n) liars ≡ false → list_any (nat_eq n) liars ≡ false)
        → (nat_eq n x || list_any (nat_eq n) liars) ≡ false
    by_test true is e later = absurd cc
    by_test false is e later = let other : nat_eq n x ≡ false = nat_eq_equiv.symm n x ∙ is in rw other (later e)

-- where one more is named a liar
liar_lawful : (kinds : AppKinds) (p : Plan) (n : ℕ) → IsPlan kinds p → MayLie p n → IsPlan kinds (record p { liars = p.liars ++ n ∷ [] })
liar_lawful kinds p n is may = record {
  setup = record {
    kind = is.setup.kind;
    enough = is.setup.enough;
    bounded = is.setup.bounded;
    tolerant = is.setup.tolerant;
    few = omega (arith, length-append p.liars (n ∷ []), may.few);
    replicas = all_by_recursion_push (λ liar. liar < p.replicas) p.liars n is.setup.replicas may.within;
    different = IsDistinct-push nat_eq_equiv p.liars n is.setup.different (turned n p.liars may.fresh);
  };
  commands = subst (λ (cs : List Command). AllByRecursion (IsCommand p.frames (p.liars ++ n ∷ [])) cs) (sym may.no_steps) tt;
}

with_liar_shows : (kinds : AppKinds) (p : Plan) (fields : List (List ℕ)) (q : Plan) (lines : List (List ℕ)) → with_liar p fields ≡ Some q
    → Shows kinds (Some p) lines → ShowsMore kinds lines (codes "liar" ∷ fields) q
with_liar_shows kinds p fields q lines e (spelled, is) =
    let takes = with_liar-sound p fields q e in
    subst (λ (x : Plan). ShowsMore kinds lines (codes "liar" ∷ fields) x) (sym takes.taken) (record {
      spelled = ap (λ ls. ls ++ words_text (codes "liar" ∷ fields) ∷ []) spelled
          ∙ ap (λ fs. plan_lines p ++ words_text (codes "liar" ∷ fs) ∷ []) takes.spelled
          ∙ sym (plan_lines-liar p takes.liar takes.may.no_steps);
      lawful = liar_lawful kinds p takes.liar is takes.may;
      visible = subst (λ fs. IsWords (codes "liar" ∷ fs)) (sym takes.spelled)
          (seen_word (codes "liar") refl, (IsWord-number_text takes.liar takes.small, tt));
    })

-- the lines of an early plan
early_lines : (p : Plan) → IsEarly p → plan_lines p ≡ words_text (config_words p.replicas p.faults p.kind) ∷ keys_lines p.keys
unfolding plan_lines
early_lines p early =
    rw (early.first, early.no_liars, early.no_steps) (append-nil _ ∙ append-nil _ ∙ append-nil _)

-- a parameter set
plan_lines-keys : (p : Plan) (keys : Params) → p.keys ≡ None → IsEarly p
    → plan_lines (record p { keys = Some keys }) ≡ plan_lines p ++ words_text (params_words keys) ∷ []
plan_lines-keys p keys unset early =
    let config = words_text (config_words p.replicas p.faults p.kind) in
    early_lines (record p { keys = Some keys }) (record { first = early.first; no_liars = early.no_liars; no_steps = early.no_steps })
    ∙ ap (λ (o : Option Params). config ∷ keys_lines o ++ words_text (params_words keys) ∷ []) (sym unset)
    ∙ ap (λ (ls : List (List ℕ)). ls ++ words_text (params_words keys) ∷ []) (sym (early_lines p early))

-- a version
plan_lines-frames : (p : Plan) → IsEarly p
    → plan_lines (record p { frames = version.Two }) ≡ plan_lines p ++ words_text frames_words ∷ []
unfolding plan_lines
plan_lines-frames p early =
    let line : List ℕ = words_text frames_words in
    let config : List ℕ = words_text (config_words p.replicas p.faults p.kind) in
    let last : plan_lines (record p { frames = version.Two }) ≡ (config ∷ keys_lines p.keys) ++ line ∷ [] =
    rw (early.no_liars, early.no_steps) (append-nil _ ∙ append-nil _) in
    last ∙ ap (λ (ls : List (List ℕ)). ls ++ line ∷ []) (sym (early_lines p early))

with_keys_shows : (kinds : AppKinds) (p : Plan) (fields : List (List ℕ)) (q : Plan) (lines : List (List ℕ)) → with_keys p fields ≡ Some q
    → Shows kinds (Some p) lines → ShowsMore kinds lines (codes "keys" ∷ fields) q
with_keys_shows kinds p fields q lines e (spelled, is) =
    let takes = with_keys-sound p fields q e in
    let small = params_small takes.keys in
    subst (λ (x : Plan). ShowsMore kinds lines (codes "keys" ∷ fields) x) (sym takes.taken) (record {
      spelled = ap (λ ls. ls ++ words_text (codes "keys" ∷ fields) ∷ []) spelled
          ∙ ap (λ ws. plan_lines p ++ words_text ws ∷ []) takes.spelled
          ∙ sym (plan_lines-keys p takes.keys takes.none takes.early);
      lawful = record {
        setup = record {
          kind = is.setup.kind;
          enough = is.setup.enough;
          bounded = is.setup.bounded;
          tolerant = is.setup.tolerant;
          few = is.setup.few;
          replicas =
              is.setup.replicas;
          different = is.setup.different;
        };
        commands = is.commands;
      };
      visible = subst IsWords (sym takes.spelled) (
        seen_word (codes "keys") refl,
        (IsWord-number_text (bits_of takes.keys.width) small.0, (IsWord-number_text (levels_of takes.keys.height) small.1, tt)),
      );
    })

-- a version
with_frames_shows : (kinds : AppKinds) (p : Plan) (fields : List (List ℕ)) (q : Plan) (lines : List (List ℕ)) → with_frames p fields ≡ Some q
    → Shows kinds (Some p) lines → ShowsMore kinds lines (codes "frames" ∷ fields) q
with_frames_shows kinds p fields q lines e (spelled, is) =
    let takes = with_frames-sound p fields q e in
    subst (λ (x : Plan). ShowsMore kinds lines (codes "frames" ∷ fields) x) (sym takes.taken) (record {
      spelled = ap (λ ls. ls ++ words_text (codes "frames" ∷ fields) ∷ []) spelled
          ∙ ap (λ fs. plan_lines p ++ words_text (codes "frames" ∷ fs) ∷ []) takes.spelled
          ∙ sym (plan_lines-frames p takes.early);
      lawful = record {
        setup = record {
          kind = is.setup.kind;
          enough = is.setup.enough;
          bounded = is.setup.bounded;
          tolerant = is.setup.tolerant;
          few = is.setup.few;
          replicas = is.setup.replicas;
          different = is.setup.different;
        };
        commands = subst (λ (cs : List Command). AllByRecursion (IsCommand version.Two p.liars) cs) (sym takes.early.no_steps) tt;
      };
      visible = subst (λ fs. IsWords (codes "frames" ∷ fs)) (sym takes.spelled)
          (seen_word (codes "frames") refl, (seen_word (codes "2") refl, tt));
    })

-- the words of a cluster
pub config_visible : (kinds : AppKinds) (replicas faults : ℕ) (kind : AppKind) → IsSetup kinds (cluster replicas faults kind)
    → IsWords (config_words replicas faults kind)
unfolding cluster
config_visible kinds replicas faults kind is = (
  seen_word (codes "config") refl,
  (
    IsWord-number_text replicas (omega (arith, is.bounded)),
    (
      IsWord-number_text faults (omega (arith, is.bounded, is.enough)),
      (IsWord-number_text (kind_number kind) (kind_number-small kind), tt),
    ),
  ),
)

-- the cluster
config_shows : (kinds : AppKinds) (fields : List (List ℕ)) (q : Plan) (lines : List (List ℕ)) → first_plan kinds keyword.Config fields ≡ Some q → lines ≡ []
    → ShowsMore kinds lines (codes "config" ∷ fields) q
unfolding first_plan plan_lines cluster
config_shows kinds fields q lines e none =
    let (replicas, (faults, (kind, (spelled, (same, is))))) = begun_of-sound kinds fields q e in
    subst (λ (x : Plan). ShowsMore kinds lines (codes "config" ∷ fields) x) (sym same) (record {
      spelled = ap (λ ls. ls ++ words_text (codes "config" ∷ fields) ∷ []) none ∙ ap (λ ws. words_text ws ∷ []) spelled;
      lawful = record { setup = is; commands = tt };
      visible = subst IsWords (sym spelled) (config_visible kinds replicas faults kind is);
    })

-- a line by its keyword
keyword_shows : (kinds : AppKinds) (s : Option Plan) (k : Keyword) (fields : List (List ℕ)) (q : Plan) (lines : List (List ℕ))
    → next_by_keyword kinds s k fields ≡ Some q → Shows kinds s lines → ShowsMore kinds lines (keyword_text k ∷ fields) q
unfolding next_by_keyword going_on first_plan
keyword_shows kinds None keyword.Config fields q lines e shows = config_shows kinds fields q lines e shows
keyword_shows kinds None keyword.Keys fields q lines e shows = absurd cc
keyword_shows kinds None keyword.Frames fields q lines e shows = absurd cc
keyword_shows kinds None keyword.Liar fields q lines e shows = absurd cc
keyword_shows kinds None keyword.Submit fields q lines e shows = absurd cc
keyword_shows kinds None keyword.Propose fields q lines e shows = absurd cc
keyword_shows kinds None keyword.End fields q lines e shows = absurd cc
keyword_shows kinds None keyword.Pass fields q lines e shows = absurd cc
keyword_shows kinds None keyword.Inject fields q lines e shows = absurd cc
keyword_shows kinds None keyword.Execute fields q lines e shows = absurd cc
keyword_shows kinds None keyword.Query fields q lines e shows = absurd cc
keyword_shows kinds None keyword.Retire fields q lines e shows = absurd cc
keyword_shows kinds None keyword.Info fields q lines e shows = absurd cc
keyword_shows kinds None keyword.Silent fields q lines e shows = absurd cc
keyword_shows kinds None keyword.Round fields q lines e shows = absurd cc
keyword_shows kinds None keyword.LieReport fields q lines e shows = absurd cc
keyword_shows kinds None keyword.LieLock fields q lines e shows = absurd cc
keyword_shows kinds None keyword.LieStale fields q lines e shows = absurd cc
keyword_shows kinds None keyword.LieAck fields q lines e shows = absurd cc
keyword_shows kinds (Some p) keyword.Config fields q lines e shows = absurd cc
keyword_shows kinds (Some p) keyword.Keys fields q lines e shows = with_keys_shows kinds p fields q lines e shows
keyword_shows kinds (Some p) keyword.Frames fields q lines e shows = with_frames_shows kinds p fields q lines e shows
keyword_shows kinds (Some p) keyword.Liar fields q lines e shows = with_liar_shows kinds p fields q lines e shows
keyword_shows kinds (Some p) keyword.Submit fields q lines e shows = with_command_shows kinds p keyword.Submit fields q lines e shows
keyword_shows kinds (Some p) keyword.Propose fields q lines e shows = with_command_shows kinds p keyword.Propose fields q lines e shows
keyword_shows kinds (Some p) keyword.End fields q lines e shows = with_command_shows kinds p keyword.End fields q lines e shows
keyword_shows kinds (Some p) keyword.Pass fields q lines e shows = with_command_shows kinds p keyword.Pass fields q lines e shows
keyword_shows kinds (Some p) keyword.Inject fields q lines e shows = with_command_shows kinds p keyword.Inject fields q lines e shows
keyword_shows kinds (Some p) keyword.Execute fields q lines e shows = with_command_shows kinds p keyword.Execute fields q lines e shows
keyword_shows kinds (Some p) keyword.Query fields q lines e shows = with_command_shows kinds p keyword.Query fields q lines e shows
keyword_shows kinds (Some p) keyword.Retire fields q lines e shows = with_command_shows kinds p keyword.Retire fields q lines e shows
keyword_shows kinds (Some p) keyword.Info fields q lines e shows = with_command_shows kinds p keyword.Info fields q lines e shows
keyword_shows kinds (Some p) keyword.Silent fields q lines e shows = with_command_shows kinds p keyword.Silent fields q lines e shows
keyword_shows kinds (Some p) keyword.Round fields q lines e shows = with_command_shows kinds p keyword.Round fields q lines e shows
keyword_shows kinds (Some p) keyword.LieReport fields q lines e shows = with_command_shows kinds p keyword.LieReport fields q lines e shows
keyword_shows kinds (Some p) keyword.LieLock fields q lines e shows = with_command_shows kinds p keyword.LieLock fields q lines e shows
keyword_shows kinds (Some p) keyword.LieStale fields q lines e shows = with_command_shows kinds p keyword.LieStale fields q lines e shows
keyword_shows kinds (Some p) keyword.LieAck fields q lines e shows = with_command_shows kinds p keyword.LieAck fields q lines e shows

-- by its words
words_show : (kinds : AppKinds) (s : Option Plan) (words : List (List ℕ)) (q : Plan) (lines : List (List ℕ)) → next_by_words kinds s words ≡ Some q → Shows kinds s lines
    → ShowsMore kinds lines words q
unfolding next_by_words
words_show kinds s [] q lines e shows = absurd cc
words_show kinds s (word ∷ fields) q lines e shows =
    let next : Keyword → Option Plan = λ k. next_by_keyword kinds s k fields in
    let (k, (read, more)) = bind_some next (keyword_of word) q e in
    let spelled = keyword_of-sound word k read in
    subst (λ (w : List ℕ). ShowsMore kinds lines (w ∷ fields) q) (sym spelled) (keyword_shows kinds s k fields q lines more shows)

-- the words of a line
abbrev pub words_of : List ℕ → List (List ℕ)
words_of line = slice_split (λ b. b == 32) line

-- the line is its words, parted by one space
pub line_of_words : (line : List ℕ) → words_text (words_of line) ≡ line
line_of_words line = join_with_byte-slice_split 32 line

-- a line that was read is ASCII
ascii_line : (line text : List ℕ) → ascii_of line ≡ Some text → line ≡ text
unfolding ascii_of
ascii_line line text e = (cond_some (list_all is_ascii line) line text e).1

-- what is ASCII is read
ascii_again : (line : List ℕ) → All (λ b. b < 128) line → ascii_of line ≡ Some line
unfolding ascii_of
ascii_again line small =
    let each : AllPass is_ascii line = All-weaker (λ b. b < 128) (λ b. is_ascii b ≡ true) passes line small in
    rw (list_all-from_AllPass is_ascii line each) refl
  where
    passes : (b : ℕ) → b < 128 → is_ascii b ≡ true
    passes b h = grind (arith, nat_tests)

-- what passes is ASCII text
pub ascii_text : {E : Type 0} (Q : E → Type 0) (line : List ℕ) (r : Result (Bor (List ℕ)) E) → list_all is_ascii line ≡ true
    → MatchResult r (λ s. (s.now ≡ line) × IsUtf8 line) (λ e. (IsUtf8 line → ⊥) × Q e)
    → option_map (λ text. text.now) (result_ok r) ≡ ascii_of line
unfolding ascii_of
ascii_text Q line (Ok s) all (same, utf8) = rw all (ap Some same)
ascii_text Q line (Err e) all (no_text, more) =
    let each : All (λ b. b < 128) line =
    All-weaker (λ b. is_ascii b ≡ true) (λ b. b < 128) small line (AllPass-from_list_all is_ascii line all) in
    absurd (no_text (IsUtf8-from_ascii line (IsAscii-from_all line each)))
  where
    small : (b : ℕ) → is_ascii b ≡ true → b < 128
    small b h = grind (arith, nat_tests)

-- a line more
pub line_shows : (kinds : AppKinds) (s : Option Plan) (line : List ℕ) (q : Plan) (lines : List (List ℕ)) → next_of kinds s line ≡ Some q → Shows kinds s lines
    → ShowsMore kinds lines (words_of line) q
unfolding next_of
line_shows kinds s line q lines e shows =
    let read : List ℕ → Option Plan = λ text. next_by_words kinds s (words_of text) in
    let (text, (ascii, more)) = bind_some read (ascii_of line) q e in
    let same = ascii_line line text ascii in
    words_show kinds s (words_of line) q lines (ap read same ∙ more) shows

-- a line that is written so is read by its keyword and its fields
pub next_of-words : (kinds : AppKinds) (s : Option Plan) (k : Keyword) (fields : List (List ℕ)) → IsWords (keyword_text k ∷ fields)
    → next_of kinds s (words_text (keyword_text k ∷ fields)) ≡ next_by_keyword kinds s k fields
unfolding next_of next_by_words
next_of-words kinds s k fields (first, all) =
    let read : List ℕ → Option Plan = λ text. next_by_words kinds s (words_of text) in
    ap (option_and_then read) (ascii_again (words_text (keyword_text k ∷ fields)) (small_words (keyword_text k ∷ fields) (first, all)))
    ∙ ap (next_by_words kinds s) (slice_split-join 32 (keyword_text k) fields (Lacks-word (keyword_text k) first) (Lacks-words fields all))
    ∙ ap (option_and_then (λ x. next_by_keyword kinds s x fields)) (keyword_of-again k)
