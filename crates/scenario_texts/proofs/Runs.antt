-- A plan is read back from its lines.
use Rattle.ledger_model.specs.declared.config.AppKinds.{AppKinds}
use Rattle.std.proofs.Common.{◌≡◌, ◌∙◌, ℕ, ◌<◌, ◌≤◌, false, List, [], ◌∷◌, ◌++◌, map, length, refl, sym, ap, subst, append_assoc, arith}
use Rattle.std.specs.Prelude.{◌==◌, nat_eq, codes, Option, Some, None, Contains, option_and_then}
use Rattle.std.specs.List.{list_any, AllByRecursion, IsDistinct}
use Rattle.std.proofs.lemmas.List.{append-nil, length-append}
use Rattle.std.proofs.lemmas.Map.Keys.{IsDistinct-head, IsDistinct-tail}
use Rattle.ledger_model.specs.declared.config.AppKind.{AppKind}
use Rattle.ledger_model.specs.declared.version.Version.{Version}
use Rattle.ledger_model.specs.declared.version.Version.TheVariants as version
use Rattle.lm_ots.specs.Parameters.{bits_of, levels_of}
use Rattle.lm_ots.specs.declared.params.Params.{Params}
use Rattle.plain_text.specs.Numbers.{number_text}
use Rattle.ledger_model.specs.Numbers.{kind_number}
use Rattle.scenario_texts.specs.Plans.{Plan}
use Rattle.scenario_texts.specs.Words.{keyword_text}
use Rattle.scenario_texts.specs.Lawful.{IsNumber, IsSetup, IsPlan, IsCommand}
use Rattle.scenario_texts.specs.Texts.{words_text, command_text, config_words, params_words, keys_lines, frames_lines}
use Rattle.scenario_texts.specs.Texts.{frames_words, liar_text, plan_lines}
use Rattle.scenario_texts.specs.Reading.{with_command, going_on, first_plan, next_by_keyword, next_of}
use Rattle.scenario_texts.specs.declared.keyword.Keyword.TheVariants as keyword
use Rattle.scenario_texts.specs.declared.command.Command.{Command}
use Rattle.scenario_texts.proofs.Visible.{IsWords, IsWord-number_text}
use Rattle.scenario_texts.proofs.CommandAgain.{seen_word, command_again, words_of_command}
use Rattle.scenario_texts.proofs.PlanReading.{cluster, begun_of-again, params_small, with_keys-again, with_frames-again}
use Rattle.scenario_texts.proofs.PlanReading.{with_liar-again, MayLie, IsEarly}
use Rattle.scenario_texts.proofs.LineReading.{config_visible, liar_small, next_of-words}

-- what is read of lines that count, after what was read before
unfoldable pub run : AppKinds → Option Plan → List (List ℕ) → Option (Option Plan)
run kinds s [] = Some s
run kinds s (line ∷ lines) = option_and_then (λ p. run kinds (Some p) lines) (next_of kinds s line)

-- lines one after another
pub run-append : (kinds : AppKinds) (s t : Option Plan) (lines more : List (List ℕ)) → run kinds s lines ≡ Some t → run kinds s (lines ++ more) ≡ run kinds t more
unfolding run
run-append kinds s t [] more e = let same : s ≡ t = cc in ap (λ x. run kinds x more) same
run-append kinds s t (line ∷ lines) more e = by_next (next_of kinds s line) e (λ p. run-append kinds (Some p) t lines more)
  where
    by_next : (o : Option Plan) → option_and_then (λ p. run kinds (Some p) lines) o ≡ Some t
        → ((p : Plan) → run kinds (Some p) lines ≡ Some t → run kinds (Some p) (lines ++ more) ≡ run kinds t more)
        → option_and_then (λ p. run kinds (Some p) (lines ++ more)) o ≡ run kinds t more
    by_next None e later = absurd cc
    by_next (Some p) e later = later p e

-- a line and those after it
pub run-cons : (kinds : AppKinds) (s : Option Plan) (line : List ℕ) (lines : List (List ℕ)) (p : Plan) → next_of kinds s line ≡ Some p
    → run kinds s (line ∷ lines) ≡ run kinds (Some p) lines
unfolding run
run-cons kinds s line lines p e = ap (option_and_then (λ q. run kinds (Some q) lines)) e

-- a line that is bad
pub run-bad : (kinds : AppKinds) (s : Option Plan) (line : List ℕ) (lines : List (List ℕ)) → next_of kinds s line ≡ None → run kinds s (line ∷ lines) ≡ None
unfolding run
run-bad kinds s line lines e = ap (option_and_then (λ q. run kinds (Some q) lines)) e

-- the line of the cluster
config_again : (kinds : AppKinds) (p : Plan) → IsSetup kinds p → IsSetup kinds (cluster p.replicas p.faults p.kind)
    → next_of kinds None (words_text (config_words p.replicas p.faults p.kind)) ≡ Some (cluster p.replicas p.faults p.kind)
unfolding next_by_keyword first_plan
config_again kinds p is alone =
    next_of-words kinds None keyword.Config (number_text p.replicas ∷ number_text p.faults ∷ number_text (kind_number p.kind) ∷ [])
    (config_visible kinds p.replicas p.faults p.kind alone) ∙ begun_of-again kinds p is

-- the line of a parameter set
keys_again : (kinds : AppKinds) (p : Plan) (keys : Params) → p.keys ≡ None → IsEarly p
    → next_of kinds (Some p) (words_text (params_words keys)) ≡ Some (record p { keys = Some keys })
unfolding next_by_keyword going_on
keys_again kinds p keys none early =
    let small = params_small keys in
    next_of-words kinds (Some p) keyword.Keys (number_text (bits_of keys.width) ∷ number_text (levels_of keys.height) ∷ []) (
      seen_word (codes "keys") refl,
      (IsWord-number_text (bits_of keys.width) small.0, (IsWord-number_text (levels_of keys.height) small.1, tt)),
    )
    ∙ with_keys-again p keys none early

-- the line of a version
frames_again : (kinds : AppKinds) (p : Plan) → IsEarly p
    → next_of kinds (Some p) (words_text frames_words) ≡ Some (record p { frames = version.Two })
unfolding next_by_keyword going_on
frames_again kinds p early =
    next_of-words kinds (Some p) keyword.Frames (codes "2" ∷ []) (seen_word (codes "frames") refl, (seen_word (codes "2") refl, tt))
    ∙ with_frames-again p early

-- the line of a liar
liar_again : (kinds : AppKinds) (p : Plan) (n : ℕ) → IsNumber n → MayLie p n → next_of kinds (Some p) (liar_text n) ≡ Some (record p { liars = p.liars ++ n ∷ [] })
unfolding next_by_keyword going_on
liar_again kinds p n small may =
    next_of-words kinds (Some p) keyword.Liar (number_text n ∷ []) (seen_word (codes "liar") refl, (IsWord-number_text n small, tt))
    ∙ with_liar-again p n small may

-- the line of a step
step_again : (kinds : AppKinds) (p : Plan) (c : Command) → ((r : ℕ) → Contains p.liars r → IsNumber r) → IsCommand p.frames p.liars c
    → next_of kinds (Some p) (command_text c) ≡ Some (record p { commands = p.commands ++ c ∷ [] })
unfolding next_by_keyword with_command command_text
step_again kinds p c small is =
    let again = command_again p.frames p.liars small c is in
    let visible : IsWords (keyword_text again.keyword ∷ again.fields) = subst IsWords again.spelled
    (words_of_command p.frames p.liars small c is) in
    ap (λ ws. next_of kinds (Some p) (words_text ws)) again.spelled
    ∙ next_of-words kinds (Some p) again.keyword again.fields visible
    ∙ again.is_step p
    ∙ ap (option_and_then (λ x. Some (record p { commands = p.commands ++ x ∷ [] }))) again.reads

-- the lines of steps
steps_again : (kinds : AppKinds) (p : Plan) (steps : List Command) → ((r : ℕ) → Contains p.liars r → IsNumber r)
    → AllByRecursion (IsCommand p.frames p.liars) steps
    → run kinds (Some p) (map command_text steps) ≡ Some (Some (record p { commands = p.commands ++ steps }))
unfolding run
steps_again kinds p [] small all = ap (λ cs. Some (Some (record p { commands = cs }))) (sym (append-nil p.commands))
steps_again kinds p (c ∷ steps) small (first, all) =
    let next : Plan = record p { commands = p.commands ++ c ∷ [] } in
    run-cons kinds (Some p) (command_text c) (map command_text steps) next (step_again kinds p c small first)
    ∙ steps_again kinds next steps small all
    ∙ ap (λ cs. Some (Some (record p { commands = cs }))) (append_assoc p.commands (c ∷ []) steps)

-- no number comes twice
fresh_in : (n : ℕ) (done more : List ℕ) → IsDistinct nat_eq (done ++ n ∷ more) → list_any (λ liar. liar == n) done ≡ false
fresh_in n [] more apart = refl
fresh_in n (x ∷ done) more apart =
    rw (at_middle (λ y. nat_eq x y ≡ false) done n more (IsDistinct-head nat_eq x (done ++ n ∷ more) apart))
    (fresh_in n done more (IsDistinct-tail nat_eq x (done ++ n ∷ more) apart))
  where
    at_middle : (P : ℕ → Type 0) (xs : List ℕ) (y : ℕ) (ys : List ℕ) → AllByRecursion P (xs ++ y ∷ ys) → P y
    at_middle P [] y ys (first, all) = first
    at_middle P (z ∷ xs) y ys (first, all) = at_middle P xs y ys all

-- the lines of liars
liars_again : (kinds : AppKinds) (p : Plan) (more : List ℕ) → p.commands ≡ [] → p.replicas ≤ 13 → length (p.liars ++ more) ≤ p.faults
    → AllByRecursion (λ liar. liar < p.replicas) more → IsDistinct nat_eq (p.liars ++ more)
    → run kinds (Some p) (map liar_text more) ≡ Some (Some (record p { liars = p.liars ++ more }))
unfolding run
liars_again kinds p [] first bounded few below apart = ap (λ ls. Some (Some (record p { liars = ls }))) (sym (append-nil p.liars))
liars_again kinds p (n ∷ more) first bounded few (within, below) apart =
    let next : Plan = record p { liars = p.liars ++ n ∷ [] } in
    let may : MayLie p n = record {
      no_steps = first;
      few = omega (arith, length-append p.liars (n ∷ more), few);
      within = within;
      fresh =
          fresh_in n p.liars more apart;
    } in
    let whole : (p.liars ++ n ∷ []) ++ more ≡ p.liars ++ n ∷ more = append_assoc p.liars (n ∷ []) more in
    run-cons kinds (Some p) (liar_text n) (map liar_text more) next (liar_again kinds p n (omega arith) may)
    ∙ liars_again kinds next more first bounded (subst (λ ls. length ls ≤ p.faults) (sym whole) few) below
    (subst (IsDistinct nat_eq) (sym whole) apart)
    ∙ ap (λ ls. Some (Some (record p { liars = ls }))) whole

-- the plan of a cluster and a parameter set
abbrev keyed : ℕ → ℕ → AppKind → Option Params → Plan
keyed replicas faults kind keys = record {
  replicas = replicas;
  faults = faults;
  kind = kind;
  keys = keys;
  frames = version.One;
  liars = [];
  commands = [];
}

-- the line of a parameter set, if there is one
keys_run : (kinds : AppKinds) (replicas faults : ℕ) (kind : AppKind) (keys : Option Params)
    → run kinds (Some (cluster replicas faults kind)) (keys_lines keys)
    ≡ Some (Some (keyed replicas faults kind keys))
unfolding run cluster
keys_run kinds replicas faults kind None = refl
keys_run kinds replicas faults kind (Some keys) =
    run-cons kinds (Some (cluster replicas faults kind)) (words_text (params_words keys)) [] (keyed replicas faults kind (Some keys))
    (keys_again kinds (cluster replicas faults kind) keys refl (record { first = refl; no_liars = refl; no_steps = refl }))

-- the line of a version, if there is one
frames_run : (kinds : AppKinds) (p : Plan) (frames : Version) → IsEarly p → run kinds (Some p) (frames_lines frames) ≡ Some (Some (record p { frames = frames }))
unfolding run
frames_run kinds p version.One early = ap (λ (own : Version). Some (Some (record p { frames = own }))) early.first
frames_run kinds p version.Two early =
    run-cons kinds (Some p) (words_text frames_words) [] (record p { frames = version.Two }) (frames_again kinds p early)

-- the cluster alone is lawful
alone_lawful : (kinds : AppKinds) (p : Plan) → IsSetup kinds p → IsSetup kinds (cluster p.replicas p.faults p.kind)
unfolding cluster IsDistinct
alone_lawful kinds p is = record {
  kind = is.kind;
  enough = is.enough;
  bounded = is.bounded;
  tolerant = is.tolerant;
  few = omega arith;
  replicas =
      tt;
  different = tt;
}

-- a plan is read again
pub plan_again : (kinds : AppKinds) (p : Plan) → IsPlan kinds p → run kinds None (plan_lines p) ≡ Some (Some p)
unfolding plan_lines
plan_again kinds p is =
    let start : Plan = cluster p.replicas p.faults p.kind in
    let with_keys : Plan = keyed p.replicas p.faults p.kind p.keys in
    let with_version : Plan = record with_keys { frames = p.frames } in
    let set : Plan = record p { commands = [] } in
    let front : List (List ℕ) = keys_lines p.keys ++ frames_lines p.frames in
    let lines : List (List ℕ) = front ++ map liar_text p.liars in
    let versions : run kinds (Some start) front ≡ Some (Some with_version) =
    run-append kinds (Some start) (Some with_keys) (keys_lines p.keys) (frames_lines p.frames) (keys_run kinds p.replicas p.faults p.kind p.keys)
    ∙ frames_run kinds with_keys p.frames (record { first = refl; no_liars = refl; no_steps = refl }) in
    let setup : run kinds (Some start) lines ≡ Some (Some set) =
    run-append kinds (Some start) (Some with_version) front (map liar_text p.liars) versions
    ∙ liars_again kinds with_version p.liars refl is.setup.bounded is.setup.few is.setup.replicas is.setup.different in
    run-cons kinds None (words_text (config_words p.replicas p.faults p.kind)) (lines ++ map command_text p.commands) start
    (config_again kinds p is.setup (alone_lawful kinds p is.setup))
    ∙ run-append kinds (Some start) (Some set) lines (map command_text p.commands) setup
    ∙ steps_again kinds set p.commands (liar_small kinds p is) is.commands
