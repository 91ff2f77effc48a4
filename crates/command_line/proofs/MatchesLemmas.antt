-- From the matches of the words to the subcommand that they name.
use Rattle.ledger_model.specs.declared.config.AppKinds.{AppKinds}
use Rattle.ledger_model.specs.declared.config.AppKinds.TheVariants.{Three, OwnAlone}
use Rattle.app_states.specs.ProgramWords.{ProgramWords}
use Rattle.ledger_model.specs.Meanings.{Meanings}
use Rattle.std.proofs.Common.{◌≡◌, ◌∙◌, true, false, List, refl, sym, ap, subst, codes, inl, inr}
use Rattle.std.specs.Prelude.{◌⊎◌, Option, Some, None, Result, Ok, Err, IfOk, IfErr, OnErr, IsOkAnd, MatchResult, option_map}
use Rattle.std.specs.Prelude.{◌↔◌, Bool, IsTrue, not, option_and_then, find}
use Rattle.std.specs.Str.{bytes_eq}
use Rattle.std.proofs.lemmas.Bool.Decides.{not_from_Decides}
use Rattle.std.proofs.lemmas.Option.{same_Some}
use Rattle.std.proofs.lemmas.Slice.Eq.{bytes_eq-Decides}
use Rattle.clap.specs.Facts.{Entry}
use Rattle.clap.specs.Walk.{row_of}
use Rattle.clap.specs.Matches.{matched_of}
use Rattle.clap.specs.declared.parser.matches.Found.{Found}
use Rattle.clap.specs.declared.parser.matches.MatchedArg.{MatchedArg}
use Rattle.clap.proofs.WalkLemmas.{find-map}
use Rattle.clap.specs.Words.{App, Row, Text, HasMatchesOf, is_simple, found_of, rows_of, subcommand_of, subcommand_name_of}
use Rattle.clap.specs.Words.{subcommand_rows_of}
use Rattle.clap.specs.declared.parser.matches.ArgMatches.{ArgMatches}
use Rattle.clap.specs.declared.parser.matches.ArgMatches.TheViews.{out-ArgMatches, out-SubCommand}
use Rattle.std.specs.Box.{box_value}
use Rattle.clap.proofs.OnLiterals.{clap_on_literals}
use Rattle.command_line.specs.Grammar.{abft_app}
use Rattle.command_line.specs.Options.{Sets, SetsAudit, SetsDraw, SetsKeys, SetsSign, SetsDeliver, SetsSimulate, SetsRunning, SetsServe, WantsMemory}
use Rattle.command_line.specs.declared.given_keys.GivenKeys.{GivenKeys}
use Rattle.command_line.specs.declared.usage_fault.UsageFault.{UsageFault}
use Rattle.command_line.proofs.NumberLemmas.{on_err}
use Rattle.cluster_setup.specs.declared.cluster_seed.ClusterSeed.{ClusterSeed}
use Rattle.cluster_setup.specs.declared.sign_settings.SignSettings.{SignSettings}
use Rattle.cluster_setup.specs.declared.deliver_settings.DeliverSettings.{DeliverSettings}
use Rattle.cluster_setup.specs.declared.simulate_settings.SimulateSettings.{SimulateSettings}
use Rattle.cluster_setup.specs.declared.cluster_settings.ClusterSettings.{ClusterSettings}
use Rattle.cluster_setup.specs.declared.cluster_settings.ServeSettings.{ServeSettings}
use Rattle.cluster_setup.specs.declared.audit_settings.AuditSettings.{AuditSettings}
use Rattle.cluster_setup.specs.declared.draw_settings.DrawSettings.{DrawSettings}
use Rattle.cluster_setup.specs.declared.settings.Settings.{Settings}
use Rattle.cluster_setup.specs.declared.settings.Settings.TheVariants as settings

-- the program's command is one whose matches are known
pub abft_is_simple : (program : ProgramWords) → is_simple (abft_app program) ≡ true
unfolding clap_on_literals
abft_is_simple program = by program.name program.first_tx program.kinds
  where
    by : (name tx : Text) (kinds : AppKinds) → is_simple (abft_app (record { name = name; first_tx = tx; kinds = kinds })) ≡ true
    by name tx Three = refl
    by name tx OwnAlone = refl

-- a pair by its parts
pub pair_is : {A B : Type 0} (o : Option (A × B)) (x : A) (y : B) → option_map (λ (p : A × B). p.0) o ≡ Some x
    → option_map (λ (p : A × B). p.1) o ≡ Some y → o ≡ Some (x, y)
pair_is None x y first second = absurd cc
pair_is (Some (a, b)) x y first second = let f : a ≡ x = same_Some a x first in let g : b ≡ y = same_Some b y second in rw (f, g) refl

-- the first parts of what a map into pairs gives
firsts : {A B C : Type 0} (f : A → B) (g : A → C) → (o : Option A)
    → option_map (λ (p : B × C). p.0) (option_map (λ a. (f a, g a)) o) ≡ option_map f o
firsts f g None = refl
firsts f g (Some a) = refl

-- the name among the subcommand's rows
name_is : (m : ArgMatches) → option_map (λ p. p.0) (subcommand_rows_of m) ≡ subcommand_name_of m
name_is m = firsts (λ b. (out-SubCommand (box_value b)).name.now) (λ b. rows_of (found_of (out-SubCommand (box_value b)).matches))
    (out-ArgMatches m).subcommand

-- the subcommand's name and rows are what the matches give one by one
pub found_is : (m : ArgMatches) (name : Text) (rows : List Row) → Some name ≡ subcommand_name_of m
    → Some rows ≡ option_map (λ p. p.1) (subcommand_rows_of m)
    → subcommand_rows_of m ≡ Some (name, rows)
found_is m name rows named rowed = pair_is (subcommand_rows_of m) name rows (name_is m ∙ sym named) (sym rowed)

-- the subcommand of the matches is the one that the words name
pub rows_are : (program : ProgramWords) (m : ArgMatches) (app : App) (words : List Text) → app ≡ abft_app program → HasMatchesOf app words m
    → subcommand_rows_of m ≡ subcommand_of (abft_app program) words
rows_are program m app words is has = (has (ap is_simple is ∙ abft_is_simple program)).1 ∙ ap (λ a. subcommand_of a words) is

-- the name is one of the eight subcommands'
abbrev pub IsOneOfEight : Option Text → Type 0
IsOneOfEight name =
    (name ≡ Some (codes "sign")) ⊎
    ((name ≡ Some (codes "deliver"))
    ⊎ ((name ≡ Some (codes "simulate"))
    ⊎ ((name ≡ Some (codes "cluster")) ⊎ ((name ≡ Some (codes "serve")) ⊎ ((name ≡ Some (codes "audit"))
    ⊎ ((name ≡ Some (codes "draw")) ⊎ (name ≡ Some (codes "keys"))))))))

-- whatever is set is set by a subcommand of one of these names
named : (kinds : AppKinds) (meaning : Meanings) (given : GivenKeys) (o : Option (Text × List Row)) (s : Settings) → Sets kinds meaning given o s → IsOneOfEight (option_map (λ p. p.0) o)
named kinds meaning given None s sets = absurd sets
named kinds meaning given (Some p) (settings.Sign t) sets = inl (ap (λ n. Some n) sets.0)
named kinds meaning given (Some p) (settings.Deliver t) sets = inr (inl (ap (λ n. Some n) sets.0))
named kinds meaning given (Some p) (settings.Simulate t) sets = inr (inr (inl (ap (λ n. Some n) sets.0)))
named kinds meaning given (Some p) (settings.Cluster t) sets = inr (inr (inr (inl (ap (λ n. Some n) sets.0))))
named kinds meaning given (Some p) (settings.Serve t) sets = inr (inr (inr (inr (inl (ap (λ n. Some n) sets.0)))))
named kinds meaning given (Some p) (settings.Audit t) sets = inr (inr (inr (inr (inr (inl (ap (λ n. Some n) sets.0))))))
named kinds meaning given (Some p) (settings.Draw t) sets = inr (inr (inr (inr (inr (inr (inl (ap (λ n. Some n) sets.0)))))))
named kinds meaning given (Some p) (settings.Keys t) sets = inr (inr (inr (inr (inr (inr (inr (ap (λ n. Some n) sets.0)))))))

pub names_one : (kinds : AppKinds) (meaning : Meanings) (given : GivenKeys) (m : ArgMatches) (s : Settings) → Sets kinds meaning given (subcommand_rows_of m) s
    → IsOneOfEight (subcommand_name_of m)
names_one kinds meaning given m s sets = subst IsOneOfEight (name_is m) (named kinds meaning given (subcommand_rows_of m) s sets)

-- names that differ are not the same
pub differ : {W : Type 0} (x y : Text) → bytes_eq x y ≡ false → x ≡ y → W
differ x y are same = absurd (not_from_Decides (bytes_eq x y) (bytes_eq-Decides x y) are same)

-- what is set by a subcommand of each name
pub sets_sign : (kinds : AppKinds) (meaning : Meanings) (given : GivenKeys) → {W : Type 0} (rows : List Row) (s : Settings) → ((t : SignSettings) → SetsSign kinds given.seed rows t → W)
    → Sets kinds meaning given (Some (codes "sign", rows)) s → W
sets_sign kinds meaning given rows (settings.Sign t) then sets = then t sets.1
sets_sign kinds meaning given rows s then sets = differ _ _ refl sets.0

pub sets_deliver : (kinds : AppKinds) (meaning : Meanings) (given : GivenKeys) → {W : Type 0} (rows : List Row) (s : Settings)
    → ((t : DeliverSettings) → SetsDeliver kinds meaning given.seed rows t → W)
    → Sets kinds meaning given (Some (codes "deliver", rows)) s → W
sets_deliver kinds meaning given rows (settings.Deliver t) then sets = then t sets.1
sets_deliver kinds meaning given rows s then sets = differ _ _ refl sets.0

pub sets_simulate : (kinds : AppKinds) (meaning : Meanings) (given : GivenKeys) → {W : Type 0} (rows : List Row) (s : Settings)
    → ((t : SimulateSettings) → SetsSimulate given.seed rows t → W)
    → Sets kinds meaning given (Some (codes "simulate", rows)) s → W
sets_simulate kinds meaning given rows (settings.Simulate t) then sets = then t sets.1
sets_simulate kinds meaning given rows s then sets = differ _ _ refl sets.0

pub sets_cluster : (kinds : AppKinds) (meaning : Meanings) (given : GivenKeys) → {W : Type 0} (rows : List Row) (s : Settings)
    → ((t : ClusterSettings) → SetsRunning kinds meaning given.seed rows t → W)
    → Sets kinds meaning given (Some (codes "cluster", rows)) s → W
sets_cluster kinds meaning given rows (settings.Cluster t) then sets = then t sets.1
sets_cluster kinds meaning given rows s then sets = differ _ _ refl sets.0

pub sets_serve : (kinds : AppKinds) (meaning : Meanings) (given : GivenKeys) → {W : Type 0} (rows : List Row) (s : Settings) → ((t : ServeSettings) → SetsServe kinds meaning given.seed rows t → W)
    → Sets kinds meaning given (Some (codes "serve", rows)) s → W
sets_serve kinds meaning given rows (settings.Serve t) then sets = then t sets.1
sets_serve kinds meaning given rows s then sets = differ _ _ refl sets.0

pub sets_audit : (kinds : AppKinds) (meaning : Meanings) (given : GivenKeys) → {W : Type 0} (rows : List Row) (s : Settings) → ((t : AuditSettings) → SetsAudit kinds given rows t → W)
    → Sets kinds meaning given (Some (codes "audit", rows)) s → W
sets_audit kinds meaning given rows (settings.Audit t) then sets = then t sets.1
sets_audit kinds meaning given rows s then sets = differ _ _ refl sets.0

pub sets_draw : (kinds : AppKinds) (meaning : Meanings) (given : GivenKeys) → {W : Type 0} (rows : List Row) (s : Settings) → ((t : DrawSettings) → SetsDraw kinds given rows t → W)
    → Sets kinds meaning given (Some (codes "draw", rows)) s → W
sets_draw kinds meaning given rows (settings.Draw t) then sets = then t sets.1
sets_draw kinds meaning given rows s then sets = differ _ _ refl sets.0

pub sets_keys : (kinds : AppKinds) (meaning : Meanings) (given : GivenKeys) → {W : Type 0} (rows : List Row) (s : Settings) → ((t : ClusterSeed) → SetsKeys kinds given.seed rows t → W)
    → Sets kinds meaning given (Some (codes "keys", rows)) s → W
sets_keys kinds meaning given rows (settings.Keys t) then sets = then t sets.1
sets_keys kinds meaning given rows s then sets = differ _ _ refl sets.0

-- where an option's value came from, among the entries and among the rows
pub source_is : (f : Found) (id : Text)
    → option_and_then (λ a. a.source) (matched_of f id)
    ≡ option_and_then (λ (r : Row). r.source) (find (λ (r : Row). bytes_eq r.id id) (rows_of f))
source_is f id = go (find (λ (e : Entry). bytes_eq e.0.now id) f.entries.items)
    ∙ ap (option_and_then (λ (r : Row). r.source)) (find-map (λ (r : Row). bytes_eq r.id id) row_of f.entries.items)
  where
    go : (o : Option Entry) → option_and_then (λ (a : MatchedArg). a.source) (option_map (λ e. e.1) o)
        ≡ option_and_then (λ (r : Row). r.source) (option_map row_of o)
    go None = refl
    go (Some e) = refl

-- a test that is turned round says the contrary
pub not_so : (b : Bool) (P : Type 0) → IsTrue b ↔ P → IsTrue (not b) ↔ (P → ⊥)
not_so true P told = (λ bad. absurd cc, λ other. absurd (other (told.0 refl)))
not_so false P told = (λ _ holds. let bad = told.1 holds in absurd cc, λ _. refl)

-- settings that are set are set as those of the subcommand
pub set_alike : (kinds : AppKinds) (meaning : Meanings) (given : GivenKeys) → {T : Type 0} (Q : T → Settings → Type 0) (S : T → Type 0) (o : Option (Text × List Row))
    (p : Text × List Row)
    (r : Result T UsageFault) (told : Result Settings UsageFault) → o ≡ Some p
    → ((t : T) (s : Settings) → Q t s → S t → Sets kinds meaning given (Some p) s)
    → IfOk r S → MatchResult r (λ t. IsOkAnd told (Q t)) (λ e. told ≡ Err e)
    → IfOk told (λ s. Sets kinds meaning given o s)
set_alike kinds meaning given Q S o p (Ok t) (Ok s) found join set cases = subst (λ q. Sets kinds meaning given q s) (sym found) (join t s cases set)
set_alike kinds meaning given Q S o p (Ok t) (Err e) found join set cases = absurd cases
set_alike kinds meaning given Q S o p (Err e) told found join set cases = subst (λ (x : Result Settings UsageFault). IfOk x (λ s. Sets kinds meaning given o s))
    (sym cases) tt

-- settings that are refused are refused as those of the subcommand
pub refused_alike : (kinds : AppKinds) (meaning : Meanings) (given : GivenKeys) → {T : Type 0} (Q : T → Settings → Type 0) (S : T → Type 0) (o : Option (Text × List Row))
    (p : Text × List Row)
    (r : Result T UsageFault) (told : Result Settings UsageFault) → o ≡ Some p
    → ((e : UsageFault) (s : Settings) → ((t : T) → S t → WantsMemory e) → Sets kinds meaning given (Some p) s → WantsMemory e)
    → IfErr r (λ e. (t : T) → S t → WantsMemory e) → MatchResult r (λ t. IsOkAnd told (Q t)) (λ e. told ≡ Err e)
    → IfErr told (λ e. (s : Settings) → Sets kinds meaning given o s → WantsMemory e)
refused_alike kinds meaning given Q S o p (Ok t) (Ok s) found split refused cases = tt
refused_alike kinds meaning given Q S o p (Ok t) (Err e) found split refused cases = absurd cases
refused_alike kinds meaning given Q S o p (Err e) told found split refused cases =
    subst (λ (x : Result Settings UsageFault). IfErr x (λ f. (s : Settings) → Sets kinds meaning given o s → WantsMemory f)) (sym cases)
    (λ s sets. split e s refused (subst (λ q. Sets kinds meaning given q s) found sets))

-- what nothing sets is refused for whatever reason
pub refused_anyway : {T E : Type 0} (S : T → Type 0) (P : E → Type 0) (r : Result T E) → OnErr r ((t : T) → S t → ⊥)
    → IfErr r (λ e. (t : T) → S t → P e)
refused_anyway S P (Ok x) none = tt
refused_anyway S P (Err e) none = λ t sets. absurd (none t sets)

-- the same, if it is known that nothing is set
pub none_set : {T E : Type 0} (S : T → Type 0) (P : E → Type 0) (r : Result T E) → ((t : T) → S t → ⊥)
    → IfErr r (λ e. (t : T) → S t → P e)
none_set S P r none = refused_anyway S P r (on_err r none)
