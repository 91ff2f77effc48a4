-- Lines before the commands are read back from their text.
use Rattle.ledger_model.specs.declared.config.AppKinds.{AppKinds}
use Rattle.std.proofs.Common.{◌≡◌, ◌∙◌, ℕ, ◌+◌, ◌*◌, ◌<◌, Bool, true, false, cond, List, [], ◌∷◌, ◌++◌, length, refl, sym, ap, arith}
use Rattle.std.specs.Prelude.{◌==◌, nat_lt, nat_le, not, ◌&&◌, codes, Option, Some, None, is_some, option_and_then}
use Rattle.std.specs.List.{list_any, IsDistinct}
use Rattle.std.proofs.lemmas.Bool.{and_parts, leb-true, ltb-true, eqb-true, not-true}
use Rattle.std.proofs.lemmas.Bool.Decides.{nat_tests}
use Rattle.std.proofs.lemmas.Slice.Eq.{bytes_eq-Decides}
use Rattle.std.specs.Str.{bytes_eq}
use Rattle.std.proofs.lemmas.Option.{cond_some}
use Rattle.ledger_model.specs.declared.config.AppKind.{AppKind}
use Rattle.ledger_model.specs.declared.config.AppKind.TheVariants.{Own, KvStore, Counter, Purse}
use Rattle.ledger_model.specs.declared.version.Version.{Version}
use Rattle.ledger_model.specs.declared.version.Version.TheVariants as version
use Rattle.lm_ots.specs.Parameters.{bits_of, levels_of}
use Rattle.lm_ots.specs.declared.params.Width.{Width}
use Rattle.lm_ots.specs.declared.params.Width.TheVariants.{W4, W8}
use Rattle.lm_ots.specs.declared.params.TreeHeight.{TreeHeight}
use Rattle.lm_ots.specs.declared.params.TreeHeight.TheVariants.{H5, H10}
use Rattle.lm_ots.specs.declared.params.Params.{Params}
use Rattle.plain_text.specs.Numbers.{number_text}
use Rattle.ledger_model.specs.Numbers.{has_kind, kind_number, kind_of_number}
use Rattle.ledger_model.proofs.Numbers.{kind_again, kind_of_number-sound}
use Rattle.scenario_texts.specs.Plans.{Plan}
use Rattle.scenario_texts.specs.Lawful.{IsNumber, IsSetup}
use Rattle.scenario_texts.specs.Texts.{config_words, params_words}
use Rattle.scenario_texts.specs.Reading.{is_size, config_of, begun_of, params_from, is_first, has_setup_alone, with_keys, with_frames}
use Rattle.scenario_texts.specs.Reading.{is_new_liar, with_liar, one_number}
use Rattle.scenario_texts.specs.Reading.{two_numbers, three_numbers}
use Rattle.scenario_texts.proofs.Options.{bind_some, map_some}
use Rattle.scenario_texts.proofs.FieldReading.{one_number-sound, one_number-again, two_numbers-sound, two_numbers-again}
use Rattle.scenario_texts.proofs.FieldReading.{three_numbers-sound, three_numbers-again}

-- another replica may be named a liar
pub is_new_liar-true : (p : Plan) (n : ℕ) → (length p.commands == 0) ≡ true → length p.liars < p.faults → n < p.replicas
    → list_any (λ liar. liar == n) p.liars ≡ false → is_new_liar p n ≡ true
unfolding is_new_liar
is_new_liar-true p n none room within fresh =
    let few : nat_lt (length p.liars) p.faults ≡ true = grind (arith, nat_tests) in
    let replica : nat_lt n p.replicas ≡ true = grind (arith, nat_tests) in
    rw (none, few, replica, fresh) refl

-- what is answered where one may be
pub record MayLie (p : Plan) (n : ℕ) : Type 0 where
  pub no_steps : p.commands ≡ []
  pub few : length p.liars < p.faults
  pub within : n < p.replicas
  pub fresh : list_any (λ liar. liar == n) p.liars ≡ false

-- a list of no length
none_left : {A : Type 0} (xs : List A) → (length xs == 0) ≡ true → xs ≡ []
none_left [] e = refl
none_left (x ∷ xs) e = absurd (omega (arith, eqb-true (length (x ∷ xs)) 0 e))

is_new_liar-sound : (p : Plan) (n : ℕ) → is_new_liar p n ≡ true → MayLie p n
unfolding is_new_liar
is_new_liar-sound p n e =
    let a = and_parts (length p.commands == 0 && nat_lt (length p.liars) p.faults && nat_lt n p.replicas)
    (not (list_any (λ liar. liar == n) p.liars)) e in
    let b = and_parts (length p.commands == 0 && nat_lt (length p.liars) p.faults) (nat_lt n p.replicas) a.0 in
    let c = and_parts (length p.commands == 0) (nat_lt (length p.liars) p.faults) b.0 in
    record {
      no_steps = none_left p.commands c.0;
      few = ltb-true (length p.liars) p.faults c.1;
      within = ltb-true n p.replicas b.1;
      fresh = not-true (list_any (λ liar. liar == n) p.liars) a.1;
    }

-- the number of an application is short
pub kind_number-small : (kind : AppKind) → IsNumber (kind_number kind)
kind_number-small Own = omega arith
kind_number-small KvStore = omega arith
kind_number-small Counter = omega arith
kind_number-small Purse = omega arith

-- the plan of a cluster alone
unfoldable pub cluster : ℕ → ℕ → AppKind → Plan
cluster replicas faults kind = record {
  replicas = replicas;
  faults = faults;
  kind = kind;
  keys = None;
  frames = version.One;
  liars = [];
  commands = [];
}

-- a cluster of such a size
is_size-sound : (kinds : AppKinds) (replicas faults : ℕ) (kind : AppKind) → has_kind kinds kind ≡ true → is_size replicas faults ≡ true
    → IsSetup kinds (cluster replicas faults kind)
unfolding cluster IsDistinct
is_size-sound kinds replicas faults kind has e =
    let a = and_parts (nat_le (3 * faults + 1) replicas && nat_le replicas 13) (nat_le 1 faults) e in
    let b = and_parts (nat_le (3 * faults + 1) replicas) (nat_le replicas 13) a.0 in
    record {
      kind = has;
      enough = leb-true (3 * faults + 1) replicas b.0;
      bounded = leb-true replicas 13 b.1;
      tolerant = leb-true 1 faults a.1;
      few = omega arith;
      replicas = tt;
      different = tt;
    }

-- the cluster that a line says
pub begun_of-sound : (kinds : AppKinds) (fields : List (List ℕ)) (p : Plan) → begun_of kinds fields ≡ Some p
    → (replicas : ℕ) × ((faults : ℕ)
    × ((kind : AppKind) × ((codes "config" ∷ fields ≡ config_words replicas faults kind)
    × ((p ≡ cluster replicas faults kind) × IsSetup kinds (cluster replicas faults kind)))))
unfolding begun_of config_of cluster
begun_of-sound kinds fields p e =
    let plan : ℕ × ℕ × AppKind → Plan = λ c. cluster c.0 c.1 c.2 in
    let (c, (made, equal)) = map_some plan (config_of kinds fields) p e in
    let sized : ℕ × ℕ × ℕ → AppKind → Option (ℕ × ℕ × AppKind) = λ n kind. cond (has_kind kinds kind && is_size n.0 n.1) (Some (n.0, n.1, kind)) None in
    let (n, (read, more)) = bind_some (λ (n : ℕ × ℕ × ℕ). option_and_then (sized n) (kind_of_number n.2)) (three_numbers fields) c made in
    let (kind, (named, fits)) = bind_some (sized n) (kind_of_number n.2) c more in
    let triple : ℕ × ℕ × AppKind = (n.0, n.1, kind) in
    let (tests, same) = cond_some (has_kind kinds kind && is_size n.0 n.1) triple c fits in
    let both = and_parts (has_kind kinds kind) (is_size n.0 n.1) tests in
    let spelled = three_numbers-sound fields n.0 n.1 n.2 read in
    let number : n.2 ≡ kind_number kind = kind_of_number-sound n.2 kind named in
    (n.0, (n.1, (kind, (cc (spelled.0, number), (sym equal ∙ sym (ap plan same), is_size-sound kinds n.0 n.1 kind both.0 both.1)))))

pub begun_of-again : (kinds : AppKinds) (p : Plan) → IsSetup kinds p
    → begun_of kinds (number_text p.replicas ∷ number_text p.faults ∷ number_text (kind_number p.kind) ∷ [])
    ≡ Some (cluster p.replicas p.faults p.kind)
unfolding begun_of config_of cluster
begun_of-again kinds p is =
    let has : has_kind kinds p.kind ≡ true = is.kind in
    let enough : nat_le (3 * p.faults + 1) p.replicas ≡ true = grind (arith, nat_tests, is.enough) in
    let bounded : nat_le p.replicas 13 ≡ true = grind (arith, nat_tests, is.bounded) in
    let tolerant : nat_le 1 p.faults ≡ true = grind (arith, nat_tests, is.tolerant) in
    let few : IsNumber p.replicas = omega (arith, is.bounded) in
    let fewer : IsNumber p.faults = omega (arith, is.bounded, is.enough) in
    rw (
      three_numbers-again p.replicas p.faults (kind_number p.kind) few fewer (kind_number-small p.kind),
      kind_again p.kind,
      has,
      enough,
      bounded,
      tolerant,
    ) refl

-- a parameter set
width_sound : (m : ℕ) (w : Width) → cond (m == 4) (Some W4) (cond (m == 8) (Some W8) None) ≡ Some w → m ≡ bits_of w
width_sound m w e = by_first (m == 4) refl e
  where
    by_second : (t : Bool) → (m == 8) ≡ t → cond t (Some W8) None ≡ Some w → m ≡ bits_of w
    by_second true is e = let same : W8 ≡ w = cc in eqb-true m 8 is ∙ ap bits_of same
    by_second false is e = absurd cc

    by_first : (t : Bool) → (m == 4) ≡ t → cond t (Some W4) (cond (m == 8) (Some W8) None) ≡ Some w → m ≡ bits_of w
    by_first true is e = let same : W4 ≡ w = cc in eqb-true m 4 is ∙ ap bits_of same
    by_first false is e = by_second (m == 8) refl e

height_sound : (n : ℕ) (h : TreeHeight) → cond (n == 5) (Some H5) (cond (n == 10) (Some H10) None) ≡ Some h → n ≡ levels_of h
height_sound n h e = by_first (n == 5) refl e
  where
    by_second : (t : Bool) → (n == 10) ≡ t → cond t (Some H10) None ≡ Some h → n ≡ levels_of h
    by_second true is e = let same : H10 ≡ h = cc in eqb-true n 10 is ∙ ap levels_of same
    by_second false is e = absurd cc

    by_first : (t : Bool) → (n == 5) ≡ t → cond t (Some H5) (cond (n == 10) (Some H10) None) ≡ Some h → n ≡ levels_of h
    by_first true is e = let same : H5 ≡ h = cc in eqb-true n 5 is ∙ ap levels_of same
    by_first false is e = by_second (n == 10) refl e

params_from-sound : (n : ℕ × ℕ) (keys : Params) → params_from n ≡ Some keys → (n.0 ≡ bits_of keys.width) × (n.1 ≡ levels_of keys.height)
unfolding params_from
params_from-sound n keys e =
    let height : Option TreeHeight = cond (n.1 == 5) (Some H5) (cond (n.1 == 10) (Some H10) None) in
    let make : Width → TreeHeight → Option Params = λ w h. Some (record { width = w; height = h }) in
    let (w, (first, more)) = bind_some (λ w. option_and_then (make w) height) (cond (n.0 == 4) (Some W4) (cond (n.0 == 8) (Some W8) None))
    keys e in
    let (h, (second, some)) = bind_some (make w) height keys more in
    let made : Params = record { width = w; height = h } in
    let same : made ≡ keys = cc in (
      width_sound n.0 w first ∙ ap (λ (k : Params). bits_of k.width) same,
      height_sound n.1 h second
          ∙ ap (λ (k : Params). levels_of k.height) same,
    )

params_from-again : (keys : Params) → params_from (bits_of keys.width, levels_of keys.height) ≡ Some keys
unfolding params_from
params_from-again keys = by_cases keys.width keys.height
  where
    by_cases : (w : Width) (h : TreeHeight) → params_from (bits_of w, levels_of h) ≡ Some (record { width = w; height = h })
    by_cases W4 H5 = refl
    by_cases W4 H10 = refl
    by_cases W8 H5 = refl
    by_cases W8 H10 = refl

bits_small : (w : Width) → IsNumber (bits_of w)
bits_small W4 = omega arith
bits_small W8 = omega arith

levels_small : (h : TreeHeight) → IsNumber (levels_of h)
levels_small H5 = omega arith
levels_small H10 = omega arith

-- the words of a parameter set are numbers of 32 bits
pub params_small : (keys : Params) → IsNumber (bits_of keys.width) × IsNumber (levels_of keys.height)
params_small keys = (bits_small keys.width, levels_small keys.height)

-- no line but those of the cluster and of the parameter set was read
pub record IsEarly (p : Plan) : Type 0 where
  pub first : p.frames ≡ version.One
  pub no_liars : p.liars ≡ []
  pub no_steps : p.commands ≡ []

first_version : (own : Version) → is_first own ≡ true → own ≡ version.One
first_version version.One e = refl
first_version version.Two e = absurd cc

is_early-sound : (p : Plan) → has_setup_alone p ≡ true → IsEarly p
unfolding has_setup_alone
is_early-sound p e =
    let a = and_parts (is_first p.frames && length p.liars == 0) (length p.commands == 0) e in
    let b = and_parts (is_first p.frames) (length p.liars == 0) a.0 in
    record { first = first_version p.frames b.0; no_liars = none_left p.liars b.1; no_steps = none_left p.commands a.1 }

is_early-true : (p : Plan) → IsEarly p → has_setup_alone p ≡ true
unfolding has_setup_alone
is_early-true p early =
    let first : is_first p.frames ≡ true = ap is_first early.first in
    let alone : (length p.liars == 0) ≡ true = ap (λ (xs : List ℕ). length xs == 0) early.no_liars in
    let none : (length p.commands == 0) ≡ true = ap (λ xs. length xs == 0) early.no_steps in
    rw (first, alone, none) refl

-- the plan with a parameter set
pub record TakesKeys (p : Plan) (fields : List (List ℕ)) (q : Plan) : Type 0 where
  pub keys : Params
  pub spelled : codes "keys" ∷ fields ≡ params_words keys
  pub none : p.keys ≡ None
  pub early : IsEarly p
  pub taken : q ≡ record p { keys = Some keys }

no_option : {A : Type 0} (o : Option A) → not (is_some o) ≡ true → o ≡ None
no_option None e = refl
no_option (Some x) e = absurd cc

pub with_keys-sound : (p : Plan) (fields : List (List ℕ)) (q : Plan) → with_keys p fields ≡ Some q → TakesKeys p fields q
unfolding with_keys
with_keys-sound p fields q e =
    let make : Params → Option Plan =
    λ keys. cond (not (is_some p.keys) && has_setup_alone p) (Some (record p { keys = Some keys })) None in
    let (n, (read, more)) = bind_some (λ (n : ℕ × ℕ). option_and_then make (params_from n)) (two_numbers fields) q e in
    let (keys, (set, fits)) = bind_some make (params_from n) q more in
    let next : Plan = record p { keys = Some keys } in
    let (test, same) = cond_some (not (is_some p.keys) && has_setup_alone p) next q fits in
    let tests = and_parts (not (is_some p.keys)) (has_setup_alone p) test in
    let numbers = params_from-sound n keys set in
    let spelled = two_numbers-sound fields n.0 n.1 read in
    record {
      keys = keys;
      spelled = cc (spelled.0, numbers.0, numbers.1);
      none = no_option p.keys tests.0;
      early = is_early-sound p tests.1;
      taken = sym same;
    }

pub with_keys-again : (p : Plan) (keys : Params) → p.keys ≡ None → IsEarly p
    → with_keys p (number_text (bits_of keys.width) ∷ number_text (levels_of keys.height) ∷ []) ≡ Some (record p { keys = Some keys })
unfolding with_keys
with_keys-again p keys none early =
    let small = params_small keys in
    let unset : is_some p.keys ≡ false = ap is_some none in
    rw (
      two_numbers-again (bits_of keys.width) (levels_of keys.height) small.0 small.1,
      params_from-again keys,
      unset,
      is_early-true p early,
    ) refl

-- the plan with version 2
pub record TakesFrames (p : Plan) (fields : List (List ℕ)) (q : Plan) : Type 0 where
  pub spelled : fields ≡ codes "2" ∷ []
  pub early : IsEarly p
  pub taken : q ≡ record p { frames = version.Two }

pub with_frames-sound : (p : Plan) (fields : List (List ℕ)) (q : Plan) → with_frames p fields ≡ Some q → TakesFrames p fields q
unfolding with_frames
with_frames-sound p [] q e = absurd cc
with_frames-sound p (word ∷ []) q e =
    let next : Plan = record p { frames = version.Two } in
    let (test, same) = cond_some (bytes_eq word (codes "2") && has_setup_alone p) next q e in
    let tests = and_parts (bytes_eq word (codes "2")) (has_setup_alone p) test in
    record {
      spelled = ap (λ (w : List ℕ). w ∷ []) ((bytes_eq-Decides word (codes "2")).0 tests.0);
      early = is_early-sound p tests.1;
      taken = sym same;
    }
with_frames-sound p (word ∷ more ∷ fields) q e = absurd cc

pub with_frames-again : (p : Plan) → IsEarly p → with_frames p (codes "2" ∷ []) ≡ Some (record p { frames = version.Two })
unfolding with_frames
with_frames-again p early = rw (is_early-true p early) refl

-- the plan with a liar
pub record TakesLiar (p : Plan) (fields : List (List ℕ)) (q : Plan) : Type 0 where
  pub liar : ℕ
  pub spelled : fields ≡ number_text liar ∷ []
  pub small : IsNumber liar
  pub may : MayLie p liar
  pub taken : q ≡ record p { liars = p.liars ++ liar ∷ [] }

pub with_liar-sound : (p : Plan) (fields : List (List ℕ)) (q : Plan) → with_liar p fields ≡ Some q → TakesLiar p fields q
unfolding with_liar
with_liar-sound p fields q e =
    let make : ℕ → Option Plan = λ n. cond (is_new_liar p n) (Some (record p { liars = p.liars ++ n ∷ [] })) None in
    let (n, (read, fits)) = bind_some make (one_number fields) q e in
    let next : Plan = record p { liars = p.liars ++ n ∷ [] } in
    let (test, same) = cond_some (is_new_liar p n) next q fits in
    let spelled = one_number-sound fields n read in
    record { liar = n; spelled = spelled.0; small = spelled.1; may = is_new_liar-sound p n test; taken = sym same }

pub with_liar-again : (p : Plan) (n : ℕ) → IsNumber n → MayLie p n
    → with_liar p (number_text n ∷ []) ≡ Some (record p { liars = p.liars ++ n ∷ [] })
unfolding with_liar
with_liar-again p n small may =
    let first : (length p.commands == 0) ≡ true = ap (λ xs. length xs == 0) may.no_steps in
    rw (one_number-again n small, is_new_liar-true p n first may.few may.within may.fresh) refl
