-- Settings with another seed, and the sources of a seed.
use Rattle.app_states.specs.ProgramWords.{ProgramWords}
use Rattle.ledger_model.specs.declared.config.AppKinds.{AppKinds}
use Rattle.ledger_model.specs.Meanings.{Meanings}
use Rattle.std.proofs.Common.{◌≡◌, ◌∙◌, ℕ, List, [], Bool, true, false, codes, refl, sym, subst, ap, inl, inr, Bor}
use Rattle.std.specs.Prelude.{◌⊎◌, Option, Some, None, Ok, if◌then◌else◌}
use Rattle.std.specs.Str.{bytes_eq}
use Rattle.std.proofs.lemmas.Slice.Eq.{bytes_eq-Decides}
use Rattle.hex.specs.Hex.{decode_sized}
use Rattle.clap.specs.Words.{Row, Text, first_of, subcommand_of}
use Rattle.cluster_setup.specs.declared.cluster_seed.ClusterSeed.{ClusterSeed}
use Rattle.cluster_setup.specs.declared.known_cluster.KnownCluster.{KnownCluster}
use Rattle.cluster_setup.specs.declared.known_cluster.KnownCluster.TheVariants.{BySeed, ByKeys}
use Rattle.cluster_setup.specs.declared.settings.Settings.{Settings}
use Rattle.cluster_setup.specs.declared.settings.Settings.TheVariants as settings
use Rattle.command_line.specs.Grammar.{abft_app}
use Rattle.command_line.specs.Faults.{kinds_of, rows_in, table_in}
use Rattle.command_line.specs.Options.{AsksForRandom, IsDrawn, IsSeed, IsSet, IsWordSeed, Sets, SetsCluster, SetsKnown, WantsMemory, options_of}
use Rattle.command_line.specs.Options.{audit_options, deliver_options, draw_options, keys_options, running_options, serve_options, sign_options, simulate_options}
use Rattle.command_line.proofs.SeedLemmas.{SeedBy}
use Rattle.command_line.specs.KeySources.{IsSourceIn, IsSourceOf, SetsWithSeed, seed_alone}
use Rattle.command_line.specs.declared.given_keys.GivenKeys.{GivenKeys}
use Rattle.command_line.specs.declared.key_sources.KeySource.{KeySource}
use Rattle.command_line.specs.declared.key_sources.KeySource.TheVariants as source
use Rattle.command_line.specs.declared.seed_words.SeedWords.{SeedWords}
use Rattle.command_line.specs.declared.usage_fault.UsageFault.{UsageFault}
use Rattle.command_line.specs.declared.seed_words.SeedWords.TheVariants.{Digits, DigitsOrRandom}

-- texts that are found equal are the same
named : (a b : Text) → bytes_eq a b ≡ true → a ≡ b
named a b found = (bytes_eq-Decides a b).0 found

-- what `--seed` takes in a subcommand that runs no cluster
pub other_digits : (name : Text) → (name ≡ codes "cluster" → ⊥) → (name ≡ codes "serve" → ⊥) → (name ≡ codes "keys" → ⊥)
    → (options_of name).seed_words ≡ Digits
other_digits name no_cluster no_serve no_keys =
    by (bytes_eq name (codes "sign")) (bytes_eq name (codes "deliver")) (bytes_eq name (codes "simulate")) (bytes_eq name (codes "cluster"))
    (bytes_eq name (codes "serve")) (bytes_eq name (codes "audit")) (bytes_eq name (codes "draw")) (bytes_eq name (codes "keys")) refl refl refl
  where
    by : (a b c d e f g h : Bool) → bytes_eq name (codes "cluster") ≡ d → bytes_eq name (codes "serve") ≡ e → bytes_eq name (codes "keys") ≡ h
        → (if a then sign_options else if b then deliver_options else if c then simulate_options else if d then running_options
        else if e then serve_options
        else if f then audit_options
        else if g then draw_options
        else if h then keys_options
        else record { numbers = []; transactions = []; seed_words = Digits; names = [] }).seed_words ≡ Digits
    by true b c d e f g h is_d is_e is_h = refl
    by false true c d e f g h is_d is_e is_h = refl
    by false false true d e f g h is_d is_e is_h = refl
    by false false false true e f g h is_d is_e is_h = absurd (no_cluster (named name (codes "cluster") is_d))
    by false false false false true f g h is_d is_e is_h = absurd (no_serve (named name (codes "serve") is_e))
    by false false false false false true g h is_d is_e is_h = refl
    by false false false false false false true h is_d is_e is_h = refl
    by false false false false false false false true is_d is_e is_h = absurd (no_keys (named name (codes "keys") is_h))
    by false false false false false false false false is_d is_e is_h = refl

-- a name may stand for another that is the same
back : (given : Option (List ℕ)) (name x : Text) (rows : List Row) (seed : List ℕ) → name ≡ x
    → IsSeed (options_of x).seed_words given rows seed
    → IsSeed (options_of name).seed_words given rows seed
back given name x rows seed same i = subst (λ w. IsSeed w given rows seed) (sym (ap (λ n. (options_of n).seed_words) same)) i

forth : (given : Option (List ℕ)) (name x : Text) (rows : List Row) (seed : List ℕ) → name ≡ x
    → IsSeed (options_of name).seed_words given rows seed
    → IsSeed (options_of x).seed_words given rows seed
forth given name x rows seed same i = subst (λ w. IsSeed w given rows seed) (ap (λ n. (options_of n).seed_words) same) i

-- the seed of a cluster that is known by it
abbrev pub known_seed : KnownCluster → List ℕ
known_seed (BySeed c) = c.seed
known_seed (ByKeys c) = []

-- the seed of settings
abbrev pub seed_of : Settings → List ℕ
seed_of (settings.Sign s) = s.cluster.seed
seed_of (settings.Deliver s) = s.cluster.seed
seed_of (settings.Simulate s) = s.seed
seed_of (settings.Cluster s) = s.cluster.seed
seed_of (settings.Serve s) = s.cluster.cluster.seed
seed_of (settings.Audit s) = known_seed s.cluster
seed_of (settings.Draw s) = known_seed s.cluster
seed_of (settings.Keys c) = c.seed

abbrev reseeded : ClusterSeed → List ℕ → ClusterSeed
reseeded c seed = record c { seed = seed }

abbrev reseeded_known : KnownCluster → List ℕ → KnownCluster
reseeded_known (BySeed c) seed = BySeed (reseeded c seed)
reseeded_known (ByKeys c) seed = ByKeys c

same_known : (k : KnownCluster) → reseeded_known k (known_seed k) ≡ k
same_known (BySeed c) = refl
same_known (ByKeys c) = refl

-- the settings with another seed
abbrev pub reseeded_settings : Settings → List ℕ → Settings
reseeded_settings (settings.Sign s) seed = settings.Sign (record s { cluster = reseeded s.cluster seed })
reseeded_settings (settings.Deliver s) seed = settings.Deliver (record s { cluster = reseeded s.cluster seed })
reseeded_settings (settings.Simulate s) seed = settings.Simulate (record s { seed = seed })
reseeded_settings (settings.Cluster s) seed = settings.Cluster (record s { cluster = reseeded s.cluster seed })
reseeded_settings (settings.Serve s) seed = settings.Serve (record s { cluster = record s.cluster { cluster = reseeded s.cluster.cluster seed } })
reseeded_settings (settings.Audit s) seed = settings.Audit (record s { cluster = reseeded_known s.cluster seed })
reseeded_settings (settings.Draw s) seed = settings.Draw (record s { cluster = reseeded_known s.cluster seed })
reseeded_settings (settings.Keys c) seed = settings.Keys (reseeded c seed)

same_settings : (s : Settings) → reseeded_settings s (seed_of s) ≡ s
same_settings (settings.Sign s) = refl
same_settings (settings.Deliver s) = refl
same_settings (settings.Simulate s) = refl
same_settings (settings.Cluster s) = refl
same_settings (settings.Serve s) = refl
same_settings (settings.Audit s) = ap (λ k. settings.Audit (record s { cluster = k })) (same_known s.cluster)
same_settings (settings.Draw s) = ap (λ k. settings.Draw (record s { cluster = k })) (same_known s.cluster)
same_settings (settings.Keys c) = refl

module _ (kinds : AppKinds) (meaning : Meanings) (given other : GivenKeys) where
  cluster_with : (taken : SeedWords) (rows : List Row) (c : ClusterSeed) (seed : List ℕ) → SetsCluster kinds taken given.seed rows c
      → IsSeed taken other.seed rows seed → SetsCluster kinds taken other.seed rows (reseeded c seed)
  cluster_with taken rows c seed sets new = record {
    n = sets.n;
    t = sets.t;
    kind = sets.kind;
    enough = sets.enough;
    bounded = sets.bounded;
    tolerant = sets.tolerant;
    w = sets.w;
    tree = sets.tree;
    frames = sets.frames;
    seed = new;
  }

  known_set : (rows : List Row) (k : KnownCluster) → first_of (codes "cluster") rows ≡ None → SetsKnown kinds given rows k
      → IsSeed Digits given.seed rows (known_seed k)
  known_set rows (BySeed c) none sets = sets.1.seed
  known_set rows (ByKeys c) none sets = let bad : None ≡ Some sets.0.0 = sym none ∙ sets.0.1 in absurd cc

  known_with : (rows : List Row) (k : KnownCluster) (seed : List ℕ) → first_of (codes "cluster") rows ≡ None → SetsKnown kinds given rows k
      → IsSeed Digits other.seed rows seed → SetsKnown kinds other rows (reseeded_known k seed)
  known_with rows (BySeed c) seed none sets new = (none, cluster_with Digits rows c seed sets.1 new)
  known_with rows (ByKeys c) seed none sets new = let bad : None ≡ Some sets.0.0 = sym none ∙ sets.0.1 in absurd cc

  -- the options that give settings give their seed
  pub seed_set : (o : Option (Text × List Row)) (s : Settings) → first_of (codes "cluster") (rows_in o) ≡ None → Sets kinds meaning given o s
      → IsSeed (table_in o).seed_words given.seed (rows_in o) (seed_of s)
  seed_set None s none sets = absurd sets
  seed_set (Some found) (settings.Sign s) none sets = back given.seed found.0 (codes "sign") found.1 s.cluster.seed sets.0 sets.1.cluster.seed
  seed_set (Some found) (settings.Deliver s) none sets = back given.seed found.0 (codes "deliver") found.1 s.cluster.seed sets.0 sets.1.cluster.seed
  seed_set (Some found) (settings.Simulate s) none sets = back given.seed found.0 (codes "simulate") found.1 s.seed sets.0 sets.1.seed
  seed_set (Some found) (settings.Cluster s) none sets = back given.seed found.0 (codes "cluster") found.1 s.cluster.seed sets.0 sets.1.cluster.seed
  seed_set (Some found) (settings.Serve s) none sets =
      back given.seed found.0 (codes "serve") found.1 s.cluster.cluster.seed sets.0 sets.1.cluster.cluster.seed
  seed_set (Some found) (settings.Audit s) none sets = back given.seed found.0 (codes "audit") found.1 (known_seed s.cluster) sets.0 (known_set found.1 s.cluster none sets.1.cluster)
  seed_set (Some found) (settings.Draw s) none sets = back given.seed found.0 (codes "draw") found.1 (known_seed s.cluster) sets.0 (known_set found.1 s.cluster none sets.1.cluster)
  seed_set (Some found) (settings.Keys c) none sets = back given.seed found.0 (codes "keys") found.1 c.seed sets.0 sets.1.cluster.seed

  -- and with another seed they give the same settings with that
  pub sets_with : (o : Option (Text × List Row)) (s : Settings) (seed : List ℕ) → first_of (codes "cluster") (rows_in o) ≡ None
      → Sets kinds meaning given o s
      → IsSeed (table_in o).seed_words other.seed (rows_in o) seed → Sets kinds meaning other o (reseeded_settings s seed)
  sets_with None s seed none sets new = absurd sets
  sets_with (Some found) (settings.Sign s) seed none (named, sets) new = (
    named,
    record {
      cluster = cluster_with Digits found.1 s.cluster seed sets.cluster (forth other.seed found.0 (codes "sign") found.1 seed named new);
      what = sets.what;
      replica = sets.replica;
      height = sets.height;
      phase = sets.phase;
      value = sets.value;
    },
  )
  sets_with (Some found) (settings.Deliver s) seed none (named, sets) new = (
    named,
    record {
      cluster = cluster_with Digits found.1 s.cluster seed sets.cluster (forth other.seed found.0 (codes "deliver") found.1 seed named new);
      replica = sets.replica;
      value = sets.value;
      height = sets.height;
      rounds = sets.rounds;
    },
  )
  sets_with (Some found) (settings.Simulate s) seed none (named, sets) new = (
    named,
    record {
      seed = forth other.seed found.0 (codes "simulate") found.1 seed named new;
      histories = sets.histories;
    },
  )
  sets_with (Some found) (settings.Cluster s) seed none (named, sets) new = (
    named,
    record {
      cluster = cluster_with DigitsOrRandom found.1 s.cluster seed sets.cluster (forth other.seed found.0 (codes "cluster") found.1 seed named new);
      tx = sets.tx;
      rounds = sets.rounds;
      base = sets.base;
      steady = sets.steady;
      creates_empty = sets.creates_empty;
      log = sets.log;
      stops = sets.stops;
      histories = sets.histories;
    },
  )
  sets_with (Some found) (settings.Serve s) seed none (named, sets) new = (
    named,
    record {
      cluster = record {
        cluster = cluster_with DigitsOrRandom found.1 s.cluster.cluster seed sets.cluster.cluster (forth other.seed found.0 (codes "serve") found.1 seed named new);
        tx = sets.cluster.tx;
        rounds = sets.cluster.rounds;
        base = sets.cluster.base;
        steady = sets.cluster.steady;
        creates_empty = sets.cluster.creates_empty;
        log = sets.cluster.log;
        stops = sets.cluster.stops;
        histories = sets.cluster.histories;
      };
      port = sets.port;
      http = sets.http;
      sessions = sets.sessions;
      entries = sets.entries;
    },
  )
  sets_with (Some found) (settings.Audit s) seed none (named, sets) new = (
    named,
    record {
      cluster = known_with found.1 s.cluster seed none sets.cluster (forth other.seed found.0 (codes "audit") found.1 seed named new);
      receipt = sets.receipt;
    },
  )
  sets_with (Some found) (settings.Draw s) seed none (named, sets) new = (
    named,
    record {
      cluster = known_with found.1 s.cluster seed none sets.cluster (forth other.seed found.0 (codes "draw") found.1 seed named new);
      height = sets.height;
      first = sets.first;
      last = sets.last;
    },
  )
  sets_with (Some found) (settings.Keys c) seed none (named, sets) new = (
    named,
    record {
      cluster = cluster_with DigitsOrRandom found.1 c seed sets.cluster (forth other.seed found.0 (codes "keys") found.1 seed named new);
      written = sets.written;
    },
  )

-- a seed in the words is whatever is given
word_kept : (taken : SeedWords) (given other : Option (List ℕ)) (rows : List Row) (seed : List ℕ) → (AsksForRandom taken rows → ⊥)
    → IsWordSeed taken given rows seed
    → IsWordSeed taken other rows seed
word_kept taken given other rows seed calm i = record { word = i.word; has = i.has; means = by taken calm i.means }
  where
    by : (w : SeedWords) → (AsksForRandom w rows → ⊥) → (decode_sized i.word 32 ≡ Ok seed) ⊎ IsDrawn w given i.word seed
        → (decode_sized i.word 32 ≡ Ok seed) ⊎ IsDrawn w other i.word seed
    by w none (inl digits) = inl digits
    by Digits none (inr drawn) = absurd drawn
    by DigitsOrRandom none (inr drawn) = absurd (none (i.has ∙ ap (λ t. Some t) drawn.0))

seed_kept : (taken : SeedWords) (given other : Option (List ℕ)) (rows : List Row) (seed : List ℕ)
    → first_of (codes "seed-file") rows ≡ None
    → (AsksForRandom taken rows → ⊥)
    → IsSeed taken given rows seed → IsSeed taken other rows seed
seed_kept taken given other rows seed no_file calm i =
    subst (λ o. SeedBy taken other rows o seed) (sym no_file)
    (word_kept taken given other rows seed calm (subst (λ o. SeedBy taken given rows o seed) no_file i))

-- what takes a seed takes another one, if that is given
word_again : (taken : SeedWords) (given : Option (List ℕ)) (rows : List Row) (seed new : List ℕ) → IsWordSeed taken given rows seed
    → (t : List ℕ) × IsWordSeed taken (Some new) rows t
word_again taken given rows seed new i = by taken i.means
  where
    by : (w : SeedWords) → (decode_sized i.word 32 ≡ Ok seed) ⊎ IsDrawn w given i.word seed → (t : List ℕ) × IsWordSeed w (Some new) rows t
    by w (inl digits) = (seed, record { word = i.word; has = i.has; means = inl digits })
    by Digits (inr drawn) = absurd drawn
    by DigitsOrRandom (inr drawn) = (new, record { word = i.word; has = i.has; means = inr (drawn.0, refl) })

seed_again : (taken : SeedWords) (given : Option (List ℕ)) (rows : List Row) (o : Option Text) (seed new : List ℕ)
    → SeedBy taken given rows o seed
    → (t : List ℕ) × SeedBy taken (Some new) rows o t
seed_again taken given rows None seed new i = word_again taken given rows seed new i
seed_again taken given rows (Some file) seed new i = (new, record { alone = i.alone; named = i.named; read = refl })

-- settings whose seed is in the words are set whatever is given
pub sets_kept : (kinds : AppKinds) (meaning : Meanings) (given : GivenKeys) (o : Option (Text × List Row)) (s : Settings)
    → IsSourceIn o source.Words → Sets kinds meaning given o s → Sets kinds meaning (seed_alone None) o s
sets_kept kinds meaning given o s from sets =
    subst (λ x. Sets kinds meaning (seed_alone None) o x) (same_settings s)
    (sets_with kinds meaning given (seed_alone None) o s (seed_of s) from.0.0 sets
    (seed_kept (table_in o).seed_words given.seed None (rows_in o) (seed_of s) from.0.1 from.1
    (seed_set kinds meaning given (seed_alone None) o s from.0.0 sets)))

-- words that name no cluster's file, and set something, set something with each seed
pub sets_again : (kinds : AppKinds) (meaning : Meanings) (given : GivenKeys) (o : Option (Text × List Row)) (s : Settings) (new : List ℕ)
    → first_of (codes "cluster") (rows_in o) ≡ None
    → Sets kinds meaning given o s → (t : Settings) × Sets kinds meaning (seed_alone (Some new)) o t
sets_again kinds meaning given o s new none sets =
    let again = seed_again (table_in o).seed_words given.seed (rows_in o) (first_of (codes "seed-file") (rows_in o)) (seed_of s) new
    (seed_set kinds meaning given (seed_alone None) o s none sets) in
    (reseeded_settings s again.0, sets_with kinds meaning given (seed_alone (Some new)) o s again.0 none sets again.1)

-- a source that is no cluster's file
pub no_file : (o : Option (Text × List Row)) (from : KeySource) → ((path : Bor Text) → from ≡ source.ClusterFile path → ⊥) → IsSourceIn o from
    → first_of (codes "cluster") (rows_in o) ≡ None
no_file o source.Words other is = is.0.0
no_file o (source.SeedFile path) other is = is.0
no_file o source.Random other is = is.0.0
no_file o (source.NewFile path) other is = is.0.0
no_file o (source.ClusterFile path) other is = absurd (other path refl)

-- what the words name is their source
pub source_told : (program : ProgramWords) (meaning : Meanings) (words : List Text) (from : KeySource)
    → ((path : Bor Text) → from ≡ source.ClusterFile path → ⊥) → SetsWithSeed program meaning words
    → IsSourceIn (subcommand_of (abft_app program) words) from → IsSourceOf program meaning words from
source_told program meaning words source.Words other sets is =
    λ taken given s i. sets_kept program.kinds meaning given (subcommand_of (abft_app program) words) s is i
source_told program meaning words (source.SeedFile path) other sets is = (sets, is)
source_told program meaning words source.Random other sets is = (sets, is)
source_told program meaning words (source.NewFile path) other sets is = (sets, is)
source_told program meaning words (source.ClusterFile path) other sets is = absurd (other path refl)

-- settings of the words' subcommand are settings of the words
pub sets_so : (program : ProgramWords) (meaning : Meanings) (words : List Text) (o : Option (Text × List Row)) (seed : List ℕ) (s : Settings)
    → kinds_of program words ≡ [] → o ≡ subcommand_of (abft_app program) words → Sets program.kinds meaning (seed_alone (Some seed)) o s
    → SetsWithSeed program meaning words
sets_so program meaning words o seed s taken found sets =
    (taken, (seed, (s, subst (λ q. Sets program.kinds meaning (seed_alone (Some seed)) q s) found sets)))

-- words that name no cluster's file, and set nothing with some seed, set nothing whatever is given
pub none_again : (program : ProgramWords) (meaning : Meanings) (words : List Text) (o : Option (Text × List Row)) (seed : List ℕ) (e : UsageFault)
    → o ≡ subcommand_of (abft_app program) words → first_of (codes "cluster") (rows_in o) ≡ None
    → ((s : Settings) → Sets program.kinds meaning (seed_alone (Some seed)) o s → WantsMemory e)
    → kinds_of program words ≡ []
    → (given : GivenKeys) (s : Settings) → IsSet program meaning given words s → WantsMemory e
none_again program meaning words o seed e found none refused taken given s sets =
    let again = sets_again program.kinds meaning given (subcommand_of (abft_app program) words) s seed
    (subst (λ q. first_of (codes "cluster") (rows_in q) ≡ None) found none) sets in
    refused again.0 (subst (λ q. Sets program.kinds meaning (seed_alone (Some seed)) q again.0) (sym found) again.1)
