-- Which plans have a text.
use Rattle.ledger_model.specs.declared.config.AppKinds.{AppKinds}
use Rattle.std.specs.Prelude.{ℕ, ◌+◌, ◌*◌, ◌^◌, ◌<◌, ◌≤◌, ◌≡◌, nat_eq, IsTrue, List, length, Contains}
use Rattle.std.specs.List.{AllByRecursion, IsDistinct}
use Rattle.ledger_model.specs.Limits.{max_key_len}
use Rattle.ledger_model.specs.Numbers.{has_kind}
use Rattle.ledger_model.specs.Values.{IsByte, IsValueIn}
use Rattle.ledger_model.specs.declared.version.Version.{Version}
use Rattle.scenario_texts.specs.Plans.{Plan}
use Rattle.scenario_texts.specs.declared.command.Towards.{Towards}
use Rattle.scenario_texts.specs.declared.command.Towards.TheVariants.{One, All}
use Rattle.scenario_texts.specs.declared.command.Lie.{Lie}
use Rattle.scenario_texts.specs.declared.command.Command.{Command}
use Rattle.scenario_texts.specs.declared.command.Command.TheVariants as command

-- a number of 32 bits
abbrev pub IsNumber : ℕ → Type 0
IsNumber n = n < 2 ^ 32

-- each element is a byte
abbrev pub IsByteList : List ℕ → Type 0
IsByteList bytes = AllByRecursion IsByte bytes

-- a number of 32 bits, or all
abbrev pub IsTowards : Towards → Type 0
IsTowards (One replica) = IsNumber replica
IsTowards All = Unit {0}

-- the lie has this version and is of one of these liars, at a height and in a phase of at least 1
pub record IsLie (version : Version) (liars : List ℕ) (lie : Lie) : Type 0 where
  pub versions : lie.version ≡ version
  pub by_liar : Contains liars lie.liar
  pub height : (1 ≤ lie.height) × IsNumber lie.height
  pub phase : (1 ≤ lie.phase) × IsNumber lie.phase
  pub batch : IsValueIn lie.version lie.batch
  pub to : IsTowards lie.to

-- the command can be written, in a cluster with frames of this version and these liars
abbrev pub IsCommand : Version → List ℕ → Command → Type 0
IsCommand version liars (command.Submit replica bytes) = IsNumber replica × IsByteList bytes
IsCommand version liars (command.Propose replica height) = IsNumber replica × IsNumber height
IsCommand version liars (command.End replica) = IsNumber replica
IsCommand version liars (command.Pass from index to) = IsNumber from × IsNumber index × IsNumber to
IsCommand version liars (command.Inject to bytes) = IsNumber to × IsByteList bytes
IsCommand version liars (command.Execute replica) = IsNumber replica
IsCommand version liars (command.Query replica key) = IsNumber replica × IsByteList key × (length key ≤ max_key_len)
IsCommand version liars (command.Retire replica floor) = IsNumber replica × IsNumber floor
IsCommand version liars (command.Info replica) = IsNumber replica
IsCommand version liars command.Silent = Unit {0}
IsCommand version liars command.Round = Unit {0}
IsCommand version liars (command.LieReport lie) = IsLie version liars lie
IsCommand version liars (command.LieLock lie) = IsLie version liars lie
IsCommand version liars (command.LieStale lie source) = IsLie version liars lie × (1 ≤ source) × IsNumber source
IsCommand version liars (command.LieAck lie) = IsLie version liars lie

-- the program has the application's kind, the size of the cluster is allowed, and at most as many replicas lie as may, each named once
pub record IsSetup (kinds : AppKinds) (p : Plan) : Type 0 where
  pub kind : IsTrue (has_kind kinds p.kind)
  pub enough : 3 * p.faults + 1 ≤ p.replicas
  pub bounded : p.replicas ≤ 13
  pub tolerant : 1 ≤ p.faults
  pub few : length p.liars ≤ p.faults
  pub replicas : AllByRecursion (λ liar. liar < p.replicas) p.liars
  pub different : IsDistinct nat_eq p.liars

-- a plan that can be written for a program that has these kinds of applications
pub record IsPlan (kinds : AppKinds) (p : Plan) : Type 0 where
  pub setup : IsSetup kinds p
  pub commands : AllByRecursion (IsCommand p.frames p.liars) p.commands
