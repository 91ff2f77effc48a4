-- From the commands that are played to what `abft simulate` prints.
use Rattle.ledger_model.specs.declared.config.AppKinds.{AppKinds}
use Rattle.ledger_model.specs.Meanings.{Meanings}
use Rattle.std.proofs.Common.{◌≡◌, ℕ, ◌≤◌, Bool, true, false, not, List, [], ◌++◌, length, take, refl, sym, subst, ◌∙◌, inl, inr}
use Rattle.std.proofs.Common.{append-nil, arith, lit≤}
use Rattle.std.proofs.lemmas.List.{length-take}
use Rattle.std.specs.Prelude.{◌⊎◌, Option, if◌then◌else◌}
use Rattle.std.specs.Io.KnownBytes.{Appends, Consumes, IsAtEnd}
use Rattle.std.proofs.KnownBytes.{Appends-trans, Consumes-trans}
use Rattle.ledger_model.specs.declared.config.Config.{Config}
use Rattle.adversary_net.specs.WorldViews.{AllAccountForLeaves, AllReplay, HasRun}
use Rattle.adversary_net.specs.Headline.{IsUnforgedRun, IsOneLedger}
use Rattle.scenario_texts.specs.declared.fault.TextFault.{TextFault}
use Rattle.scenario_texts.specs.declared.fault.TextFault.TheVariants as fault
use Rattle.scenario_texts.specs.declared.scenario.Scenario.{Scenario}
use Rattle.scenario_texts.specs.Lines.{SpellsPlan, IsBadAt, IsTooLarge}
use Rattle.scenario_texts.specs.Plans.{Plan}
use Rattle.scenario_texts.proofs.Sizes.{bad_anyway, large_spells_none}
use Rattle.simulation.specs.Playing.{SimulationView, PlaysAll}
use Rattle.cluster_setup.specs.declared.simulate_settings.SimulateSettings.{SimulateSettings}
use Rattle.byte_streams.specs.Writing.{AppendsSome}
use Rattle.program.specs.declared.scenario_input.ScenarioInput.{ScenarioInput}
use Rattle.program.specs.declared.scenario_input.ScenarioInput.TheVariants as input
use Rattle.program.specs.declared.text_end.TextEnd.TheVariants.{Whole, BadLine}
use Rattle.program.specs.Simulating.{IsBadAnyway, IsConfigOf, IsRead, IsReadInTime, Played, PlayedSome, PlaysText, PlaysTextSome}
use Rattle.program.specs.Simulating.{PlaysWritten, PlaysWrittenSome, bad_line, histories_of, if_wanted, simulation_at_start}
use Rattle.byte_streams.proofs.WritingLemmas.{nothing_some, then_some}
use Rattle.program.proofs.SimulatingLemmas.{written_nothing}

-- the lines, or none of them, and then nothing, or the histories
text_written : (h : Bool) (lines histories : List ℕ) (before mid after : Option (List ℕ))
    → Appends before mid (if_wanted (not h) lines) → Appends mid after (if h then histories else [])
    → Appends before after (if h then histories else lines)
text_written true lines histories before mid after first last = Appends-trans before mid after [] histories first last
text_written false lines histories before mid after first last =
    subst (Appends before after) (append-nil lines) (Appends-trans before mid after lines [] first last)

-- a prefix of them
text_begun : (h : Bool) (lines histories : List ℕ) (before mid after : Option (List ℕ))
    → Appends before mid (if_wanted (not h) lines) → AppendsSome mid after (if h then histories else [])
    → AppendsSome before after (if h then histories else lines)
text_begun true lines histories before mid after first last = then_some before mid after [] histories first last
text_begun false lines histories before mid after first last =
    subst (AppendsSome before after) (append-nil lines) (then_some before mid after lines [] first last)

-- the text of a plan that was played was written
abbrev pub PlayedWritten : Meanings → SimulateSettings → Plan → Option (List ℕ) → Option (List ℕ) → Type 0
PlayedWritten meaning s p before after = (text : List ℕ) × (Played meaning s p text × Appends before after text)

-- a prefix of the text of a plan that was played, or of its first commands
abbrev pub PlayedBegun : Meanings → SimulateSettings → Plan → Option (List ℕ) → Option (List ℕ) → Type 0
PlayedBegun meaning s p before after = (text : List ℕ) × ((PlayedSome meaning s p text ⊎ Played meaning s p text)
    × AppendsSome before after text)

module _ (meaning : Meanings) (s : SimulateSettings) (p : Plan) (config : Config) (sized : IsConfigOf p config) where
  -- all commands were played
  played_of : (a b : SimulationView) (lines : List ℕ) → a ≡ simulation_at_start meaning s.seed config p
      → PlaysAll meaning a p.commands lines b → HasRun meaning b.cluster
      → (IsUnforgedRun b.cluster → IsOneLedger meaning b.cluster) → AllReplay meaning b.cluster → AllAccountForLeaves b.cluster
      → Played meaning s p (if s.histories then histories_of b.cluster else lines)
  played_of a b lines opens plays since one_ledger replay account = record {
    config = config;
    sized = sized;
    lines = lines;
    final = b;
    plays = subst (λ x. PlaysAll meaning x p.commands lines b) opens plays;
    since = since;
    one_ledger = one_ledger;
    replay = replay;
    account = account;
    written = refl;
  }

  -- and what is wanted was written
  pub played_whole : (a b : SimulationView) (before mid after : Option (List ℕ)) → a ≡ simulation_at_start meaning s.seed config p
      → PlaysWritten meaning (not s.histories) a p.commands b before mid
      → HasRun meaning b.cluster → (IsUnforgedRun b.cluster → IsOneLedger meaning b.cluster) → AllReplay meaning b.cluster
      → AllAccountForLeaves b.cluster
      → Appends mid after (if s.histories then histories_of b.cluster else []) → PlayedWritten meaning s p before after
  played_whole a b before mid after opens (lines, (plays, first)) since one_ledger replay account last = (
    if s.histories then histories_of b.cluster else lines,
    (
      played_of a b lines opens plays since one_ledger replay account,
      text_written s.histories lines (histories_of b.cluster) before mid after
          first last,
    ),
  )

  -- or a prefix of it
  pub played_begun : (a b : SimulationView) (before mid after : Option (List ℕ)) → a ≡ simulation_at_start meaning s.seed config p
      → PlaysWritten meaning (not s.histories) a p.commands b before mid
      → HasRun meaning b.cluster → (IsUnforgedRun b.cluster → IsOneLedger meaning b.cluster) → AllReplay meaning b.cluster
      → AllAccountForLeaves b.cluster
      → AppendsSome mid after (if s.histories then histories_of b.cluster else []) → PlayedBegun meaning s p before after
  played_begun a b before mid after opens (lines, (plays, first)) since one_ledger replay account last = (
    if s.histories then histories_of b.cluster else lines,
    (
      inr (played_of a b lines opens plays since one_ledger replay account),
      text_begun s.histories lines (histories_of b.cluster) before mid after
          first last,
    ),
  )

  -- the first commands were played
  pub played_part : (a : SimulationView) (before after : Option (List ℕ)) → a ≡ simulation_at_start meaning s.seed config p
      → PlaysWrittenSome meaning (not s.histories) a p.commands before after → PlayedBegun meaning s p before after
  played_part a before after opens part =
      let (lines, (some, written)) = subst (λ x. PlaysWrittenSome meaning (not s.histories) x p.commands before after) opens part in
      (if_wanted (not s.histories) lines, (inl (config, (sized, (lines, (some, refl)))), written))

  -- none was
  pub played_nothing : (before : Option (List ℕ)) → PlayedBegun meaning s p before before
  played_nothing before = played_part (simulation_at_start meaning s.seed config p) before before refl
      (written_nothing meaning (not s.histories) (simulation_at_start meaning s.seed config p) p.commands before)

module _ (kinds : AppKinds) (meaning : Meanings) (s : SimulateSettings) (input : List ℕ) (unread left before after : Option (List ℕ))
    (read : Consumes unread left input)
    (in_time : IsReadInTime input) where
  -- the plan of the text was played
  pub simulated : (p : Plan) → SpellsPlan kinds input p → IsAtEnd left → PlayedWritten meaning s p before after
      → PlaysText kinds meaning s Whole unread left before after
  simulated p spells to_end (text, (played, written)) =
      record { input = input; text = text; goes_with = (to_end, (in_time, (p, (spells, played)))); read = read; written = written }

  -- or begun
  pub simulated_part : (p : Plan) → SpellsPlan kinds input p → PlayedBegun meaning s p before after
      → PlaysTextSome kinds meaning s unread left before after
  simulated_part p spells (text, (inl some, written)) =
      record { input = input; text = text; goes_with = (in_time, inl (inr (p, (spells, some)))); read = read; written = written }
  simulated_part p spells (text, (inr played, written)) =
      record { input = input; text = text; goes_with = (in_time, inr (Whole, (p, (spells, played)))); read = read; written = written }

  -- its first bad line was printed
  pub told_bad : (n : ℕ) → IsBadAt kinds input n → IsAtEnd left ⊎ IsBadAnyway kinds input n → Appends before after (bad_line n)
      → PlaysText kinds meaning s (BadLine n) unread left before after
  told_bad n bad shown written =
      record { input = input; text = bad_line n; goes_with = (shown, (in_time, (bad, refl))); read = read; written = written }

  pub told_part : (n : ℕ) → IsBadAt kinds input n → AppendsSome before after (bad_line n) → PlaysTextSome kinds meaning s unread left before after
  told_part n bad written = record {
    input = input;
    text = bad_line n;
    goes_with = (in_time, inr (BadLine n, (bad, refl)));
    read =
        read;
    written = written;
  }

-- a text is read on
pub read_on : (unread now left : Option (List ℕ)) (text piece : List ℕ) (n : ℕ) → Consumes unread now text
    → Consumes now left (take n piece) → Consumes unread left (text ++ take n piece)
read_on unread now left text piece n so_far read = Consumes-trans unread now left text (take n piece) so_far read

-- it was read to its end
pub read_none : (unread now left : Option (List ℕ)) (text piece : List ℕ) (n : ℕ) → Consumes unread now text
    → Consumes now left (take n piece) → n ≡ 0 → Consumes unread left text
read_none unread now left text piece n so_far read none =
    subst (Consumes unread left) (append-nil text)
    (Consumes-trans unread now left text [] so_far (subst (λ k. Consumes now left (take k piece)) none read))

-- of a text that isn't too large no piece was needed
pub all_in_time : (text : List ℕ) → (IsTooLarge text → ⊥) → IsReadInTime text
all_in_time text fits = record { before = text; piece = []; split = sym (append-nil text); fits = fits; short = lit≤ tt }

-- and so is one more piece
pub piece_in_time : (text piece : List ℕ) (n : ℕ) → (IsTooLarge text → ⊥) → length piece ≤ 8192 → IsReadInTime (text ++ take n piece)
piece_in_time text piece n fits short =
    record { before = text; piece = take n piece; split = refl; fits = fits; short = omega (arith, short, length-take n piece) }

-- a text that was read to its end, or is too large, has its first bad line there or anyway
pub bad_shown : (kinds : AppKinds) (text : List ℕ) (left : Option (List ℕ)) (n : ℕ) → IsAtEnd left ⊎ IsTooLarge text → IsBadAt kinds text n
    → IsAtEnd left ⊎ IsBadAnyway kinds text n
bad_shown kinds text left n (inl to_end) bad = inl to_end
bad_shown kinds text left n (inr large) bad = inr (λ more. bad_anyway kinds text more n large bad)

-- one that spells a plan was read to its end
pub spelled_whole : (kinds : AppKinds) (text : List ℕ) (left : Option (List ℕ)) (p : Plan) → IsAtEnd left ⊎ IsTooLarge text → SpellsPlan kinds text p → IsAtEnd left
spelled_whole kinds text left p (inl to_end) spells = to_end
spelled_whole kinds text left p (inr large) spells = absurd (large_spells_none kinds text p large spells)

-- what was read, where it is a scenario, and where it isn't
pub scenario_read : (kinds : AppKinds) (found : ScenarioInput) (scenario : Scenario) (unread left : Option (List ℕ)) → found ≡ input.Scenario scenario
    → IsRead kinds found unread left → IsRead kinds (input.Scenario scenario) unread left
scenario_read kinds found scenario unread left is read = subst (λ f. IsRead kinds f unread left) is read

pub bad_read : (kinds : AppKinds) (found : ScenarioInput) (n : ℕ) (unread left : Option (List ℕ)) → found ≡ input.BadLine n → IsRead kinds found unread left
    → IsRead kinds (input.BadLine n) unread left
bad_read kinds found n unread left is read = subst (λ f. IsRead kinds f unread left) is read

-- nothing was written
pub read_only : (kinds : AppKinds) (meaning : Meanings) (s : SimulateSettings) (input : List ℕ) (unread left before : Option (List ℕ))
    → Consumes unread left input
    → IsReadInTime input → PlaysTextSome kinds meaning s unread left before before
read_only kinds meaning s input unread left before read in_time =
    record { input = input; text = []; goes_with = (in_time, inl (inl refl)); read = read; written = nothing_some before [] }

-- the first bad line has one number
pub bad_at : (kinds : AppKinds) (why : TextFault) (n : ℕ) (text : List ℕ) → why ≡ fault.BadLine n
    → (why ≡ fault.NoMemory) ⊎ ((m : ℕ) × ((why ≡ fault.BadLine m) × IsBadAt kinds text m)) → IsBadAt kinds text n
bad_at kinds why n text is (inl none) = let no = sym is ∙ none in absurd cc
bad_at kinds why n text is (inr (m, (also, bad))) = let same : m ≡ n = one_number (sym also ∙ is) in subst (IsBadAt kinds text) same bad
  where
    one_number : fault.BadLine m ≡ fault.BadLine n → m ≡ n
    one_number e = cc
