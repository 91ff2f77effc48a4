-- What a replica plans to make can be encoded, if the instance can.
use Rattle.std.proofs.Common.{◌≡◌, inl, inr, List, ◌++◌, ℕ, ◌<◌, ◌≤◌, length, refl, arith}
use Rattle.std.specs.Prelude.{Some, nat_eq, Option, None, IfSome}
use Rattle.ledger_model.specs.declared.config.Config.{Config}
use Rattle.ledger_model.specs.declared.statement.Report.{Report}
use Rattle.ledger_model.specs.Values.{Value, IsValueIn}
use Rattle.ledger_model.proofs.VersionLaws.{value_within}
use Rattle.ledger_model.specs.Notes.{Has}
use Rattle.phase_core.specs.Choices.{chosen}
use Rattle.tally.specs.Readings.{reports_of}
use Rattle.ledger_model.specs.Spelling.{IsSignedReport, IsPlace, IsStatement}
use Rattle.ledger_model.proofs.Lists.{each_has, flat_map_has, has_cases, each_from}
use Rattle.phase_core.proofs.Choosing.{chosen_named, chosen_found}
use Rattle.std.proofs.lemmas.Bool.{cases_Bool}
use Rattle.ledger_model.specs.Rounds.{phase_of, owner_of}
use Rattle.tally.specs.Tallies.{all_read}
use Rattle.ledger_model.specs.Validity.{signers_of}
use Rattle.instance.specs.Instances.{InstanceView}
use Rattle.instance.specs.Matching.{IsSpelled, IsSpelledSet}
use Rattle.instance.specs.Plans.{own_lock, chosen_lock, sent_ack, chosen_statement, opened_effects, IsOwnStatement}
use Rattle.ledger_model.proofs.AtPlace.{at_place, at_reports, at_lock, at_acks, at_release}
use Rattle.instance.proofs.OwnLocks.{in_proof, proof_length, signers_within}
use Rattle.proper_sets.specs.ProperViews.{ProperView}
use Rattle.ledger_model.proofs.Counting.{ascends_higher}
use Rattle.instance.proofs.SpelledRows.{IsReadable, each_spelled, absorbs}

module _ (config : Config) (reports : List Report) (own : Value) where
  -- it has a spelling, where the own one and the reports do
  chosen_spelled : IsValueIn config.frames own → ((p : Report) → Has reports p → IsReadable config.frames p) → (v : Value)
      → chosen config reports own ≡ Some v → IsValueIn config.frames v
  chosen_spelled own_spelled spelled v e =
      let told = chosen_named config reports own v e in
      let listed = flat_map_has (λ (p : Report). p.proper ++ p.locked) reports v in
      let within = λ (p : Report) (has : Has reports p). value_within config.frames p.version v (spelled p has).read in
      let proper = λ (p : Report) (has : Has reports p) (there : Has p.proper v). within p has
      (each_has (IsValueIn p.version) p.proper v (spelled p has).report.proper.each there) in
      let locked = λ (p : Report) (has : Has reports p) (there : Has p.locked v). within p has
      (each_has (IsValueIn p.version) p.locked v (spelled p has).report.locked.each there) in
      let cases = λ (p : Report). has_cases p.proper p.locked v in
      grind arith

-- what is chosen as round c opens, which is not before the first
module _ (row : InstanceView) (h : IsSpelled row) (member : row.id < row.config.replicas)
    (places : length row.reports ≡ row.config.replicas) (c : ℕ) (begun : 1 ≤ c) (early : c ≤ 4000000000) where
  abbrev k : ℕ
  k = phase_of c

  place : IsPlace row.height k row.id
  place = let bounded = row.config.bounded in record {
    heights =
        h.heights;
    phases = (omega (arith, begun), omega (arith, early));
    signers = omega arith;
  }

  -- the lock, whose reports are kept ones
  lock_spelled : (o : Option Value) → chosen row.config (reports_of (all_read row.reports)) row.proper.own ≡ o
      → IfSome (chosen_lock row k o) IsStatement
  lock_spelled None is = tt
  lock_spelled (Some v) is =
      let enough = row.config.enough in
      let bounded = row.config.bounded in
      let tolerant = row.config.tolerant in
      let len = proof_length row h places k v (chosen_found row.config (reports_of (all_read row.reports)) row.proper.own v is) in
      record {
        place = place;
        value = chosen_spelled row.config (reports_of (all_read row.reports)) row.proper.own h.own (each_spelled h) v is;
        count = (omega arith, omega arith);
        each = each_from (IsSignedReport row.config.frames) (own_lock row k v).proof
            (λ s has. (h.reports s.report.signer s (in_proof row h places k v s has).0).spelled);
        signers = ascends_higher 0 row.config.replicas 256 (signers_of (own_lock row k v).proof) (omega arith)
            (signers_within row h places k v);
      }

  ack_spelled : (o : Option Value) → IfSome o (IsValueIn row.config.frames) → IfSome (sent_ack row k o) IsStatement
  ack_spelled o value = let at = place in grind arith

  pub chosen_spelled_as : IfSome (chosen_statement row c) IsStatement
  unfolding chosen_statement
  chosen_spelled_as = elim (at_place c) [
    | at_reports e ↦ rw e (record { place = place; initial = h.own; proper = h.proper; some = h.some; locked = h.locked })
    | at_lock e ↦ elim (cases_Bool (nat_eq (owner_of row.config k) row.id)) [
      | inl mine ↦ rw (e, mine) (lock_spelled _ refl)
      | inr other ↦
          rw (e, other) tt
    ]
    | at_acks e ↦ rw e (ack_spelled row.taken h.taken)
    | at_release e ↦ rw e tt
  ]

-- it is one's own
pub chosen_own_statement : (row : InstanceView) (c : ℕ) → IfSome (chosen_statement row c) (IsOwnStatement row)
unfolding chosen_statement
chosen_own_statement row c = grind arith

-- what the end of a round makes proper
pub proper_spelled : (row : InstanceView) (c : ℕ) (known : ProperView) → IsSpelled row → (opened_effects row c).proper ≡ Some known
    → IsSpelledSet row.config.frames known.set
unfolding opened_effects
proper_spelled row c known h e = let set = absorbs h in grind arith

-- its proper set is of the same cluster
pub proper_config : (row : InstanceView) (c : ℕ) (known : ProperView) → (opened_effects row c).proper ≡ Some known → known.config ≡ row.config
unfolding opened_effects
proper_config row c known e = grind arith
