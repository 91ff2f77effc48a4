-- The answer of the instance is the answer by the log.
use Rattle.std.proofs.Common.{◌≡◌, ℕ, ◌<◌, Bool, true, false, not, ◌&&◌, ◌||◌, inl, inr, List, [], refl, arith}
use Rattle.std.specs.Prelude.{nat_eq}
use Rattle.std.specs.Option.{option_map_or}
use Rattle.std.proofs.lemmas.Bool.{cases_Bool, lt-ltb}
use Rattle.std.proofs.lemmas.Bool.Decides.{nat_tests}
use Rattle.ledger_model.specs.declared.statement.Statement.{Statement}
use Rattle.ledger_model.specs.declared.statement.Statement.TheVariants as statement
use Rattle.ledger_model.specs.Values.{same_value}
use Rattle.ledger_model.specs.Rounds.{phase_of, place_of, round_at, ack_place, report_place, lock_place}
use Rattle.ledger_model.specs.Notes.{Note, clock_of, signer_of, is_lock, is_ack}
use Rattle.lock_proofs.specs.LockTables.{has_four_others}
use Rattle.tally.specs.Tallies.{all_read}
use Rattle.ledger_model.specs.Rules.{Ring, has_place, has_phase, is_repeated, is_table_full, is_not_mine, first_of, place_causes}
use Rattle.ledger_model.specs.Rules.{proof_causes, causes}
use Rattle.lock_proofs.proofs.HeldLocks.{full_alike}
use Rattle.instance.specs.Instances.{InstanceView}
use Rattle.instance.specs.Matching.{MatchesLog}
use Rattle.instance.specs.Reads.{is_kept_already}
use Rattle.instance.specs.Laws.{AnswersStatement, Judges}
use Rattle.ledger_model.proofs.Lists.{any_mapped}
use Rattle.instance.proofs.KeptPlaces.{taken_place}

-- ---- where a statement is of the open round and phase

-- what two causes tell where they do not fit
pub record OnTime (c : ℕ) (s : Statement) : Type 0 where
  pub some : 0 < c
  pub place : has_place (place_of c) s ≡ true
  pub phase : has_phase c s ≡ true

-- and that they tell it
pub on_time : (c : ℕ) (s : Statement) → (nat_eq c 0 || not (has_place (place_of c) s)) ≡ false → not (has_phase c s) ≡ false → OnTime c s
on_time c s round phase = record { some = grind (arith, nat_tests); place = grind arith; phase = grind arith }

-- ---- where the two lists of causes differ

module _ (ring : Ring) (row : InstanceView) (log : List Note) (m : MatchesLog ring row log) where
  abbrev now : ℕ
  now = clock_of log

  repeated_alike : (s : Statement) → OnTime now s → is_kept_already row now s ≡ is_repeated log s
  repeated_alike (statement.Report r) t =
      let here : now ≡ round_at report_place (phase_of now) = let some = t.some in let place = t.place in grind (arith, nat_tests) in
      let taken = taken_place (λ s. s.report.signer) row.reports (λ q s h. (m.reports.kept q s h).of_signer) r.signer in
      let mapped = any_mapped (λ p. nat_eq p.signer r.signer) (λ s. s.report) (all_read row.reports) in
      let same = m.reports.same (λ p. nat_eq p.signer r.signer) in
      grind arith
  repeated_alike (statement.Lock l) t = let locked = m.lock.locked in let some = t.some in grind (arith, nat_tests)
  repeated_alike (statement.Ack a) t =
      let here : now ≡ round_at ack_place (phase_of now) = let some = t.some in let place = t.place in grind (arith, nat_tests) in
      let taken = taken_place (λ b. b.signer) row.acks m.acks.ackers a.signer in
      let same = m.acks.same (λ b. nat_eq b.signer a.signer) in
      grind arith

  table_alike : (s : Statement) → (nat_eq (place_of now) lock_place && is_lock (λ l. has_four_others l.value row.table) s)
      ≡ is_table_full log s
  table_alike s = λ i. nat_eq (place_of now) lock_place && is_lock (λ l. full_alike log row.table m.locks l.value i) s

  not_mine_alike : (s : Statement) → OnTime now s
      → is_ack (λ a. not (option_map_or (same_value a.value) row.made false)) s ≡ is_not_mine log s
  not_mine_alike s t = let made = m.lock.made in let phase = t.phase in grind (arith, nat_tests, made)

pub answers : AnswersStatement
unfolding causes
answers ring row log s m below =
    let round : Bool = nat_eq (clock_of log) 0 || not (has_place (place_of (clock_of log)) s.statement) in
    let phase : Bool = not (has_phase (clock_of log) s.statement) in
    rw (lt-ltb (signer_of s.statement) row.config.replicas below, m.opened)
    (elim (cases_Bool round) [
      | inl late ↦ rw late refl
      | inr on_round ↦ elim (cases_Bool phase) [
        | inl other ↦ rw (on_round, other) refl
        | inr on_phase ↦
            let t = on_time (clock_of log) s.statement on_round on_phase in
            λ i. first_of (place_causes row.config (clock_of log) (repeated_alike ring row log m s.statement t i) s.statement
            (proof_causes row.config ring (table_alike ring row log m s.statement i) (not_mine_alike ring row log m s.statement t i) s))
      ]
    ])

pub judges : Judges
judges ring row log s m =
    let round : Bool = nat_eq (clock_of log) 0 || not (has_place (place_of (clock_of log)) s) in
    let phase : Bool = not (has_phase (clock_of log) s) in
    elim (cases_Bool round) [
      | inl late ↦ rw late refl
      | inr on_round ↦ elim (cases_Bool phase) [
        | inl other ↦ rw (on_round, other) refl
        | inr on_phase ↦
            let t = on_time (clock_of log) s on_round on_phase in
            λ i. first_of (place_causes row.config (clock_of log) (repeated_alike ring row log m s t i) s [])
      ]
    ]
