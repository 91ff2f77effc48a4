-- Counting the lists that were read is counting replicas in the log.
use Rattle.std.proofs.Common.{◌≡◌, ℕ, ◌+◌, Bool, true, false, List, refl, sym, ap, subst, ◌∙◌, arith}
use Rattle.std.specs.Prelude.{map, nat_le, ◌==◌, ◌&&◌, ◌*◌}
use Rattle.ledger_model.specs.declared.config.Config.{Config}
use Rattle.ledger_model.specs.declared.statement.Ack.{Ack}
use Rattle.ledger_model.specs.declared.statement.Report.{Report}
use Rattle.ledger_model.specs.Values.{Value, same_value}
use Rattle.ledger_model.specs.Rounds.{round_at, quorum, number_of, ack_place, report_place}
use Rattle.ledger_model.specs.Notes.{Note, is_report, is_ack, was_read}
use Rattle.ledger_model.specs.Locks.{finds}
use Rattle.ledger_model.specs.Validity.{ascends_within}
use Rattle.tally.specs.Tallies.{count_where}
use Rattle.tally.specs.Readings.{AreReadIn, AreAcksIn}
use Rattle.phase_core.specs.Choices.{is_decided_by}
use Rattle.tally.proofs.Tallying.{of_number, counted_once}
use Rattle.phase_core.specs.Laws.{FoundIsSupported, DecidedIsAcked}

-- how many replicas have what passes
in_range : {X : Type 0} (key : X → ℕ) (test : X → Bool) (config : Config) (xs : List X)
    → ascends_within 0 config.replicas (map key xs) ≡ true
    → number_of config (of_number key test xs) ≡ count_where test xs
in_range key test config xs h =
    let end : config.replicas ≡ 0 + config.replicas = omega arith in
    counted_once key test config.replicas 0 xs (subst (λ e. ascends_within 0 e (map key xs) ≡ true) end h)

-- how many replicas reported what finds the value
supporting : (config : Config) (log : List Note) (k : ℕ) (reports : List Report) → AreReadIn config log k reports → (v : Value)
    → number_of config (λ r. was_read log (round_at report_place k) (is_report (λ p. (p.signer == r) && finds p v)))
    ≡ count_where (λ p. finds p v) reports
supporting config log k reports h v =
    (λ i. number_of config (λ r. h.same (λ p. (p.signer == r) && finds p v) i))
    ∙ in_range (λ p. p.signer) (λ p. finds p v) config reports h.signers

pub found_is_supported : FoundIsSupported
found_is_supported config log k reports h v = ap (nat_le (quorum config)) (sym (supporting config log k reports h v))

split_apart : (a b c : Bool) → (a && b && c) ≡ (a && (b && c))
split_apart true b c = refl
split_apart false b c = refl

-- how many replicas acknowledged the value in the phase
acknowledged : (config : Config) (log : List Note) (k : ℕ) (acks : List Ack) → AreAcksIn config log k acks → (v : Value)
    → number_of config (λ r. was_read log (round_at ack_place k) (is_ack (λ a. (a.signer == r) && (a.phase == k) && same_value v a.value)))
    ≡ count_where (λ a. (a.phase == k) && same_value v a.value) acks
acknowledged config log k acks h v =
    let test : Ack → Bool = λ a. (a.phase == k) && same_value v a.value in
    (λ i. number_of config (λ r. was_read log (round_at ack_place k)
    (is_ack (λ a. split_apart (a.signer == r) (a.phase == k) (same_value v a.value) i))))
    ∙ (λ i. number_of config (λ r. h.same (λ a. (a.signer == r) && test a) i))
    ∙ in_range (λ a. a.signer) test config acks h.signers

pub decided_is_acked : DecidedIsAcked
unfolding is_decided_by
decided_is_acked config log k acks h v made =
    let enough : ℕ → Bool = nat_le (2 * config.faults + 1) in
    let counted = ap enough (sym (acknowledged config log k acks h v)) in
    simp made counted
