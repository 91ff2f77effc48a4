-- A round is at one of the four places of its phase.
use Rattle.std.proofs.Common.{◌≡◌, ℕ, arith}
use Rattle.ledger_model.specs.Rounds.{place_of, ack_place, lock_place, release_place, report_place}

-- the place of round c
pub data AtPlace (c : ℕ) : Type 0 where
  at_reports : place_of c ≡ report_place → AtPlace c
  at_lock : place_of c ≡ lock_place → AtPlace c
  at_acks : place_of c ≡ ack_place → AtPlace c
  at_release : place_of c ≡ release_place → AtPlace c

-- it is at one of them
pub at_place : (c : ℕ) → AtPlace c
at_place c = grind (arith, at_reports, at_lock, at_acks, at_release)
