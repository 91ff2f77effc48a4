-- The places of the rounds of a phase, by number.
use Rattle.std.specs.Prelude.{ℕ}
use Rattle.ledger_model.specs.Rounds.{report_place, lock_place, ack_place, release_place}
use Rattle.ledger_model.specs.declared.rounds.Place.{Place}
use Rattle.ledger_model.specs.declared.rounds.Place.TheVariants as place

-- the number of a place in its phase, 1 to 4
abbrev pub number_of : Place → ℕ
number_of place.Reports = report_place
number_of place.Lock = lock_place
number_of place.Acknowledgements = ack_place
number_of place.Release = release_place
