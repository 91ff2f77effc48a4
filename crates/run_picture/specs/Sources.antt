-- Where delivered frames come from.
--
-- A frame does not name the replica that sent it on: several replicas may send the same bytes, and one replica may send them again in a
-- later round. A delivery comes from one of the sent frames that have its bytes and go to its replica: from one of the latest round up to
-- its own or, if all of them are sent later, of the earliest round; and of the frames of that round from the first.
use Rattle.std.specs.Prelude.{ℕ, nat_le, ◌==◌, Bool, ◌&&◌, List, map, filter, min, max, Option, option_and_then}
use Rattle.std.specs.List.{position, reduce}
use Rattle.std.specs.Option.{option_or}
use Rattle.ledger_model.specs.Addressing.{goes_to}
use Rattle.ledger_model.specs.Values.{same_bytes}
use Rattle.run_picture.specs.declared.sent_frames.SentFrame.{SentFrame}
use Rattle.run_picture.specs.declared.deliveries.Delivery.{Delivery}
use Rattle.run_picture.specs.declared.sources.Arrival.{Arrival}

-- the sent frame has the delivery's bytes, and goes to its replica
abbrev pub may_come_from : Delivery → SentFrame → Bool
may_come_from d s = same_bytes s.bytes d.bytes && goes_to s.addressee s.at.replica d.at.replica

-- the rounds that open with such frames
abbrev pub source_rounds : List SentFrame → Delivery → List ℕ
source_rounds sent d = map (λ (s : SentFrame). s.at.round) (filter (may_come_from d) sent)

-- the latest of these rounds up to round c or, if all of them are later, the earliest
abbrev pub nearest_round : ℕ → List ℕ → Option ℕ
nearest_round c rounds = option_or (reduce max (filter (λ r. nat_le r c) rounds)) (reduce min rounds)

-- the index of the first of these frames with which round c opens
abbrev pub first_source : List SentFrame → Delivery → ℕ → Option ℕ
first_source sent d c = position (λ (s : SentFrame). may_come_from d s && (s.at.round == c)) sent

-- the index of the sent frame that the delivery comes from; None, if it comes from outside the picture
abbrev pub source_of : List SentFrame → Delivery → Option ℕ
source_of sent d = option_and_then (first_source sent d) (nearest_round d.at.round (source_rounds sent d))

-- the delivery with its source
abbrev pub arrival_of : List SentFrame → Delivery → Arrival
arrival_of sent d = record { delivery = d; source = source_of sent d }
