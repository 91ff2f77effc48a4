-- Events that a replica takes, and the lines that are written for the replies.
use Rattle.ledger_model.specs.Meanings.{Meanings}
use Rattle.std.proofs.Common.{ℕ, List, [], ◌++◌}
use Rattle.std.specs.Prelude.{Option}
use Rattle.std.proofs.KnownBytes.{Appends-nil, Appends-trans}
use Rattle.ledger_model.specs.declared.event.Event.{Event}
use Rattle.locked_replica.specs.States.{StateView}
use Rattle.program.specs.Answering.{Printed, PrintedSome}
use Rattle.program.proofs.AnsweringLemmas.{answers_none, answers_both, some_after, some_all, some_longer}
use Rattle.byte_streams.proofs.WritingLemmas.{all_some, then_some}

-- no event
pub printed_none : (meaning : Meanings) (a : StateView) (p : Option (List ℕ)) → Printed meaning a [] a p p
printed_none meaning a p = ([], (answers_none meaning a, Appends-nil p))

-- events, and then others
pub printed_both : (meaning : Meanings) (a b c : StateView) (xs ys : List Event) (p q r : Option (List ℕ)) → Printed meaning a xs b p q
    → Printed meaning b ys c q r
    → Printed meaning a (xs ++ ys) c p r
printed_both meaning a b c xs ys p q r first second = (
  first.0 ++ second.0,
  (
    answers_both meaning a b c xs ys first.0 second.0 first.1.0 second.1.0,
    Appends-trans p q r first.0 second.0 first.1.1
        second.1.1,
  ),
)

-- events, and then the first of others
pub printed_after : (meaning : Meanings) (a b c : StateView) (xs ys : List Event) (p q r : Option (List ℕ)) → Printed meaning a xs b p q
    → PrintedSome meaning b ys c q r
    → PrintedSome meaning a (xs ++ ys) c p r
printed_after meaning a b c xs ys p q r first second = (
  first.0 ++ second.0,
  (
    some_after meaning a b c xs ys first.0 second.0 first.1.0 second.1.0,
    then_some p q r first.0 second.0 first.1.1
        second.1.1,
  ),
)

-- the first of some events are the first of more
pub printed_longer : (meaning : Meanings) (a b : StateView) (xs ys : List Event) (p q : Option (List ℕ)) → PrintedSome meaning a xs b p q
    → PrintedSome meaning a (xs ++ ys) b p q
printed_longer meaning a b xs ys p q some = (some.0, (some_longer meaning a b xs ys some.0 some.1.0, some.1.1))

-- all of some events are the first of them
pub printed_all : (meaning : Meanings) (a b : StateView) (xs : List Event) (p q : Option (List ℕ)) → Printed meaning a xs b p q
    → PrintedSome meaning a xs b p q
printed_all meaning a b xs p q all = (all.0, (some_all meaning a b xs all.0 all.1.0, all_some p q all.0 all.1.1))
