use Rattle.std.proofs.Common.{subst, sym, arith}
use Rattle.std.proofs.lemmas.List.{length-map}
use Rattle.locked_replica.specs.StoredEntries.{entry_of, entries_of}
use Rattle.locked_replica.specs.States.{IsReplica}
use Rattle.locked_replica.proofs.Applied.{applied_by, applies, still_replica, still_stored, left_stored, refuses_event, refused_memory, sound}
use Rattle.locked_replica.proofs.state.State.apply.Goals as goal

pub take_event-requires : goal.take_event-requires
take_event-requires g c = (entries_of c.self.inside.strings c.self.inside.entries.items, c.self.invariant.0.matches)

pub invariant_of-self-2 : goal.invariant_of-self-2
invariant_of-self-2 g c =
    let facts = (applied_by (g.A.Application.meaning) c.in_ok-entry.ensures.taken c.in_ok-entry.ensures.left c.in_ok-entry.ensures.kept
    c.self.invariant
    (omega (arith, c.len-index.ensures, c.if-index-ge-MAX_ENTRIES.false)) c.is_mute.ensures.due c.reserve.ensures.items c.store.ensures) in
    (still_replica (g.A.Application.meaning) facts, still_stored (g.A.Application.meaning) facts)

pub returns-clause-applied : goal.returns-clause-applied
returns-clause-applied g c =
    rw (sym c.self.view_is) (applies (g.A.Application.meaning)
    (applied_by (g.A.Application.meaning) c.in_ok-entry.ensures.taken c.in_ok-entry.ensures.left c.in_ok-entry.ensures.kept
    c.self.invariant
    (omega (arith, c.len-index.ensures, c.if-index-ge-MAX_ENTRIES.false)) c.is_mute.ensures.due c.reserve.ensures.items c.store.ensures))

pub returns-clause-sound : goal.returns-clause-sound
returns-clause-sound g c =
    sound (g.A.Application.meaning) c.take_event.new.core.replay c.take_event.new.core.keys
    (entries_of c.take_event.new.strings c.store.new.entries.items)
    (invariant_of-self-2 g c).0

pub returns-then-index-ge-MAX_ENTRIES-clause-sound : goal.returns-then-index-ge-MAX_ENTRIES-clause-sound
returns-then-index-ge-MAX_ENTRIES-clause-sound g c =
    let s = c.self.inside in
    rw (sym c.self.view_is) (sound (g.A.Application.meaning) s.core.replay s.core.keys
    (entries_of s.strings s.entries.items) c.self.invariant.0)

pub returns-in_err-reserve-clause-sound : goal.returns-in_err-reserve-clause-sound
returns-in_err-reserve-clause-sound g c =
    let s = c.self.inside in
    sound (g.A.Application.meaning) s.core.replay s.core.keys (entries_of s.strings c.reserve.new.self.items)
    (subst (λ es. IsReplica (g.A.Application.meaning) s.core.replay s.core.keys (entries_of s.strings es))
    (sym c.reserve.ensures.items) c.self.invariant.0)

pub invariant_of-self-in_err-entry : goal.invariant_of-self-in_err-entry
invariant_of-self-in_err-entry g c =
    let s = c.self.inside in
    left_stored (g.A.Application.meaning) s.core c.take_event.new.core s.strings c.take_event.new.strings c.args.event s.entries.items
    c.reserve.new.self.items
    c.self.invariant c.in_err-entry.ensures.err c.in_err-entry.ensures.left c.in_err-entry.ensures.strings_err c.reserve.ensures.items

pub returns-in_err-entry-clause-sound : goal.returns-in_err-entry-clause-sound
returns-in_err-entry-clause-sound g c =
    sound (g.A.Application.meaning) c.take_event.new.core.replay c.take_event.new.core.keys
    (entries_of c.take_event.new.strings c.reserve.new.self.items)
    (invariant_of-self-in_err-entry g c).0

pub returns-in_err-entry-clause-refused : goal.returns-in_err-entry-clause-refused
returns-in_err-entry-clause-refused g c =
    let s = c.self.inside in
    refused_memory _ _ c.from_residual-in_err-entry.ensures.1
    (rw (sym c.self.view_is) (refuses_event (g.A.Application.meaning) s.core c.take_event.new.core s.strings c.take_event.new.strings
    c.args.event s.entries.items
    c.reserve.new.self.items c.self.invariant (omega (arith, c.len-index.ensures, c.if-index-ge-MAX_ENTRIES.false, length-map s.entries.items (entry_of s.strings)))
    c.is_mute.ensures.due c.in_err-entry.ensures.err c.in_err-entry.ensures.left c.in_err-entry.ensures.strings_err c.reserve.ensures.items))
