use Rattle.std.proofs.Common.{◌≡◌, ◌<◌, ◌++◌, ◌∷◌, [], length, sym, ap, ◌∙◌}
use Rattle.std.specs.Prelude.{Some, slice_get}
use Rattle.ledger_model.specs.declared.history.Entry.{Entry}
use Rattle.ledger_model.proofs.Lists.{get_last}
use Rattle.adversary_net.proofs.SentPlaces.{sent_by, indexed_after}
use Rattle.adversary_net.proofs.Staying.{stays}
use Rattle.adversary_net.proofs.correct.CorrectReplica.apply.Goals as goal

pub invariant_of-self-in-Ok : goal.invariant_of-self-in-Ok
invariant_of-self-in-Ok g c =
    let s = c.self.inside in
    let old = s.state in
    let added = c.in-Ok.ensures.applied in
    let e : Entry = record { event = c.args.event; reply = added.reply } in
    let grown : c.apply.new.self.entries ≡ old.entries ++ e ∷ [] = added.added in
    let place : c.in-Ok.index ≡ length old.entries = c.in-Ok.ensures.index in
    let there : slice_get c.apply.new.self.entries c.in-Ok.index ≡ Some e =
    ap (λ es. slice_get es c.in-Ok.index) grown ∙ ap (slice_get (old.entries ++ e ∷ [])) place ∙ get_last old.entries e in
    let counted : c.frames_of-frames.result ≡ sent_by e = c.frames_of-frames.ensures e there in
    let small : c.frames_of-frames.result < 18446744073709551616 = c.frames_of-frames.type_inv in
    record {
      indexed = indexed_after s.sent.sending.items c.reserve.new.self.sending.items c.add.new.self.sending.items s.sent.total
          c.reserve.new.self.total c.add.new.self.total
          c.frames_of-frames.result c.in-Ok.index old.entries c.apply.new.self.entries e c.self.invariant.indexed counted small
          c.reserve.ensures.sending c.reserve.ensures.total place
          c.add.ensures.sending c.add.ensures.total grown;
      machine = c.in-Ok.ensures.sound.machine;
    }

pub returns-in-Err-clause-err : goal.returns-in-Err-clause-err
returns-in-Err-clause-err g c =
    rw (sym c.self.view_is) (stays c.self.inside.state c.apply.new.self c.args.event c.in-Err.field-0 c.in-Err.ensures.refused)
