use Rattle.std.proofs.Common.{◌≡◌, ◌<◌, length, true, arith, sym, ap, ◌∙◌, refl}
use Rattle.std.specs.Prelude.{Option, Some, None, slice_set, if◌then◌else◌}
use Rattle.std.specs.Option.{is_none}
use Rattle.tally.specs.Tallies.{read_of}
use Rattle.tally.proofs.Puts.{there_now}
use Rattle.tally.proofs.Counted.{within_few, room_for, counted_put}
use Rattle.tally.proofs.phase_reports.PhaseReports.add.Goals as goal

none_from : {X : Type 0} (o : Option X) → is_none o ≡ true → o ≡ None
none_from None e = refl
none_from (Some x) e = cc

pub count-requires-clause-room : goal.count-requires-clause-room
count-requires-clause-room c = λ t is.
    let empty : read_of c.self.inside.tally c.signer_of-signer.result ≡ None =
    none_from (read_of c.self.inside.tally c.signer_of-signer.result) (sym c.add.ensures.added ∙ c.if-not-add.false) in
    let now : c.add.new.self ≡ slice_set c.self.inside.tally c.signer_of-signer.result (Some c.args.read) =
    c.add.ensures.after
    ∙ ap (λ b. if b then slice_set c.self.inside.tally c.signer_of-signer.result
    (Some c.args.read) else c.self.inside.tally) c.if-not-add.false in
    let below : c.signer_of-signer.result < length c.self.inside.tally =
    rw (c.signer_of-signer.ensures, c.self.view_is) c.requires.signer in
    room_for c.self.inside.tally c.signer_of-signer.result c.args.read t c.self.inside.counts _ below empty
    (within_few c.args.read c.requires.proper c.requires.locked) c.self.invariant.0 c.self.invariant.1 (rw now at is)

pub invariant_of-self-2 : goal.invariant_of-self-2
invariant_of-self-2 c =
    let empty : read_of c.self.inside.tally c.signer_of-signer.result ≡ None =
    none_from (read_of c.self.inside.tally c.signer_of-signer.result) (sym c.add.ensures.added ∙ c.if-not-add.false) in
    let now : c.add.new.self ≡ slice_set c.self.inside.tally c.signer_of-signer.result (Some c.args.read) =
    c.add.ensures.after
    ∙ ap (λ b. if b then slice_set c.self.inside.tally c.signer_of-signer.result
    (Some c.args.read) else c.self.inside.tally) c.if-not-add.false in
    let below : c.signer_of-signer.result < length c.self.inside.tally =
    rw (c.signer_of-signer.ensures, c.self.view_is) c.requires.signer in
    let there : read_of c.add.new.self c.signer_of-signer.result ≡ Some c.args.read =
    rw now (there_now c.self.inside.tally c.signer_of-signer.result c.args.read below) in (
      rw now
          (counted_put c.self.inside.tally c.signer_of-signer.result c.args.read c.self.inside.counts c.count.new.self below empty
          (sym c.signer_of-signer.ensures) (within_few c.args.read c.requires.proper c.requires.locked) c.self.invariant.0
          (rw now at (c.count.ensures.counted c.args.read there))),
      omega (arith, c.self.invariant.1, c.count.ensures.room, c.add.ensures.places),
    )
