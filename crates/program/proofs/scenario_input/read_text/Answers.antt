use Rattle.byte_streams.specs.Faults.{IsMemoryOrAsked}
use Rattle.program.proofs.CauseLemmas.{read_is}
use Rattle.std.proofs.Common.{◌≡◌, ◌<◌, ◌≤◌, ◌++◌, inl, inr, length, rules, subst, sym, take}
use Rattle.std.proofs.KnownBytes.{Consumes-kept, Consumes-nil}
use Rattle.std.specs.Io.KnownBytes.{Consumes}
use Rattle.scenario_texts.specs.Lines.{HasLines, IsTooLarge}
use Rattle.scenario_texts.proofs.Sizes.{nothing_fits}
use Rattle.byte_streams.proofs.Faults.{on_error, passed}
use Rattle.program.specs.Simulating.{IsReadInTime}
use Rattle.program.proofs.ScenarioLemmas.{all_in_time, piece_in_time, read_none, read_on}
use Rattle.program.proofs.scenario_input.read_text.Goals as goal

pub returns-in_err-count-clause-read : goal.returns-in_err-count-clause-read
returns-in_err-count-clause-read g c =
    on_error _ _ c.from_residual.ensures.0 (
      c.loop.text.items,
      (
        Consumes-kept _ _ _ _ c.loop.invariant.read c.in_err-count.ensures.bytes,
        all_in_time c.loop.text.items
            c.loop.invariant.fits,
      ),
    )

pub returns-then-count-eq0-clause-read : goal.returns-then-count-eq0-clause-read
returns-then-count-eq0-clause-read g c =
    let some : 0 < length c.read_piece.new.piece = search rules in
    let none : c.in_ok-count.count ≡ 0 = c.if-count-eq0.true in (
      read_none _ _ _ c.loop.text.items c.read_piece.new.piece c.in_ok-count.count c.loop.invariant.read c.in_ok-count.ensures.bytes.0 none,
      (all_in_time c.loop.text.items c.loop.invariant.fits, inl (c.in_ok-count.ensures.bytes.1 none some)),
    )

pub returns-in_err-extend_from_slice-clause-read : goal.returns-in_err-extend_from_slice-clause-read
returns-in_err-extend_from_slice-clause-read g c =
    let short : length c.read_piece.new.piece ≤ 8192 = search rules in
    on_error _ _ c.from_residual-in_err-extend_from_slice.ensures.0 (
      c.loop.text.items ++ take c.in_ok-count.count c.read_piece.new.piece,
      (
        read_on _ _ _ c.loop.text.items c.read_piece.new.piece c.in_ok-count.count c.loop.invariant.read c.in_ok-count.ensures.bytes.0,
        piece_in_time c.loop.text.items c.read_piece.new.piece c.in_ok-count.count c.loop.invariant.fits short,
      ),
    )

pub returns-then-not-take_all-clause-read : goal.returns-then-not-take_all-clause-read
returns-then-not-take_all-clause-read g c =
    let short : length c.read_piece.new.piece ≤ 8192 = search rules in (
      subst (Consumes _ _) (sym c.in_ok-extend_from_slice.ensures.items)
          (read_on _ _ _ c.loop.text.items c.read_piece.new.piece c.in_ok-count.count c.loop.invariant.read c.in_ok-count.ensures.bytes.0),
      (
        subst IsReadInTime (sym c.in_ok-extend_from_slice.ensures.items)
            (piece_in_time c.loop.text.items c.read_piece.new.piece c.in_ok-count.count c.loop.invariant.fits short),
        inr (subst IsTooLarge (sym c.in_ok-extend_from_slice.ensures.items)
            (c.if-not-take_all.ensures.counted c.loop.text.items c.loop.invariant.counted)),
      ),
    )

pub loop-init : goal.loop-init
loop-init g c = record {
  read = subst (Consumes _ _) (sym c.new-text.ensures.items) (Consumes-nil _);
  counted = subst (λ t. HasLines t c.new-lines.result) (sym c.new-text.ensures.items) c.new-lines.ensures.none;
  fits = λ large. nothing_fits (subst IsTooLarge c.new-text.ensures.items large);
}

pub loop-preserved : goal.loop-preserved
loop-preserved g c = record {
  read = subst (Consumes _ _) (sym c.in_ok-extend_from_slice.ensures.items)
      (read_on _ _ _ c.loop.text.items c.read_piece.new.piece c.in_ok-count.count c.loop.invariant.read c.in_ok-count.ensures.bytes.0);
  counted = subst (λ t. HasLines t c.take_all.new.self) (sym c.in_ok-extend_from_slice.ensures.items)
      (c.if-not-take_all.ensures.counted c.loop.text.items c.loop.invariant.counted);
  fits = λ large. c.if-not-take_all.ensures.fits c.loop.text.items c.loop.invariant.counted c.loop.invariant.fits (search rules)
      (subst IsTooLarge c.in_ok-extend_from_slice.ensures.items large);
}

pub returns-in_err-count-clause-fault : goal.returns-in_err-count-clause-fault
returns-in_err-count-clause-fault g c =
    passed _ c.in_err-count.field-0.0 IsMemoryOrAsked c.from_residual.ensures.1 (read_is _ c.in_err-count.ensures.fault)
