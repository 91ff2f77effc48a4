use Rattle.std.proofs.Common.{rules, ◌≡◌, ◌-◌, ℕ, List, [], ◌++◌, length, take, drop, sym, ap, subst, ◌∙◌, append_assoc, append-nil}
use Rattle.std.proofs.Common.{take-append-drop, drop_of_length-le}
use Rattle.std.proofs.lemmas.List.{take_rest}
use Rattle.std.specs.Io.KnownBytes.{Appends}
use Rattle.std.proofs.KnownBytes.{Appends-trans}
use Rattle.byte_streams.proofs.Faults.{on_error}
use Rattle.byte_streams.proofs.writing.write_whole.Goals as goal
use Rattle.byte_streams.proofs.WritingLemmas.{more_written}

pub loop-preserved : goal.loop-preserved
loop-preserved g c =
    let (done, kept) = c.loop.invariant in
    let n = c.in_ok-count.count in (
      done ++ take n c.loop.left.now,
      (more_written _ done c.loop.left.now n kept.0, Appends-trans _ _ _ _ _ kept.1 c.in_ok-count.ensures.written),
    )

pub returns-then-is_empty : goal.returns-then-is_empty
returns-then-is_empty g c =
    let (done, kept) = c.loop.invariant in
    let empty : c.loop.left.now ≡ [] = drop_of_length-le c.loop.left.now {i = 0} (search rules) in
    subst (Appends _ _) (sym (kept.0 ∙ ap (λ l. done ++ l) empty ∙ append-nil done)) kept.1

pub returns : goal.returns
returns g c =
    let (done, kept) = c.loop.invariant in
    record { done = done; left = c.loop.left.now; split = sym kept.0; written = kept.1 }

pub returns-in_err-count : goal.returns-in_err-count
returns-in_err-count g c =
    let (done, kept) = c.loop.invariant in
    on_error _ _ c.from_residual.ensures.0 (record {
      done = done ++ [];
      left = c.loop.left.now;
      split = ap (λ l. l ++ c.loop.left.now) (append-nil done) ∙ sym kept.0;
      written = Appends-trans _ _ _ _ _ kept.1 c.in_err-count.ensures.written;
    })
