use Rattle.ledger_model.specs.Reading.{report_at}
use Rattle.statements.proofs.headers.take_report.Goals as goal
use Rattle.std.proofs.Common.{◌≡◌, nat_le, length, true, refl, rules}

some-proper : (c : goal.In_ok-locked) → nat_le 1 (length c.in_ok-proper.proper) ≡ true
some-proper c = search rules

pub returns : goal.returns
unfolding report_at
returns c = rw (
  c.in_ok-place.ensures,
  c.in_ok-all.ensures,
  c.in_ok-initial.ensures,
  c.in_ok-proper.ensures,
  some-proper c,
  c.in_ok-locked.ensures,
) refl
