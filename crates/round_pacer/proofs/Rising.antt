-- Later rounds end later.
use Rattle.std.proofs.Common.{◌≡◌, ℕ, ◌+◌, ◌*◌, ◌/◌, ◌<◌, ◌≤◌, true, false, arith}
use Rattle.std.specs.Prelude.{nat_le}
use Rattle.std.proofs.Math.Nat.{mul-le-mul_left, mul-le-mul_right}
use Rattle.std.proofs.lemmas.Bool.{leb-true, leb-false}
use Rattle.round_pacer.specs.Pacing.{due_at, max_due}

sums : (start a b c d : ℕ) → a ≤ b → c ≤ d → start + a + c / 2 ≤ start + b + d / 2
sums start a b c d le le2 = omega (arith, le, le2)

pub rises : (start base r s : ℕ) → r ≤ s → due_at start base r ≤ due_at start base s
rises start base r s le =
    let left = mul-le-mul_right (r + 1) le in
    let right = mul-le-mul_left {m = r + 1} {n = s + 1} s (omega (arith, le)) in
    sums start (r * base) (s * base) (r * (r + 1)) (s * (s + 1)) (mul-le-mul_right base le) (omega (arith, left, right))

-- what the ends after the first `ended` come to: those up to low are due, and those above high are not
pub record IsBetween (start now base ended low high : ℕ) : Type 0 where
  pub order : low ≤ high
  pub most : high ≤ max_due
  pub due : (r : ℕ) → ended < r → r ≤ ended + low → due_at start base r ≤ now
  pub rest : high < max_due → (r : ℕ) → ended + high < r → now < due_at start base r

module _ {start now base ended low high : ℕ} (was : IsBetween start now base ended low high) (middle : ℕ) where
  pub those_due : middle ≤ high → nat_le (due_at start base (ended + middle)) now ≡ true → IsBetween start now base ended middle high
  those_due within test =
      let last = leb-true (due_at start base (ended + middle)) now test in
      record {
        order = within;
        most = was.most;
        due = λ r above le. (let early = rises start base r (ended + middle) le in omega (arith, early, last));
        rest = was.rest;
      }

  pub those_not : low < middle → middle ≤ high → nat_le (due_at start base (ended + middle)) now ≡ false → (less : ℕ) → less + 1 ≡ middle
      → IsBetween start now base ended low less
  those_not above within test less one =
      let first = leb-false (due_at start base (ended + middle)) now test in
      let most = was.most in
      record {
        order = omega (arith, above, one);
        most = omega (arith, within, one, most);
        due = was.due;
        rest = λ few r later. (let late = rises start base (ended + middle) r (omega (arith, later, one)) in omega (arith, late, first));
      }
