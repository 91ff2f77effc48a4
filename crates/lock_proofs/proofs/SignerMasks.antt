-- A mask of signers that ascend: its highest bit is the last signer's.
use Rattle.std.proofs.Common.{◌≡◌, ℕ, ◌+◌, ◌*◌, ◌/◌, ◌%◌, ◌^◌, ◌<◌, ◌≤◌, ◌&&◌, Bool, true, false, inl, inr, List, ◌∷◌, length, get_or}
use Rattle.std.proofs.Common.{drop, refl}
use Rattle.std.proofs.Common.{sym, ap, ◌∙◌, arith, leb-true}
use Rattle.std.specs.Prelude.{bit_or, nat_le, nat_lt}
use Rattle.std.proofs.lemmas.Bool.{cases_lt, cases_Bool, le-leb, lt-ltb, ltb-true}
use Rattle.std.proofs.lemmas.List.{drop_more}
use Rattle.ledger_model.specs.declared.statement.SignedReport.{SignedReport}
use Rattle.ledger_model.specs.Validity.{ascends_within, signers_of}
use Rattle.std.proofs.lemmas.Nat.{or_block, shr_split, one_shl}
use Rattle.std.proofs.Math.Nat.{div-eq_of_lt, pow-succ'}
use Rattle.std.proofs.Math.Numerals.{add-one}
use Rattle.std.proofs.Math.Pow.{pow_mono, pow_pos}
use Rattle.std.specs.Int.Bits.{or_zero_r}

-- the mask's highest bit is that before `least`, or the mask is empty and `least` is 0
pub record IsBelow (least mask : ℕ) : Type 0 where
  pub below : mask < 2 ^ least
  pub high : 2 ^ least ≤ 2 * mask + 1

pub none_below : IsBelow 0 0
none_below = record { below = omega arith; high = omega arith }

pow_more : (k : ℕ) → 2 ^ (k + 1) ≡ 2 * 2 ^ k
pow_more k = rw add-one (pow-succ' 2 k)

-- a signer's bit is above the mask exactly from `least` on
pub above_mask : (least mask signer : ℕ) → IsBelow least mask → mask / 2 ^ signer ≡ 0 → least ≤ signer
above_mask least mask signer h none =
    elim (cases_lt signer least) [
      | inl under ↦
          (let le : signer + 1 ≤ least = omega arith in
          let high : 2 ^ (signer + 1) ≤ 2 ^ least = pow_mono le in
          let double = pow_more signer in
          let split : 0 * 2 ^ signer + mask % 2 ^ signer ≡ mask = rw none at (shr_split mask signer) in
          let some = pow_pos signer in
          let rest : mask % 2 ^ signer < 2 ^ signer = omega (arith, some) in
          absurd (omega (arith, high, double, split, rest, h.high)))
      | inr from ↦ from
    ]

pub under_mask : (least mask signer : ℕ) → IsBelow least mask → least ≤ signer → mask / 2 ^ signer ≡ 0
under_mask least mask signer h le =
    let low : mask < 2 ^ signer = let wide : 2 ^ least ≤ 2 ^ signer = pow_mono le in omega (arith, wide, h.below) in div-eq_of_lt low

with_bit : (mask signer : ℕ) → mask < 2 ^ signer → bit_or mask (2 ^ signer) ≡ mask + 2 ^ signer
with_bit mask signer low =
    let some : 0 < 2 ^ signer = omega arith in
    let first : mask ≡ 0 * 2 ^ signer + mask = omega arith in
    let second : 2 ^ signer ≡ 1 * 2 ^ signer + 0 = omega arith in
    ap (λ m. bit_or m (2 ^ signer)) first ∙ ap (bit_or (0 * 2 ^ signer + mask)) second ∙ or_block signer 0 1 mask 0 low some
    ∙ omega (arith, or_zero_r mask)

pub with_signer : (least mask signer k : ℕ) → IsBelow least mask → least ≤ signer → signer < 16 → k ≡ signer
    → IsBelow (signer + 1) (bit_or mask ((1 * 2 ^ k) % 65536))
with_signer least mask signer k h le small is =
    let wide : 2 ^ least ≤ 2 ^ signer = pow_mono le in
    let low : mask < 2 ^ signer = omega (arith, wide, h.below) in
    let sum : bit_or mask ((1 * 2 ^ k) % 65536) ≡ mask + 2 ^ signer = rw (is, one_shl signer 16 small) (with_bit mask signer low) in
    let double = pow_more signer in
    record { below = omega (arith, sum, double, low); high = omega (arith, sum, double) }

-- ---- one signer more

-- the signers that are left, from the next one on
signers_next : (low high i : ℕ) (reports : List SignedReport) (s : SignedReport) → i < length reports → s ≡ get_or reports i s
    → ascends_within low high (signers_of (drop i reports))
    ≡ (nat_le low s.report.signer && nat_lt s.report.signer high
    && ascends_within (s.report.signer + 1) high (signers_of (drop (i + 1) reports)))
signers_next low high i reports s below is =
    ap (λ rs. ascends_within low high (signers_of rs)) (drop_more reports i s below ∙ ap (λ t. t ∷ drop (i + 1) reports) (sym is))

module _ (least high i : ℕ) (reports : List SignedReport) (s : SignedReport) (whole : Bool) (below : i < length reports)
    (is : s ≡ get_or reports i s) (left : ascends_within least high (signers_of (drop i reports)) ≡ whole) where
  parts : (nat_le least s.report.signer && nat_lt s.report.signer high
      && ascends_within (s.report.signer + 1) high (signers_of (drop (i + 1) reports))) ≡ whole
  parts = sym (signers_next least high i reports s below is) ∙ left

  pub ascends_on : least ≤ s.report.signer → s.report.signer < high
      → ascends_within (s.report.signer + 1) high (signers_of (drop (i + 1) reports)) ≡ whole
  ascends_on from under =
      let first = le-leb least s.report.signer from in
      let second = lt-ltb s.report.signer high under in
      rw (first, second) at parts

  pub ends_high : high ≤ s.report.signer → false ≡ whole
  ends_high over =
      elim (cases_Bool (nat_lt s.report.signer high)) [
        | inl under ↦ absurd (let lt = ltb-true s.report.signer high under in omega (arith, lt))
        | inr not_under ↦
            neither (nat_le least s.report.signer) (ascends_within (s.report.signer + 1) high (signers_of (drop (i + 1) reports)))
            ∙ rw not_under at parts
      ]
    where
      neither : (a b : Bool) → false ≡ (a && false && b)
      neither true b = refl
      neither false b = refl

  pub ends_low : s.report.signer < least → false ≡ whole
  ends_low under =
      elim (cases_Bool (nat_le least s.report.signer)) [
        | inl from ↦ absurd (let le = leb-true least s.report.signer from in omega (arith, le))
        | inr not_from ↦ rw not_from at parts
      ]
