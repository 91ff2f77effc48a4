-- What the sender pays the receiver gets.
use Rattle.std.proofs.Common.{◌≡◌, ◌+◌, ◌^◌, ◌<◌, ◌≤◌, length, get_or, ap, sym, ◌∙◌, arith}
use Rattle.app_kinds.specs.Purses.{shown, balance_at, nonce_at, total_of}
use Rattle.app_kinds.proofs.Transfers.{Balance, nothing, shown-transfer, total-transfer, two-le-total, fit-moved, length-shown, length-charged}
use Rattle.app_kinds.proofs.Transfers.{shown-at}
use Rattle.app_kinds.proofs.accounts.Accounts.transfer.Goals as goal

pub overflow_add-self-2 : goal.overflow_add-self-2
overflow_add-self-2 c =
    let ps = shown c.self.inside.accounts in
    let long : length ps ≡ 256 = length-shown c.self.inside.accounts ∙ c.self.invariant.0 in
    let hs : c.from-from.result < length ps = omega (arith, c.ranges.from.fits) in
    let hr : c.from-to.result < length ps = omega (arith, c.ranges.to.fits) in
    let covered : c.args.amount ≤ balance_at ps c.from-from.result = rw (c.from-from.ensures, c.self.view_is) c.requires.covered in
    let most : balance_at ps c.from-from.result + balance_at ps c.from-to.result ≤ total_of ps =
    two-le-total ps c.from-from.result c.from-to.result hs hr (λ e. c.requires.apart (sym c.from-from.ensures ∙ e ∙ c.from-to.ensures))
    in
    let at : balance_at ps c.from-to.result ≡ (get_or c.self.inside.accounts c.from-to.result nothing).balance =
    ap (λ (h : Balance). h.0) (shown-at c.self.inside.accounts c.from-to.result) in
    let all : total_of ps ≡ 256000 = c.self.invariant.1 in
    omega arith

pub invariant_of-self : goal.invariant_of-self
invariant_of-self c =
    let accounts = c.self.inside.accounts in
    let long : length (shown accounts) ≡ 256 = length-shown accounts ∙ c.self.invariant.0 in
    let hs : c.from-from.result < length (shown accounts) = omega (arith, c.ranges.from.fits) in
    let hr : c.from-to.result < length (shown accounts) = omega (arith, c.ranges.to.fits) in
    let covered : c.args.amount ≤ balance_at (shown accounts) c.from-from.result =
    rw (c.from-from.ensures, c.self.view_is) c.requires.covered in
    let counted : nonce_at (shown accounts) c.from-from.result + 1 < 2 ^ 32 =
    rw (c.from-from.ensures, c.self.view_is) c.requires.counted in (
      length-charged accounts c.from-from.result c.from-to.result c.args.amount ∙ c.self.invariant.0,
      ap total_of (shown-transfer accounts c.from-from.result c.from-to.result c.args.amount)
          ∙ total-transfer (shown accounts) c.from-from.result c.from-to.result c.args.amount hs hr
          (λ e. c.requires.apart (sym c.from-from.ensures ∙ e ∙ c.from-to.ensures)) covered
          ∙ c.self.invariant.1,
      rw (shown-transfer accounts c.from-from.result c.from-to.result c.args.amount)
          (fit-moved (shown accounts) c.from-from.result c.from-to.result c.args.amount (c.self.invariant.2) c.self.invariant.1 hs hr
          (λ e. c.requires.apart (sym c.from-from.ensures ∙ e ∙ c.from-to.ensures)) covered counted),
    )

pub returns-clause-fit : goal.returns-clause-fit
returns-clause-fit c = rw (← c.self.view_is) (c.self.invariant.2)

pub returns-clause-moved : goal.returns-clause-moved
returns-clause-moved c = rw (← c.self.view_is, ← c.from-from.ensures, ← c.from-to.ensures)
    (shown-transfer c.self.inside.accounts c.from-from.result c.from-to.result c.args.amount)
