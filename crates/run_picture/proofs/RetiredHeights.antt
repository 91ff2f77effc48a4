-- The marks of the heights that a floor gives up, one after the other.
use Rattle.std.proofs.Common.{◌≡◌, ◌∙◌, ℕ, suc, ◌+◌, ◌-◌, ◌<◌, ◌≤◌, List, ◌++◌, sym, ap, arith}
use Rattle.std.specs.List.{range_with_len}
use Rattle.run_picture.specs.declared.entry_facts.Mark.{Mark}
use Rattle.run_picture.specs.declared.part.Part.{Part}
use Rattle.run_picture.specs.declared.entry_facts.Fact.TheVariants as fact
use Rattle.run_picture.specs.Facts.{mark_in}
use Rattle.run_picture.specs.Parts.{drawn_round}
use Rattle.run_picture.specs.Retiring.{retired_marks}
use Rattle.run_picture.proofs.Orders.{one_more, no_more}

pub heights_next : (part : Part) (r i clock : ℕ) (number end : ℕ) (out more start all : List Mark) → number < end
    → out ++ retired_marks part r i clock (range_with_len number (end - number)) ≡ start ++ all
    → more ≡ out ++ mark_in part r i (drawn_round part clock) number fact.Retires
    → more ++ retired_marks part r i clock (range_with_len (number + 1) (end - (number + 1))) ≡ start ++ all
heights_next part r i clock number end out more start all below before now =
    one_more out more start (mark number) (retired_marks part r i clock (range_with_len (number + 1) (end - (number + 1)))) all
    (sym (ap (λ n. out ++ retired_marks part r i clock (range_with_len number n)) (rest end number below)) ∙ before)
    now
  where
    mark : ℕ → List Mark
    mark h = mark_in part r i (drawn_round part clock) h fact.Retires

    rest : (n k : ℕ) → k < n → n - k ≡ suc (n - (k + 1))
    rest n k b = omega arith

pub heights_last : (part : Part) (r i clock : ℕ) (number end : ℕ) (out start all : List Mark) → end ≤ number
    → out ++ retired_marks part r i clock (range_with_len number (end - number)) ≡ start ++ all → out ≡ start ++ all
heights_last part r i clock number end out start all over before =
    no_more out start (retired_marks part r i clock (range_with_len number (end - number))) all before
    (ap (λ n. retired_marks part r i clock (range_with_len number n)) (none_left end number over))
  where
    none_left : (n k : ℕ) → n ≤ k → n - k ≡ 0
    none_left n k b = omega arith
