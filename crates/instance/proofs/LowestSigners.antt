-- The reports of the lowest signers that pass a test, gathered place by place.
use Rattle.std.proofs.Common.{◌≡◌, ℕ, ◌+◌, ◌<◌, Bool, List, [], ◌++◌, length, take, get_or, ap, ◌∙◌}
use Rattle.std.specs.Prelude.{Option, filter}
use Rattle.std.specs.List.{cons_option}
use Rattle.std.proofs.lemmas.List.Elements.{filter-append}
use Rattle.tally.specs.Tallies.{all_read}
use Rattle.tally.proofs.Readings.{all_read_more}

-- what passes of one place more
pub passed_more : {X : Type 0} (test : X → Bool) (places : List (Option X)) (i : ℕ) (place : Option X) → i < length places
    → place ≡ get_or places i place
    → filter test (all_read (take (i + 1) places)) ≡ filter test (all_read (take i places)) ++ filter test (cons_option place [])
passed_more test places i place lt is =
    ap (filter test) (all_read_more places i place lt is) ∙ filter-append test (all_read (take i places)) (cons_option place [])
