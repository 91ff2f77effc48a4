-- Each place has its part's answer, so the answers are those of the parts.
use Rattle.std.proofs.Common.{◌≡◌, ◌<◌, length, map, ℕ, false, List, [], ◌∷◌, sym, ◌∙◌, subst, arith}
use Rattle.std.specs.Prelude.{slice_index_or}
use Rattle.std.proofs.lemmas.Grind.{common_steps}
use Rattle.std.proofs.lemmas.List.{ext_get_or, get_or-map, length-map, nil_from_length}
use Rattle.verify_cache.specs.Checks.{is_part_signed}
use Rattle.verify_pool.proofs.pool.write_answers.Goals as goal

-- a list that has f of each element at its place is `map f`
mapped : {X Y : Type 0} (f : X → Y) (xs : List X) (ys : List Y) (e : Y) → length ys ≡ length xs
    → ((k : ℕ) (d : X) → k < length xs → slice_index_or ys k e ≡ f (slice_index_or xs k d)) → ys ≡ map f xs
mapped f [] ys e same each = nil_from_length ys same
mapped {X} f (x ∷ xs) ys e same each =
    ext_get_or e ys (map f (x ∷ xs)) (same ∙ sym (length-map {A = X} (x ∷ xs) f))
    (λ k lt. let within : k < length (x ∷ xs) = omega (arith, same) in each k x within ∙ sym (get_or-map f (x ∷ xs) k x e within))

pub returns : goal.returns
returns g c =
    mapped (is_part_signed c.args.ring.now) c.args.parts.now c.for_each_mut.new.s false (c.for_each_mut.auto.s ∙ c.requires.places)
    (λ k d lt.
    let at = (c.for_each_mut.ensures k false (subst (λ n. k < n) (sym c.requires.places) lt)).1 in
    let read : slice_index_or c.for_each_mut.new.s k false ≡ is_part_signed c.args.ring.now (slice_index_or c.args.parts.now k d) =
    grind (arith, common_steps) in
    read)
