-- The passes of frames, with one more frame.
use Rattle.std.proofs.Common.{◌≡◌, ℕ, ◌+◌, List, [], ◌∷◌, ◌++◌, length, map, take, sym, ap, ◌∙◌, append_assoc, append-nil, arith}
use Rattle.std.specs.Prelude.{Some, slice_get}
use Rattle.std.proofs.lemmas.List.{length-take-le}
use Rattle.std.proofs.lemmas.Option.{slice_get_within}
use Rattle.ledger_model.specs.declared.reply.Sent.{Sent}
use Rattle.ledger_model.specs.declared.world.WorldStep.{WorldStep}
use Rattle.ledger_model.specs.declared.world.WorldStep.TheVariants as step
use Rattle.simulation.specs.Playing.{receivers, passes_from}
use Rattle.ledger_model.proofs.Lists.{take-next}

-- the passes of these frames, and of one more after them
pub passes_more : (correct : List ℕ) (from index : ℕ) (fs : List Sent) (f : Sent)
    → passes_from correct from index (fs ++ f ∷ []) ≡ passes_from correct from index fs
    ++ map (step.Pass from (index + length fs)) (receivers correct from f.addressee)
passes_more correct from index [] f =
    let same : index + 0 ≡ index = omega arith in
    append-nil _ ∙ ap (λ i. map (step.Pass from i) (receivers correct from f.addressee)) (sym same)
passes_more correct from index (g ∷ gs) f =
    let same : index + 1 + length gs ≡ index + length (g ∷ gs) = omega arith in
    ap (λ l. map (step.Pass from index) (receivers correct from g.addressee) ++ l)
    (passes_more correct from (index + 1) gs f
    ∙ ap (λ i. passes_from correct from (index + 1) gs ++ map (step.Pass from i) (receivers correct from f.addressee)) same)
    ∙ sym (append_assoc (map (step.Pass from index) (receivers correct from g.addressee)) (passes_from correct from (index + 1) gs)
    (map (step.Pass from (index + length (g ∷ gs))) (receivers correct from f.addressee)))

-- one frame more of a list of frames
pub passes_next : (correct : List ℕ) (from before index : ℕ) (fs : List Sent) (place : ℕ) (f : Sent) (begun old new : List WorldStep)
    → slice_get fs place ≡ Some f → index ≡ before + place → old ≡ begun ++ passes_from correct from before (take place fs)
    → new ≡ old ++ map (step.Pass from index) (receivers correct from f.addressee)
    → new ≡ begun ++ passes_from correct from before (take (place + 1) fs)
passes_next correct from before index fs place f begun old new at counted is added =
    let long : length (take place fs) ≡ place = length-take-le place fs (omega (arith, slice_get_within fs place f at)) in
    let here : index ≡ before + length (take place fs) = counted ∙ ap (λ n. before + n) (sym long) in
    added ∙ ap (λ l. l ++ map (step.Pass from index) (receivers correct from f.addressee)) is
    ∙ append_assoc begun (passes_from correct from before (take place fs)) (map (step.Pass from index) (receivers correct from f.addressee))
    ∙ ap (λ i. begun ++ (passes_from correct from before (take place fs) ++ map (step.Pass from i) (receivers correct from f.addressee)))
    here
    ∙ ap (λ l. begun ++ l) (sym (passes_more correct from before (take place fs) f))
    ∙ ap (λ l. begun ++ passes_from correct from before l) (sym (take-next fs place f at))
