use Rattle.std.proofs.Common.{◌≡◌, ◌∙◌, ℕ, List, ◌++◌, ap, subst}
use Rattle.std.specs.Prelude.{OnOk}
use Rattle.ledger_model.specs.Rounds.{phase_of, place_of, owner_of}
use Rattle.ledger_model.specs.Places.{number_of}
use Rattle.run_picture.specs.Axes.{place_word, round_axis}
use Rattle.run_picture.proofs.axes.add_round.Goals as goal

pub returns : goal.returns
returns c =
    let l = c.args.layout.now in
    let r = c.args.round in
    let out = c.args.out.now.items in
    let place : c.place_word-place.result.now ≡ place_word (place_of r) =
    c.place_word-place.ensures ∙ ap place_word (c.place_of.ensures ∙ ap place_of c.from.ensures) in
    let phase : c.number.result ≡ phase_of r = c.number.ensures ∙ c.phase_of-phase.ensures in
    let owner : c.number-2.result ≡ owner_of l.config (phase_of r) =
    c.number-2.ensures ∙ c.owner_of-owner.ensures ∙ ap (owner_of l.config) c.phase_of-phase.ensures in
    subst (λ (w : List ℕ). OnOk c.add_round_at.result (c.add_round_at.new.out.items ≡ out ++ round_axis l r w (phase_of r)
    (owner_of l.config (phase_of r))))
    place
    (subst (λ k. OnOk c.add_round_at.result (c.add_round_at.new.out.items
    ≡ out ++ round_axis l r c.place_word-place.result.now k (owner_of l.config (phase_of r)))) phase
    (subst (λ o. OnOk c.add_round_at.result (c.add_round_at.new.out.items ≡ out
    ++ round_axis l r c.place_word-place.result.now c.number.result o)) owner
    c.add_round_at.ensures))
