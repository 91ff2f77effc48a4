-- The frames that are sent as a round opens are those of the open heights.
use Rattle.std.proofs.Common.{◌≡◌, ℕ, List, [], ◌∷◌, map, refl}
use Rattle.std.specs.List.{flat_map}
use Rattle.ledger_model.specs.declared.config.Config.{Config}
use Rattle.instance.specs.Instances.{InstanceView}
use Rattle.instance.specs.Plans.{opened_effects}
use Rattle.height_row.specs.declared.round_closing.RoundClosing.{RoundClosing}
use Rattle.replica_core.specs.RoundEnds.{frames_of_heights}
use Rattle.replica_core.specs.Sending.{frames_of_closing}

-- where each height ends as it prepares, they are the frames of the heights and of what is made
pub frames_of-closings : (config : Config) (c : ℕ) (rows : List InstanceView) (closings : List RoundClosing)
    → map (λ x. x.ending) closings ≡ map (λ row. opened_effects row c) rows
    → frames_of_heights config c rows (map (λ x. x.made) closings) ≡ flat_map (frames_of_closing config) closings
frames_of-closings config c [] [] endings = refl
frames_of-closings config c [] (x ∷ closings) endings = absurd cc
frames_of-closings config c (row ∷ rows) [] endings = absurd cc
frames_of-closings config c (row ∷ rows) (x ∷ closings) endings =
    let ending : x.ending ≡ opened_effects row c = cc in
    let rest : map (λ x. x.ending) closings ≡ map (λ row. opened_effects row c) rows = cc in
    simp (ending, frames_of-closings config c rows closings rest) refl
