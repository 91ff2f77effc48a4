use Rattle.std.proofs.Common.{◌≡◌, ℕ, ◌+◌, ◌<◌, ◌++◌, ◌∷◌, [], List, length, take, get_or, ap, sym, ◌∙◌}
use Rattle.std.specs.List.{flat_map}
use Rattle.std.proofs.lemmas.Grind.{flat_map-append}
use Rattle.std.proofs.lemmas.List.{take_more, append-nil}
use Rattle.ledger_model.specs.declared.config.Config.{Config}
use Rattle.height_row.specs.declared.round_closing.RoundClosing.{RoundClosing}
use Rattle.replica_core.specs.Sending.{frames_of_closing}
use Rattle.replica_core.proofs.sending.frames_to_send.Goals as goal

-- one more height has its frames after those of the lower ones
frames_more : (config : Config) (xs : List RoundClosing) (i : ℕ) (x : RoundClosing) → i < length xs → x ≡ get_or xs i x
    → flat_map (frames_of_closing config) (take (i + 1) xs) ≡ flat_map (frames_of_closing config) (take i xs) ++ frames_of_closing config x
frames_more config xs i x below is =
    ap (flat_map (frames_of_closing config)) (take_more xs i x below) ∙ flat_map-append (frames_of_closing config) (take i xs) (get_or xs i x ∷ [])
    ∙ ap (λ fs. flat_map (frames_of_closing config) (take i xs) ++ fs)
    (append-nil (frames_of_closing config (get_or xs i x)) ∙ ap (frames_of_closing config) (sym is))

pub loop-closing-preserved : goal.loop-closing-preserved
loop-closing-preserved c =
    c.in_ok-push_frames.ensures ∙ ap (λ sent. sent ++ frames_of_closing c.args.config.now c.closing-item.result) c.loop-closing.invariant
    ∙ sym (frames_more c.args.config.now c.args.closings.now c.loop-closing.closing-index c.closing-item.result c.loop-closing-test.true
    c.closing-item.is)
