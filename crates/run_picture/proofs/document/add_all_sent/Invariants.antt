-- the frames that are left, after what was appended, complete what all add
use Rattle.std.proofs.Common.{◌≡◌, ◌++◌, drop}
use Rattle.std.specs.List.{flat_map}
use Rattle.run_picture.specs.Arrows.{sent_text}
use Rattle.run_picture.proofs.document.add_all_sent.Given as goal

abbrev pub invariant-loop-frame : goal.invariant-loop-frame
invariant-loop-frame l =
    l.out.items ++ flat_map (sent_text l.layout) (drop l.frame-index l.sent) ≡ l.fn.out.items ++ flat_map (sent_text l.layout) l.sent
