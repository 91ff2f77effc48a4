use Rattle.std.proofs.lemmas.List.Elements.{recursion_from_All}
use Rattle.run_picture.proofs.picture.picture_of.Goals as goal

pub collect-requires-clause-opening : goal.collect-requires-clause-opening
collect-requires-clause-opening g c = recursion_from_All _ c.args.apps.items c.requires.opening
