-- What the map holds, as bytes.
use Rattle.std.proofs.Common.{◌∙◌, ap, Vec, Global, ℕ}
use Rattle.std.specs.Option.{option_map}
use Rattle.app_kinds.proofs.Entries.{lookup-shown, items_of-found}
use Rattle.app_kinds.proofs.pairs.Pairs.get.Goals as goal

pub returns : goal.returns
returns c = rw (← c.self.view_is)
    (items_of-found c.get.result ∙ ap (option_map (λ (v : Vec ℕ Global). v.items)) c.get.ensures.value
    ∙ lookup-shown c.args.key.now c.self.inside.values.entries)
