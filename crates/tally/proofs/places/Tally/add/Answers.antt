use Rattle.std.proofs.Common.{◌≡◌, arith, None}
use Rattle.std.proofs.lemmas.Grind.{common_steps, elements}
use Rattle.tally.specs.Tallies.{read_of}
use Rattle.tally.proofs.MaskBits.{mask_full}
use Rattle.tally.proofs.places.Tally.add.Goals as goal

pub returns-then-is_some-clause-added : goal.returns-then-is_some-clause-added
returns-then-is_some-clause-added g c = grind (arith, elements)

pub returns-then-is_some-clause-after : goal.returns-then-is_some-clause-after
returns-then-is_some-clause-after g c = grind (arith, common_steps)

pub returns-clause-added : goal.returns-clause-added
returns-clause-added g c = grind (arith, elements)

pub invariant_of-self-2 : goal.invariant_of-self-2
invariant_of-self-2 g c =
    let none : read_of c.self.inside.places.items c.from.result ≡ None = grind (arith, elements) in (
      grind (arith, common_steps),
      mask_full c.self.inside.places.items c.from.result c.number-2.result c.self.inside.mask c.args.read (grind (arith, common_steps)) none
          c.self.invariant.0 c.self.invariant.1 cc,
    )
