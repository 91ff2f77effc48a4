use Rattle.cluster_setup.proofs.derivation.key_pair.Goals as goal

pub returns : goal.returns
returns c = rw (
  c.new.ensures,
  c.copy_from_slice.ensures.after,
  c.derived.ensures,
  c.number.ensures,
  c.new-seed.ensures,
  c.derived-2.ensures,
  c.number-2.ensures,
) at c.new-2.ensures
