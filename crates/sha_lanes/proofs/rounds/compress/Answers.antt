use Rattle.sha_lanes.proofs.rounds.compress.Goals as goal

pub returns : goal.returns
returns c j low b read = c.compress_from.ensures j low b read (c.first_rounds.ensures j low b read)
