use Rattle.std.proofs.Common.{List, sym, subst}
use Rattle.clap.specs.Words.{Row, found_of, rows_of}
use Rattle.command_line.specs.KeySources.{IsSource, IsSourceIn}
use Rattle.command_line.proofs.MatchesLemmas.{found_is}
use Rattle.command_line.proofs.key_sources.source_of.Goals as goal

pub returns-in-Some : goal.returns-in-Some
returns-in-Some c =
    let rows : List Row = rows_of (found_of c.in-Some.options.now) in
    let found = found_is c.args.matches.now c.in-Some.name.now rows c.in-Some.ensures.name c.in-Some.ensures.rows in
    subst (λ o. IsSourceIn o c.source_in.result) (sym found)
    (subst (λ taken. IsSource taken rows c.source_in.result) c.taken_by.ensures c.source_in.ensures)
