use Rattle.clap.specs.Words.{found_of, rows_of}
use Rattle.ledger_model.specs.Numbers.{kind_number}
use Rattle.command_line.proofs.KindLemmas.{numbered, numbered_surely}
use Rattle.command_line.proofs.options.numbered_kind.Goals as goal

pub returns-clause-some : goal.returns-clause-some
returns-clause-some c =
    numbered (rows_of (found_of c.args.matches.now)) c.in-Ok.number c.from_number.result c.in-Ok.ensures.some c.from_number.ensures

pub returns-clause-none : goal.returns-clause-none
returns-clause-none c =
    numbered_surely _ (rows_of (found_of c.args.matches.now)) c.in-Ok.number c.from_number.result c.in-Ok.ensures.some c.from_number.ensures

pub returns-in_default-clause-none : goal.returns-in_default-clause-none
returns-in_default-clause-none c = λ k within. c.in_default.ensures.none (kind_number k) within
