use Rattle.std.proofs.Common.{ℕ, List, subst, sym}
use Rattle.std.specs.Prelude.{IfOk, OnErr}
use Rattle.clap.specs.Words.{found_of, rows_of}
use Rattle.command_line.proofs.SeedLemmas.{SeedBy}
use Rattle.command_line.proofs.seeds.seed.Goals as goal

pub returns-in-Some-clause-some : goal.returns-in-Some-clause-some
returns-in-Some-clause-some c =
    subst (λ o. IfOk c.file_seed.result (λ s. SeedBy c.args.taken c.args.given (rows_of (found_of c.args.matches.now)) o s))
    c.in-Some.ensures c.file_seed.ensures.some

pub returns-in-Some-clause-none : goal.returns-in-Some-clause-none
returns-in-Some-clause-none c =
    subst (λ o. OnErr c.file_seed.result ((s : List ℕ) → SeedBy c.args.taken c.args.given (rows_of (found_of c.args.matches.now)) o s → ⊥))
    c.in-Some.ensures c.file_seed.ensures.none

pub returns-in-Some-clause-right : goal.returns-in-Some-clause-right
returns-in-Some-clause-right c = λ kinds meaning table has. c.file_seed.ensures.right kinds meaning c.args.taken table has (sym c.in-Some.ensures)

pub returns-in-None-clause-some : goal.returns-in-None-clause-some
returns-in-None-clause-some c =
    subst (λ o. IfOk c.word_seed.result (λ s. SeedBy c.args.taken c.args.given (rows_of (found_of c.args.matches.now)) o s))
    c.in-None.ensures c.word_seed.ensures.some

pub returns-in-None-clause-none : goal.returns-in-None-clause-none
returns-in-None-clause-none c =
    subst (λ o. OnErr c.word_seed.result ((s : List ℕ) → SeedBy c.args.taken c.args.given (rows_of (found_of c.args.matches.now)) o s → ⊥))
    c.in-None.ensures c.word_seed.ensures.none

pub returns-in-None-clause-right : goal.returns-in-None-clause-right
returns-in-None-clause-right c = λ kinds meaning table has. c.word_seed.ensures.right kinds meaning table has (sym c.in-None.ensures)
