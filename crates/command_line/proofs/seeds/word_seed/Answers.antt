use Rattle.std.proofs.Common.{ℕ, List, inl, inr, rules}
use Rattle.clap.proofs.TakesLemmas.{passed_up}
use Rattle.clap.specs.Words.{found_of, rows_of}
use Rattle.command_line.specs.Faults.{IsRightOf}
use Rattle.command_line.specs.Options.{IsWordSeed}
use Rattle.command_line.proofs.NumberLemmas.{on_err}
use Rattle.command_line.proofs.SeedLemmas.{no_word, no_word_seed}
use Rattle.command_line.proofs.seeds.word_seed.Goals as goal

pub returns-in_err-word-clause-none : goal.returns-in_err-word-clause-none
returns-in_err-word-clause-none c =
    on_err {X = (s : List ℕ) → IsWordSeed c.args.taken c.args.given (rows_of (found_of c.args.matches.now)) s → ⊥} _
    (no_word c.args.taken c.args.given (rows_of (found_of c.args.matches.now)) c.in_err-word.ensures.none)

pub returns-in_err-word-clause-right : goal.returns-in_err-word-clause-right
returns-in_err-word-clause-right c =
    λ kinds meaning table has file. passed_up _ c.in_err-word.field-0.0
    (IsRightOf kinds meaning c.args.given table (rows_of (found_of c.args.matches.now))) c.from_residual.ensures.1
    (c.in_err-word.ensures.right kinds meaning c.args.given table has.seed)

pub returns-in-Some-clause-some : goal.returns-in-Some-clause-some
returns-in-Some-clause-some c =
    record { word = c.in_ok-word.word.now; has = c.in_ok-word.ensures.some; means = inr c.in-Some.ensures.some }

pub returns-in-Ok-clause-some : goal.returns-in-Ok-clause-some
returns-in-Ok-clause-some c =
    record { word = c.in_ok-word.word.now; has = c.in_ok-word.ensures.some; means = inl (search rules) }

pub returns-in-Err-clause-none : goal.returns-in-Err-clause-none
returns-in-Err-clause-none c =
    no_word_seed c.args.taken c.args.given (rows_of (found_of c.args.matches.now)) c.in_ok-word.word.now c.in_ok-word.ensures.some
    c.in_default.ensures.none (search rules)

pub returns-in-Err-clause-right : goal.returns-in-Err-clause-right
returns-in-Err-clause-right c =
    λ kinds meaning table has file. (has.seed, (has.words, (file, (c.in_ok-word.ensures.some, returns-in-Err-clause-none c))))
