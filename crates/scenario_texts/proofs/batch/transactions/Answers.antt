use Rattle.scenario_texts.proofs.BatchReading.{read_more, read_none}
use Rattle.scenario_texts.proofs.batch.transactions.Goals as goal
use Rattle.scenario_texts.specs.Reading.{txs_of}
use Rattle.std.proofs.Common.{arith, ◌≡◌, ◌∙◌, ◌+◌, ◌++◌, [], ◌∷◌, map, take, sym, subst, rules}
use Rattle.std.proofs.lemmas.Grind.{common_steps}
use Rattle.std.specs.Prelude.{Some}

pub loop-word-init : goal.loop-word-init
unfolding txs_of
loop-word-init c = search rules

pub returns-in_default : goal.returns-in_default
returns-in_default c = sym (read_none c.args.words.now c.loop-word.word-index _ c.loop-word-test.true
    (sym c.in_ok-transaction.ensures ∙ c.in_default.is))

pub loop-word-preserved : goal.loop-word-preserved
loop-word-preserved c =
    let grown : c.push.new.self.items ≡ c.loop-word.transactions.items ++ c.in-Some.transaction ∷ [] = search rules in
    subst (λ txs. txs_of (map (λ w. w.now) (take (c.loop-word.word-index + 1) c.args.words.now)) ≡ Some txs) (sym grown)
    (read_more c.args.words.now c.loop-word.word-index _ c.loop-word.transactions.items c.in-Some.transaction c.loop-word-test.true
    c.loop-word.invariant (sym c.in_ok-transaction.ensures ∙ c.in-Some.is))

pub returns : goal.returns
returns c = grind (arith, common_steps)
