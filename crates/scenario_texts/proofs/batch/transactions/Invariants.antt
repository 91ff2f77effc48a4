-- the words so far were read
use Rattle.std.proofs.Common.{◌≡◌, map, take}
use Rattle.std.specs.Prelude.{Some}
use Rattle.scenario_texts.specs.Reading.{txs_of}
use Rattle.scenario_texts.proofs.batch.transactions.Given as goal

abbrev pub invariant-loop-word : goal.invariant-loop-word
invariant-loop-word l = txs_of (map (λ word. word.now) (take l.word-index l.words)) ≡ Some l.transactions.items
