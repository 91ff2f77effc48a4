use Rattle.std.proofs.Common.{◌≡◌, ◌∙◌, ◌≤◌, length, ap, rules, sym, subst, false}
use Rattle.std.specs.Prelude.{is_ok}
use Rattle.std.specs.Vec.{vec_len}
use Rattle.plain_text.specs.Transactions.{StandsFor}
use Rattle.plain_text.proofs.TransactionLemmas.{stands_once}
use Rattle.command_line.proofs.NumberLemmas.{is_transaction}
use Rattle.command_line.proofs.receipts.spelled.Goals as goal

pub returns-in_default-new-clause-none : goal.returns-in_default-new-clause-none
returns-in_default-new-clause-none c = λ r i.
    let same_parts = c.in-Some.ensures.found r.replica r.index i.word i.replica i.index i.spelled in
    let stands : StandsFor c.in-Some.parts.word.now r.tx = subst (λ w. StandsFor w r.tx) (sym same_parts.1.1) i.stands in
    let same : r.tx ≡ c.in-Ok.bytes.items = stands_once c.in-Some.parts.word.now r.tx c.in-Ok.bytes.items stands c.in-Ok.ensures.some in
    let len : length r.tx ≡ vec_len c.in-Ok.bytes = ap length same ∙ (search rules) in
    let bad : is_ok c.new.result ≡ false = search (rules, c.in_default-new.not-Ok, c.in_default-new.is) in
    is_transaction c.new.result (vec_len c.in-Ok.bytes) c.new.ensures.empty c.new.ensures.too_long bad
    (subst (λ n. 1 ≤ n) len i.some) (subst (λ n. n ≤ 64) len i.short)

pub returns-clause-some : goal.returns-clause-some
returns-clause-some c = record {
  word = c.in-Some.parts.word.now;
  spelled = rw c.new-2.ensures c.in-Some.ensures.some;
  replica = search rules;
  index = search rules;
  stands = rw c.in-Ok-new.ensures.ok c.in-Ok.ensures.some;
  some = search rules;
  short = search rules;
}
