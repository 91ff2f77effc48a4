use Rattle.std.specs.Prelude.{IsErrOf, IsTrue}
use Rattle.http_messages.specs.declared.fault.RequestFault.TheVariants as fault
use Rattle.std.proofs.Common.{◌≡◌, ◌∙◌, ℕ, List, length, subst, drop, rules, arith}
use Rattle.http_messages.specs.Limits.{max_fields}
use Rattle.http_messages.specs.Faults.{IsExpected}
use Rattle.http_messages.specs.Questions.{request_view}
use Rattle.http_messages.specs.Requests.{asked_by, needs_memory}
use Rattle.http_messages.proofs.Answering.{few_fields, answered}
use Rattle.http_messages.proofs.parsing.parse.Goals as goal

pub returns-in-Ok-Complete-clause-answers : goal.returns-in-Ok-Complete-clause-answers
returns-in-Ok-Complete-clause-answers c =
    let bytes = c.args.head.now in
    let line = c.in-Ok-Complete.line in
    let found = rw c.in-Ok-Complete.field-0-is at c.in-Ok-Complete.ensures.complete in
    let within = rw c.in-Ok-Complete.field-0-is at c.in-Ok-Complete.ensures.within in
    let head = found.0 in
    let size : length c.parse_request.new.headers ≡ max_fields = search rules in
    let method : c.of.result.now ≡ head.method = c.of.ensures ∙ found.1.method in
    let target : c.of-in-Ok-Complete.result.now ≡ head.target = c.of-in-Ok-Complete.ensures ∙ found.1.path in
    answered bytes head (drop line.len bytes) c.asked_by.result found.1.reads (omega arith)
    (few_fields bytes c.parse_request.new.headers line.headers max_fields head.fields found.1.fields within.section.count_fits size)
    (subst (λ (m : List ℕ). IsExpected request_view c.asked_by.result (asked_by m head.target)) method
    (subst (λ (t : List ℕ). IsExpected request_view c.asked_by.result (asked_by c.of.result.now t)) target c.asked_by.ensures.gives))
    (subst (λ (m : List ℕ). IsErrOf c.asked_by.result fault.NoMemory → IsTrue (needs_memory m head.target)) method
    (subst (λ (t : List ℕ). IsErrOf c.asked_by.result fault.NoMemory
    → IsTrue (needs_memory c.of.result.now t)) target c.asked_by.ensures.memory))

pub returns-then-head-gt-MAX_HEAD_LEN-clause-answers : goal.returns-then-head-gt-MAX_HEAD_LEN-clause-answers
returns-then-head-gt-MAX_HEAD_LEN-clause-answers c = search rules

pub returns-then-head-gt-MAX_HEAD_LEN-clause-too_long : goal.returns-then-head-gt-MAX_HEAD_LEN-clause-too_long
returns-then-head-gt-MAX_HEAD_LEN-clause-too_long c = search rules
