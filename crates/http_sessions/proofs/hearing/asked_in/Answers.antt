use Rattle.std.proofs.Common.{arith, inr, subst, sym, refl, take, length-take-le}
use Rattle.http_messages.specs.Limits.{max_head_len}
use Rattle.http_messages.specs.Requests.{AnswersHead}
use Rattle.http_sessions.proofs.hearing.asked_in.Goals as goal

pub slice_bounds-parse-end : goal.slice_bounds-parse-end
slice_bounds-parse-end c = sym (length-take-le max_head_len c.args.bytes.now (omega (arith, c.if-bytes-le-MAX_HEAD_LEN.false)))

pub returns-then-is_incomplete-clause-answers : goal.returns-then-is_incomplete-clause-answers
returns-then-is_incomplete-clause-answers c =
    inr (
      omega (arith, c.if-bytes-le-MAX_HEAD_LEN.false),
      inr (
        subst (AnswersHead (take max_head_len c.args.bytes.now)) (c.is_incomplete.ensures.yes c.if-is_incomplete.true)
            c.parse-asked.ensures.answers,
        refl,
      ),
    )
