use Rattle.std.proofs.Common.{◌≡◌, List, [], ◌∷◌, ◌++◌, rules, sym, ap, subst, ◌∙◌, append_assoc, append-nil}
use Rattle.std.specs.Vec.Iter.{into_iter_items}
use Rattle.ledger_model.specs.declared.statement.SignedStatement.{SignedStatement}
use Rattle.program.specs.Answering.{Printed, PrintedSome, deliveries}
use Rattle.byte_streams.proofs.Faults.{on_error}
use Rattle.program.proofs.PrintingLemmas.{printed_none, printed_both, printed_after, printed_longer}
use Rattle.program.proofs.PieceLemmas.{deliveries-append}
use Rattle.program.proofs.frame_stream.deliver_all.Goals as goal
use Rattle.std.proofs.lemmas.List.{nil_from_length}

pub loop-frame-init : goal.loop-frame-init
loop-frame-init g c = ([], (search rules, printed_none (g.A.Application.meaning) _ _))

pub loop-frame-preserved : goal.loop-frame-preserved
loop-frame-preserved g c =
    let (done, kept) = c.loop-frame.invariant in
    let one : List SignedStatement = c.in-Some.frame ∷ [] in (
      done ++ one,
      (
        kept.0 ∙ ap (λ l. done ++ l) c.in-Some.ensures.steps.0 ∙ sym (append_assoc done one (into_iter_items c.next.new.self)),
        subst (λ l. Printed (g.A.Application.meaning) c.args.state.now l c.deliver_frame.new.state (g.W.Write.contents c.args.writer.now)
            (g.W.Write.contents c.deliver_frame.new.writer)) (deliveries-append done one)
            (printed_both (g.A.Application.meaning) _ _ _ (deliveries done)
            (deliveries one) _ _ _ kept.1 c.in_ok-deliver_frame.ensures.prints),
      ),
    )

pub returns-clause-prints : goal.returns-clause-prints
returns-clause-prints g c =
    let (done, kept) = c.loop-frame.invariant in
    let none : into_iter_items c.loop-frame.frame-iterator ≡ [] =
    nil_from_length _ (sym c.loop-frame.frame-iterator.rest.ok.0 ∙ c.in-None.ensures.steps.0) in
    let all : c.args.frames.items ≡ done = kept.0 ∙ ap (λ l. done ++ l) none ∙ append-nil done in
    subst (λ l. Printed (g.A.Application.meaning) c.args.state.now (deliveries l) c.loop-frame.state (g.W.Write.contents c.args.writer.now)
    (g.W.Write.contents c.loop-frame.writer)) (sym all) kept.1

pub returns-in_err-deliver_frame-clause-prints : goal.returns-in_err-deliver_frame-clause-prints
returns-in_err-deliver_frame-clause-prints g c =
    let (done, kept) = c.loop-frame.invariant in
    let one : List SignedStatement = c.in-Some.frame ∷ [] in
    let rest : List SignedStatement = into_iter_items c.next.new.self in
    let all : (deliveries done ++ deliveries one) ++ deliveries rest ≡ deliveries c.args.frames.items =
    append_assoc (deliveries done) (deliveries one) (deliveries rest) ∙ deliveries-append done (c.in-Some.frame ∷ rest)
    ∙ ap (λ l. deliveries l) (sym (kept.0 ∙ ap (λ l. done ++ l) c.in-Some.ensures.steps.0)) in
    on_error _ _ c.from_residual.ensures.0
    (subst (λ l. PrintedSome (g.A.Application.meaning) c.args.state.now l c.deliver_frame.new.state (g.W.Write.contents c.args.writer.now)
    (g.W.Write.contents c.deliver_frame.new.writer)) all
    (printed_longer (g.A.Application.meaning) _ _ (deliveries done ++ deliveries one) (deliveries rest) _ _
    (printed_after (g.A.Application.meaning) _ _ _ (deliveries done) (deliveries one) _ _ _ kept.1 c.in_err-deliver_frame.ensures.prints)))
