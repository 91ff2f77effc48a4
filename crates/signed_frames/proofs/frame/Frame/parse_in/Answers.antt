use Rattle.std.proofs.Common.{◌≡◌, ℕ, List, Ok, Err, Some, ap, sym, subst, ◌∙◌}
use Rattle.std.proofs.lemmas.Result.{err_from_is_err_and}
use Rattle.ledger_model.specs.declared.statement.SignedStatement.{SignedStatement}
use Rattle.ledger_model.specs.Spelling.{SpellsFrame}
use Rattle.ledger_model.specs.Reading.{reading_in}
use Rattle.statements.specs.Reads.{IsFaultOf}
use Rattle.signed_frames.proofs.FrameParts.{holds, spelled_by_last, last_is}
use Rattle.signed_frames.proofs.Grammar.{is_read}
use Rattle.signed_frames.proofs.frame.Frame.parse_in.Goals as goal

pub returns-in_err-statement-clause-only : goal.returns-in_err-statement-clause-only
returns-in_err-statement-clause-only c =
    let p = err_from_is_err_and c.from_residual.result c.from_residual.ensures.1 in
    let fault = c.in_err-statement.field-0.0 in
    let exact = subst (λ (bytes : List ℕ). IsFaultOf fault (reading_in c.args.version bytes)) c.as_slice.ensures
    c.in_err-statement.ensures.exact in
    λ s spells. rw (p.1, p.2) (is_read c.args.version c.args.bytes (Err fault) exact s spells)

pub invariant_of-result : goal.invariant_of-result
invariant_of-result c =
    let s : SignedStatement = record { statement = c.in_ok-statement.statement; signature = c.in_ok-statement.signature.now } in
    holds c.args.version c.args.bytes s (subst (λ (bytes : List ℕ). SpellsFrame c.args.version bytes s) c.as_slice.ensures
    c.in_ok-statement.ensures.spelled)

pub returns-clause-found : goal.returns-clause-found
returns-clause-found c =
    let s : SignedStatement = record { statement = c.in_ok-statement.statement; signature = c.in_ok-statement.signature.now } in
    spelled_by_last c.args.version c.args.bytes s
    (subst (λ (bytes : List ℕ). SpellsFrame c.args.version bytes s) c.as_slice.ensures c.in_ok-statement.ensures.spelled)

pub returns-clause-exact : goal.returns-clause-exact
returns-clause-exact c =
    let s : SignedStatement = record { statement = c.in_ok-statement.statement; signature = c.in_ok-statement.signature.now } in
    let spells = subst (λ (bytes : List ℕ). SpellsFrame c.args.version bytes s) c.as_slice.ensures c.in_ok-statement.ensures.spelled in
    let exact = subst (λ (bytes : List ℕ). reading_in c.args.version bytes ≡ Some s) c.as_slice.ensures c.in_ok-statement.ensures.exact in
    exact ∙ ap (λ (x : SignedStatement). Some x) (sym (last_is c.args.bytes s spells.1))

pub returns-clause-only : goal.returns-clause-only
returns-clause-only c =
    let s : SignedStatement = record { statement = c.in_ok-statement.statement; signature = c.in_ok-statement.signature.now } in
    let spells = subst (λ (bytes : List ℕ). SpellsFrame c.args.version bytes s) c.as_slice.ensures c.in_ok-statement.ensures.spelled in
    let exact = subst (λ (bytes : List ℕ). reading_in c.args.version bytes ≡ Some s) c.as_slice.ensures c.in_ok-statement.ensures.exact in
    λ frame is. is_read c.args.version c.args.bytes (Ok s) exact frame is
    ∙ ap (λ (x : SignedStatement). Some x) (sym (last_is c.args.bytes s spells.1))
