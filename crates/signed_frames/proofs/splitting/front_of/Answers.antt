use Rattle.std.proofs.Common.{◌≡◌, ◌+◌, None, ap, sym, ◌∙◌, subst, take, arith}
use Rattle.ledger_model.specs.Reading.{reading_in}
use Rattle.ledger_model.specs.Streams.{announced}
use Rattle.statements.specs.Reads.{IsFaultOf}
use Rattle.signed_frames.proofs.Fronts.{is_malformed}
use Rattle.signed_frames.proofs.splitting.front_of.Goals as goal

pub returns-in-Err-Malformed : goal.returns-in-Err-Malformed
returns-in-Err-Malformed c =
    let whole : c.in_ok-copy_from_slice.field-0 ≡ take (4 + c.in-Ok.len) c.args.bytes.now =
    c.in_ok-copy_from_slice.ensures ∙ c.split_at.ensures.front in
    let none : reading_in c.args.version c.in_ok-copy_from_slice.field-0 ≡ None =
    subst (λ fault. IsFaultOf fault (reading_in c.args.version c.in_ok-copy_from_slice.field-0)) c.in-Err-Malformed.field-0-is
    c.in-Err-Malformed.ensures.exact in
    let says : announced c.args.bytes.now ≡ c.in-Ok.len = sym (c.in-Ok.ensures.ok ∙ ap announced c.new.ensures) in
    is_malformed c.args.version c.args.bytes.now c.in-Ok.len (omega (arith, c.split_at.ensures.back_len)) says (omega arith)
    (ap (reading_in c.args.version) (sym whole) ∙ none)
