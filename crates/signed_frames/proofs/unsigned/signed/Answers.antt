use Rattle.std.proofs.Common.{ap, ◌∙◌, length, arith}
use Rattle.std.proofs.lemmas.List.{length-drop}
use Rattle.ledger_model.proofs.Readers.{each_byte}
use Rattle.ledger_model.specs.Spelling.{IsSignature}
use Rattle.signed_frames.proofs.Sizes.{completed, statement_bound}
use Rattle.signed_frames.proofs.unsigned.signed.Goals as goal

pub overflow_cast-body_len : goal.overflow_cast-body_len
overflow_cast-body_len c =
    let stands = c.requires.stands.1 in
    omega (
      arith,
      c.len.ensures,
      c.requires.short,
      stands.header,
      length-drop 4 c.args.bytes.items,
      ap length stands.behind,
      statement_bound c.requires.stands.0 stands.spelled,
    )

pub put_length-requires : goal.put_length-requires
put_length-requires c = c.requires.stands.1.header

pub returns : goal.returns
returns c =
    let signature = c.args.signature.now in
    let signed : IsSignature signature =
    record { short = c.requires.short; bytes = each_byte signature (λ i. omega (arith, c.type_inv.signature i)) } in
    λ statement stands. completed statement signature c.args.bytes.items c.put_length.new.bytes.items c.put_u16.new.out.items
    c.in_ok-from_vec.field-0 _ stands signed (omega (arith, c.len.ensures)) c.put_length.ensures c.in_ok-put_u16.ensures.ok
    (c.in_ok-from_vec.ensures.ok ∙ c.in_ok-put_bytes.ensures.ok)
