use Rattle.std.proofs.Common.{◌-◌, ℕ, List, ap, ◌∙◌, length, take, drop, arith}
use Rattle.ledger_model.specs.declared.statement.SignedStatement.{SignedStatement}
use Rattle.ledger_model.specs.Spelling.{statement_bytes}
use Rattle.signed_frames.proofs.FrameParts.{holds_length, statement_part}
use Rattle.signed_frames.proofs.frame.Frame.statement_bytes.Goals as goal

pub message_in-requires : goal.message_in-requires
message_in-requires c =
    let f = c.self.inside in
    omega (arith, ap length c.as_slice.ensures, holds_length f.bytes f.statement f.signature_len c.self.invariant)

pub returns : goal.returns
returns c =
    let f = c.self.inside in
    let part = λ (bytes : List ℕ). take (length (drop 4 bytes) - 2 - f.signature_len) (drop 4 bytes) in
    c.message_in.ensures ∙ ap part c.as_slice.ensures ∙ statement_part f.bytes f.statement f.signature_len c.self.invariant
    ∙ ap (λ (s : SignedStatement). statement_bytes s.statement) c.self.view_is
