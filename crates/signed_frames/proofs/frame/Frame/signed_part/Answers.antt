use Rattle.std.proofs.Common.{◌≡◌, ◌-◌, ℕ, List, ap, ◌∙◌, length, take, drop, sym, subst, arith}
use Rattle.std.proofs.Math.Seq.{take-length}
use Rattle.std.proofs.lemmas.List.{length-drop}
use Rattle.ledger_model.specs.Notes.{signer_of}
use Rattle.ledger_model.specs.Spelling.{statement_bytes}
use Rattle.signed_frames.specs.Lending.{own_part}
use Rattle.signed_frames.proofs.FrameParts.{holds_length, statement_part}
use Rattle.signed_frames.proofs.LockParts.{same_part}
use Rattle.signed_frames.proofs.frame.Frame.signed_part.Goals as goal

pub overflow_sub-result : goal.overflow_sub-result
overflow_sub-result c =
    let f = c.self.inside in
    omega (arith, c.len.ensures.value, holds_length f.bytes f.statement f.signature_len c.self.invariant)

pub invariant_of-result : goal.invariant_of-result
invariant_of-result c =
    let f = c.self.inside in
    let n = holds_length f.bytes f.statement f.signature_len c.self.invariant in
    let l = c.len.ensures.value in
    let m = c.len-2.ensures.value in
    (omega (arith, l, n), omega (arith, l, n), omega (arith, l, m, n), omega (arith, l, m, n))

pub returns : goal.returns
returns c =
    let f = c.self.inside in
    let n : ℕ = f.signature_len in
    let length_is = holds_length f.bytes f.statement n c.self.invariant in
    let message : take (length f.bytes - n - 2 - 4) (drop 4 f.bytes) ≡ statement_bytes f.statement =
    ap (λ (k : ℕ). take k (drop 4 f.bytes)) (omega (arith, length-drop 4 f.bytes, length_is))
    ∙ statement_part f.bytes f.statement n c.self.invariant in
    let sig : List ℕ = drop (length f.bytes - n) f.bytes in
    let signature : take (length f.bytes - (length f.bytes - n)) sig ≡ sig =
    ap (λ (k : ℕ). take k sig) (omega (arith, length-drop (length f.bytes - n) f.bytes, length_is)) ∙ take-length sig in
    rw (c.len.ensures.value, c.len-2.ensures.value, c.signer.ensures)
    (same_part (signer_of f.statement) _ _ _ _ message signature ∙ ap own_part c.self.view_is)
