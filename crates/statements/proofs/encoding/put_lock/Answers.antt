use Rattle.std.proofs.Common.{ℕ, List, [], ◌∷◌, ◌++◌, length}
use Rattle.std.specs.Int.{w32, to_be_bytes}
use Rattle.std.specs.List.{flat_map}
use Rattle.std.proofs.lemmas.Result.{on_ok_weaker}
use Rattle.ledger_model.specs.Values.{value_bytes}
use Rattle.ledger_model.specs.Versions.{first_byte}
use Rattle.ledger_model.specs.Spelling.{signed_bytes}
use Rattle.statements.proofs.Joins.{joins}
use Rattle.statements.proofs.encoding.put_lock.Goals as goal

pub returns : goal.returns
returns c =
    let l = c.args.lock.now in
    let old : List ℕ = c.args.out.now.items in
    let place : List ℕ = first_byte l.version 2 ∷ to_be_bytes w32 l.height ++ to_be_bytes w32 l.phase ++ l.signer ∷ [] in
    let value = joins old place (value_bytes l.value) c.in_ok-put_place.ensures c.in_ok-put_batch.ensures in
    let count = joins old (place ++ value_bytes l.value) (length l.proof ∷ []) value
    (rw c.as_slice-reports.ensures at c.in_ok-put_u8.ensures.ok) in
    on_ok_weaker c.put_reports.result
    (λ e. joins old (place ++ value_bytes l.value ++ length l.proof ∷ []) (flat_map signed_bytes l.proof) count
    (rw c.as_slice-reports.ensures at e)) c.put_reports.ensures
