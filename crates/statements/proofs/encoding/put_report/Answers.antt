use Rattle.std.proofs.Common.{ℕ, List, [], ◌∷◌, ◌++◌}
use Rattle.std.specs.Prelude.{if◌then◌else◌}
use Rattle.std.specs.Int.{w32, to_be_bytes}
use Rattle.std.proofs.lemmas.Result.{on_ok_weaker}
use Rattle.ledger_model.specs.Values.{value_bytes}
use Rattle.ledger_model.specs.Versions.{first_byte}
use Rattle.ledger_model.specs.Spelling.{list_bytes}
use Rattle.statements.proofs.Joins.{joins}
use Rattle.statements.proofs.encoding.put_report.Goals as goal

pub returns : goal.returns
returns c =
    let r = c.args.report.now in
    let old : List ℕ = c.args.out.now.items in
    let place : List ℕ = first_byte r.version 1 ∷ to_be_bytes w32 r.height ++ to_be_bytes w32 r.phase ++ r.signer ∷ [] in
    let all : List ℕ = (if r.all then 1 else 0) ∷ [] in
    let flagged = joins old place all c.in_ok-put_place.ensures c.in_ok-put_flag.ensures in
    let initial = joins old (place ++ all) (value_bytes r.initial) flagged c.in_ok-put_batch.ensures in
    let proper = joins old (place ++ all ++ value_bytes r.initial) (list_bytes r.proper) initial c.in_ok-put_list.ensures in
    on_ok_weaker c.put_list-2.result
    (λ e. joins old (place ++ all ++ value_bytes r.initial ++ list_bytes r.proper) (list_bytes r.locked) proper e) c.put_list-2.ensures
