use Rattle.std.proofs.Common.{◌≡◌, ap, sym, subst, ◌∙◌, None, Some, rules}
use Rattle.statements.specs.Reads.{IsFaultOf}
use Rattle.history_bytes.specs.HistoryReading.{histories_reading}
use Rattle.history_bytes.proofs.FileReaders.{read_are_spelled, spelled_are_read, one_list, spelled_are_found, spelled_not_none}
use Rattle.history_bytes.proofs.histories.read_histories.Goals as goal

pub returns-in-Ok-clause-found : goal.returns-in-Ok-clause-found
returns-in-Ok-clause-found c =
    let read : histories_reading c.args.version c.args.bytes ≡ Some c.in-Ok.histories.items =
    ap (histories_reading c.args.version) (sym c.new.ensures.all) ∙ c.in-Ok.ensures in
    read_are_spelled c.args.version c.args.bytes c.in-Ok.histories.items c.new.ensures.bytes read

pub returns-in-Ok-clause-only : goal.returns-in-Ok-clause-only
returns-in-Ok-clause-only c =
    let read : histories_reading c.args.version c.args.bytes ≡ Some c.in-Ok.histories.items =
    ap (histories_reading c.args.version) (sym c.new.ensures.all) ∙ c.in-Ok.ensures in
    λ histories spells. spelled_are_found c.args.version c.args.bytes c.in-Ok.histories.items histories read spells

pub returns-in-Err-Malformed-clause-only : goal.returns-in-Err-Malformed-clause-only
returns-in-Err-Malformed-clause-only c =
    let fault : IsFaultOf c.in-Err-Malformed.field-0 (histories_reading c.args.version c.new.result) = c.in-Err-Malformed.ensures in
    let none : histories_reading c.args.version c.args.bytes ≡ None =
    ap (histories_reading c.args.version) (sym c.new.ensures.all)
    ∙ subst (λ f. IsFaultOf f (histories_reading c.args.version c.new.result)) c.in-Err-Malformed.field-0-is fault in
    λ histories spells. absurd (spelled_not_none c.args.version c.args.bytes histories none spells)

pub returns-in-Ok-clause-again : goal.returns-in-Ok-clause-again
returns-in-Ok-clause-again c = spelled_are_read

pub returns-in-Ok-clause-one : goal.returns-in-Ok-clause-one
returns-in-Ok-clause-one c = one_list

pub returns-in-Err-Malformed-clause-again : goal.returns-in-Err-Malformed-clause-again
returns-in-Err-Malformed-clause-again c = spelled_are_read

pub returns-in-Err-Malformed-clause-one : goal.returns-in-Err-Malformed-clause-one
returns-in-Err-Malformed-clause-one c = one_list

pub returns-clause-again : goal.returns-clause-again
returns-clause-again c = spelled_are_read

pub returns-clause-one : goal.returns-clause-one
returns-clause-one c = one_list

pub returns-clause-bad : goal.returns-clause-bad
returns-clause-bad c = search rules
