use Rattle.std.proofs.Common.{◌≡◌, [], subst, ◌∙◌}
use Rattle.ledger_model.specs.Rules.{first_of, place_causes, is_repeated}
use Rattle.instance.specs.Reads.{round_causes}
use Rattle.instance.proofs.Answering.{judges}
use Rattle.instance.proofs.height.Instance.judge.Goals as goal

pub returns : goal.returns
returns c = λ ring log matches clock.
    c.judge_round.ensures
    ∙ subst (λ n. first_of (round_causes c.args.self.now n c.args.statement.now)
    ≡ first_of (place_causes c.args.self.now.config n (is_repeated log c.args.statement.now) c.args.statement.now [])) clock
    (judges ring c.args.self.now log c.args.statement.now matches)
