use Rattle.std.proofs.Common.{◌≡◌, ◌∙◌, Bool, ap, false, get_or, map, subst, sym}
use Rattle.std.specs.List.{All}
use Rattle.std.proofs.lemmas.List.Elements.{All-push}
use Rattle.clap.specs.Words.{rule_of}
use Rattle.clap.specs.declared.builder.arg.Arg.{Arg}
use Rattle.ledger_model.specs.declared.config.AppKinds.{AppKinds}
use Rattle.command_line.specs.declared.subcommand.Argument.{Argument}
use Rattle.command_line.specs.Grammar.{argument_rule, is_had}
use Rattle.command_line.proofs.Chains.{one_more_had, one_left_out}
use Rattle.command_line.proofs.subcommand.clap_args.Goals.{then-is_had+in_ok-push, else-is_had}
use Rattle.command_line.proofs.subcommand.clap_args.Goals as goal

judged : (a : Argument) (kinds asked : AppKinds) (result answer : Bool) → asked ≡ kinds → result ≡ is_had asked a.kind → result ≡ answer
    → is_had kinds a.kind ≡ answer
judged a kinds asked result answer same is answered = ap (λ k. is_had k a.kind) (sym same) ∙ sym is ∙ answered

pub loop-argument-preserved : goal.loop-argument-preserved
loop-argument-preserved g c =
    elim c.if-is_had.branch [
      | then-is_had+in_ok-push w ↦ record {
        rules = ap (λ v. map rule_of v.items) w.args-is ∙ ap (map rule_of) w.in_ok-push.ensures.items
            ∙ one_more_had rule_of (argument_rule (g.A.Opening.words)) (λ (a : Argument). is_had (g.A.Opening.words.kinds) a.kind)
            c.loop-argument.args.items c.args.arguments.now c.loop-argument.argument-index w.clap_arg.result _ c.loop-argument-test.true
            (judged (get_or c.args.arguments.now c.loop-argument.argument-index _) _ _ _ _ c.kinds.ensures c.is_had.ensures w.if-is_had.true) c.loop-argument.invariant.rules w.clap_arg.ensures.rule;
        local = subst (λ made. All (λ (a : Arg). a.global ≡ false) made) (sym (ap (λ v. v.items) w.args-is ∙ w.in_ok-push.ensures.items))
            (All-push (λ (a : Arg). a.global ≡ false) c.loop-argument.args.items w.clap_arg.result c.loop-argument.invariant.local
            w.clap_arg.ensures.local);
      }
      | else-is_had w ↦ record {
        rules = ap (λ v. map rule_of v.items) w.args-is
            ∙ one_left_out rule_of (argument_rule (g.A.Opening.words)) (λ (a : Argument). is_had (g.A.Opening.words.kinds) a.kind)
            c.loop-argument.args.items c.args.arguments.now c.loop-argument.argument-index _ c.loop-argument-test.true
            (judged (get_or c.args.arguments.now c.loop-argument.argument-index _) _ _ _ _ c.kinds.ensures c.is_had.ensures w.if-is_had.false) c.loop-argument.invariant.rules;
        local = subst (λ v. All (λ (a : Arg). a.global ≡ false) v.items) (sym w.args-is) c.loop-argument.invariant.local;
      }
    ]
