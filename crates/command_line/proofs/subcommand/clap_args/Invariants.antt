-- the arguments so far are those described so far that the program has, and none is global
use Rattle.std.proofs.Common.{◌≡◌, false, filter, map, take}
use Rattle.std.specs.List.{All}
use Rattle.clap.specs.Words.{rule_of}
use Rattle.command_line.specs.Grammar.{argument_rule, is_had}
use Rattle.command_line.proofs.subcommand.clap_args.Given as goal

abbrev pub invariant-loop-argument : goal.invariant-loop-argument
invariant-loop-argument g l = record {
  rules : map rule_of l.args.items
      ≡ map (argument_rule (g.A.Opening.words)) (filter (λ a. is_had (g.A.Opening.words.kinds) a.kind) (take l.argument-index l.arguments));
  local : All (λ a. a.global ≡ false) l.args.items;
}
