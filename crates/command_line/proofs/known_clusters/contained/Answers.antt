use Rattle.std.proofs.Common.{◌∙◌, List, ℕ, sym, subst, Bor}
use Rattle.std.specs.List.{All}
use Rattle.std.proofs.lemmas.List.{take_all}
use Rattle.std.proofs.lemmas.List.Elements.{All-map, All-more, All-nil}
use Rattle.clap.specs.Words.{found_of, rows_of}
use Rattle.command_line.specs.Options.{IsNamed}
use Rattle.command_line.proofs.known_clusters.contained.Goals as goal

pub loop-option-init : goal.loop-option-init
loop-option-init c = All-nil _

pub loop-option-preserved : goal.loop-option-preserved
loop-option-preserved c =
    All-more (λ (option : Bor (List ℕ)). IsNamed (rows_of (found_of c.args.matches.now)) option.now → ⊥) c.args.options.now
    c.loop-option.option-index _ c.loop-option-test.true c.loop-option.invariant
    (λ named. let bad = sym (c.is_named.ensures.1 named) ∙ c.if-is_named.false in absurd cc)

pub returns-clause-none : goal.returns-clause-none
returns-clause-none c =
    All-map (λ option. IsNamed (rows_of (found_of c.args.matches.now)) option → ⊥) (λ (o : Bor (List ℕ)). o.now) c.args.options.now
    (subst (All (λ (option : Bor (List ℕ)). IsNamed (rows_of (found_of c.args.matches.now)) option.now → ⊥))
    (take_all c.loop-option.option-index c.args.options.now c.loop-option-test.false) c.loop-option.invariant)
