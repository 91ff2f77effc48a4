use Rattle.std.proofs.Common.{◌≡◌, ℕ, List, true, refl, sym, subst, ◌∙◌, eq-eqb}
use Rattle.std.specs.Prelude.{nat_eq}
use Rattle.std.specs.Cmp.Lexicographic.{pointwise}
use Rattle.ledger_model.specs.declared.version.Version.TheVariants.{Two}
use Rattle.ledger_model.specs.GrammarLaws.{IsBytes}
use Rattle.ledger_model.proofs.FrameReading.{reading-spells}
use Rattle.ledger_model.proofs.Lists.{pointwise_refl}
use Rattle.replica_core.proofs.comparing.is_same_sent.Goals as goal

-- bytes spell a statement in one way
pub returns-then-eq-clause-only : goal.returns-then-eq-clause-only
returns-then-eq-clause-only c = λ alike.
    let due = reading-spells Two c.args.due.now.frame alike.signed (subst IsBytes c.bytes_of.ensures.frame c.bytes_of.ensures.bytes)
    alike.one_reads in
    let shown = reading-spells Two c.args.shown.now.frame alike.signed
    (subst IsBytes c.bytes_of-then-eq.ensures.frame c.bytes_of-then-eq.ensures.bytes) alike.other_reads in
    rw (c.eq-then-eq.ensures, c.bytes_of.ensures.frame, c.bytes_of-then-eq.ensures.frame)
    (subst (λ (bytes : List ℕ). pointwise nat_eq c.args.due.now.frame bytes ≡ true) (due.1 ∙ sym shown.1)
    (pointwise_refl nat_eq (λ x. eq-eqb x x refl) c.args.due.now.frame))
