use Rattle.std.proofs.Common.{◌≡◌, ℕ, ◌+◌, ◌<◌, ◌++◌, ◌∷◌, [], List, length, take, get_or, ap, sym, ◌∙◌}
use Rattle.std.specs.Prelude.{Some}
use Rattle.std.specs.List.{cons_option}
use Rattle.std.proofs.lemmas.List.{take_more}
use Rattle.std.proofs.lemmas.List.Elements.{filter_map-append}
use Rattle.ledger_model.specs.declared.reply.Sent.{Sent}
use Rattle.ledger_model.specs.declared.statement.SignedStatement.{SignedStatement}
use Rattle.ledger_model.specs.Reading.{reading}
use Rattle.ledger_model.specs.Spelling.{IsFrame}
use Rattle.replica_core.specs.ShownEnds.{statements_shown}
use Rattle.replica_core.proofs.shown_frames.read_frames.Goals as goal
use Rattle.ledger_model.proofs.Lists.{each_append}

-- one more frame spells one more statement
shown_more : (xs : List Sent) (i : ℕ) (sent : Sent) (s : SignedStatement) (ss : List SignedStatement) → i < length xs
    → sent ≡ get_or xs i sent → reading sent.frame ≡ Some s
    → statements_shown (take i xs) ≡ ss → statements_shown (take (i + 1) xs) ≡ ss ++ s ∷ []
shown_more xs i sent s ss below is reads so_far =
    let one : statements_shown (get_or xs i sent ∷ []) ≡ s ∷ [] =
    ap (λ (x : Sent). cons_option (reading x.frame) []) (sym is) ∙ ap (λ o. cons_option o []) reads in
    ap statements_shown (take_more xs i sent below) ∙ filter_map-append (λ (f : Sent). reading f.frame) (take i xs) (get_or xs i sent ∷ [])
    ∙ ap (λ ts. ts ++ statements_shown (get_or xs i sent ∷ [])) so_far ∙ ap (λ ts. ss ++ ts) one

pub loop-sent-preserved : goal.loop-sent-preserved
loop-sent-preserved c =
    let reads = ap reading (sym c.in_ok-clone.ensures.cases) ∙ c.in-Ok.ensures.exact in
    rw c.in_ok-push_back-in-Ok.ensures.items (
      shown_more c.args.sent.now c.loop-sent.sent-index c.sent-item.result c.in-Ok.frame c.loop-sent.frames.items c.loop-sent-test.true
          c.sent-item.is reads c.loop-sent.invariant.0,
      each_append IsFrame c.loop-sent.frames.items (c.in-Ok.frame ∷ []) c.loop-sent.invariant.1 (c.in-Ok.ensures.found.0, tt),
    )
