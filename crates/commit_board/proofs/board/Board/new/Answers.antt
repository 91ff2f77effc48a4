use Rattle.std.proofs.Common.{ℕ, List, [], ◌∷◌, replicate, sym, ap, ◌∙◌, subst}
use Rattle.commit_board.specs.BoardRule.{Holds, maker_log}
use Rattle.commit_board.proofs.Makes.{begins}
use Rattle.commit_board.proofs.board.Board.new.Goals as goal

pub of_words-requires : goal.of_words-requires
of_words-requires c =
    let words = c.as_slice.ensures.value ∙ c.in_ok-words.ensures.items_if_clones_equal (λ y e. e)
    ∙ ap (λ (n : ℕ). replicate n 0) c.from-replicas.ensures in
    subst (λ (ws : List ℕ). Holds c.args.config.now.replicas ws (maker_log 0 ∷ [])) (sym words) (begins c.args.config.now.replicas)
