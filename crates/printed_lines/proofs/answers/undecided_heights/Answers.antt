use Rattle.std.proofs.Common.{◌≡◌, ◌∙◌, ◌+◌, ◌-◌, ◌++◌, ◌∷◌, [], ℕ, Bool, true, false, not, length, sym, ap, rules, tests, arith}
use Rattle.std.specs.Prelude.{is_some, is_none, filter}
use Rattle.std.specs.List.{range_with_len}
use Rattle.ledger_model.specs.Commits.{commits_of, decision_at}
use Rattle.printed_lines.proofs.HeightRanges.{passes, fails, none_copied, some_copied}
use Rattle.printed_lines.proofs.answers.undecided_heights.Goals as goal
use Rattle.printed_lines.proofs.answers.undecided_heights.Goals.{then-is_none+in_ok-push, else-is_none}

pub loop-height-preserved : goal.loop-height-preserved
loop-height-preserved g c =
    let s = c.args.state.now in
    let h = c.loop-height.height in
    let p : ℕ → Bool = λ h. not (is_some (decision_at s.config s.id s.entries h)) in
    let from = c.loop-height.invariant.from in
    elim c.if-is_none.branch [
      | then-is_none+in_ok-push w ↦
          let none : is_none c.decided_at.result ≡ true = search (rules, tests) in
          let is : p h ≡ true = none_copied c.decided_at.result _
          (c.decided_at.ensures ∙ ap (decision_at s.config s.id s.entries) c.new.ensures) none in
          let pushed : c.if-is_none.heights.items ≡ c.loop-height.heights.items ++ h ∷ [] = search rules in
          record {
            from = omega (arith, from);
            pushed =
                pushed ∙ ap (λ l. l ++ h ∷ []) c.loop-height.invariant.pushed ∙ sym (passes p (c.height-first.result + 1) h from is);
          }
      | else-is_none w ↦
          let some : is_none c.decided_at.result ≡ false = search (rules, tests) in
          let is : p h ≡ false = some_copied c.decided_at.result _
          (c.decided_at.ensures ∙ ap (decision_at s.config s.id s.entries) c.new.ensures) some in
          let same : c.if-is_none.heights.items ≡ c.loop-height.heights.items = search rules in
          record {
            from = omega (arith, from);
            pushed =
                same ∙ c.loop-height.invariant.pushed ∙ sym (fails p (c.height-first.result + 1) h from is);
          }
    ]

pub returns : goal.returns
returns g c =
    let s = c.args.state.now in
    let p : ℕ → Bool = λ h. not (is_some (decision_at s.config s.id s.entries h)) in
    let all : c.loop-height.height - (c.height-first.result + 1) ≡ 4 = search (rules, arith) in
    let first : c.height-first.result + 1 ≡ length (commits_of s.config s.id s.entries) + 1 =
    ap (λ n. n + 1) c.height-first.ensures.height in
    c.loop-height.invariant.pushed ∙ ap (λ n. filter p (range_with_len (c.height-first.result + 1) n)) all
    ∙ ap (λ a. filter p (range_with_len a 4)) first
