use Rattle.std.proofs.Common.{◌≡◌, ◌+◌, ℕ, List, take, drop, ap, ◌∙◌, arith}
use Rattle.std.specs.Int.{w32, from_be_bytes}
use Rattle.std.proofs.lemmas.List.{take-take, drop-drop}
use Rattle.lms_tree.proofs.verification.cut.Goals as goal

-- what is left after two cuts
behind : (signature back rest : List ℕ) (n m : ℕ) → back ≡ drop 4 signature → n ≡ m → rest ≡ drop n back → rest ≡ drop (4 + m) signature
behind signature back rest n m back_is n_is rest_is = rest_is ∙ ap (λ k. drop k back) n_is ∙ ap (drop m) back_is ∙ drop-drop m 4 signature

pub returns-clause-lms_code : goal.returns-clause-lms_code
returns-clause-lms_code c =
    let rest = c.split_at-2.result.1.now in
    c.read_u32-2.ensures ∙ ap (λ zs. from_be_bytes w32 (take 4 zs)) c.split_at-3.ensures.front
    ∙ ap (from_be_bytes w32) (take-take 4 4 rest (omega arith))
    ∙ ap (λ zs. from_be_bytes w32 (take 4 zs))
    (behind c.args.signature.now _ rest _ _ c.split_at.ensures.back c.ots_len.ensures c.split_at-2.ensures.back)

pub returns-clause-path : goal.returns-clause-path
returns-clause-path c =
    c.split_at-3.ensures.back ∙ ap (drop 4)
    (behind c.args.signature.now _ _ _ _ c.split_at.ensures.back c.ots_len.ensures c.split_at-2.ensures.back)
