use Rattle.std.proofs.Common.{ℕ, ◌+◌, ◌==◌, length, take, drop, sym, ap, ◌∙◌, arith, rules, take_all}
use Rattle.std.proofs.lemmas.List.Sums.{position_or_len_is}
use Rattle.std.proofs.lemmas.List.{take_rest, drop_all}
use Rattle.http_messages.proofs.asking.split_target.Goals as goal

pub returns-in-Some : goal.returns-in-Some
returns-in-Some c =
    let target = c.args.target.now in
    let found = position_or_len_is (λ (b : ℕ). b == 63) target c.in-Some.end 0 (search rules) (search rules) (search rules) in
    record { path = ap (λ n. take n target) (sym found); query = take_rest target _ ∙ ap (λ n. drop (n + 1) target) (sym found) }

pub returns-in-None : goal.returns-in-None
returns-in-None c =
    let target = c.args.target.now in
    let none = position_or_len_is (λ (b : ℕ). b == 63) target (length target) 0 (omega arith) (search rules) (search rules) in
    record {
      path = sym (ap (λ n. take n target) none ∙ take_all (length target) target (omega arith));
      query = sym (ap (λ n. drop (n + 1) target) none ∙ drop_all (length target + 1) target (omega arith));
    }
