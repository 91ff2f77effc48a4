-- Histories have at most one ledger: the longest of what they committed.
use Rattle.ledger_model.specs.Meanings.{Meanings}
use Rattle.std.proofs.Common.{◌≡◌, ℕ, ◌≤◌, List, length, take, sym, ap, subst, ◌∙◌, arith}
use Rattle.std.specs.Prelude.{Some}
use Rattle.std.proofs.Math.Seq.{take-length}
use Rattle.std.proofs.lemmas.List.{length-take}
use Rattle.ledger_model.specs.declared.config.Config.{Config}
use Rattle.ledger_model.specs.declared.history.History.{History}
use Rattle.ledger_model.specs.Values.{Value}
use Rattle.ledger_model.specs.Groups.{history_of}
use Rattle.ledger_model.specs.Commits.{commits_of}
use Rattle.ledger_model.specs.Worlds.{Begins, IsLedger}

-- the same histories have no other ledger
pub ledger_is_unique : (meaning : Meanings) (config : Config) (histories : List History) (ledger other : List Value)
    → IsLedger meaning config histories ledger → IsLedger meaning config histories other → ledger ≡ other
ledger_is_unique meaning config histories ledger other is also =
    let first : Begins ledger other = begins config histories ledger other is also in
    let second : Begins other ledger = begins config histories other ledger also is in
    let size : length ledger ≡ length other =
    omega (arith, ap length first, ap length second, length-take (length ledger) other, length-take (length other) ledger) in
    sym first ∙ ap (λ n. take n other) size ∙ take-length other
  where
    begins : (config : Config) (histories : List History) (xs ys : List Value) → IsLedger meaning config histories xs
        → IsLedger meaning config histories ys → Begins xs ys
    begins config histories xs ys is also =
        let from = is.some in
        subst (λ vs. Begins vs ys) (sym (from.1.1.1)) (also.each (from.0) (from.1.0) (from.1.1.0))

-- the ledger is what this history committed, if none of the others committed more
pub ledger_is_longest : (meaning : Meanings) (config : Config) (histories : List History) (ledger : List Value) (r : ℕ) (m : History)
    → IsLedger meaning config histories ledger → history_of histories r ≡ Some m
    → ((q : ℕ) (n : History) → history_of histories q ≡ Some n
    → length (commits_of config q n.entries) ≤ length (commits_of config r m.entries))
    → ledger ≡ commits_of config r m.entries
ledger_is_longest meaning config histories ledger r m is found longest =
    let from = is.some in
    let begins : Begins (commits_of config r m.entries) ledger = is.each r m found in
    let most = longest from.0 from.1.0 from.1.1.0 in
    let size : length ledger ≡ length (commits_of config r m.entries) =
    omega (arith, most, ap length from.1.1.1, ap length begins, length-take (length (commits_of config r m.entries)) ledger) in
    sym (take-length ledger) ∙ ap (λ n. take n ledger) size ∙ begins
