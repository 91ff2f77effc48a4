-- The metrics of replicas, one after the other.
use Rattle.std.proofs.Common.{◌≡◌, ℕ, ◌+◌, List, [], ◌∷◌, ◌++◌, suc, ap, sym, subst, ◌∙◌, length, map, arith}
use Rattle.std.specs.Prelude.{Some, None}
use Rattle.std.proofs.lemmas.List.{map-append}
use Rattle.std.specs.List.{FoldsTo, range_with_len}
use Rattle.std.proofs.lemmas.Fn.{FoldsTo-push}
use Rattle.ledger_model.proofs.Lists.{range_more}
use Rattle.http_messages.specs.declared.metrics.ReplicaMetrics.{ReplicaMetrics}
use Rattle.http_sessions.specs.Exchanges.{HttpExchange, Inquired, Shows}
use Rattle.http_sessions.specs.Answering.{exchanges_of_metrics}

-- the numbers of one replica more
pub each_more : {X : Type 0} (number : X → ℕ) (all : List X) (x : X) (n : ℕ) → map number all ≡ range_with_len 0 n → number x ≡ n
    → map number (all ++ x ∷ []) ≡ range_with_len 0 (n + 1)
each_more number all x n each is =
    let last : number x ≡ 0 + n = omega (arith, is) in
    let next : suc n ≡ n + 1 = omega arith in
    map-append number all (x ∷ []) ∙ ap (λ l. l ++ number x ∷ []) each ∙ ap (λ k. range_with_len 0 n ++ k ∷ []) last
    ∙ sym (range_more 0 n) ∙ ap (range_with_len 0) next

-- one exchange more
pub shown_more : {T : Type 0} (makes : T → HttpExchange → T → Type 0) (before now after : T) (all : List ReplicaMetrics)
    (m : ReplicaMetrics) (r : ℕ) → FoldsTo makes before (exchanges_of_metrics all) now → m.replica ≡ r → makes now (Inquired (Shows r (Some m))) after
    → FoldsTo makes before (exchanges_of_metrics (all ++ m ∷ [])) after
shown_more makes before now after all m r made is asked =
    subst (λ l. FoldsTo makes before l after) (sym (map-append (λ x. Inquired (Shows x.replica (Some x))) all (m ∷ [])))
    (FoldsTo-push makes before (exchanges_of_metrics all) now (Inquired (Shows m.replica (Some m))) after made
    (subst (λ k. makes now (Inquired (Shows k (Some m))) after) (sym is) asked))

-- the next replica showed none
pub stranger_met : {T : Type 0} (makes : T → HttpExchange → T → Type 0) (before now after : T) (all : List ReplicaMetrics) (r : ℕ)
    → FoldsTo makes before (exchanges_of_metrics all) now → length all ≡ r → makes now (Inquired (Shows r None)) after
    → FoldsTo makes before (exchanges_of_metrics all ++ Inquired (Shows (length all) None) ∷ []) after
stranger_met makes before now after all r made is asked =
    FoldsTo-push makes before (exchanges_of_metrics all) now (Inquired (Shows (length all) None)) after made
    (subst (λ k. makes now (Inquired (Shows k None)) after) (sym is) asked)
