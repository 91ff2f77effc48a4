-- A batch is printed as its first transaction, followed by each other one after a comma.
use Rattle.std.proofs.Common.{◌≡◌, ◌∙◌, ℕ, ◌≤◌, List, [], ◌∷◌, ◌++◌, ◌-◌, map, length, get_or, take, drop, sym, ap, append-nil}
use Rattle.std.proofs.Common.{append_assoc, take_all, arith}
use Rattle.std.specs.Prelude.{codes}
use Rattle.std.specs.List.{flat_map, join_with_byte}
use Rattle.std.proofs.lemmas.List.Concat.{flat_map-cons}
use Rattle.ledger_model.specs.Values.{Value}
use Rattle.plain_text.specs.Transactions.{bytes_text}
use Rattle.plain_text.specs.Transactions.{batch_text}

-- a transaction, with a comma before it
abbrev next_text : List ℕ → List ℕ
next_text t = codes "," ++ bytes_text t

joined : (t : List ℕ) (ts : Value) → join_with_byte 44 (map bytes_text (t ∷ ts)) ≡ bytes_text t ++ flat_map next_text ts
joined t [] = sym (append-nil (bytes_text t))
joined t (u ∷ us) =
    ap (λ l. bytes_text t ++ (44 ∷ l)) (joined u us) ∙ ap (λ l. bytes_text t ++ l) (sym (flat_map-cons next_text u us))

-- what is added one by one is the batch
batch_joined : (out t : List ℕ) (ts : Value)
    → (((out ++ codes "[") ++ bytes_text t) ++ flat_map next_text ts) ++ codes "]" ≡ out ++ batch_text (t ∷ ts)
unfolding batch_text
batch_joined out t ts =
    let inner = flat_map next_text ts in
    ap (λ l. l ++ codes "]") (append_assoc (out ++ codes "[") (bytes_text t) inner)
    ∙ append_assoc (out ++ codes "[") (bytes_text t ++ inner) (codes "]")
    ∙ append_assoc out (codes "[") ((bytes_text t ++ inner) ++ codes "]")
    ∙ ap (λ l. out ++ (codes "[" ++ l ++ codes "]")) (sym (joined t ts))

-- the same of a batch, the first of its transactions and the rest of them
pub batch_added : (out t : List ℕ) (v : Value) → 1 ≤ length v → t ≡ get_or v 0 t
    → (((out ++ codes "[") ++ bytes_text t) ++ flat_map (λ u. codes "," ++ bytes_text u) (take (length v - 1) (drop 1 v))) ++ codes "]"
    ≡ out ++ batch_text v
batch_added out t [] some first = absurd (omega arith)
batch_added out t (u ∷ us) some first = rw (first, take_all (length (u ∷ us) - 1) us (omega arith)) (batch_joined out u us)
