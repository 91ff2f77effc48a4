-- One more block's line.
use Rattle.std.proofs.Common.{◌≡◌, ◌∙◌, ℕ, ◌+◌, ◌<◌, List, [], ◌∷◌, ◌++◌, length, take, get_or, sym, ap, append-nil, append_assoc, arith}
use Rattle.std.proofs.lemmas.List.{length-take}
use Rattle.ledger_model.proofs.Lists.{take_item}
use Rattle.ledger_model.specs.Values.{Value}
use Rattle.printed_lines.specs.AuditLines.{block_line, block_lines}

-- the line of the block after these
pub block_lines-more : (h : ℕ) (vs : List Value) (v : Value)
    → block_lines h (vs ++ v ∷ []) ≡ block_lines h vs ++ block_line (h + length vs) v
block_lines-more h [] v =
    let same : h ≡ h + 0 = omega arith in
    append-nil (block_line h v) ∙ ap (λ n. block_line n v) same
block_lines-more h (x ∷ xs) v =
    let same : h + 1 + length xs ≡ h + length (x ∷ xs) = omega arith in
    ap (λ l. block_line h x ++ l) (block_lines-more (h + 1) xs v)
    ∙ sym (append_assoc (block_line h x) (block_lines (h + 1) xs) (block_line (h + 1 + length xs) v))
    ∙ ap (λ n. (block_line h x ++ block_lines (h + 1) xs) ++ block_line n v) same

-- the line of the block at place i comes after the lines of those before it
pub next_block : (vs : List Value) (i : ℕ) (v : Value) → i < length vs → v ≡ get_or vs i v
    → block_lines 1 (take (i + 1) vs) ≡ block_lines 1 (take i vs) ++ block_line (i + 1) v
next_block vs i v inside is =
    let len = length-take i vs in
    let same : 1 + length (take i vs) ≡ i + 1 = omega (arith, inside, len) in
    ap (block_lines 1) (take_item vs i v inside is) ∙ block_lines-more 1 (take i vs) v
    ∙ ap (λ n. block_lines 1 (take i vs) ++ block_line n v) same
