-- Lists that grow by what each element shows.
use Rattle.std.proofs.Common.{◌≡◌, ◌∙◌, ℕ, ◌+◌, ◌<◌, ◌≤◌, List, [], ◌++◌, length, get_or, take, drop, sym, ap, append_assoc, append-nil}
use Rattle.std.specs.List.{flat_map}
use Rattle.std.proofs.lemmas.List.{flat_map_more}
use Rattle.std.proofs.Math.ListN.{drop_of_length-le}
use Rattle.ledger_model.proofs.Items.{drop_item}
use Rattle.ledger_model.proofs.Lists.{take_item}
use Rattle.ledger_model.specs.declared.history.Entry.{Entry}
use Rattle.run_picture.specs.Orders.{clock_after, shown_from}

-- a list with one more piece, and what the rest shows
pub one_more : {X : Type 0} (out next start piece rest all : List X) → out ++ (piece ++ rest) ≡ start ++ all → next ≡ out ++ piece
    → next ++ rest ≡ start ++ all
one_more out next start piece rest all before now = ap (λ l. l ++ rest) now ∙ append_assoc out piece rest ∙ before

-- a list to which nothing more is added
pub no_more : {X : Type 0} (out start rest all : List X) → out ++ rest ≡ start ++ all → rest ≡ [] → out ≡ start ++ all
no_more out start rest all before none = sym (append-nil out) ∙ ap (λ l. out ++ l) (sym none) ∙ before

-- what one entry more shows
pub shown_next : {X : Type 0} (shown : ℕ → ℕ → Entry → List X) (out next start : List X) (i clock : ℕ) (entries : List Entry) (e : Entry)
    → i < length entries → e ≡ get_or entries i e
    → out ++ shown_from shown i clock (drop i entries) ≡ start ++ shown_from shown 0 0 entries
    → next ≡ out ++ shown i clock e
    → next ++ shown_from shown (i + 1) (clock_after clock e) (drop (i + 1) entries) ≡ start ++ shown_from shown 0 0 entries
shown_next shown out next start i clock entries e inside is before now =
    one_more out next start (shown i clock e) (shown_from shown (i + 1) (clock_after clock e) (drop (i + 1) entries))
    (shown_from shown 0 0 entries)
    (sym (ap (λ es. out ++ shown_from shown i clock es) (drop_item entries i e inside is)) ∙ before) now

-- no entry more
pub shown_last : {X : Type 0} (shown : ℕ → ℕ → Entry → List X) (out start : List X) (i clock : ℕ) (entries : List Entry)
    → length entries ≤ i
    → out ++ shown_from shown i clock (drop i entries) ≡ start ++ shown_from shown 0 0 entries
    → out ≡ start ++ shown_from shown 0 0 entries
shown_last shown out start i clock entries over before =
    no_more out start (shown_from shown i clock (drop i entries)) (shown_from shown 0 0 entries) before
    (ap (shown_from shown i clock) (drop_of_length-le entries over))

-- what one element more gives
pub flat_next : {X Y : Type 0} (f : X → List Y) (xs : List X) (i : ℕ) (x : X) (before after start : List Y) → i < length xs
    → x ≡ get_or xs i x → before ≡ start ++ flat_map f (take i xs) → after ≡ before ++ f x
    → after ≡ start ++ flat_map f (take (i + 1) xs)
flat_next f xs i x before after start inside is was now =
    now ∙ ap (λ l. l ++ f x) was ∙ flat_map_more f start (take i xs) x ∙ ap (λ ys. start ++ flat_map f ys) (sym (take_item xs i x inside is))
