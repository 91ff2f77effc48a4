-- Transactions, values and lists of values are read back from their encoding.
use Rattle.std.proofs.Common.{◌≡◌, ℕ, ◌≤◌, true, ◌&&◌, List, ◌∷◌, ◌++◌, length, Some, refl, sym, ap, subst, ◌∙◌, arith, leb}
use Rattle.std.specs.List.{flat_map, AllByRecursion}
use Rattle.std.proofs.lemmas.Bool.{and_parts, and_from, leb-true, le-leb}
use Rattle.ledger_model.specs.Values.{Value, value_bytes, IsTx, IsValueIn}
use Rattle.ledger_model.specs.Versions.{batch_limit}
use Rattle.ledger_model.specs.declared.version.Version.{Version}
use Rattle.ledger_model.specs.Order.{tx_bytes}
use Rattle.ledger_model.specs.Spelling.{IsValueList, are_ascending, list_bytes}
use Rattle.ledger_model.specs.GrammarLaws.{IsBytes}
use Rattle.ledger_model.specs.Reading.{◌>>=◌, only_if, guarded, bytes_at, byte_at, tx_at, txs_at, value_at, values_at, list_at}
use Rattle.ledger_model.proofs.Readers.{bind_some, only_if-some, guarded-some, each_byte, IsReader, many_takes, many_again, byte_takes}
use Rattle.ledger_model.proofs.Readers.{bytes_take, bytes_again}

-- ---- transactions

pub tx_takes : (bytes tx rest : List ℕ) → IsBytes bytes → tx_at bytes ≡ Some (tx, rest)
    → (bytes ≡ tx_bytes tx ++ rest) × IsTx tx × IsBytes rest
unfolding tx_at
tx_takes bytes tx rest fits e =
    let a = bind_some (byte_at bytes) (λ len. guarded (leb 1 len.0 && leb len.0 64) (bytes_at len.0 len.1)) (tx, rest) e in
    let g = guarded-some (leb 1 a.0.0 && leb a.0.0 64) (bytes_at a.0.0 a.0.1) (tx, rest) a.2 in
    let ends = and_parts (leb 1 a.0.0) (leb a.0.0 64) g.0 in
    let some : 1 ≤ a.0.0 = leb-true 1 a.0.0 ends.0 in
    let short : a.0.0 ≤ 64 = leb-true a.0.0 64 ends.1 in
    let first = byte_takes bytes a.0.0 a.0.1 fits a.1 in
    let text = bytes_take a.0.0 a.0.1 tx rest first.2 g.1 in
    let len : length tx ≡ a.0.0 = text.3 in
    let parts : bytes ≡ length tx ∷ (tx ++ rest) =
    first.0 ∙ ap (λ (t : List ℕ). a.0.0 ∷ t) text.0 ∙ ap (λ (k : ℕ). k ∷ (tx ++ rest)) (sym len) in
    (parts, record { some = omega arith; short = omega arith; bytes = each_byte tx text.1 }, text.2)

pub tx_again : (tx rest : List ℕ) → IsTx tx → tx_at (tx_bytes tx ++ rest) ≡ Some (tx, rest)
unfolding tx_at
tx_again tx rest is =
    let test : (leb 1 (length tx) && leb (length tx) 64) ≡ true =
    and_from (leb 1 (length tx)) (leb (length tx) 64) (le-leb _ _ is.some) (le-leb _ _ is.short) in
    rw (test, bytes_again tx rest) refl

pub tx_reader : IsReader tx_bytes IsTx tx_at
tx_reader = record { takes = tx_takes; again = tx_again }

pub txs_take : (n : ℕ) (bytes : List ℕ) (v : Value) (rest : List ℕ) → IsBytes bytes → txs_at n bytes ≡ Some (v, rest)
    → (bytes ≡ flat_map tx_bytes v ++ rest) × AllByRecursion IsTx v × IsBytes rest × (length v ≡ n)
unfolding txs_at
txs_take = many_takes tx_reader txs_at (λ bytes. refl) (λ n bytes. refl)

pub txs_again : (v : Value) (rest : List ℕ) → AllByRecursion IsTx v → txs_at (length v) (flat_map tx_bytes v ++ rest) ≡ Some (v, rest)
unfolding txs_at
txs_again = many_again tx_reader txs_at (λ bytes. refl) (λ n bytes. refl)

-- ---- values

pub value_takes : (version : Version) (bytes : List ℕ) (v : Value) (rest : List ℕ) → IsBytes bytes
    → value_at version bytes ≡ Some (v, rest)
    → (bytes ≡ value_bytes v ++ rest) × IsValueIn version v × IsBytes rest
unfolding value_at
value_takes version bytes v rest fits e =
    let a = bind_some (byte_at bytes) (λ count. guarded (leb count.0 (batch_limit version)) (txs_at count.0 count.1)) (v, rest) e in
    let g = guarded-some (leb a.0.0 (batch_limit version)) (txs_at a.0.0 a.0.1) (v, rest) a.2 in
    let few : a.0.0 ≤ batch_limit version = leb-true a.0.0 (batch_limit version) g.0 in
    let first = byte_takes bytes a.0.0 a.0.1 fits a.1 in
    let txs = txs_take a.0.0 a.0.1 v rest first.2 g.1 in
    let len : length v ≡ a.0.0 = txs.3 in
    let parts : bytes ≡ length v ∷ (flat_map tx_bytes v ++ rest) =
    first.0 ∙ ap (λ (t : List ℕ). a.0.0 ∷ t) txs.0 ∙ ap (λ (k : ℕ). k ∷ (flat_map tx_bytes v ++ rest)) (sym len) in
    (parts, record { few = subst (λ (k : ℕ). k ≤ batch_limit version) (sym len) few; each = txs.1 }, txs.2)

pub value_again : (version : Version) (v : Value) (rest : List ℕ) → IsValueIn version v
    → value_at version (value_bytes v ++ rest) ≡ Some (v, rest)
unfolding value_at
value_again version v rest is =
    let test : leb (length v) (batch_limit version) ≡ true = le-leb _ _ is.few in
    rw (test, txs_again v rest is.each) refl

pub value_reader : (version : Version) → IsReader value_bytes (IsValueIn version) (value_at version)
value_reader version = record { takes = value_takes version; again = value_again version }

pub values_take : (version : Version) (n : ℕ) (bytes : List ℕ) (vs : List Value) (rest : List ℕ) → IsBytes bytes
    → values_at version n bytes ≡ Some (vs, rest)
    → (bytes ≡ flat_map value_bytes vs ++ rest) × AllByRecursion (IsValueIn version) vs × IsBytes rest × (length vs ≡ n)
unfolding values_at
values_take version = many_takes (value_reader version) (values_at version) (λ bytes. refl) (λ n bytes. refl)

pub values_again : (version : Version) (vs : List Value) (rest : List ℕ) → AllByRecursion (IsValueIn version) vs
    → values_at version (length vs) (flat_map value_bytes vs ++ rest) ≡ Some (vs, rest)
unfolding values_at
values_again version = many_again (value_reader version) (values_at version) (λ bytes. refl) (λ n bytes. refl)

-- ---- lists of values

pub list_takes : (version : Version) (bytes : List ℕ) (vs : List Value) (rest : List ℕ) → IsBytes bytes
    → list_at version bytes ≡ Some (vs, rest)
    → (bytes ≡ list_bytes vs ++ rest) × IsValueList version vs × IsBytes rest
unfolding list_at
list_takes version bytes vs rest fits e =
    let a = bind_some (byte_at bytes)
    (λ count. guarded (leb count.0 4) (values_at version count.0 count.1) >>= λ read. only_if (are_ascending read.0) read) (vs, rest) e in
    let b = bind_some (guarded (leb a.0.0 4) (values_at version a.0.0 a.0.1)) (λ read. only_if (are_ascending read.0) read) (vs, rest) a.2
    in
    let g = guarded-some (leb a.0.0 4) (values_at version a.0.0 a.0.1) b.0 b.1 in
    let few : a.0.0 ≤ 4 = leb-true a.0.0 4 g.0 in
    let o = only_if-some (are_ascending b.0.0) b.0 (vs, rest) b.2 in
    let first = byte_takes bytes a.0.0 a.0.1 fits a.1 in
    let values = values_take version a.0.0 a.0.1 b.0.0 b.0.1 first.2 g.1 in
    let len : length b.0.0 ≡ a.0.0 = values.3 in
    let parts : bytes ≡ length b.0.0 ∷ (flat_map value_bytes b.0.0 ++ b.0.1) =
    first.0 ∙ ap (λ (t : List ℕ). a.0.0 ∷ t) values.0 ∙ ap (λ (k : ℕ). k ∷ (flat_map value_bytes b.0.0 ++ b.0.1)) (sym len) in
    subst (λ (p : List Value × List ℕ). (bytes ≡ list_bytes p.0 ++ p.1) × IsValueList version p.0 × IsBytes p.1) o.1
    (parts, record { few = omega arith; each = values.1; ascend = o.0 }, values.2)

pub list_again : (version : Version) (vs : List Value) (rest : List ℕ) → IsValueList version vs
    → list_at version (list_bytes vs ++ rest) ≡ Some (vs, rest)
unfolding list_at
list_again version vs rest is =
    let test : leb (length vs) 4 ≡ true = le-leb _ _ is.few in
    rw (test, values_again version vs rest is.each, is.ascend) refl

pub list_reader : (version : Version) → IsReader list_bytes (IsValueList version) (list_at version)
list_reader version = record { takes = list_takes version; again = list_again version }
