-- Batches are read back from their text, which is a word.
use Rattle.std.proofs.Common.{◌≡◌, ◌∙◌, ℕ, true, cond, List, [], ◌∷◌, ◌++◌, map, length, refl, sym, ap, subst, arith}
use Rattle.std.specs.Prelude.{◌==◌, ◌&&◌, nat_le, codes, Option, Some, None, option_and_then}
use Rattle.std.specs.List.{AllByRecursion, slice_split, join_with_byte}
use Rattle.std.proofs.lemmas.Bool.{and_parts, leb-true, eqb-true}
use Rattle.std.proofs.lemmas.Bool.Decides.{nat_tests}
use Rattle.std.proofs.lemmas.List.Elements.{All-nil, All-cons, All-append}
use Rattle.std.proofs.lemmas.List.Splits.{join_with_byte-slice_split}
use Rattle.std.proofs.lemmas.Option.{cond_some}
use Rattle.ledger_model.specs.Limits.{max_tx_len}
use Rattle.ledger_model.specs.Versions.{batch_limit}
use Rattle.ledger_model.specs.declared.version.Version.{Version}
use Rattle.ledger_model.specs.Values.{Value, IsTx, IsValueIn}
use Rattle.plain_text.specs.Transactions.{bytes_text}
use Rattle.scenario_texts.specs.Reading.{word_bytes, tx_of, txs_of, without_first, without_last, bracketed, elements, batch_of}
use Rattle.plain_text.specs.Transactions.{batch_text}
use Rattle.scenario_texts.proofs.Options.{bind_some, map_some}
use Rattle.scenario_texts.proofs.BytesReading.{bytes_of-sound, bytes_of-again}
use Rattle.scenario_texts.proofs.BatchReading.{without_last-end, followed}
use Rattle.scenario_texts.proofs.Splits.{Lacks, slice_split-join}
use Rattle.scenario_texts.proofs.Visible.{IsVisible, IsWord, IsWord-bytes_text, Lacks-bytes_text}

-- a transaction
tx_of-sound : (word tx : List ℕ) → tx_of word ≡ Some tx → (word ≡ bytes_text tx) × IsTx tx
unfolding tx_of
tx_of-sound word tx e =
    let (bytes, (read, fits)) = bind_some (λ bytes. cond (nat_le 1 (length bytes) && nat_le (length bytes) max_tx_len) (Some bytes) None)
    (word_bytes word) tx e in
    let (test, same) = cond_some (nat_le 1 (length bytes) && nat_le (length bytes) max_tx_len) bytes tx fits in
    let parts = and_parts (nat_le 1 (length bytes)) (nat_le (length bytes) max_tx_len) test in
    let spelled = bytes_of-sound word bytes read in
    let is : IsTx bytes = record {
      some = leb-true 1 (length bytes) parts.0;
      short = leb-true (length bytes) max_tx_len parts.1;
      bytes =
          spelled.1;
    } in
    (spelled.0 ∙ ap bytes_text same, subst IsTx same is)

tx_of-again : (tx : List ℕ) → IsTx tx → tx_of (bytes_text tx) ≡ Some tx
unfolding tx_of
tx_of-again tx is =
    let some : nat_le 1 (length tx) ≡ true = grind (arith, nat_tests, is.some) in
    let short : nat_le (length tx) max_tx_len ≡ true = grind (arith, nat_tests, is.short) in
    rw (bytes_of-again tx is.bytes, some, short) refl

-- a transaction, and those that follow it
followed_parts : (o : Option (List ℕ)) (p : Option Value) (v : Value) → followed o p ≡ Some v
    → (tx : List ℕ) × ((txs : Value) × ((o ≡ Some tx) × ((p ≡ Some txs) × (tx ∷ txs ≡ v))))
followed_parts None p v e = absurd cc
followed_parts (Some tx) None v e = absurd cc
followed_parts (Some tx) (Some txs) v e = (tx, (txs, (refl, (refl, cc))))

-- the transactions of words
txs_of-sound : (words : List (List ℕ)) (v : Value) → txs_of words ≡ Some v → (words ≡ map bytes_text v) × AllByRecursion IsTx v
unfolding txs_of
txs_of-sound [] v e = let same : [] ≡ v = cc in subst (λ (x : Value). ([] ≡ map bytes_text x) × AllByRecursion IsTx x) same (refl, tt)
txs_of-sound (w ∷ words) v e =
    let (tx, (txs, (first, (more, same)))) = followed_parts (tx_of w) (txs_of words) v e in
    let one = tx_of-sound w tx first in
    let others = txs_of-sound words txs more in
    subst (λ (x : Value). (w ∷ words ≡ map bytes_text x) × AllByRecursion IsTx x) same (cc (one.0, others.0), (one.1, others.1))

txs_of-again : (v : Value) → AllByRecursion IsTx v → txs_of (map bytes_text v) ≡ Some v
unfolding txs_of
txs_of-again [] all = refl
txs_of-again (tx ∷ v) (first, all) = rw (tx_of-again tx first, txs_of-again v all) refl

-- what stands before the last byte
last_whole : (c : ℕ) (word front : List ℕ) → without_last c word ≡ Some front → word ≡ front ++ c ∷ []
last_whole c [] front e = absurd cc
last_whole c (b ∷ []) front e =
    let (test, same) = cond_some (b == c) [] front e in
    let equal : b ≡ c = eqb-true b c test in
    subst (λ (f : List ℕ). b ∷ [] ≡ f ++ c ∷ []) same (ap (λ x. x ∷ []) equal)
last_whole c (b ∷ d ∷ more) front e =
    let (f, (read, same)) = map_some (λ f. b ∷ f) (without_last c (d ∷ more)) front e in
    subst (λ (g : List ℕ). b ∷ d ∷ more ≡ g ++ c ∷ []) same (ap (λ r. b ∷ r) (last_whole c (d ∷ more) f read))

-- what follows the first byte
first_whole : (c : ℕ) (word rest : List ℕ) → without_first c word ≡ Some rest → word ≡ c ∷ rest
first_whole c [] rest e = absurd cc
first_whole c (b ∷ more) rest e = let (test, same) = cond_some (b == c) more rest e in let equal : b ≡ c = eqb-true b c test in cc

-- what is in brackets
bracketed-sound : (word inner : List ℕ) → bracketed word ≡ Some inner → word ≡ codes "[" ++ inner ++ codes "]"
unfolding bracketed
bracketed-sound word inner e =
    let (rest, (first, last)) = bind_some (λ rest. without_last 93 rest) (without_first 91 word) inner e in
    first_whole 91 word rest first ∙ ap (λ r. 91 ∷ r) (last_whole 93 rest inner last)

bracketed-again : (inner : List ℕ) → bracketed (codes "[" ++ inner ++ codes "]") ≡ Some inner
unfolding bracketed
bracketed-again inner = without_last-end 93 inner

-- the elements give the list back
join-elements : (inner : List ℕ) → join_with_byte 44 (elements inner) ≡ inner
unfolding elements
join-elements [] = refl
join-elements (b ∷ rest) = join_with_byte-slice_split 44 (b ∷ rest)

-- a list with a byte is parted at commas
elements_some : (inner : List ℕ) → (inner ≡ [] → ⊥) → elements inner ≡ slice_split (λ c. c == 44) inner
unfolding elements
elements_some [] some = absurd (some refl)
elements_some (b ∷ rest) some = refl

-- the text of a transaction has a byte
some_text : (tx : List ℕ) → IsTx tx → bytes_text tx ≡ [] → ⊥
unfolding word_bytes
some_text [] is e = omega (arith, is.some)
some_text (b ∷ tx) is e =
    let read : word_bytes [] ≡ Some (b ∷ tx) = subst (λ (w : List ℕ). word_bytes w ≡ Some (b ∷ tx)) e (bytes_of-again (b ∷ tx) is.bytes) in
    let bad : Some [] ≡ Some (b ∷ tx) = read in cc

-- so has a list that begins with it
some_join : (piece : List ℕ) (more : List (List ℕ)) → (piece ≡ [] → ⊥) → join_with_byte 44 (piece ∷ more) ≡ [] → ⊥
some_join piece [] some e = some e
some_join [] (next ∷ more) some e = some refl
some_join (b ∷ piece) (next ∷ more) some e = cc

-- no comma is in the transactions
lack_commas : (v : Value) → AllByRecursion IsTx v → AllByRecursion (Lacks 44) (map bytes_text v)
lack_commas [] all = tt
lack_commas (tx ∷ v) (first, all) = (Lacks-bytes_text tx first.bytes, lack_commas v all)

-- transactions are parted again
elements-join : (v : Value) → AllByRecursion IsTx v → elements (join_with_byte 44 (map bytes_text v)) ≡ map bytes_text v
unfolding elements
elements-join [] all = refl
elements-join (tx ∷ v) (first, all) =
    elements_some (join_with_byte 44 (bytes_text tx ∷ map bytes_text v)) (some_join (bytes_text tx) (map bytes_text v) (some_text tx first))
    ∙ slice_split-join 44 (bytes_text tx) (map bytes_text v) (Lacks-bytes_text tx first.bytes) (lack_commas v all)

-- a batch
pub batch_of-sound : (version : Version) (word : List ℕ) (v : Value) → batch_of version word ≡ Some v
    → (word ≡ batch_text v) × IsValueIn version v
unfolding batch_of batch_text
batch_of-sound version word v e =
    let (inner, (opened, more)) = bind_some
    (λ inner. option_and_then (λ txs. cond (nat_le (length txs) (batch_limit version)) (Some txs) None) (txs_of (elements inner)))
    (bracketed word) v e in
    let (txs, (read, fits)) = bind_some (λ txs. cond (nat_le (length txs) (batch_limit version)) (Some txs) None)
    (txs_of (elements inner)) v more
    in
    let (test, same) = cond_some (nat_le (length txs) (batch_limit version)) txs v fits in
    let spelled = txs_of-sound (elements inner) txs read in
    let whole : inner ≡ join_with_byte 44 (map bytes_text txs) = sym (join-elements inner) ∙ ap (join_with_byte 44) spelled.0 in
    let is : IsValueIn version txs = record { few = leb-true (length txs) (batch_limit version) test; each = spelled.1 } in
    subst (λ (x : Value). (word ≡ codes "[" ++ join_with_byte 44 (map bytes_text x) ++ codes "]") × IsValueIn version x) same
    (bracketed-sound word inner opened ∙ ap (λ i. codes "[" ++ i ++ codes "]") whole, is)

pub batch_of-again : (version : Version) (v : Value) → IsValueIn version v → batch_of version (batch_text v) ≡ Some v
unfolding batch_of batch_text
batch_of-again version v is =
    let few : nat_le (length v) (batch_limit version) ≡ true = grind (arith, nat_tests, is.few) in
    rw (bracketed-again (join_with_byte 44 (map bytes_text v)), elements-join v is.each, txs_of-again v is.each, few) refl

-- visible pieces joined by a visible byte
visible_join : (pieces : List (List ℕ)) → AllByRecursion IsWord pieces → IsWord (join_with_byte 44 pieces)
visible_join [] all = All-nil IsVisible
visible_join (piece ∷ []) (first, all) = first
visible_join (piece ∷ next ∷ more) (first, all) =
    All-append IsVisible piece (44 ∷ join_with_byte 44 (next ∷ more)) first
    (All-cons IsVisible 44 (join_with_byte 44 (next ∷ more)) (omega arith, omega arith) (visible_join (next ∷ more) all))

visible_txs : (v : Value) → AllByRecursion IsTx v → AllByRecursion IsWord (map bytes_text v)
visible_txs [] all = tt
visible_txs (tx ∷ v) (first, all) = (IsWord-bytes_text tx first.bytes, visible_txs v all)

-- the text of a batch is a word
pub IsWord-batch_text : (version : Version) (v : Value) → IsValueIn version v → IsWord (batch_text v)
unfolding batch_text
IsWord-batch_text version v is =
    All-cons IsVisible 91 (join_with_byte 44 (map bytes_text v) ++ codes "]") (omega arith, omega arith)
    (All-append IsVisible (join_with_byte 44 (map bytes_text v)) (codes "]") (visible_join (map bytes_text v) (visible_txs v is.each))
    (All-cons IsVisible 93 [] (omega arith, omega arith) (All-nil IsVisible)))
