-- Numbers and transactions in their printed form.
use Rattle.ledger_model.specs.Meanings.{Meanings}
use Rattle.std.proofs.Common.{◌≡◌, ◌∙◌, ℕ, ◌-◌, ◌<◌, ◌≤◌, Bool, true, false, cond, List, [], refl, arith, ap, codes, sym, subst}
use Rattle.std.specs.Prelude.{Result, Ok, Err, Some, None, IfOk, IfErr, OnErr, IsErrOf, is_ok, ◌↔◌, ◌==◌}
use Rattle.std.specs.Result.{result_ok}
use Rattle.std.specs.Str.Parse.{digits_value}
use Rattle.std.proofs.lemmas.Bool.{eqb-false}
use Rattle.std.proofs.lemmas.Option.{same_Some}
use Rattle.clap.specs.Words.{Row, Text, first_of}
use Rattle.ledger_model.specs.declared.batch.TxFault.{TxFault}
use Rattle.ledger_model.specs.declared.batch.TxFault.TheVariants as fault
use Rattle.ledger_model.specs.Applications.{Machine, run, transactions_of}
use Rattle.ledger_model.specs.Replies.{check_reply}
use Rattle.ledger_model.specs.declared.config.AppKind.{AppKind}
use Rattle.ledger_model.specs.declared.config.AppKind.TheVariants.{Own, KvStore, Counter, Purse}
use Rattle.lm_ots.specs.Parameters.{bits_of, levels_of}
use Rattle.lm_ots.specs.declared.params.Width.{Width}
use Rattle.lm_ots.specs.declared.params.Width.TheVariants.{W4, W8}
use Rattle.lm_ots.specs.declared.params.TreeHeight.{TreeHeight}
use Rattle.lm_ots.specs.declared.params.TreeHeight.TheVariants.{H5, H10}
use Rattle.abci.specs.Meaning.{ChecksTo, state_after}
use Rattle.ledger_model.specs.Numbers.{kind_of_number}
use Rattle.command_line.specs.Options.{IsNumberWithin, IsWritten}
use Rattle.plain_text.specs.Transactions.{StandsFor}
use Rattle.plain_text.proofs.TransactionLemmas.{stands_once}

-- what is said of every error holds of the one that comes
pub if_err : {A E : Type 0} {P : E → Type 0} (r : Result A E) → ((e : E) → P e) → IfErr r P
if_err (Ok x) h = tt
if_err (Err e) h = h e

-- an option without a text is no number
pub no_text : (rows : List Row) (name : Text) (low high : ℕ) → first_of name rows ≡ None → (n : ℕ) → IsNumberWithin rows name low high n → ⊥
no_text rows name low high none n i = let bad : None ≡ Some i.text = sym none ∙ i.has in absurd cc

-- the same option has one number
pub one_number : (rows : List Row) (name : Text) (low high low2 high2 n m : ℕ) → IsNumberWithin rows name low high n
    → IsNumberWithin rows name low2 high2 m → n ≡ m
one_number rows name low high low2 high2 n m i j =
    let same : i.text ≡ j.text = same_Some i.text j.text (sym i.has ∙ j.has) in
    sym i.number ∙ subst (λ t. digits_value 10 t ≡ m) (sym same) j.number

-- a replica's number that is below one number of replicas is below the other, which is the same
pub same_limit : (rows : List Row) (n m r : ℕ) → IsNumberWithin rows (codes "n") 0 255 n → IsNumberWithin rows (codes "n") 0 255 m
    → IsNumberWithin rows (codes "replica") 0 (n - 1) r → IsNumberWithin rows (codes "replica") 0 (m - 1) r
same_limit rows n m r i j below =
    subst (λ k. IsNumberWithin rows (codes "replica") 0 (k - 1) r) (one_number rows (codes "n") 0 255 0 255 n m i j) below

-- a number is one within other limits if it lies there
pub narrowed : (rows : List Row) (name : Text) (low high low2 high2 n : ℕ) → IsNumberWithin rows name low high n → low2 ≤ n → n ≤ high2
    → IsNumberWithin rows name low2 high2 n
narrowed rows name low high low2 high2 n i least most =
    record { text = i.text; has = i.has; decimal = i.decimal; number = i.number; least = least; most = most }

-- what is so anyway is so where there is an error
pub on_err : {A E X : Type 0} (r : Result A E) → X → OnErr r X
on_err (Ok x) h = tt
on_err (Err e) h = h

-- no value is no number
pub none_some : (n : ℕ) → None ≡ Some n → ⊥
none_some n bad = absurd cc

-- an option that has another number, or none, has not this one
pub not_this : {E : Type 0} (rows : List Row) (name : Text) (low high n : ℕ) (r : Result ℕ E) → IfOk r (λ m. IsNumberWithin rows name low high m)
    → OnErr r ((m : ℕ) → IsNumberWithin rows name low high m → ⊥) → (result_ok r ≡ Some n → ⊥) → IsNumberWithin rows name low high n → ⊥
not_this rows name low high n (Ok m) has none other i = other (ap (λ k. Some k) (one_number rows name low high low high m n has i))
not_this rows name low high n (Err e) has none other i = none n i

-- and no width, or no tree's height, where it is neither of the two
pub no_width : {E : Type 0} (rows : List Row) (r : Result ℕ E) → IfOk r (λ m. IsNumberWithin rows (codes "w") 4 8 m)
    → OnErr r ((m : ℕ) → IsNumberWithin rows (codes "w") 4 8 m → ⊥)
    → (result_ok r ≡ Some 4 → ⊥) → (result_ok r ≡ Some 8 → ⊥) → (w : Width) → IsNumberWithin rows (codes "w") 4 8 (bits_of w) → ⊥
no_width rows r has none four eight W4 i = not_this rows (codes "w") 4 8 4 r has none four i
no_width rows r has none four eight W8 i = not_this rows (codes "w") 4 8 8 r has none eight i

pub no_tree_height : {E : Type 0} (rows : List Row) (r : Result ℕ E) → IfOk r (λ m. IsNumberWithin rows (codes "tree") 5 10 m)
    → OnErr r ((m : ℕ) → IsNumberWithin rows (codes "tree") 5 10 m → ⊥)
    → (result_ok r ≡ Some 5 → ⊥) → (result_ok r ≡ Some 10 → ⊥) → (h : TreeHeight) → IsNumberWithin rows (codes "tree") 5 10 (levels_of h) → ⊥
no_tree_height rows r has none five ten H5 i = not_this rows (codes "tree") 5 10 5 r has none five i
no_tree_height rows r has none five ten H10 i = not_this rows (codes "tree") 5 10 10 r has none ten i

-- bytes of a transaction's length make one
pub is_transaction : (r : Result (List ℕ) TxFault) (n : ℕ) → (IsErrOf r fault.Empty ↔ (n ≡ 0)) → (IsErrOf r fault.TooLong ↔ (64 < n))
    → is_ok r ≡ false → 1 ≤ n → n ≤ 64 → ⊥
is_transaction (Ok tx) n none long bad some few = absurd cc
is_transaction (Err fault.Empty) n none long bad some few = let zero_is : n ≡ 0 = none.0 refl in absurd (omega (arith, zero_is, some))
is_transaction (Err fault.TooLong) n none long bad some few = let over : 64 < n = long.0 refl in absurd (omega (arith, over, few))

-- the same option has one transaction
pub one_transaction : (rows : List Row) (name : Text) (tx tx2 : List ℕ) → IsWritten rows name tx → IsWritten rows name tx2 → tx ≡ tx2
one_transaction rows name tx tx2 i j =
    let same : i.text ≡ j.text = same_Some i.text j.text (sym i.has ∙ j.has) in
    stands_once j.text tx tx2 (subst (λ t. StandsFor t tx) same i.bytes) j.bytes

-- a check in the opening state answers as the application run on no block
pub checked_at_opening : (meaning : Meanings) (m : Machine) (kind : AppKind) (tx : List ℕ) (code : ℕ) → ChecksTo meaning m tx code
    → m ≡ run meaning kind []
    → code ≡ check_reply meaning kind [] tx
unfolding run check_reply
checked_at_opening meaning m kind tx code checked is =
    checked (transactions_of []) (ap (λ (n : Machine). n.committed) is
    ∙ ap (λ k. state_after meaning k (transactions_of [])) (sym (ap (λ (n : Machine). n.kind) is)))
    ∙ ap (λ k. check_reply meaning k [] tx) (ap (λ (n : Machine). n.kind) is)

-- each number from 1 to 3 names an application
pub some_kind : (n : ℕ) → 1 ≤ n → n ≤ 3 → None ≡ kind_of_number n → ⊥
unfolding kind_of_number
some_kind n least most none = by_none (n == 0) refl none
  where
    by_third : (t : Bool) → (n == 1) ≡ false → (n == 2) ≡ false → (n == 3) ≡ t → None ≡ cond t (Some Purse) None → ⊥
    by_third true first second third none = cc
    by_third false first second third none =
        let not_1 = eqb-false n 1 first in
        let not_2 = eqb-false n 2 second in
        let not_3 = eqb-false n 3 third in
        omega (arith, least, most, not_1, not_2, not_3)

    by_second : (t : Bool) → (n == 1) ≡ false → (n == 2) ≡ t → None ≡ cond t (Some Counter) (cond (n == 3) (Some Purse) None) → ⊥
    by_second true first second none = cc
    by_second false first second none = by_third (n == 3) first second refl none

    by_first : (t : Bool) → (n == 1) ≡ t
        → None ≡ cond t (Some KvStore) (cond (n == 2) (Some Counter) (cond (n == 3) (Some Purse) None)) → ⊥
    by_first true first none = cc
    by_first false first none = by_second (n == 2) first refl none

    by_none : (t : Bool) → (n == 0) ≡ t
        → None ≡ cond t (Some Own) (cond (n == 1) (Some KvStore) (cond (n == 2) (Some Counter) (cond (n == 3) (Some Purse) None))) → ⊥
    by_none true zero none = cc
    by_none false zero none = by_first (n == 1) refl none
