-- Receipts, and the numbers before their colons.
use Rattle.ledger_model.specs.declared.config.AppKinds.{AppKinds}
use Rattle.ledger_model.specs.Meanings.{Meanings}
use Rattle.std.proofs.Common.{◌≡◌, ◌≢◌, ◌∙◌, ℕ, ◌<◌, ◌^◌, List, ◌∷◌, ◌++◌, length, get_or, true, false, ap, codes, sym, subst, inl, inr}
use Rattle.std.proofs.Common.{arith, Bor}
use Rattle.std.specs.Prelude.{◌⊎◌, ◌==◌, not, Option, Some, None}
use Rattle.std.specs.List.{list_all}
use Rattle.std.specs.Option.{MatchOption}
use Rattle.std.proofs.lemmas.Bool.{and_parts}
use Rattle.std.proofs.lemmas.List.Folds.{list_all_at}
use Rattle.std.proofs.lemmas.Option.{same_Some}
use Rattle.std.proofs.lemmas.Str.Pattern.{IsSplitOnceResult, split_after}
use Rattle.clap.specs.Words.{Row, Text, first_of}
use Rattle.plain_text.specs.Numbers.{is_digit, number_text}
use Rattle.plain_text.proofs.NumberLemmas.{is_decimal-number_text}
use Rattle.cluster_setup.specs.declared.audit_settings.Receipt.{Receipt}
use Rattle.command_line.specs.Faults.{IsRightOf}
use Rattle.command_line.specs.Options.{HasOption, OptionTable, SetsReceipt, WantsMemory}
use Rattle.command_line.specs.Receipts.{SpellsReceipt}
use Rattle.command_line.specs.declared.usage_fault.UsageFault.{UsageFault}
use Rattle.command_line.specs.declared.usage_fault.UsageFault.TheVariants as fault

-- a number has no colon
no_colon : (n i : ℕ) → n < 2 ^ 32 → i < length (number_text n) → get_or (number_text n) i 0 ≢ 0x3a
no_colon n i small within colon =
    let digits : list_all is_digit (number_text n) ≡ true =
    (and_parts (not (length (number_text n) == 0)) (list_all is_digit (number_text n)) (is_decimal-number_text n small)).1 in
    let none : list_all is_digit (number_text n) ≡ false = list_all_at is_digit (number_text n) i 0 within (ap is_digit colon) in
    let bad : true ≡ false = sym digits ∙ none in
    absurd cc

-- a number, a colon and more are cut after the number
pub cut_once : (text rest : Text) (n : ℕ) (r : Option (Bor (List ℕ) × Bor (List ℕ))) → IsSplitOnceResult 0x3a text r → n < 2 ^ 32
    → text ≡ number_text n ++ 0x3a ∷ rest
    → MatchOption r ⊥ (λ x. (x.0.now ≡ number_text n) × (x.1.now ≡ rest))
cut_once text rest n r split small spelled =
    split_after 0x3a text (number_text n) rest r split (omega arith) spelled (λ i within. no_colon n i small within)

-- a receipt that the option sets is one that its value spells
pub set_spelled : (rows : List Row) (text : Text) (r : Option Receipt) → first_of (codes "receipt") rows ≡ Some text → SetsReceipt rows r
    → (receipt : Receipt) × SpellsReceipt text receipt
set_spelled rows text None has sets = let bad : None ≡ Some text = sym sets ∙ has in absurd cc
set_spelled rows text (Some receipt) has (t, (first, spells)) =
    (receipt, subst (λ w. SpellsReceipt w receipt) (same_Some t text (sym first ∙ has)) spells)

-- what is said of a value that spells no receipt is right
pub receipt_right : (kinds : AppKinds) (meaning : Meanings) (given : Option (List ℕ)) (table : OptionTable) (rows : List Row) (word : Bor (List ℕ)) (e : UsageFault)
    → HasOption kinds table (codes "receipt")
    → first_of (codes "receipt") rows ≡ Some word.now
    → ((r : Receipt) → SpellsReceipt word.now r → WantsMemory e) → (e ≡ fault.NoMemory) ⊎ (e ≡ fault.Receipt word)
    → IsRightOf kinds meaning given table rows e
receipt_right kinds meaning given table rows word e has first none (inl memory) = subst (IsRightOf kinds meaning given table rows) (sym memory) tt
receipt_right kinds meaning given table rows word e has first none (inr told) =
    subst (IsRightOf kinds meaning given table rows) (sym told) (has, (first, λ r spells. subst WantsMemory told (none r spells)))
