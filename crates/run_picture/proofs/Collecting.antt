-- What is collected of a history's entries, one by one.
use Rattle.std.proofs.Common.{◌≡◌, ◌∙◌, ℕ, ◌+◌, ◌<◌, ◌≤◌, List, ◌∷◌, ◌++◌, Bool, true, false, cond, length, get_or, drop, sym, ap, arith}
use Rattle.ledger_model.specs.declared.history.Entry.{Entry}
use Rattle.ledger_model.specs.Lawful.{clock_at, is_opened}
use Rattle.std.proofs.Math.ListN.{drop_of_length-le}
use Rattle.run_picture.specs.declared.part.Part.{Part}
use Rattle.run_picture.specs.declared.picture.Shown.{Shown}
use Rattle.run_picture.specs.Orders.{shown_from, clock_after}
use Rattle.run_picture.specs.Frames.{frames_of_entry, deliveries_of_entry}
use Rattle.run_picture.specs.Facts.{facts_at}
use Rattle.run_picture.specs.Collected.{AddsShown, AddsEntries}
use Rattle.ledger_model.proofs.Items.{drop_item}
use Rattle.run_picture.proofs.Orders.{shown_next, shown_last}

-- what was appended, with what the rest shows, is what all entries show; so is the number of opened rounds
pub record Reaches (part : Part) (r : ℕ) (entries : List Entry) (old now : Shown) (i clock : ℕ) : Type 0 where
  pub within : clock ≤ i
  pub sent : now.sent.items ++ shown_from (frames_of_entry part r) i clock (drop i entries) ≡ old.sent.items ++ shown_from
      (frames_of_entry part r) 0 0 entries
  pub deliveries : now.deliveries.items ++ shown_from (deliveries_of_entry part r) i clock (drop i entries)
      ≡ old.deliveries.items ++ shown_from (deliveries_of_entry part r) 0 0 entries
  pub facts : now.facts.items ++ shown_from (facts_at part r) i clock (drop i entries) ≡ old.facts.items ++ shown_from
      (facts_at part r) 0 0 entries
  pub rounds : clock + clock_at (drop i entries) ≡ clock_at entries

-- the number of rounds with one entry more
clock_next : (clock : ℕ) (e : Entry) (es all : List Entry) → clock + clock_at (e ∷ es) ≡ clock_at all
    → clock_after clock e + clock_at es ≡ clock_at all
clock_next clock e es all before = by (is_opened e.reply) before
  where
    by : (b : Bool) → clock + (clock_at es + cond b 1 0) ≡ clock_at all → cond b (clock + 1) clock + clock_at es ≡ clock_at all
    by true h = omega arith
    by false h = omega arith

pub clock_within : (i clock : ℕ) (e : Entry) → clock ≤ i → clock_after clock e ≤ i + 1
clock_within i clock e h = by (is_opened e.reply)
  where
    by : (b : Bool) → cond b (clock + 1) clock ≤ i + 1
    by true = omega arith
    by false = omega arith

-- one entry more
pub reaches_next : (part : Part) (r : ℕ) (entries : List Entry) (old now next : Shown) (i clock : ℕ) (e : Entry)
    → i < length entries → e ≡ get_or entries i e
    → Reaches part r entries old now i clock
    → AddsShown now next (frames_of_entry part r i clock e) (deliveries_of_entry part r i clock e) (facts_at part r i clock e)
    → Reaches part r entries old next (i + 1) (clock_after clock e)
reaches_next part r entries old now next i clock e inside is before adds = record {
  within = clock_within i clock e before.within;
  sent = shown_next (frames_of_entry part r) now.sent.items next.sent.items old.sent.items i clock entries e inside is before.sent adds.sent;
  deliveries = shown_next (deliveries_of_entry part r) now.deliveries.items next.deliveries.items old.deliveries.items i clock entries e inside is
      before.deliveries adds.deliveries;
  facts = shown_next (facts_at part r) now.facts.items next.facts.items old.facts.items i clock entries e inside is before.facts adds.facts;
  rounds = clock_next clock e (drop (i + 1) entries) entries
      (sym (ap (λ es. clock + clock_at es) (drop_item entries i e inside is)) ∙ before.rounds);
}

-- all entries
pub reaches_all : (part : Part) (r : ℕ) (entries : List Entry) (old now : Shown) (i clock : ℕ) → length entries ≤ i
    → Reaches part r entries old now i clock → AddsEntries part r entries old now
reaches_all part r entries old now i clock over before = record {
  sent = shown_last (frames_of_entry part r) now.sent.items old.sent.items i clock entries over before.sent;
  deliveries = shown_last (deliveries_of_entry part r) now.deliveries.items old.deliveries.items i clock entries over before.deliveries;
  facts = shown_last (facts_at part r) now.facts.items old.facts.items i clock entries over before.facts;
}

-- the number of rounds of all entries
pub all_rounds : (part : Part) (r : ℕ) (entries : List Entry) (old now : Shown) (i clock : ℕ) → length entries ≤ i
    → Reaches part r entries old now i clock → clock ≡ clock_at entries
all_rounds part r entries old now i clock over before =
    let none : clock_at (drop i entries) ≡ 0 = ap clock_at (drop_of_length-le entries over) in
    let rounds : clock + clock_at (drop i entries) ≡ clock_at entries = before.rounds in
    omega arith
