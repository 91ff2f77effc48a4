-- The leaves of a history with one more entry, and why it is then mute.
use Rattle.std.proofs.Common.{◌≡◌, ℕ, ◌+◌, ◌-◌, ◌<◌, ◌≤◌, Bool, true, false, ◌||◌, cond, inl, inr, List, [], ◌∷◌, ◌++◌, refl, sym, ap, ◌∙◌}
use Rattle.std.proofs.Common.{append_assoc, arith}
use Rattle.std.specs.Prelude.{nat_eq, Ok, Err}
use Rattle.std.proofs.lemmas.Bool.{cases_Bool}
use Rattle.ledger_model.specs.declared.config.Config.{Config}
use Rattle.ledger_model.specs.declared.history.Entry.{Entry}
use Rattle.ledger_model.specs.declared.reply.Reply.{Reply}
use Rattle.ledger_model.specs.declared.reply.Reply.TheVariants as reply
use Rattle.ledger_model.specs.Rounds.{place_of, release_place}
use Rattle.ledger_model.specs.Logs.{is_mute, says_mute}
use Rattle.ledger_model.specs.Lawful.{clock_at, is_opened}
use Rattle.key_ring.specs.Signers.{SignerView}
use Rattle.replica_core.specs.Steps.{UsesLeaves}
use Rattle.replica_core.specs.Leaves.{signed_count, signed_after, signed_by, due_by, IsExhausted, IsMuteForWant, LeafAccount}
use Rattle.replica_core.proofs.Histories.{mute_more}

-- ---- what is signed

-- by one entry more
pub signed_more : (entries : List Entry) (e : Entry)
    → signed_by (entries ++ e ∷ []) ≡ signed_by entries + signed_count (clock_at entries + 1) e.reply
unfolding signed_after
signed_more entries e = more 0 entries ∙ ap (λ n. signed_after 0 entries + signed_count (n + 1) e.reply) (omega arith)
  where
    more : (clock : ℕ) (xs : List Entry)
        → signed_after clock (xs ++ e ∷ []) ≡ signed_after clock xs + signed_count (clock + clock_at xs + 1) e.reply
    more clock [] = let same = ap (λ n. signed_count (n + 1) e.reply) (the_sum clock) in omega (arith, same)
      where
        the_sum : (n : ℕ) → n ≡ n + 0
        the_sum n = omega arith
    more clock (x ∷ xs) =
        let next : ℕ = clock + cond (is_opened x.reply) 1 0 in
        let rest = more next xs in
        let same : next + clock_at xs ≡ clock + clock_at (x ∷ xs) = omega arith in
        let last = ap (λ n. signed_count (n + 1) e.reply) same in
        omega (arith, rest, last)

-- a step uses a leaf for each
pub uses_signed : (old new : SignerView) (clock : ℕ) (r : Reply) → UsesLeaves old clock r new
    → new.used ≡ old.used + signed_count (clock + 1) r
uses_signed old new clock (reply.RoundEnded (Ok ended)) uses = elim (cases_Bool (nat_eq (place_of (clock + 1)) release_place)) [
  | inl last ↦ (let same = ap (λ (k : SignerView). k.used) (rw last at uses) in rw last (omega (arith, same)))
  | inr early ↦ (let more = ap (λ (k : SignerView). k.used) ((rw early at uses).0) in rw early more)
]
uses_signed old new clock (reply.RoundEnded (Err fault)) uses = let same = ap (λ (k : SignerView). k.used) uses in omega (arith, same)
uses_signed old new clock (reply.Submitted r) uses = let same = ap (λ (k : SignerView). k.used) uses in omega (arith, same)
uses_signed old new clock (reply.Proposed r) uses = let same = ap (λ (k : SignerView). k.used) uses in omega (arith, same)
uses_signed old new clock (reply.Delivered r) uses = let same = ap (λ (k : SignerView). k.used) uses in omega (arith, same)
uses_signed old new clock (reply.Executed r) uses = let same = ap (λ (k : SignerView). k.used) uses in omega (arith, same)
uses_signed old new clock (reply.Queried r) uses = let same = ap (λ (k : SignerView). k.used) uses in omega (arith, same)
uses_signed old new clock (reply.Retired r) uses = let same = ap (λ (k : SignerView). k.used) uses in omega (arith, same)

-- ---- why it is mute

module _ (config : Config) (id leaves : ℕ) where
  -- one that turned mute before is so still
  exhausted_still : (lost : ℕ) (entries : List Entry) (e : Entry) → IsExhausted config id leaves lost entries
      → IsExhausted config id leaves lost (entries ++ e ∷ [])
  exhausted_still lost entries e was = record {
    front = was.front;
    turn = was.turn;
    rest = was.rest ++ e ∷ [];
    split = ap (λ es. es ++ e ∷ []) was.split ∙ append_assoc was.front (was.turn ∷ was.rest) (e ∷ []);
    loud = was.loud;
    mute = was.mute;
    few = was.few;
  }

  -- one that turns mute now has too few leaves left
  mute_now : (wants : Bool) (lost used : ℕ) (entries : List Entry) (e : Entry) → used ≡ lost + signed_by entries → is_mute entries ≡ false
      → is_mute (entries ++ e ∷ []) ≡ wants → (wants ≡ true → leaves < used + due_by config id entries)
      → IsMuteForWant config id leaves lost (entries ++ e ∷ [])
  mute_now wants lost used entries e count loud is few mute =
      let says : says_mute e.reply ≡ true = ap (λ b. b || says_mute e.reply) (sym loud) ∙ sym (mute_more entries e) ∙ mute in
      let lacks = few (sym is ∙ mute) in
      record { front = entries; turn = e; rest = []; split = refl; loud = loud; mute = says; few = omega (arith, lacks, count) }

  -- with one entry more, whose statements take a leaf each, and which is mute where it was or too few leaves were left
  pub account_more : (wants : Bool) (used after : ℕ) (entries : List Entry) (e : Entry) → LeafAccount config id leaves used entries
      → after ≡ used + signed_count (clock_at entries + 1) e.reply → is_mute (entries ++ e ∷ []) ≡ (is_mute entries || wants)
      → (wants ≡ true → leaves < used + due_by config id entries) → LeafAccount config id leaves after (entries ++ e ∷ [])
  account_more wants used after entries e was grown is few =
      let more = signed_more entries e in
      let count = was.count in
      record {
        lost = was.lost;
        count = omega (arith, more, count, grown);
        mute = elim (cases_Bool (is_mute entries)) [
          | inl before ↦ λ mute. exhausted_still was.lost entries e (was.mute before)
          | inr loud ↦ mute_now wants was.lost used entries e was.count loud (is ∙ ap (λ b. b || wants) loud) few
        ];
      }

  -- with more leaves that were lost
  pub mute_still : (lost more : ℕ) (entries : List Entry) → lost ≤ more → IsMuteForWant config id leaves lost entries
      → IsMuteForWant config id leaves more entries
  mute_still lost more entries le is mute =
      let was = is mute in
      let few = was.few in
      record {
        front = was.front;
        turn = was.turn;
        rest = was.rest;
        split = was.split;
        loud = was.loud;
        mute = was.mute;
        few =
            omega (arith, few, le);
      }

  pub account_still : (used after : ℕ) (entries : List Entry) → used ≤ after → LeafAccount config id leaves used entries
      → LeafAccount config id leaves after entries
  account_still used after entries le was =
      let lost = was.lost in
      let count = was.count in
      record {
        lost = was.lost + (after - used);
        count = omega (arith, count, le);
        mute = mute_still was.lost (was.lost + (after - used)) entries (omega arith) was.mute;
      }

  -- before the first entry
  pub account_none : (used : ℕ) → LeafAccount config id leaves used []
  unfolding signed_after
  account_none used = record { lost = used; count = omega arith; mute = λ mute. absurd (cc mute) }

  -- where each leaf that is used took a statement, none was lost
  pub none_lost : (used : ℕ) (entries : List Entry) → LeafAccount config id leaves used entries → used ≡ signed_by entries
      → IsMuteForWant config id leaves 0 entries
  none_lost used entries spends all = let count = spends.count in mute_still spends.lost 0 entries (omega (arith, count, all)) spends.mute
