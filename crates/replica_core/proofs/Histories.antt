-- A history with one more entry.
use Rattle.ledger_model.specs.Meanings.{Meanings}
use Rattle.std.proofs.Common.{◌≡◌, ℕ, zero, suc, ◌+◌, ◌<◌, ◌≤◌, Bool, true, false, cond, inl, inr, List, [], ◌∷◌, ◌++◌, length, refl, sym}
use Rattle.std.proofs.Common.{ap, subst, ◌∙◌, append_assoc, arith}
use Rattle.std.specs.Prelude.{◌||◌, Option, Some, is_some}
use Rattle.std.specs.List.{list_any, filter_map, cons_option, range_with_len}
use Rattle.std.proofs.Math.Bool.{or-false}
use Rattle.std.proofs.lemmas.Bool.{cases_lt}
use Rattle.ledger_model.specs.declared.config.Config.{Config}
use Rattle.ledger_model.specs.declared.history.Entry.{Entry}
use Rattle.ledger_model.specs.Values.{Value}
use Rattle.ledger_model.specs.Logs.{is_mute, says_mute}
use Rattle.ledger_model.specs.Commits.{executed, is_block, decided_at, commits_of, pool_of, pool_after, pool_step}
use Rattle.ledger_model.specs.Lawful.{clock_at, is_opened}
use Rattle.ledger_model.proofs.Staying.{executed-append, some_value, decision_stays, all_there}
use Rattle.replica_core.specs.Replays.{AreDecided}
use Rattle.std.proofs.lemmas.List.Elements.{filter_map-append}
use Rattle.std.proofs.lemmas.List.Folds.{list_any-append}
use Rattle.ledger_model.proofs.Lists.{range_more}

-- the pool
pub pool_more : (meaning : Meanings) (config : Config) (id : ℕ) (entries : List Entry) (e : Entry)
    → pool_of meaning config id (entries ++ e ∷ [])
    ≡ pool_step meaning config (commits_of config id (entries ++ e ∷ [])) (pool_of meaning config id entries) e.event e.reply
unfolding pool_of pool_after
pool_more meaning config id entries e = more [] [] entries
  where
    more : (front : List Entry) (pool : Value) (xs : List Entry)
        → pool_after meaning config id front pool (xs ++ e ∷ [])
        ≡ pool_step meaning config (commits_of config id (front ++ (xs ++ e ∷ [])))
        (pool_after meaning config id front pool xs) e.event e.reply
    more front pool [] = refl
    more front pool (x ∷ xs) =
        let next : Value = pool_step meaning config (commits_of config id (front ++ x ∷ [])) pool x.event x.reply in
        more (front ++ x ∷ []) next xs
        ∙ ap (λ (es : List Entry). pool_step meaning config (commits_of config id es)
        (pool_after meaning config id (front ++ x ∷ []) next xs) e.event
        e.reply) (append_assoc front (x ∷ []) (xs ++ e ∷ []))

-- the clock
pub clock_more : (entries : List Entry) (e : Entry) → clock_at (entries ++ e ∷ []) ≡ clock_at entries + cond (is_opened e.reply) 1 0
clock_more [] e = refl
clock_more (x ∷ xs) e = let same = clock_more xs e in omega arith

-- muteness
pub mute_more : (entries : List Entry) (e : Entry) → is_mute (entries ++ e ∷ []) ≡ (is_mute entries || says_mute e.reply)
mute_more entries e = list_any-append (λ (x : Entry). says_mute x.reply) entries (e ∷ [])
    ∙ ap (λ b. is_mute entries || b) (or-false (says_mute e.reply))

-- how many blocks were run
pub executed_more : (entries : List Entry) (e : Entry) → executed (entries ++ e ∷ []) ≡ executed entries + cond (is_block e.reply) 1 0
executed_more entries e = let all = executed-append entries (e ∷ []) in omega (arith, all)

-- where both have the same value at each of the numbers, both give the same values
same_values : (D E : ℕ → Option Value) (a n : ℕ) → ((i : ℕ) → a ≤ i → i < a + n → E i ≡ D i)
    → filter_map E (range_with_len a n) ≡ filter_map D (range_with_len a n)
same_values D E a zero same = refl
same_values D E a (suc n) same =
    let first = same a (omega arith) (omega arith) in
    let rest = same_values D E (a + 1) n (λ i low high. same i (omega arith) (omega arith)) in
    ap (λ o. cons_option o (filter_map E (range_with_len (a + 1) n))) first ∙ ap (λ vs. cons_option (D a) vs) rest

module _ (config : Config) (id : ℕ) where
  -- what was decided at a height whose block was run stays
  pub decided_still : (entries : List Entry) (e : Entry) → AreDecided config id entries → (h : ℕ) → 1 ≤ h → h < 1 + executed entries
      → decided_at config id (entries ++ e ∷ []) h ≡ decided_at config id entries h
  decided_still entries e all h low high =
      let v = some_value (decided_at config id entries h) (all h low high) in
      decision_stays config id h entries (e ∷ []) (v.0) (v.1) ∙ sym (v.1)

  -- what is committed where no block is run
  pub commits_stay : (entries : List Entry) (e : Entry) → AreDecided config id entries → is_block e.reply ≡ false
      → commits_of config id (entries ++ e ∷ []) ≡ commits_of config id entries
  unfolding commits_of
  commits_stay entries e all none =
      let same : executed (entries ++ e ∷ []) ≡ executed entries =
      (let more = executed_more entries e ∙ ap (λ b. executed entries + cond b 1 0) none in omega (arith, more)) in
      ap (λ n. filter_map (decided_at config id (entries ++ e ∷ [])) (range_with_len 1 n)) same
      ∙ same_values (decided_at config id entries) (decided_at config id (entries ++ e ∷ [])) 1 (executed entries)
      (λ h low high. decided_still entries e all h low high)

  -- each block that was run was decided, where no block is run
  pub blocks_stay : (entries : List Entry) (e : Entry) → AreDecided config id entries → is_block e.reply ≡ false
      → AreDecided config id (entries ++ e ∷ [])
  blocks_stay entries e all none h low high =
      let same : executed (entries ++ e ∷ []) ≡ executed entries =
      (let more = executed_more entries e ∙ ap (λ b. executed entries + cond b 1 0) none in omega (arith, more)) in
      let bound : h < 1 + executed entries = omega (arith, same, high) in
      ap is_some (decided_still entries e all h low bound) ∙ all h low bound

  -- how many batches are committed
  pub count_commits : (entries : List Entry) → AreDecided config id entries → length (commits_of config id entries) ≡ executed entries
  unfolding commits_of
  count_commits entries all = all_there (decided_at config id entries) 1 (executed entries) all

  module _ (entries : List Entry) (e : Entry) (v : Value) (all : AreDecided config id entries) (block : is_block e.reply ≡ true)
      (decided : decided_at config id entries (executed entries + 1) ≡ Some v) where
    -- how many blocks were run with it
    one_more : executed (entries ++ e ∷ []) ≡ suc (executed entries)
    one_more = let more = executed_more entries e ∙ ap (λ b. executed entries + cond b 1 0) block in omega (arith, more)

    -- what was decided at the next height stays
    still : decided_at config id (entries ++ e ∷ []) (1 + executed entries) ≡ Some v
    still =
        let h : executed entries + 1 ≡ 1 + executed entries = omega arith in
        subst (λ n. decided_at config id (entries ++ e ∷ []) n ≡ Some v) h
        (decision_stays config id (executed entries + 1) entries (e ∷ []) v decided)

    -- what is committed where the block of the next height is run
    pub commits_more : commits_of config id (entries ++ e ∷ []) ≡ commits_of config id entries ++ v ∷ []
    unfolding commits_of
    commits_more =
        let D : ℕ → Option Value = decided_at config id (entries ++ e ∷ []) in
        ap (λ n. filter_map D (range_with_len 1 n)) one_more
        ∙ ap (filter_map D) (range_more 1 (executed entries))
        ∙ filter_map-append D (range_with_len 1 (executed entries)) ((1 + executed entries) ∷ [])
        ∙ ap (λ vs. filter_map D (range_with_len 1 (executed entries)) ++ vs) (ap (λ o. cons_option o []) still)
        ∙ ap (λ vs. vs ++ v ∷ []) (same_values (decided_at config id entries) D 1 (executed entries)
        (λ h low high. decided_still entries e all h low high))

    -- each block that was run was decided then
    pub blocks_more : AreDecided config id (entries ++ e ∷ [])
    blocks_more h low high =
        elim (cases_lt h (1 + executed entries)) [
          | inl before ↦ ap is_some (decided_still entries e all h low before) ∙ all h low before
          | inr new ↦
              let here : 1 + executed entries ≡ h = omega (arith, one_more, new, high) in
              subst (λ n. is_some (decided_at config id (entries ++ e ∷ []) n) ≡ true) here (ap is_some still)
        ]
