-- The histories of a cluster by the numbers of its replicas, and the effect of one more entry.
use Rattle.std.proofs.Common.{◌≡◌, ℕ, zero, suc, ◌+◌, ◌<◌, ◌≤◌, ◌⊎◌, inl, inr, Bool, true, false, cond, List, [], ◌∷◌, ◌++◌, length, map}
use Rattle.std.proofs.Common.{take, refl, sym, ap, ◌∙◌, arith, zero-add}
use Rattle.std.specs.Prelude.{nat_eq, Option, Some, None, slice_get, slice_set, slice_index_or, option_map, option_and_then}
use Rattle.std.specs.List.{filter_map}
use Rattle.std.proofs.lemmas.Bool.{ne_eqb, eq-eqb}
use Rattle.ledger_model.specs.declared.history.Entry.{Entry}
use Rattle.ledger_model.specs.declared.history.History.{History}
use Rattle.ledger_model.specs.Groups.{history_of}
use Rattle.ledger_model.specs.Worlds.{entry_added}
use Rattle.locked_replica.specs.States.{StateView}
use Rattle.adversary_net.specs.declared.party.Party.{Party}
use Rattle.adversary_net.specs.declared.party.Party.TheVariants as party
use Rattle.adversary_net.specs.WorldViews.{state_in, history_in, role_of}

-- the histories of the correct replicas among the parties
abbrev pub histories : List (Party StateView) → List History
histories parties = map history_in (filter_map state_in parties)

-- each correct replica has the number of its place, where the first place is that of k
abbrev pub Numbered : ℕ → List (Party StateView) → Type 0
Numbered k parties = (j : ℕ) (s : StateView) → option_and_then state_in (slice_get parties j) ≡ Some s → s.id ≡ k + j

rest_numbered : (k : ℕ) (p : Party StateView) (parties : List (Party StateView)) → Numbered k (p ∷ parties) → Numbered (k + 1) parties
rest_numbered k p parties numbered j s is = let e = numbered (suc j) s is in omega (arith, e)

first_id : (k : ℕ) (s : StateView) (parties : List (Party StateView)) → Numbered k (party.Correct s ∷ parties) → s.id ≡ k
first_id k s parties numbered = let e = numbered 0 s refl in omega (arith, e)

-- a number below the first has no history
none_below : (k r : ℕ) (parties : List (Party StateView)) → Numbered k parties → r < k → history_of (histories parties) r ≡ None
none_below k r [] numbered lt = refl
none_below k r (party.Correct s ∷ parties) numbered lt =
    let id = first_id k s parties numbered in
    let differs : nat_eq s.id r ≡ false = ne_eqb s.id r (λ e. omega (arith, id, e)) in
    rw differs (none_below (k + 1) r parties (rest_numbered k (party.Correct s) parties numbered) (omega arith))
none_below k r (party.Liar keys ∷ parties) numbered lt =
    none_below (k + 1) r parties (rest_numbered k (party.Liar keys) parties numbered) (omega arith)

-- a number has the history of the correct replica at its place, if there is one
history_from : (k j : ℕ) (parties : List (Party StateView)) → Numbered k parties
    → history_of (histories parties) (k + j) ≡ option_map history_in (option_and_then state_in (slice_get parties j))
history_from k j [] numbered = refl
history_from k zero (party.Correct s ∷ parties) numbered =
    let id = first_id k s parties numbered in
    let same : nat_eq s.id (k + 0) ≡ true = eq-eqb s.id (k + 0) (omega (arith, id)) in
    rw same refl
history_from k (suc j) (party.Correct s ∷ parties) numbered =
    let id = first_id k s parties numbered in
    let differs : nat_eq s.id (k + suc j) ≡ false = ne_eqb s.id (k + suc j) (λ e. omega (arith, id, e)) in
    let there : k + suc j ≡ (k + 1) + j = omega arith in
    let rest = history_from (k + 1) j parties (rest_numbered k (party.Correct s) parties numbered) in
    rw differs (ap (history_of (histories parties)) there ∙ rest)
history_from k zero (party.Liar keys ∷ parties) numbered =
    none_below (k + 1) (k + 0) parties (rest_numbered k (party.Liar keys) parties numbered) (omega arith)
history_from k (suc j) (party.Liar keys ∷ parties) numbered =
    let there : k + suc j ≡ (k + 1) + j = omega arith in
    ap (history_of (histories parties)) there ∙ history_from (k + 1) j parties (rest_numbered k (party.Liar keys) parties numbered)

-- a number has the history of the correct replica of that number, if there is one
pub history_at : (parties : List (Party StateView)) (r : ℕ)
    → ((j : ℕ) (s : StateView) → option_and_then state_in (slice_get parties j) ≡ Some s → s.id ≡ j)
    → history_of (histories parties) r ≡ option_map history_in (option_and_then state_in (slice_get parties r))
history_at parties r numbered =
    ap (history_of (histories parties)) (sym (zero-add r)) ∙ history_from 0 r parties (λ j s is. numbered j s is ∙ sym (zero-add j))

-- ---- one replica changes

-- an entry of a number below the first is added to none
none_added : (k r : ℕ) (parties : List (Party StateView)) (e : Entry) → Numbered k parties → r < k
    → map (entry_added r e) (histories parties) ≡ histories parties
none_added k r [] e numbered lt = refl
none_added k r (party.Correct s ∷ parties) e numbered lt =
    let id = first_id k s parties numbered in
    let differs : nat_eq s.id r ≡ false = ne_eqb s.id r (λ e. omega (arith, id, e)) in
    rw differs (ap (λ hs. history_in s ∷ hs)
    (none_added (k + 1) r parties e (rest_numbered k (party.Correct s) parties numbered) (omega arith)))
none_added k r (party.Liar keys ∷ parties) e numbered lt =
    none_added (k + 1) r parties e (rest_numbered k (party.Liar keys) parties numbered) (omega arith)

added_from : (k j : ℕ) (parties : List (Party StateView)) (s new : StateView) (e : Entry) → Numbered k parties
    → slice_get parties j ≡ Some (party.Correct s)
    → new.id ≡ s.id → new.entries ≡ s.entries ++ e ∷ []
    → histories (slice_set parties j (party.Correct new)) ≡ map (entry_added (k + j) e) (histories parties)
added_from k j [] s new e numbered at id entries = cc
added_from k zero (party.Correct x ∷ parties) s new e numbered at id entries =
    let is : x ≡ s = same_state x s at in
    let own = first_id k x parties numbered in
    let same : nat_eq x.id (k + 0) ≡ true = eq-eqb x.id (k + 0) (omega (arith, own)) in
    let first : history_in new ≡ record { replica = x.id; entries = x.entries ++ e ∷ [] } = cc in
    let rest = none_added (k + 1) (k + 0) parties e (rest_numbered k (party.Correct x) parties numbered) (omega arith) in
    rw same (cc)
  where
    same_state : (x s : StateView) → ◌≡◌ {A = Option (Party StateView)} (Some (party.Correct x)) (Some (party.Correct s)) → x ≡ s
    same_state x s e = cc
added_from k (suc j) (party.Correct x ∷ parties) s new e numbered at id entries =
    let own = first_id k x parties numbered in
    let differs : nat_eq x.id (k + suc j) ≡ false = ne_eqb x.id (k + suc j) (λ e. omega (arith, own, e)) in
    let there : k + suc j ≡ (k + 1) + j = omega arith in
    let rest = added_from (k + 1) j parties s new e (rest_numbered k (party.Correct x) parties numbered) at id entries in
    rw differs (ap (λ hs. history_in x ∷ hs) (rest ∙ ap (λ r. map (entry_added r e) (histories parties)) (sym there)))
added_from k zero (party.Liar keys ∷ parties) s new e numbered at id entries = cc
added_from k (suc j) (party.Liar keys ∷ parties) s new e numbered at id entries =
    let there : k + suc j ≡ (k + 1) + j = omega arith in
    added_from (k + 1) j parties s new e (rest_numbered k (party.Liar keys) parties numbered) at id entries
    ∙ ap (λ r. map (entry_added r e) (histories parties)) (sym there)

-- the histories with an entry more at one replica
pub histories_added : (parties : List (Party StateView)) (r : ℕ) (s new : StateView) (e : Entry)
    → ((j : ℕ) (s : StateView) → option_and_then state_in (slice_get parties j) ≡ Some s → s.id ≡ j)
    → slice_get parties r ≡ Some (party.Correct s) → new.id ≡ s.id → new.entries ≡ s.entries ++ e ∷ []
    → histories (slice_set parties r (party.Correct new)) ≡ map (entry_added r e) (histories parties)
histories_added parties r s new e numbered at id entries =
    added_from 0 r parties s new e (λ j s is. numbered j s is ∙ sym (zero-add j)) at id entries
    ∙ ap (λ k. map (entry_added k e) (histories parties)) (zero-add r)

-- the histories where a replica stays as long
pub histories_same : (parties : List (Party StateView)) (r : ℕ) (s new : StateView) → slice_get parties r ≡ Some (party.Correct s)
    → new.id ≡ s.id → new.entries ≡ s.entries
    → histories (slice_set parties r (party.Correct new)) ≡ histories parties
histories_same [] r s new at id entries = cc
histories_same (party.Correct x ∷ parties) zero s new at id entries = cc
histories_same (party.Liar keys ∷ parties) zero s new at id entries = cc
histories_same (party.Correct x ∷ parties) (suc r) s new at id entries =
    ap (λ hs. history_in x ∷ hs) (histories_same parties r s new at id entries)
histories_same (party.Liar keys ∷ parties) (suc r) s new at id entries = histories_same parties r s new at id entries

-- a replica that keeps its secret keeps its role
pub roles_same : (parties : List (Party StateView)) (r : ℕ) (s new : StateView) → slice_get parties r ≡ Some (party.Correct s)
    → new.secret ≡ s.secret
    → map role_of (slice_set parties r (party.Correct new)) ≡ map role_of parties
roles_same [] r s new at secret = cc
roles_same (party.Correct x ∷ parties) zero s new at secret = cc
roles_same (party.Liar keys ∷ parties) zero s new at secret = cc
roles_same (p ∷ parties) (suc r) s new at secret = ap (λ roles. role_of p ∷ roles) (roles_same parties r s new at secret)

-- a party is the one that was put there, or was there
pub set_cases : {X : Type 0} (xs : List X) (r j : ℕ) (x y : X) → slice_get (slice_set xs r x) j ≡ Some y
    → ((j ≡ r) × (x ≡ y)) ⊎ (slice_get xs j ≡ Some y)
set_cases [] r j x y at = inr at
set_cases (z ∷ zs) zero zero x y at = inl (refl, cc)
set_cases (z ∷ zs) zero (suc j) x y at = inr at
set_cases (z ∷ zs) (suc r) zero x y at = inr at
set_cases (z ∷ zs) (suc r) (suc j) x y at =
    elim (set_cases zs r j x y at) [
      | inl here ↦ inl (ap suc here.0, here.1)
      | inr there ↦ inr there
    ]

-- the numbers of the replicas of histories with one entry more
pub added_numbers : (r : ℕ) (e : Entry) (hs : List History)
    → map (λ (m : History). m.replica) (map (entry_added r e) hs) ≡ map (λ (m : History). m.replica) hs
added_numbers r e [] = refl
added_numbers r e (m ∷ hs) =
    let rest = added_numbers r e hs in
    elim (nat_eq m.replica r) as (λ (b : Bool). (let n : History = cond b (record m { entries = m.entries ++ e ∷ [] }) m in n.replica)
    ∷ map (λ (m : History). m.replica) (map (entry_added r e) hs) ≡ m.replica ∷ map (λ (m : History). m.replica) hs) [
      | true ↦ ap (λ ns. m.replica ∷ ns) rest
      | false ↦ ap (λ ns. m.replica ∷ ns) rest
    ]

-- the numbers of the correct replicas are those of their histories
pub numbers_of_histories : (states : List StateView)
    → map (λ (m : History). m.replica) (map history_in states) ≡ map (λ (s : StateView). s.id) states
numbers_of_histories [] = refl
numbers_of_histories (s ∷ states) = ap (λ ns. s.id ∷ ns) (numbers_of_histories states)

-- the histories with those of one party more
pub histories_more : (parties : List (Party StateView)) (p : Party StateView)
    → histories (parties ++ p ∷ []) ≡ histories parties ++ histories (p ∷ [])
histories_more [] p = refl
histories_more (party.Correct s ∷ parties) p = ap (λ hs. history_in s ∷ hs) (histories_more parties p)
histories_more (party.Liar keys ∷ parties) p = histories_more parties p

-- one element more of a list
pub take_next : {X : Type 0} (xs : List X) (i : ℕ) (x : X) → i < length xs → x ≡ slice_index_or xs i x
    → take (i + 1) xs ≡ take i xs ++ x ∷ []
take_next [] i x lt is = absurd (omega arith)
take_next (y ∷ ys) zero x lt is = ap (λ z. z ∷ []) (sym is)
take_next (y ∷ ys) (suc i) x lt is =
    let more : suc i + 1 ≡ suc (i + 1) = omega arith in
    ap (λ k. take k (y ∷ ys)) more ∙ ap (λ l. y ∷ l) (take_next ys i x (omega arith) is)
