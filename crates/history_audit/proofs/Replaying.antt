-- Histories that are followed one after the other, and the longest list of blocks among them.
use Rattle.ledger_model.specs.Meanings.{Meanings}
use Rattle.std.specs.Prelude.{◌⊎◌}
use Rattle.std.proofs.Common.{◌≡◌, ℕ, ◌+◌, ◌<◌, ◌≤◌, Bool, true, false, List, [], ◌∷◌, length, take, refl, sym, ap, subst, ◌∙◌}
use Rattle.std.proofs.Common.{inl, inr, arith, cond}
use Rattle.std.specs.Prelude.{nat_lt, nat_le, nat_eq, slice_get, ◌*◌, ◌-◌, ◌&&◌, Some, None, Ok, Err}
use Rattle.std.proofs.lemmas.Bool.{cases_Bool, and_parts, eqb-true, eq-eqb, ltb-true}
use Rattle.std.proofs.lemmas.List.{nil_from_length}
use Rattle.replica_core.specs.Facts.{block_at}
use Rattle.std.proofs.lemmas.Option.{same_Some}
use Rattle.ledger_model.specs.declared.config.Config.{Config}
use Rattle.ledger_model.specs.declared.history.History.{History}
use Rattle.ledger_model.specs.Values.{Value}
use Rattle.ledger_model.specs.Commits.{commits_of}
use Rattle.ledger_model.specs.Groups.{history_of}
use Rattle.ledger_model.specs.Rules.{Ring}
use Rattle.ledger_model.specs.Lawful.{Replay}
use Rattle.history_follower.specs.Followers.{StopsAt}
use Rattle.history_audit.proofs.Searching.{found_history, last, is_member}
use Rattle.history_audit.specs.Followed.{FollowsOne, FollowsAll, LongestBelow, IsLongest}
use Rattle.history_audit.specs.declared.fault.AuditFault.{AuditFault}
use Rattle.history_audit.specs.declared.fault.AuditFault.TheVariants as fault
use Rattle.ledger_model.specs.Audits.{are_of_a_quorum, AreReplays, IsFirstBreak, NothingUnsent}
use Rattle.ledger_model.specs.Worlds.{IsLedger}
use Rattle.ledger_laws.proofs.Audits.{audited_histories_have_ledger}
use Rattle.ledger_laws.proofs.UniqueLedgers.{ledger_is_longest}

-- a longer list replaces the one so far
pub longer_one : (old commits : List Value) (n : ℕ) → length old < n → n ≡ length commits
    → commits ≡ cond (nat_lt (length old) (length commits)) commits old
longer_one old commits n less is = ap (λ b. cond b commits old) (sym (test (length old) n (length commits) less is))
  where
    test : (a n b : ℕ) → a < n → n ≡ b → nat_lt a b ≡ true
    test a n b less is = grind (arith)

-- another doesn't
pub longer_none : (old commits : List Value) (n : ℕ) → n ≤ length old → n ≡ length commits
    → old ≡ cond (nat_lt (length old) (length commits)) commits old
longer_none old commits n at_most is = ap (λ b. cond b commits old) (sym (test (length old) n (length commits) at_most is))
  where
    test : (a n b : ℕ) → n ≤ a → n ≡ b → nat_lt a b ≡ false
    test a n b at_most is = grind (arith)

-- before the first
pub longest_first : (meaning : Meanings) (config : Config) (ring : Ring) (histories : List History)
    → LongestBelow meaning config ring histories 0 []
longest_first meaning config ring histories = record {
  replays = λ q m less is. none q less;
  some = inl refl;
  each = λ q m less is. none q less;
}
  where
    none : {X : Type 0} (q : ℕ) → q < 0 → X
    none q less = absurd (grind (arith))

-- a replica without a history
pub longest_without : (meaning : Meanings) (config : Config) (ring : Ring) (histories : List History) (n : ℕ) (blocks : List Value)
    → LongestBelow meaning config ring histories n blocks → history_of histories n ≡ None
    → LongestBelow meaning config ring histories (n + 1) blocks
longest_without meaning config ring histories n blocks below none = record {
  replays = λ q m less is. below.replays q m (lesser q m less is) is;
  some = below.some;
  each = λ q m less is. below.each q m (lesser q m less is) is;
}
  where
    lesser : (q : ℕ) (m : History) → q < n + 1 → history_of histories q ≡ Some m → q < n
    lesser q m less is = elim (cases_Bool (nat_lt q n)) [
      | inl lt ↦ ltb-true q n lt
      | inr same ↦ let e : None ≡ Some m = sym none ∙ ap (history_of histories) (sym (last q n less same)) ∙ is in cc
    ]

-- one history more
module _ (meaning : Meanings) (config : Config) (ring : Ring) (histories : List History) (n : ℕ) (old : List Value) (m : History)
    (below : LongestBelow meaning config ring histories n old) (is : history_of histories n ≡ Some m) where
  of_n : m.replica ≡ n
  of_n = eqb-true m.replica n ((found_history histories n m is).1)

  is_m : (q : ℕ) (k : History) → q ≡ n → history_of histories q ≡ Some k → m ≡ k
  is_m q k same at = same_Some m k (sym is ∙ ap (history_of histories) (sym same) ∙ at)

  by_last : {X : Type 0} (q : ℕ) (k : History) → q < n + 1 → history_of histories q ≡ Some k → (q < n → X) → (q ≡ n → X) → X
  by_last q k less at lesser equal = elim (cases_Bool (nat_lt q n)) [
    | inl lt ↦ lesser (ltb-true q n lt)
    | inr same ↦ equal (last q n less same)
  ]

  -- what the history commits, as the history of n
  commits_n : commits_of config m.replica m.entries ≡ commits_of config n m.entries
  commits_n = ap (λ r. commits_of config r m.entries) of_n

  -- the same of the history of any replica that is n
  commits_k : (q : ℕ) (k : History) → q ≡ n → history_of histories q ≡ Some k → commits_of config m.replica m.entries
      ≡ commits_of config q k.entries
  commits_k q k same at = ap (λ (h : History). commits_of config m.replica h.entries) (is_m q k same at)
      ∙ ap (λ r. commits_of config r k.entries) (of_n ∙ sym same)

  replays_k : (q : ℕ) (k : History) → q ≡ n → history_of histories q ≡ Some k → Replay meaning config ring m.replica m.entries
      → Replay meaning config ring q k.entries
  replays_k q k same at replay = subst (λ r. Replay meaning config ring r k.entries) (of_n ∙ sym same)
      (subst (λ (h : History). Replay meaning config ring m.replica h.entries) (is_m q k same at) replay)

  longer : (b : Bool) (new : List Value) → nat_lt (length old) (length (commits_of config m.replica m.entries)) ≡ b
      → new ≡ cond b (commits_of config m.replica m.entries) old → Replay meaning config ring m.replica m.entries
      → LongestBelow meaning config ring histories (n + 1) new
  longer true new less new_is replay = record {
    replays = λ q k before at. by_last q k before at (λ lt. below.replays q k lt at) (λ same. replays_k q k same at replay);
    some = inr (n, (m, (is, new_is ∙ commits_n)));
    each = λ q k before at. by_last q k before at
        (λ lt. under (length (commits_of config q k.entries)) (length old) (length (commits_of config m.replica m.entries)) (length new)
        (below.each q k lt at) (ltb-true (length old) _ less) (ap length new_is))
        (λ same. subst (λ (x : List Value). length x ≤ length new) (new_is ∙ commits_k q k same at) (grind (arith)));
  }
    where
      under : (a b c d : ℕ) → a ≤ b → b < c → d ≡ c → a ≤ d
      under a b c d le lt e = grind (arith)
  longer false new less new_is replay = record {
    replays = λ q k before at. by_last q k before at (λ lt. below.replays q k lt at) (λ same. replays_k q k same at replay);
    some = subst (λ x. (x ≡ []) ⊎ ((r : ℕ) × ((h : History) × ((history_of histories r ≡ Some h) × (x
        ≡ commits_of config r h.entries))))) (sym new_is) below.some;
    each = λ q k before at. subst (λ (x : List Value). length (commits_of config q k.entries) ≤ length x) (sym new_is)
        (by_last q k before at
        (λ lt. below.each q k lt at)
        (λ same. subst (λ (x : List Value). length x ≤ length old) (commits_k q k same at) (under (length old) (length
        (commits_of config m.replica m.entries)) less)));
  }
    where
      under : (a b : ℕ) → nat_lt a b ≡ false → b ≤ a
      under a b less = grind (arith)

  stops : (r i : ℕ) → r ≡ m.replica → StopsAt meaning config ring m.replica m.entries i → IsFirstBreak meaning config ring histories r i
  stops r i same stop =
      let r_n : n ≡ r = sym (same ∙ of_n) in
      subst (λ x. IsFirstBreak meaning config ring histories x i) r_n (record {
        breaks = record {
          history = m;
          of = is;
          inside = stop.inside;
          before = subst (λ x. Replay meaning config ring x (take i m.entries)) of_n stop.before;
          broken = λ whole. stop.broken (subst (λ x. Replay meaning config ring x (take (i + 1) m.entries)) (sym of_n) whole);
        };
        least = λ q k less at. below.replays q k less at;
      })

  -- the history is a replay
  pub follows_one : (u : Unit {0}) (new : List Value) → FollowsOne meaning config ring m old (Ok u) new
      → LongestBelow meaning config ring histories (n + 1) new
  follows_one u new followed =
      longer (nat_lt (length old) (length (commits_of config m.replica m.entries))) new refl (followed.1) (followed.0)

  -- it isn't
  pub stops_all : (found : AuditFault) (new : List Value) → FollowsOne meaning config ring m old (Err found) new
      → FollowsAll meaning config ring histories (Err found)
  stops_all (fault.NotReplay r i) new followed = stops r i (followed.0) (followed.1)
  stops_all fault.NoMemory new followed = followed
  stops_all fault.Count new followed = followed
  stops_all (fault.Unsent reader i signer) new followed = followed

-- a history that is found is of a replica of the cluster
pub member_of : (config : Config) (histories : List History) (n : ℕ) (m : History) → are_of_a_quorum config histories ≡ true
    → history_of histories n ≡ Some m → m.replica < config.replicas
member_of config histories n m count is =
    subst (λ r. r < config.replicas) (sym (eqb-true m.replica n ((found_history histories n m is).1)))
    (is_member config histories n m count is)

-- some history was handed in, and none of them commits more than nothing
some_empty : (config : Config) (histories : List History) → are_of_a_quorum config histories ≡ true
    → ((r : ℕ) (m : History) → history_of histories r ≡ Some m → length (commits_of config r m.entries) ≤ 0)
    → (r : ℕ) × ((m : History) × ((history_of histories r ≡ Some m) × ([] ≡ commits_of config r m.entries)))
some_empty config [] count none =
    let parts = and_parts (nat_le config.replicas (0 + config.faults) && true) true count in
    let few = and_parts (nat_le config.replicas (0 + config.faults)) true (parts.0) in
    absurd (too_few config.replicas config.faults config.enough (few.0))
  where
    too_few : (n t : ℕ) → 3 * t + 1 ≤ n → nat_le n (0 + t) ≡ true → ⊥
    too_few n t enough few = grind (arith)
some_empty config (m ∷ ms) count none =
    let is : history_of (m ∷ ms) m.replica ≡ Some m = ap (λ b. cond b (Some m) (history_of ms m.replica))
    (eq-eqb m.replica m.replica refl) in (
      m.replica,
      (
        m,
        (
          is,
          sym (nil_from_length (commits_of config m.replica m.entries) (zero_of (length
              (commits_of config m.replica m.entries)) (none m.replica m is))),
        ),
      ),
    )
  where
    zero_of : (n : ℕ) → n ≤ 0 → n ≡ 0
    zero_of n le = grind (arith)

-- the committed batch of the height after i heights
pub block_at-next : (commits : List Value) (i : ℕ) → block_at commits (i + 1) ≡ slice_get commits i
block_at-next commits i =
    ap (λ b. cond b None (slice_get commits (i + 1 - 1))) (not_zero i) ∙ ap (slice_get commits) (one_less i)
  where
    not_zero : (n : ℕ) → nat_eq (n + 1) 0 ≡ false
    not_zero n = grind (arith)

    one_less : (n : ℕ) → n + 1 - 1 ≡ n
    one_less n = grind (arith)

-- at the end
pub longest_of_all : (meaning : Meanings) (config : Config) (ring : Ring) (histories : List History) (n : ℕ) (blocks : List Value)
    → are_of_a_quorum config histories ≡ true → config.replicas ≤ n → LongestBelow meaning config ring histories n blocks
    → AreReplays meaning config ring histories × IsLongest config histories blocks
longest_of_all meaning config ring histories n blocks count all below = (
  λ r m is. below.replays r m (member r m is) is,
  record {
    some = elim below.some [
      | inl none ↦ subst (λ (x : List Value). (r : ℕ) × ((h : History) × ((history_of histories r ≡ Some h) × (x
          ≡ commits_of config r h.entries)))) (sym none)
          (some_empty config histories count (λ r m is. subst (λ (x : List Value). length (commits_of config r m.entries) ≤ length x) none
          (below.each r m (member r m is) is)))
      | inr one ↦ one
    ];
    each = λ r m is. below.each r m (member r m is) is;
  },
)
  where
    under : (a b c : ℕ) → a < b → b ≤ c → a < c
    under a b c less le = grind (arith)

    member : (r : ℕ) (m : History) → history_of histories r ≡ Some m → r < n
    member r m is = under r config.replicas n (is_member config histories r m count is) all

-- the longest list is the ledger
pub ledger_of : (meaning : Meanings) (config : Config) (ring : Ring) (histories : List History) (blocks : List Value)
    → are_of_a_quorum config histories ≡ true
    → AreReplays meaning config ring histories → NothingUnsent histories → IsLongest config histories blocks
    → IsLedger meaning config histories blocks
ledger_of meaning config ring histories blocks count replays sent longest =
    let ledger = audited_histories_have_ledger meaning config ring histories count replays sent in
    let r = longest.some.0 in
    let m = longest.some.1.0 in
    let of : history_of histories r ≡ Some m = longest.some.1.1.0 in
    let blocks_are : blocks ≡ commits_of config r m.entries = longest.some.1.1.1 in
    let same : ledger.0 ≡ commits_of config r m.entries =
    ledger_is_longest meaning config histories (ledger.0) r m (ledger.1) of
    (λ q n is. subst (λ (x : List Value). length (commits_of config q n.entries) ≤ length x) blocks_are (longest.each q n is)) in
    subst (IsLedger meaning config histories) (same ∙ sym blocks_are) (ledger.1)
