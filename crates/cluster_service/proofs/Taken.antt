-- Histories that were taken of all replicas, by number: they are of a quorum, and each is a replay. So an audit finds neither fault.
use Rattle.ledger_model.specs.Meanings.{Meanings}
use Rattle.std.proofs.Common.{◌≡◌, ℕ, ◌+◌, ◌<◌, ◌≤◌, true, false, not, ◌&&◌, ◌||◌, inl, inr, List, [], ◌∷◌, length, map, suc}
use Rattle.std.proofs.Common.{refl, sym, ap, subst, ◌∙◌, cond, arith}
use Rattle.std.specs.Prelude.{nat_eq, nat_lt, nat_le, Some, Result, Ok, Err}
use Rattle.std.specs.List.{list_any, list_all}
use Rattle.std.proofs.lemmas.Bool.{both_ways, cases_Bool, eqb-true}
use Rattle.std.proofs.lemmas.Option.{same_Some}
use Rattle.ledger_model.specs.declared.config.Config.{Config}
use Rattle.ledger_model.specs.declared.history.History.{History}
use Rattle.ledger_model.specs.Audits.{all_differ, are_of_a_quorum, AreReplays}
use Rattle.ledger_model.specs.Groups.{history_of}
use Rattle.ledger_model.specs.Lawful.{Replay}
use Rattle.ledger_model.specs.Rules.{Ring}
use Rattle.ledger_model.specs.Values.{Value}
use Rattle.ledger_laws.proofs.AuditFindings.{no_break}
use Rattle.history_audit.specs.Findings.{IsFinding}
use Rattle.history_audit.specs.declared.fault.AuditFault.{AuditFault}
use Rattle.history_audit.specs.declared.fault.AuditFault.TheVariants as fault
use Rattle.cluster_service.specs.Reporting.{AreTaken, IsLedgerOrUnsent}

abbrev replicas_of : List History → List ℕ
replicas_of histories = map (λ (m : History). m.replica) histories

apart : (a b : ℕ) → b < a → nat_eq a b ≡ false
apart a b less = grind (arith)

below_sum : (a n k : ℕ) → a + suc k ≤ n → nat_lt a n ≡ true
below_sum a n k most = grind (arith)

enough_of : (n k t : ℕ) → k ≡ n → nat_le n (k + t) ≡ true
enough_of n k t same = grind (arith)

module _ (meaning : Meanings) (config : Config) (ring : Ring) where
  as_many : (first : ℕ) (ms : List History) (hs : List ℕ) → AreTaken meaning config ring first ms hs → length ms ≡ length hs
  as_many first [] [] all = refl
  as_many first (m ∷ ms) (h ∷ hs) all = ap suc (as_many (first + 1) ms hs all.1)
  as_many first [] (h ∷ hs) all = absurd all
  as_many first (m ∷ ms) [] all = absurd all

  -- none is of a replica with a lesser number than the first one's
  none_before : (first : ℕ) (ms : List History) (hs : List ℕ) (r : ℕ) → AreTaken meaning config ring first ms hs → r < first
      → list_any (λ y. nat_eq y r) (replicas_of ms) ≡ false
  none_before first [] [] r all less = refl
  none_before first (m ∷ ms) (h ∷ hs) r all less =
      let here : nat_eq m.replica r ≡ false = subst (λ x. nat_eq x r ≡ false) (sym all.0.own) (apart first r less) in
      let later : r < first + 1 = omega (arith, less) in
      ap (λ b. b || list_any (λ y. nat_eq y r) (replicas_of ms)) here ∙ none_before (first + 1) ms hs r all.1 later
  none_before first [] (h ∷ hs) r all less = absurd all
  none_before first (m ∷ ms) [] r all less = absurd all

  all_apart : (first : ℕ) (ms : List History) (hs : List ℕ) → AreTaken meaning config ring first ms hs → all_differ (replicas_of ms) ≡ true
  all_apart first [] [] all = refl
  all_apart first (m ∷ ms) (h ∷ hs) all =
      let less : first < first + 1 = omega arith in
      let others : list_any (λ y. nat_eq y m.replica) (replicas_of ms) ≡ false =
      subst (λ x. list_any (λ y. nat_eq y x) (replicas_of ms) ≡ false) (sym all.0.own) (none_before (first + 1) ms hs first all.1 less) in
      ap (λ b. not b && all_differ (replicas_of ms)) others ∙ all_apart (first + 1) ms hs all.1
  all_apart first [] (h ∷ hs) all = absurd all
  all_apart first (m ∷ ms) [] all = absurd all

  all_below : (first : ℕ) (ms : List History) (hs : List ℕ) → AreTaken meaning config ring first ms hs → first + length ms ≤ config.replicas
      → list_all (λ (m : History). nat_lt m.replica config.replicas) ms ≡ true
  all_below first [] [] all most = refl
  all_below first (m ∷ ms) (h ∷ hs) all most =
      let here : nat_lt m.replica config.replicas ≡ true =
      subst (λ x. nat_lt x config.replicas ≡ true) (sym all.0.own) (below_sum first config.replicas (length ms) most) in
      let later : first + 1 + length ms ≤ config.replicas = omega (arith, most) in
      ap (λ b. b && list_all (λ (n : History). nat_lt n.replica config.replicas) ms) here ∙ all_below (first + 1) ms hs all.1 later
  all_below first [] (h ∷ hs) all most = absurd all
  all_below first (m ∷ ms) [] all most = absurd all

  quorum : (ms : List History) (hs : List ℕ) → AreTaken meaning config ring 0 ms hs → length hs ≡ config.replicas
      → are_of_a_quorum config ms ≡ true
  quorum ms hs all each =
      let count : length ms ≡ config.replicas = as_many 0 ms hs all ∙ each in
      let most : 0 + length ms ≤ config.replicas = omega (arith, count) in
      ap (λ b. b && list_all (λ (m : History). nat_lt m.replica config.replicas) ms && all_differ (replicas_of ms))
      (enough_of config.replicas (length ms) config.faults count)
      ∙ ap (λ b. b && all_differ (replicas_of ms)) (all_below 0 ms hs all most)
      ∙ all_apart 0 ms hs all

  replays : (first : ℕ) (ms : List History) (hs : List ℕ) → AreTaken meaning config ring first ms hs → AreReplays meaning config ring ms
  replays first [] [] all r m is = cc
  replays first (x ∷ xs) (h ∷ hs) all r m is = elim (cases_Bool (nat_eq x.replica r)) [
    | inl here ↦
        let found : history_of (x ∷ xs) r ≡ Some x = ap (λ b. cond b (Some x) (history_of xs r)) here in
        let is_m : x ≡ m = same_Some x m (sym found ∙ is) in
        let is_r : first ≡ r = sym all.0.own ∙ eqb-true x.replica r here in
        subst (λ (k : History). Replay meaning config ring r k.entries) is_m
        (subst (λ q. Replay meaning config ring q x.entries) is_r all.0.replay)
    | inr other ↦
        replays (first + 1) xs hs all.1 r m (sym (ap (λ b. cond b (Some x) (history_of xs r)) other) ∙ is)
  ]
  replays first [] (h ∷ hs) all r m is = absurd all
  replays first (x ∷ xs) [] all r m is = absurd all

  -- what an audit finds in the histories of all replicas of a cluster
  pub ledger_or_unsent : (ms : List History) (hs : List ℕ) (finding : Result (List Value) AuditFault) → AreTaken meaning config ring 0 ms hs
      → length hs ≡ config.replicas → IsFinding meaning config ring ms finding → IsLedgerOrUnsent finding
  ledger_or_unsent ms hs (Ok ledger) all each found = tt
  ledger_or_unsent ms hs (Err fault.Count) all each found = absurd (both_ways (are_of_a_quorum config ms) found (quorum ms hs all each))
  ledger_or_unsent ms hs (Err (fault.NotReplay r i)) all each found = no_break meaning config ring ms r i (replays 0 ms hs all) found.1
  ledger_or_unsent ms hs (Err (fault.Unsent reader i signer)) all each found = tt
  ledger_or_unsent ms hs (Err fault.NoMemory) all each found = absurd found
