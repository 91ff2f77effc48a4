-- Histories that no ledger explains.
use Rattle.ledger_model.specs.Kinds.{meaning_of}
use Rattle.std.proofs.Common.{◌≡◌, ℕ, zero, suc, ◌+◌, true, false, inl, inr, List, [], ◌∷◌, ◌++◌, length, take, refl, sym, ap, subst, ◌∙◌}
use Rattle.std.proofs.Common.{arith}
use Rattle.std.proofs.lemmas.Bool.{cases_Bool, eqb-true}
use Rattle.std.specs.Prelude.{nat_eq, Some, Result, is_some, slice_get}
use Rattle.std.proofs.lemmas.Option.{same_Some}
use Rattle.ledger_model.specs.declared.config.AppKind.TheVariants.{KvStore}
use Rattle.ledger_model.specs.declared.history.History.{History}
use Rattle.ledger_model.specs.declared.reply.QueryAnswer.{QueryAnswer}
use Rattle.ledger_model.specs.declared.reply.NotHeld.{NotHeld}
use Rattle.ledger_model.specs.declared.reply.BlockResult.{BlockResult}
use Rattle.ledger_model.specs.Values.{Value, same_value}
use Rattle.ledger_model.specs.Commits.{commits_of, floor_of, propose_reply, retire_reply}
use Rattle.ledger_model.specs.Replies.{block_reply, query_reply}
use Rattle.ledger_model.specs.Groups.{history_of, is_correct, log_in, AllProposed}
use Rattle.ledger_model.specs.Notes.{initial_of}
use Rattle.ledger_model.specs.declared.history.Entry.{Entry}
use Rattle.ledger_model.specs.Locks.{decided_of, held_values, holds}
use Rattle.ledger_model.specs.Logs.{log_of, log_after, notes_of, statements_made, statements_sent, own_ack}
use Rattle.ledger_model.specs.Spelling.{statement_bytes, body_bytes, frame_bytes}
use Rattle.ledger_model.specs.Reading.{reading_in, body_reading, statement_at, report_at, lock_at, ack_at, proof_at, signed_at, place_at}
use Rattle.ledger_model.specs.Reading.{positive_at, flag_at, value_at, txs_at, tx_at, list_at, values_at, signature_at}
use Rattle.ledger_model.specs.Timelines.{AreReplicas}
use Rattle.ledger_model.specs.Worlds.{World, world_at, Refines, Begins, IsReplyOn, IsLedger}
use Rattle.ledger_laws.specs.Examples.{four, a, b}
use Rattle.ledger_laws.specs.Vacuity.{NoLedger, NoRunWithoutLedger, NoRunThatRewrites, forked, forked_world}
use Rattle.ledger_laws.specs.Vacuity.{ForkHasNoLedger, ForkExample, WrongBlockHasNoLedger, WrongQueryHasNoLedger, WrongCodeHasNoLedger, TakenRefusalHasNoLedger}
use Rattle.ledger_laws.specs.Vacuity.{UnproposedBatchHasNoLedger, UnproposedBatchExample, AgreementHasLedger, proposes, commits, runs_block}
use Rattle.ledger_laws.specs.Vacuity.{answers_query, rejects, takes, first_result, three, FloorExample}
use Rattle.ledger_laws.proofs.Backing.{correct_at}
use Rattle.ledger_laws.proofs.WorldRuns.{runs_refine}
use Rattle.ledger_laws.proofs.Ledgers.{begins_get, get_lt}
use Rattle.ledger_laws.proofs.UniqueLedgers.{ledger_is_unique}

-- what a correct replica committed is at the same place of the ledger
committed_in : (xs ledger : List Value) (i : ℕ) (v : Value) → Begins xs ledger → slice_get xs i ≡ Some v → slice_get ledger i ≡ Some v
committed_in xs ledger i v begins at = begins_get xs ledger i begins (get_lt xs i v at) ∙ at

pub fork_has_no_ledger : ForkHasNoLedger
fork_has_no_ledger meaning config histories r q i m n v w found_m found_n at_v at_w differ ledger is =
    let of_r = committed_in (commits_of config r m.entries) ledger i v (is.each r m found_m) at_v in
    let of_q = committed_in (commits_of config q n.entries) ledger i w (is.each q n found_n) at_w in
    differ (same_Some v w (sym of_r ∙ of_q))

pub unproposed_batch_has_no_ledger : UnproposedBatchHasNoLedger
unproposed_batch_has_no_ledger meaning config histories r h m v w found at_w proposed differ ledger is =
    differ (is.common h v w proposed (committed_in (commits_of config r m.entries) ledger h w (is.each r m found) at_w))

-- ---- what the histories commit

commits_a : (result : BlockResult) → commits_of (four KvStore) 1 (commits a a result) ≡ a ∷ []
unfolding commits_of decided_of log_of log_after notes_of statements_made statements_sent own_ack held_values holds statement_bytes
    body_bytes frame_bytes reading_in body_reading statement_at report_at lock_at ack_at proof_at signed_at place_at positive_at flag_at
    value_at txs_at tx_at list_at values_at signature_at
commits_a result = refl

commits_b : (result : BlockResult) → commits_of (four KvStore) 2 (commits b b result) ≡ b ∷ []
unfolding commits_of decided_of log_of log_after notes_of statements_made statements_sent own_ack held_values holds statement_bytes
    body_bytes frame_bytes reading_in body_reading statement_at report_at lock_at ack_at proof_at signed_at place_at positive_at flag_at
    value_at txs_at tx_at list_at values_at signature_at
commits_b result = refl

commits_other : (result : BlockResult) → commits_of (four KvStore) 1 (commits a b result) ≡ b ∷ []
unfolding commits_of decided_of log_of log_after notes_of statements_made statements_sent own_ack held_values holds statement_bytes
    body_bytes frame_bytes reading_in body_reading statement_at report_at lock_at ack_at proof_at signed_at place_at positive_at flag_at
    value_at txs_at tx_at list_at values_at signature_at
commits_other result = refl

differ : a ≡ b → ⊥
differ e = let apart : true ≡ false = ap (same_value a) e in cc

-- ---- the three replicas

-- a replica among the three
pub data ReplicaOfThree (r : ℕ) : Type 0 where
  Is_0 : 0 ≡ r → ReplicaOfThree r
  Is_1 : 1 ≡ r → ReplicaOfThree r
  Is_2 : 2 ≡ r → ReplicaOfThree r

pub replica_of_three : (of_0 of_1 of_2 : List Entry) (r : ℕ) → is_correct (three of_0 of_1 of_2) r ≡ true → ReplicaOfThree r
replica_of_three of_0 of_1 of_2 r is =
    elim (cases_Bool (nat_eq 0 r)) [
      | inl at_0 ↦ Is_0 (eqb-true 0 r at_0)
      | inr not_0 ↦ elim (cases_Bool (nat_eq 1 r)) [
        | inl at_1 ↦ Is_1 (eqb-true 1 r at_1)
        | inr not_1 ↦ elim (cases_Bool (nat_eq 2 r)) [
          | inl at_2 ↦ Is_2 (eqb-true 2 r at_2)
          | inr not_2 ↦ absurd (let none : false ≡ true = simp (not_0, not_1, not_2) at is in cc)
        ]
      ]
    ]

-- what is true of each of the three histories is true of any of them
pub each_of_three : (of_0 of_1 of_2 : List Entry) (P : ℕ → History → Type 0) → P 0 (record { replica = 0; entries = of_0 })
    → P 1 (record { replica = 1; entries = of_1 }) → P 2 (record { replica = 2; entries = of_2 })
    → (r : ℕ) (m : History) → history_of (three of_0 of_1 of_2) r ≡ Some m → P r m
each_of_three of_0 of_1 of_2 P at_0 at_1 at_2 r m found =
    let histories : List History = three of_0 of_1 of_2 in
    elim (replica_of_three of_0 of_1 of_2 r (ap is_some found)) [
      | Is_0 at ↦ subst (λ x. P x m) at (subst (P 0) (same_Some _ m (subst (λ x. history_of histories x ≡ Some m) (sym at) found)) at_0)
      | Is_1 at ↦ subst (λ x. P x m) at (subst (P 1) (same_Some _ m (subst (λ x. history_of histories x ≡ Some m) (sym at) found)) at_1)
      | Is_2 at ↦ subst (λ x. P x m) at (subst (P 2) (same_Some _ m (subst (λ x. history_of histories x ≡ Some m) (sym at) found)) at_2)
    ]

-- ---- runs

pub no_run_without_ledger : NoRunWithoutLedger
no_run_without_ledger meaning config w now none refines =
    none (refines.ledger (length w.order))
    (subst (λ (v : World). IsLedger meaning config v.histories (refines.ledger (length w.order))) now
    (refines.is_ledger (length w.order) (omega arith)))

pub no_run_that_rewrites : NoRunThatRewrites
no_run_that_rewrites meaning config w n ledger later lt is_now is_later rewrites refines =
    let now : refines.ledger n ≡ ledger =
    ledger_is_unique meaning config (world_at w n).histories (refines.ledger n) ledger (refines.is_ledger n (omega (arith, lt))) is_now in
    let next : refines.ledger (n + 1) ≡ later =
    ledger_is_unique meaning config (world_at w (n + 1)).histories (refines.ledger (n + 1)) later
    (refines.is_ledger (n + 1) (omega (arith, lt))) is_later in
    rewrites (subst (Begins ledger) next (subst (λ vs. Begins vs (refines.ledger (n + 1))) now (refines.grows n lt)))

fork_has_none : NoLedger meaning_of (four KvStore) forked
fork_has_none =
    fork_has_no_ledger meaning_of (four KvStore) forked 1 2 0 (record { replica = 1; entries = commits a a (first_result a) })
    (record { replica = 2; entries = commits b b (first_result b) }) a b refl refl
    (ap (λ vs. slice_get vs 0) (commits_a (first_result a))) (ap (λ vs. slice_get vs 0) (commits_b (first_result b))) differ

fork_is_no_run : Refines meaning_of (four KvStore) forked_world → ⊥
unfolding world_at
fork_is_no_run refines = no_run_without_ledger meaning_of (four KvStore) forked_world refl fork_has_none refines

three_replicas : AreReplicas (four KvStore) (0 ∷ 1 ∷ 2 ∷ [])
three_replicas = record {
  below = λ r is. elim (replica_of_three [] [] [] r (correct_at (0 ∷ 1 ∷ 2 ∷ []) [] r ∙ is)) [
    | Is_0 at ↦ omega (arith, at)
    | Is_1 at ↦
        omega (arith, at)
    | Is_2 at ↦ omega (arith, at)
  ];
  enough = omega arith;
}

pub fork_example : ForkExample
fork_example = (
  commits_a (first_result a),
  commits_b (first_result b),
  fork_has_none,
  fork_is_no_run,
  λ ring steps answers runs unforged. fork_is_no_run
      (runs_refine meaning_of (four KvStore) ring (0 ∷ 1 ∷ 2 ∷ []) steps answers forked_world three_replicas runs unforged),
)

-- ---- replies

pub wrong_block_has_no_ledger : WrongBlockHasNoLedger
unfolding commits_of
wrong_block_has_no_ledger result wrong ledger is =
    let ran = is.replies 1 8 (record { replica = 1; entries = commits a a result }) (runs_block result) refl refl in
    let there : slice_get ledger 0 ≡ Some a =
    committed_in (commits_of (four KvStore) 1 (commits a a result)) ledger 0 a
    (is.each 1 (record { replica = 1; entries = commits a a result }) refl) (ap (λ vs. slice_get vs 0) (commits_a result)) in
    let same : ran.0 ≡ a = same_Some (ran.0) a (sym (ran.1) ∙ there) in
    wrong (ran.2 ∙ ap (block_reply meaning_of KvStore []) same)

pub wrong_query_has_no_ledger : WrongQueryHasNoLedger
unfolding commits_of decided_of log_of log_after notes_of statements_made statements_sent own_ack held_values holds statement_bytes
    body_bytes frame_bytes reading_in body_reading statement_at report_at lock_at ack_at proof_at signed_at place_at positive_at flag_at
    value_at txs_at tx_at list_at values_at signature_at
wrong_query_has_no_ledger key given wrong ledger is =
    let m : History = record { replica = 1; entries = commits a a (first_result a) ++ answers_query key given ∷ [] } in
    let on : given ≡ query_reply meaning_of KvStore (take 1 ledger) key 0 = is.replies 1 9 m (answers_query key given) refl refl in
    let begins : take 1 ledger ≡ a ∷ [] = is.each 1 m refl in
    wrong (on ∙ ap (λ vs. query_reply meaning_of KvStore vs key 0) begins)

pub wrong_code_has_no_ledger : WrongCodeHasNoLedger
unfolding commits_of
wrong_code_has_no_ledger meaning config tx code wrong ledger is =
    wrong (is.replies 2 0 (record { replica = 2; entries = rejects tx code ∷ [] }) (rejects tx code) refl refl).0

pub taken_refusal_has_no_ledger : TakenRefusalHasNoLedger
unfolding commits_of
taken_refusal_has_no_ledger meaning config tx wrong ledger is =
    wrong (is.replies 2 0 (record { replica = 2; entries = takes tx ∷ [] }) (takes tx) refl refl)

-- ---- another value than the common proposal

pub unproposed_batch_example : UnproposedBatchExample
unfolding log_of log_after notes_of
unproposed_batch_example = (
  commits_other (first_result b),
  unproposed_batch_has_no_ledger meaning_of (four KvStore) _ 1 0 (record { replica = 1; entries = commits a b (first_result b) }) a b refl
      (ap (λ vs. slice_get vs 0) (commits_other (first_result b))) proposed (λ e. differ (sym e)),
)
  where
    histories : List History
    histories = three (proposes a ∷ []) (commits a b (first_result b)) (proposes a ∷ [])

    proposed : AllProposed (four KvStore) histories 1 a
    proposed r w is began = elim (replica_of_three _ _ _ r is) [
      | Is_0 at ↦ sym (same_Some a w (subst (λ x. initial_of (log_in (four KvStore) histories 1 x) ≡ Some w) (sym at) began))
      | Is_1 at ↦ sym (same_Some a w (subst (λ x. initial_of (log_in (four KvStore) histories 1 x) ≡ Some w) (sym at) began))
      | Is_2 at ↦ sym (same_Some a w (subst (λ x. initial_of (log_in (four KvStore) histories 1 x) ≡ Some w) (sym at) began))
    ]

-- ---- without a fault

commits_too : (result : BlockResult) → commits_of (four KvStore) 2 (commits a a result) ≡ a ∷ []
unfolding commits_of decided_of log_of log_after notes_of statements_made statements_sent own_ack held_values holds statement_bytes
    body_bytes frame_bytes reading_in body_reading statement_at report_at lock_at ack_at proof_at signed_at place_at positive_at flag_at
    value_at txs_at tx_at list_at values_at signature_at
commits_too result = refl

commits_asked : (key : List ℕ) (given : Result QueryAnswer NotHeld)
    → commits_of (four KvStore) 1 (commits a a (first_result a) ++ answers_query key given ∷ []) ≡ a ∷ []
unfolding commits_of decided_of log_of log_after notes_of statements_made statements_sent own_ack held_values holds statement_bytes
    body_bytes frame_bytes reading_in body_reading statement_at report_at lock_at ack_at proof_at signed_at place_at positive_at flag_at
    value_at txs_at tx_at list_at values_at signature_at
commits_asked key given = refl

module _ (key : List ℕ) where
  abbrev asked : List Entry
  asked = commits a a (first_result a) ++ answers_query key (query_reply meaning_of KvStore (a ∷ []) key 0) ∷ []

  abbrev agreed : List History
  agreed = three [] asked (commits a a (first_result a))

  -- how much was committed before a place
  abbrev committed : ℕ → List Entry → ℕ → ℕ
  committed r entries i = length (commits_of (four KvStore) r (take i entries))

  -- the reply of the entry at a place is that of the application
  same_reply : (r : ℕ) (entries : List Entry) (i : ℕ) (x e : Entry) → Some x ≡ Some e
      → IsReplyOn meaning_of (four KvStore) (a ∷ []) (committed r entries i) x.event x.reply
      → IsReplyOn meaning_of (four KvStore) (a ∷ []) (committed r entries i) e.event e.reply
  same_reply r entries i x e at is =
      subst (λ (y : Entry). IsReplyOn meaning_of (four KvStore) (a ∷ []) (committed r entries i) y.event y.reply) (same_Some x e at) is

  abbrev Replies : ℕ → List Entry → Type 0
  Replies r entries = (i : ℕ) (e : Entry) → slice_get entries i ≡ Some e
      → IsReplyOn meaning_of (four KvStore) (a ∷ []) (committed r entries i) e.event e.reply

  replies_0 : Replies 0 []
  replies_0 i e at = cc

  replies_1 : Replies 1 asked
  unfolding commits_of decided_of log_of log_after notes_of statements_made statements_sent own_ack held_values holds statement_bytes
      body_bytes frame_bytes reading_in body_reading statement_at report_at lock_at ack_at proof_at signed_at place_at positive_at flag_at
      value_at txs_at tx_at list_at values_at signature_at
  replies_1 zero e at = same_reply 1 asked 0 _ e at tt
  replies_1 (suc zero) e at = same_reply 1 asked 1 _ e at tt
  replies_1 (suc (suc zero)) e at = same_reply 1 asked 2 _ e at tt
  replies_1 (suc (suc (suc zero))) e at = same_reply 1 asked 3 _ e at tt
  replies_1 (suc (suc (suc (suc zero)))) e at = same_reply 1 asked 4 _ e at tt
  replies_1 (suc (suc (suc (suc (suc zero))))) e at = same_reply 1 asked 5 _ e at tt
  replies_1 (suc (suc (suc (suc (suc (suc zero)))))) e at = same_reply 1 asked 6 _ e at tt
  replies_1 (suc (suc (suc (suc (suc (suc (suc zero))))))) e at = same_reply 1 asked 7 _ e at tt
  replies_1 (suc (suc (suc (suc (suc (suc (suc (suc zero)))))))) e at = same_reply 1 asked 8 _ e at (a, refl, refl)
  replies_1 (suc (suc (suc (suc (suc (suc (suc (suc (suc zero))))))))) e at = same_reply 1 asked 9 _ e at refl
  replies_1 (suc (suc (suc (suc (suc (suc (suc (suc (suc (suc i)))))))))) e at = cc

  replies_2 : Replies 2 (commits a a (first_result a))
  unfolding commits_of
  replies_2 zero e at = same_reply 2 (commits a a (first_result a)) 0 _ e at tt
  replies_2 (suc zero) e at = same_reply 2 (commits a a (first_result a)) 1 _ e at tt
  replies_2 (suc (suc zero)) e at = same_reply 2 (commits a a (first_result a)) 2 _ e at tt
  replies_2 (suc (suc (suc zero))) e at = same_reply 2 (commits a a (first_result a)) 3 _ e at tt
  replies_2 (suc (suc (suc (suc zero)))) e at = same_reply 2 (commits a a (first_result a)) 4 _ e at tt
  replies_2 (suc (suc (suc (suc (suc zero))))) e at = same_reply 2 (commits a a (first_result a)) 5 _ e at tt
  replies_2 (suc (suc (suc (suc (suc (suc zero)))))) e at = same_reply 2 (commits a a (first_result a)) 6 _ e at tt
  replies_2 (suc (suc (suc (suc (suc (suc (suc zero))))))) e at = same_reply 2 (commits a a (first_result a)) 7 _ e at tt
  replies_2 (suc (suc (suc (suc (suc (suc (suc (suc zero)))))))) e at = same_reply 2 (commits a a (first_result a)) 8 _ e at (a, refl, refl)
  replies_2 (suc (suc (suc (suc (suc (suc (suc (suc (suc i))))))))) e at = cc

  proposed_a : (h : ℕ) (v w : Value) → AllProposed (four KvStore) agreed (h + 1) v → slice_get (a ∷ []) h ≡ Some w → w ≡ v
  unfolding log_of log_after notes_of
  proposed_a zero v w proposed at = sym (same_Some a w at) ∙ proposed 1 a refl refl
  proposed_a (suc h) v w proposed at = cc

  is_agreed : IsLedger meaning_of (four KvStore) agreed (a ∷ [])
  unfolding commits_of
  is_agreed = record {
    some = (1, (record { replica = 1; entries = asked }, (refl, sym (commits_asked key _))));
    each = each_of_three [] asked (commits a a (first_result a)) (λ r m. Begins (commits_of (four KvStore) r m.entries) (a ∷ [])) none
        (subst (λ xs. Begins xs (a ∷ [])) (sym (commits_asked key _)) refl) (subst (λ xs. Begins xs (a ∷ [])) (sym (commits_too _)) refl);
    replies = λ r i m e found.
        each_of_three [] asked (commits a a (first_result a)) (λ r m. Replies r m.entries) replies_0 replies_1 replies_2 r m found i e;
    common = proposed_a;
  }
    where
      none : Begins (commits_of (four KvStore) 0 []) (a ∷ [])
      none = refl

pub agreement_has_ledger : AgreementHasLedger
agreement_has_ledger = is_agreed

-- ---- a floor

pub floor_example : FloorExample
unfolding commits_of floor_of retire_reply propose_reply decided_of log_of log_after notes_of statements_made statements_sent own_ack
    held_values holds statement_bytes body_bytes frame_bytes reading_in body_reading statement_at report_at lock_at ack_at proof_at
    signed_at
    place_at positive_at flag_at value_at txs_at tx_at list_at values_at signature_at
floor_example = (refl, refl, refl, refl, refl, refl)
