-- What a search for unsent statements finds, by the definitions.
use Rattle.std.specs.Prelude.{◌⊎◌}
use Rattle.std.proofs.Common.{◌≡◌, ℕ, ◌+◌, ◌<◌, ◌≤◌, ◌==◌, Bool, true, false, not, ◌&&◌, ◌||◌, cond, arith, inl, inr, List, [], ◌∷◌, ◌++◌}
use Rattle.std.proofs.Common.{length, map, filter, refl, sym, ap, subst, ◌∙◌}
use Rattle.std.proofs.Common.{append_assoc}
use Rattle.std.specs.Prelude.{Ok, Err, nat_eq, nat_lt, nat_le, slice_get, Option, Some, None, is_some, IsTrue}
use Rattle.std.specs.List.{list_any, list_all}
use Rattle.std.proofs.lemmas.Bool.{and_parts, cases_Bool, eqb-true, eq-eqb, ltb-true, le-leb, not-true}
use Rattle.std.proofs.lemmas.List.{append-nil}
use Rattle.std.proofs.lemmas.Option.{same_Some}
use Rattle.ledger_model.specs.declared.config.Config.{Config}
use Rattle.ledger_model.specs.declared.history.Entry.{Entry}
use Rattle.ledger_model.specs.declared.event.Event.{Event}
use Rattle.ledger_model.specs.declared.event.Event.TheVariants as event
use Rattle.ledger_model.specs.declared.reply.Reply.{Reply}
use Rattle.ledger_model.specs.declared.reply.Reply.TheVariants as reply
use Rattle.ledger_model.specs.Reading.{reading}
use Rattle.ledger_model.specs.declared.history.History.{History}
use Rattle.ledger_model.specs.declared.statement.SignedReport.{SignedReport}
use Rattle.ledger_model.specs.declared.statement.SignedStatement.{SignedStatement}
use Rattle.ledger_model.specs.declared.statement.Statement.{Statement}
use Rattle.ledger_model.specs.declared.statement.Statement.TheVariants as statement
use Rattle.ledger_model.specs.Notes.{Has, signer_of}
use Rattle.ledger_model.specs.Pools.{is_among}
use Rattle.ledger_model.specs.Groups.{history_of}
use Rattle.ledger_model.specs.Audits.{all_differ, are_of_a_quorum, own_sent, lacks, statements_in, accepts, is_unsent, unsent_in, IsUnsent}
use Rattle.ledger_model.specs.Audits.{IsFirstUnsent, is_not_after}
use Rattle.ledger_model.proofs.Lists.{has_left, has_right, has_cases, all_has, any_mapped, found_has}
use Rattle.std.proofs.Math.Bool.{or-false}
use Rattle.signed_frames.specs.Lending.{SignedPartView, lent_of, own_part, proof_of}
use Rattle.history_audit.specs.declared.sent_table.SentStatement.{SentStatement}
use Rattle.history_audit.specs.Tables.{is_sent_in, IsTableOf, has_sent, lacks_part}
use Rattle.history_audit.specs.Searches.{IsLeast, with_signer, least_unsent, IsFirstOf, AnswersReader, accepted_frame}

-- ---- one history a replica

-- the numbers of replicas
abbrev pub replicas_of : List History → List ℕ
replicas_of histories = map (λ (m : History). m.replica) histories

-- among the others no history of this replica sends anything
none_sends : (histories : List History) (r : ℕ) (bytes : List ℕ) → list_any (λ y. y == r) (replicas_of histories) ≡ false
    → is_sent_in histories r bytes ≡ false
none_sends [] r bytes none = refl
none_sends (m ∷ ms) r bytes none =
    elim (cases_Bool (nat_eq r m.replica)) [
      | inl is ↦
          let same : m.replica ≡ r = sym (eqb-true r m.replica is) in
          let any : list_any (λ y. y == r) (replicas_of (m ∷ ms)) ≡ true =
          ap (λ b. b || list_any (λ y. y == r) (replicas_of ms)) (eq-eqb m.replica r same) in
          cc
      | inr other ↦ simp other (none_sends ms r bytes (rest (nat_eq m.replica r) (list_any (λ y. y == r) (replicas_of ms)) none))
    ]
  where
    rest : (a b : Bool) → (a || b) ≡ false → b ≡ false
    rest true b none = cc
    rest false b none = none

-- what the replica's own history sends is what the histories of that replica send
pub sent_found : (histories : List History) (r : ℕ) (bytes : List ℕ) (m : History) → all_differ (replicas_of histories) ≡ true
    → history_of histories r ≡ Some m → is_sent_in histories r bytes ≡ is_among (own_sent m.entries) bytes
sent_found [] r bytes m different is = cc
sent_found (x ∷ xs) r bytes m different is =
    let parts = and_parts (not (list_any (λ y. y == x.replica) (replicas_of xs))) (all_differ (replicas_of xs)) different in
    elim (cases_Bool (nat_eq x.replica r)) [
      | inl here ↦
          let same : x.replica ≡ r = eqb-true x.replica r here in
          let found : history_of (x ∷ xs) r ≡ Some x = ap (λ b. cond b (Some x) (history_of xs r)) here in
          let is_m : x ≡ m = same_Some x m (sym found ∙ is) in
          let others : list_any (λ y. y == x.replica) (replicas_of xs) ≡ false = not-true _ (parts.0) in
          let none : is_sent_in xs r bytes ≡ false = none_sends xs r bytes (subst (λ n. list_any (λ y. y == n) (replicas_of xs)
          ≡ false) same others) in
          ap (λ b. (b && is_among (own_sent x.entries) bytes) || is_sent_in xs r bytes) (eq-eqb r x.replica (sym same))
          ∙ ap (λ b. is_among (own_sent x.entries) bytes || b) none
          ∙ or-false (is_among (own_sent x.entries) bytes)
          ∙ ap (λ (n : History). is_among (own_sent n.entries) bytes) is_m
      | inr other ↦
          let found : history_of xs r ≡ Some m = sym (ap (λ b. cond b (Some x) (history_of xs r)) other) ∙ is in
          ap (λ b. (b && is_among (own_sent x.entries) bytes) || is_sent_in xs r bytes) (not_same (x.replica) r other)
          ∙ sent_found xs r bytes m (parts.1) found
    ]
  where
    not_same : (a b : ℕ) → nat_eq a b ≡ false → nat_eq b a ≡ false
    not_same a b other = elim (cases_Bool (nat_eq b a)) [
      | inl is ↦ let e : nat_eq a b ≡ true = eq-eqb a b (sym (eqb-true b a is)) in cc
      | inr apart ↦ apart
    ]

-- the table and the histories tell which part is lacked
pub lacks_by : (histories : List History) (table : List SentStatement) (r : ℕ) (bytes : List ℕ) → IsTableOf histories table
    → all_differ (replicas_of histories) ≡ true → is_some (history_of histories r) ≡ true
    → not (has_sent table r bytes) ≡ lacks (history_of histories r) bytes
lacks_by histories table r bytes is_table different there = by (history_of histories r) refl there
  where
    by : (o : Option History) → history_of histories r ≡ o → is_some o ≡ true → not (has_sent table r bytes) ≡ lacks o bytes
    by None is there = cc
    by (Some m) is there = ap not (is_table r bytes ∙ sent_found histories r bytes m different is)

-- the first history, and the others
pub all_differ_first : (all : List History) (m : History) (ms : List History) → all ≡ m ∷ ms
    → all_differ (replicas_of all) ≡ (not (list_any (λ (n : History). nat_eq n.replica m.replica) ms) && all_differ (replicas_of ms))
all_differ_first all m ms is =
    ap (λ xs. all_differ (replicas_of xs)) is
    ∙ ap (λ b. not b && all_differ (replicas_of ms)) (any_mapped (λ y. nat_eq y m.replica) (λ (n : History). n.replica) ms)

-- ---- the least signer

-- one number more
least_more : (xs : List ℕ) (o : Option ℕ) (x : ℕ) → IsLeast xs o → IsLeast (xs ++ x ∷ []) (with_signer o x)
least_more xs None x none = subst (λ ys. IsLeast (ys ++ x ∷ []) (Some x)) (sym none) (inl refl, λ y has. only x y has)
  where
    only : (x y : ℕ) → Has (x ∷ []) y → x ≤ y
    only x y (inl e) = subst (λ z. x ≤ z) e (grind (arith))
    only x y (inr none) = absurd none
least_more xs (Some y) x least =
    elim (cases_Bool (nat_le y x)) [
      | inl le ↦ simp le (
        has_left xs (x ∷ []) y (least.0),
        λ z has. elim (has_cases xs (x ∷ []) z has) [
          | inl before ↦ least.1 z before
          | inr here ↦ last y x z le here
        ],
      )
      | inr more ↦ simp more (
        has_right xs (x ∷ []) x (inl refl),
        λ z has. elim (has_cases xs (x ∷ []) z has) [
          | inl before ↦ below y x z more (least.1 z before)
          | inr here ↦ only x z here
        ],
      )
    ]
  where
    only : (x y : ℕ) → Has (x ∷ []) y → x ≤ y
    only x y (inl e) = subst (λ z. x ≤ z) e (grind (arith))
    only x y (inr none) = absurd none

    last : (y x z : ℕ) → nat_le y x ≡ true → Has (x ∷ []) z → y ≤ z
    last y x z le (inl e) = subst (λ n. y ≤ n) e (grind (arith))
    last y x z le (inr none) = absurd none

    below : (y x z : ℕ) → nat_le y x ≡ false → y ≤ z → x ≤ z
    below y x z more le = grind (arith)

-- the signers of these parts whose histories lack them
abbrev pub lacking : List History → List SignedPartView → List ℕ
lacking histories parts = map (λ (p : SignedPartView). p.signer) (filter (lacks_part histories) parts)

-- all parts, one after the other
pub least_all : (histories : List History) (xs : List ℕ) (o : Option ℕ) (parts : List SignedPartView) → IsLeast xs o
    → IsLeast (xs ++ lacking histories parts) (least_unsent histories o parts)
least_all histories xs o [] least = subst (λ ys. IsLeast ys o) (sym (append-nil xs)) least
least_all histories xs o (p ∷ ps) least =
    elim (cases_Bool (lacks_part histories p)) [
      | inl lacks ↦ simp lacks (subst (λ ys. IsLeast ys (least_unsent histories (with_signer o p.signer) ps))
          (append_assoc xs (p.signer ∷ []) (lacking histories ps))
          (least_all histories (xs ++ p.signer ∷ []) (with_signer o p.signer) ps (least_more xs o p.signer least)))
      | inr has ↦ simp has (least_all histories xs o ps least)
    ]

-- ---- the parts of a frame, and its statements

-- the reports of a proof
lacking_reports : (histories : List History) (proof : List SignedReport)
    → lacking histories (map lent_of proof) ≡ map signer_of (filter (is_unsent histories) (map (λ p. statement.Report p.report) proof))
lacking_reports histories [] = refl
lacking_reports histories (p ∷ ps) =
    elim (cases_Bool (lacks_part histories (lent_of p))) [
      | inl lacked ↦ simp lacked (ap (λ xs. p.report.signer ∷ xs) (lacking_reports histories ps))
      | inr has ↦ simp has (lacking_reports histories ps)
    ]

-- a frame's parts are its statements
lacking_proof : (histories : List History) (s : Statement) (signature : List ℕ)
    → lacking histories (own_part (record { statement = s; signature = signature }) ∷ map lent_of (proof_of s))
    ≡ map signer_of (filter (is_unsent histories) (statements_in s))
lacking_proof histories (statement.Report r) signature = elim (cases_Bool (is_unsent histories (statement.Report r))) [
  | inl lacked ↦ simp lacked refl
  | inr has ↦ simp has refl
]
lacking_proof histories (statement.Ack a) signature = elim (cases_Bool (is_unsent histories (statement.Ack a))) [
  | inl lacked ↦ simp lacked refl
  | inr has ↦ simp has refl
]
lacking_proof histories (statement.Lock l) signature = elim (cases_Bool (is_unsent histories (statement.Lock l))) [
  | inl lacked ↦ simp lacked (ap (λ xs. l.signer ∷ xs) (lacking_reports histories l.proof))
  | inr has ↦ simp has (lacking_reports histories l.proof)
]

-- the least signer of the parts is the least whose statement is unsent
pub least_in_parts : (histories : List History) (f : SignedStatement)
    → IsLeast (map signer_of (filter (is_unsent histories) (statements_in f.statement)))
    (least_unsent histories None (own_part f ∷ map lent_of (proof_of f.statement)))
least_in_parts histories f =
    let parts = own_part f ∷ map lent_of (proof_of f.statement) in
    subst (λ xs. IsLeast xs (least_unsent histories None parts)) (lacking_proof histories f.statement f.signature)
    (least_all histories [] None parts refl)

-- what an entry accepts, by its frame
abbrev statements_within : Option SignedStatement → List Statement
statements_within None = []
statements_within (Some f) = statements_in f.statement

accepts_is : (e : Event) (r : Reply) → accepts e r ≡ statements_within (accepted_frame e r)
accepts_is (event.Deliver bytes) (reply.Delivered (Ok u)) = by (reading bytes) refl
  where
    by : (o : Option SignedStatement) → reading bytes ≡ o
        → accepts (event.Deliver bytes) (reply.Delivered (Ok u)) ≡ statements_within (reading bytes)
    by None is = rw is refl
    by (Some f) is = rw is refl
accepts_is (event.Deliver bytes) (reply.Delivered (Err c)) = refl
accepts_is (event.Deliver bytes) (reply.Submitted r) = refl
accepts_is (event.Deliver bytes) (reply.Proposed r) = refl
accepts_is (event.Deliver bytes) (reply.RoundEnded r) = refl
accepts_is (event.Deliver bytes) (reply.Executed r) = refl
accepts_is (event.Deliver bytes) (reply.Queried r) = refl
accepts_is (event.Deliver bytes) (reply.Retired r) = refl
accepts_is (event.Submit bytes) _ = refl
accepts_is (event.Propose h) _ = refl
accepts_is event.RoundEnd _ = refl
accepts_is event.Execute _ = refl
accepts_is (event.Query key h) _ = refl
accepts_is (event.Retire floor) _ = refl

pub unsent_none : (histories : List History) (e : Entry) → accepted_frame e.event e.reply ≡ None → unsent_in histories e ≡ []
unfolding unsent_in
unsent_none histories e is =
    ap (λ ss. map signer_of (filter (is_unsent histories) ss)) (accepts_is e.event e.reply ∙ ap statements_within is)

pub unsent_some : (histories : List History) (e : Entry) (f : SignedStatement) → accepted_frame e.event e.reply ≡ Some f
    → IsLeast (unsent_in histories e) (least_unsent histories None (own_part f ∷ map lent_of (proof_of f.statement)))
unfolding unsent_in
unsent_some histories e f is =
    subst (λ ss. IsLeast (map signer_of (filter (is_unsent histories) ss)) (least_unsent histories None (own_part f ∷ map lent_of
    (proof_of f.statement))))
    (sym (accepts_is e.event e.reply ∙ ap statements_within is)) (least_in_parts histories f)

-- ---- a search through all histories

-- a history that is found is among them, and of that replica
pub found_history : (histories : List History) (r : ℕ) (m : History) → history_of histories r ≡ Some m
    → Has histories m × (nat_eq m.replica r ≡ true)
found_history histories r m is = found_has (λ (n : History). nat_eq n.replica r) histories m is

-- a replica that has a history is one of the cluster
pub is_member : (config : Config) (histories : List History) (r : ℕ) (m : History) → are_of_a_quorum config histories ≡ true
    → history_of histories r ≡ Some m → r < config.replicas
is_member config histories r m count is =
    let places = and_parts (nat_le config.replicas (length histories + config.faults) && list_all (λ
    (n : History). nat_lt n.replica config.replicas) histories)
    (all_differ (replicas_of histories)) count in
    let below = and_parts (nat_le config.replicas (length histories + config.faults)) (list_all (λ
    (n : History). nat_lt n.replica config.replicas) histories) (places.0) in
    let found = found_history histories r m is in
    let is_r : m.replica ≡ r = eqb-true m.replica r (found.1) in
    ltb-true r config.replicas (subst (λ x. nat_lt x config.replicas ≡ true) is_r
    (all_has (λ (n : History). nat_lt n.replica config.replicas) histories m (below.1) (found.0)))

-- the first of the lesser replicas, the lesser entries, the lesser signers
pub is_first : (histories : List History) (r i x : ℕ) (m : History) → history_of histories r ≡ Some m
    → ((q j y : ℕ) → q < r → IsUnsent histories q j y → ⊥) → IsFirstOf histories m.entries i x → IsFirstUnsent histories r i x
is_first histories r i x m is before first = record {
  is = record { history = m; of = is; entry = first.entry; at = first.at; unsent = first.is_least.0 };
  least = λ q j y unsent. by q j y (cases_Bool (nat_lt q r)) (cases_Bool (nat_eq r q)) unsent;
}
  where
    between : (a b : ℕ) → nat_lt a b ≡ false → nat_lt b a ≡ false → a ≡ b
    between a b one other = grind (arith)

    entry_is : (j : ℕ) (e f : Entry) → slice_get m.entries j ≡ Some e → slice_get m.entries j ≡ Some f → e ≡ f
    entry_is j e f one other = same_Some e f (sym one ∙ other)

    here : (j y : ℕ) → IsUnsent histories r j y → IsTrue (nat_lt i j || ((i == j) && nat_le x y))
    here j y unsent =
        let same : unsent.history ≡ m = same_Some unsent.history m (sym unsent.of ∙ is) in
        let at : slice_get m.entries j ≡ Some unsent.entry = subst (λ (n : History). slice_get n.entries j
        ≡ Some unsent.entry) same unsent.at in
        elim (cases_Bool (nat_lt i j)) [
          | inl less ↦ simp less refl
          | inr not_less ↦ elim (cases_Bool (nat_lt j i)) [
            | inl earlier ↦ absurd (first.before j y unsent.entry (ltb-true j i earlier) at unsent.unsent)
            | inr not_earlier ↦
                let e : i ≡ j = between i j not_less not_earlier in
                let entry : unsent.entry ≡ first.entry = entry_is j unsent.entry first.entry at (subst (λ k. slice_get m.entries k
                ≡ Some first.entry) e first.at) in
                let le : x ≤ y = first.is_least.1 y (subst (λ z. Has (unsent_in histories z) y) entry unsent.unsent) in
                simp not_less (simp (eq-eqb i j e) (simp (le-leb x y le) refl))
          ]
        ]

    or_right : (a b : Bool) → IsTrue b → IsTrue (a || b)
    or_right true b is = refl
    or_right false b is = is

    above : (a b : ℕ) → nat_lt b a ≡ false → nat_eq a b ≡ false → nat_lt a b ≡ true
    above a b more apart = grind (arith)

    by : (q j y : ℕ) → (nat_lt q r ≡ true) ⊎ (nat_lt q r ≡ false) → (nat_eq r q ≡ true) ⊎ (nat_eq r q ≡ false) → IsUnsent histories q j y
        → IsTrue (is_not_after r i x q j y)
    by q j y (inl less) e unsent = absurd (before q j y (ltb-true q r less) unsent)
    by q j y (inr more) (inl e) unsent =
        let same : r ≡ q = eqb-true r q e in
        simp e (or_right (nat_lt r q) _ (here j y (subst (λ p. IsUnsent histories p j y) (sym same) unsent)))
    by q j y (inr more) (inr apart) unsent = simp (above r q more apart) refl

pub last : (q r : ℕ) → q < r + 1 → nat_lt q r ≡ false → q ≡ r
last q r less same = grind (arith)

-- no lesser replica, and not this one
pub none_more : (histories : List History) (r : ℕ) → ((q j y : ℕ) → q < r → IsUnsent histories q j y → ⊥)
    → AnswersReader histories r None → (q j y : ℕ) → q < r + 1 → IsUnsent histories q j y → ⊥
none_more histories r before sent q j y less unsent =
    elim (cases_Bool (nat_lt q r)) [
      | inl lesser ↦ before q j y (ltb-true q r lesser) unsent
      | inr same ↦ sent unsent.history (ap (history_of histories) (sym (last q r less same))
          ∙ unsent.of) j y unsent.entry unsent.at unsent.unsent
    ]

-- no replica of the cluster
pub none_at_all : (config : Config) (histories : List History) (r : ℕ) → are_of_a_quorum config histories ≡ true → config.replicas ≤ r
    → ((q j y : ℕ) → q < r → IsUnsent histories q j y → ⊥) → (q j y : ℕ) → IsUnsent histories q j y → ⊥
none_at_all config histories r count all before q j y unsent =
    before q j y (under q config.replicas r (is_member config histories q unsent.history count unsent.of) all) unsent
  where
    under : (a b c : ℕ) → a < b → b ≤ c → a < c
    under a b c less le = grind (arith)
