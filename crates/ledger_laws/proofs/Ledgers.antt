-- The histories of correct replicas, however far each has come, have one ledger.
use Rattle.ledger_model.specs.Meanings.{Meanings}
use Rattle.std.proofs.Common.{◌≡◌, ℕ, zero, suc, ◌+◌, ◌<◌, ◌≤◌, Bool, true, false, not, cond, inl, inr, List, [], ◌∷◌, ◌++◌, length, take}
use Rattle.std.proofs.Common.{refl, sym, ap, subst, ◌∙◌, append_assoc, arith}
use Rattle.std.specs.Prelude.{nat_eq, Option, Some, None, Result, Ok, Err, is_some, slice_get}
use Rattle.std.specs.List.{filter_map, range_with_len}
use Rattle.std.proofs.Math.Dec.{leb, ltb}
use Rattle.std.proofs.lemmas.List.{append-nil, take-take, length-take}
use Rattle.std.proofs.lemmas.Bool.{cases_lt}
use Rattle.std.proofs.lemmas.Option.{same_Some}
use Rattle.ledger_model.specs.declared.config.Config.{Config}
use Rattle.ledger_model.specs.declared.event.Event.{Event}
use Rattle.ledger_model.specs.declared.event.Event.TheVariants as event
use Rattle.ledger_model.specs.declared.reply.Reply.{Reply}
use Rattle.ledger_model.specs.declared.reply.Reply.TheVariants as reply
use Rattle.ledger_model.specs.declared.reply.SubmitRefusal.{SubmitRefusal}
use Rattle.ledger_model.specs.declared.reply.SubmitRefusal.TheVariants as refusal
use Rattle.ledger_model.specs.declared.reply.BlockResult.{BlockResult}
use Rattle.ledger_model.specs.declared.history.Entry.{Entry}
use Rattle.ledger_model.specs.declared.history.History.{History}
use Rattle.ledger_model.specs.Values.{Value}
use Rattle.ledger_model.specs.Rounds.{count_from}
use Rattle.ledger_model.specs.Locks.{decided_of}
use Rattle.ledger_model.specs.Rules.{Ring}
use Rattle.ledger_model.specs.Commits.{executed, decided_at, commits_of, pool_of, is_among, first_fault, submit_reply, block_of}
use Rattle.ledger_model.specs.Commits.{execute_reply}
use Rattle.ledger_model.specs.Replies.{block_reply, query_reply, check_reply}
use Rattle.ledger_model.specs.Lawful.{Lawful, FollowsFrom, Follows}
use Rattle.ledger_model.specs.Groups.{history_of, is_correct, log_if, log_in, AreCorrect, ReadsBacked}
use Rattle.ledger_model.specs.Worlds.{Begins, IsReplyOn, IsLedger}
use Rattle.ledger_model.proofs.Counting.{some_of}
use Rattle.ledger_laws.proofs.Proposals.{decided_common}
use Rattle.ledger_model.proofs.Staying.{some_value, executed-append, AllDecided, all_decided, length-commits, decision_stays, commits_grow}
use Rattle.ledger_model.proofs.Staying.{follows_front, begins_range}
use Rattle.ledger_model.proofs.Lists.{get_take}
use Rattle.ledger_laws.proofs.Agreement.{one_decision}

-- of two correct replicas, what the one committed begins what the other did
pub commits_agree : (meaning : Meanings) (config : Config) (ring : Ring) (histories : List History) (r q : ℕ) (m n : History)
    → AreCorrect meaning config ring histories → ((h : ℕ) → ReadsBacked config histories h)
    → history_of histories r ≡ Some m → history_of histories q ≡ Some n
    → length (commits_of config r m.entries) ≤ length (commits_of config q n.entries)
    → take (length (commits_of config r m.entries)) (commits_of config q n.entries) ≡ commits_of config r m.entries
unfolding commits_of
commits_agree meaning config ring histories r q m n correct backed is_m is_n shorter =
    let all_m = all_decided meaning config ring r (m.entries) (correct.follows r m is_m) in
    let all_n = all_decided meaning config ring q (n.entries) (correct.follows q n is_n) in
    let le : executed m.entries ≤ executed n.entries =
    omega (arith, length-commits meaning config ring r (m.entries) all_m, length-commits meaning config ring q (n.entries) all_n) in
    begins_range (decided_at config r m.entries) (decided_at config q n.entries) 1 (executed m.entries) (executed n.entries) le
    (λ i low high.
    let v = some_value (decided_at config r m.entries i) (all_m i low high) in
    let w = some_value (decided_at config q n.entries i) (all_n i low (omega arith)) in
    let decided_r : decided_of config (log_in config histories i r) ≡ Some (v.0) =
    ap (λ o. decided_of config (log_if config i r o)) is_m ∙ v.1 in
    let decided_q : decided_of config (log_in config histories i q) ≡ Some (w.0) =
    ap (λ o. decided_of config (log_if config i q o)) is_n ∙ w.1 in
    let same : v.0 ≡ w.0 = one_decision meaning config ring histories correct i (backed i) r q (ap is_some is_m) (ap is_some is_n) (v.0)
    (w.0)
    decided_r decided_q in
    (v.0, (v.1, w.1 ∙ ap Some (sym same))))

pub get_lt : (xs : List Value) (i : ℕ) (v : Value) → slice_get xs i ≡ Some v → i < length xs
get_lt [] i v e = cc
get_lt (x ∷ xs) zero v e = omega arith
get_lt (x ∷ xs) (suc i) v e = let l = get_lt xs i v e in omega arith

pub begins_trans : (xs ys zs : List Value) → Begins xs ys → Begins ys zs → Begins xs zs
begins_trans xs ys zs a b =
    let shorter : length xs ≤ length ys = omega (arith, ap length a, length-take (length xs) ys) in
    sym (take-take (length xs) (length ys) zs shorter) ∙ ap (take (length xs)) b ∙ a

pub begins_get : (xs ys : List Value) (i : ℕ) → Begins xs ys → i < length xs → slice_get ys i ≡ slice_get xs i
begins_get xs ys i b lt = sym (get_take (length xs) i ys lt) ∙ ap (λ zs. slice_get zs i) b

-- the i-th value of the heights from a on, where each has one
pub get_range : (D : ℕ → Option Value) (a m i : ℕ) → ((j : ℕ) → a ≤ j → j < a + m → is_some (D j) ≡ true) → i < m
    → slice_get (filter_map D (range_with_len a m)) i ≡ D (a + i)
get_range D a zero i all lt = absurd (omega arith)
get_range D a (suc m) zero all lt =
    let first = some_value (D a) (all a (omega arith) (omega arith)) in
    let here : D (a + 0) ≡ Some (first.0) = ap D (omega arith) ∙ first.1 in
    simp (first.1) (sym here)
get_range D a (suc m) (suc i) all lt =
    let first = some_value (D a) (all a (omega arith) (omega arith)) in
    let rest = get_range D (a + 1) m i (λ j low high. all j (omega arith) (omega arith)) (omega arith) in
    let same : D (a + 1 + i) ≡ D (a + suc i) = ap D (omega arith) in
    simp (first.1) (rest ∙ same)

-- an entry of a lawful history is lawful after those before it
pub lawful_at : (meaning : Meanings) (config : Config) (ring : Ring) (id : ℕ) (front es : List Entry) (i : ℕ) (e : Entry)
    → FollowsFrom meaning config ring id front es
    → slice_get es i ≡ Some e
    → Lawful meaning config ring id (front ++ take i es) e.event e.reply × ((rest : List Entry) × (es ≡ (take i es ++ e ∷ []) ++ rest))
unfolding FollowsFrom
lawful_at meaning config ring id front [] i e follows at = cc
lawful_at meaning config ring id front (x ∷ xs) zero e follows at =
    let same : x ≡ e = cc in (
      subst (λ es. Lawful meaning config ring id es e.event e.reply) (sym (append-nil front))
          (subst (λ (y : Entry). Lawful meaning config ring id front y.event y.reply) same (follows.0)),
      (xs, ap (λ y. y ∷ xs) same),
    )
lawful_at meaning config ring id front (x ∷ xs) (suc i) e follows at =
    let r = lawful_at meaning config ring id (front ++ x ∷ []) xs i e (follows.1) at in (
      subst (λ es. Lawful meaning config ring id es e.event e.reply) (append_assoc front (x ∷ []) (take i xs)) (r.0),
      (r.1.0, ap (λ ys. x ∷ ys) (r.1.1)),
    )

-- the code of a refused transaction is the application's
last_code : (code : ℕ) (b : Bool) (c : ℕ) → not (nat_eq c 0) ≡ b
    → ◌≡◌ {A = Result (Unit {0}) SubmitRefusal} (Err (refusal.Rejected code)) (cond b (Err (refusal.Rejected c)) (Ok tt))
    → (code ≡ c) × (not (nat_eq code 0) ≡ true)
last_code code true c is e = let same : code ≡ c = cc in (same, ap (λ n. not (nat_eq n 0)) same ∙ is)
last_code code false c is e = absurd (cc)

first_code_is : (code : ℕ) (b1 b2 b3 b4 : Bool) (c : ℕ)
    → ◌≡◌ {A = Result (Unit {0}) SubmitRefusal} (Err (refusal.Rejected code))
    (first_fault ((b1, refusal.Empty) ∷ (b2, refusal.TooLong) ∷ (b3, refusal.Duplicate) ∷ (b4, refusal.Full)
    ∷ (not (nat_eq c 0), refusal.Rejected c) ∷ []) tt) → (code ≡ c) × (not (nat_eq code 0) ≡ true)
first_code_is code true b2 b3 b4 c e = absurd (cc)
first_code_is code false true b3 b4 c e = absurd (cc)
first_code_is code false false true b4 c e = absurd (cc)
first_code_is code false false false true c e = absurd (cc)
first_code_is code false false false false c e = last_code code (not (nat_eq c 0)) c refl e

pub rejected_code : (meaning : Meanings) (config : Config) (id : ℕ) (entries : List Entry) (tx : List ℕ) (code : ℕ)
    → Err (refusal.Rejected code) ≡ submit_reply meaning config id entries tx
    → (code ≡ check_reply meaning config.kind (commits_of config id entries) tx) × (not (nat_eq code 0) ≡ true)
unfolding submit_reply
rejected_code meaning config id entries tx code e =
    first_code_is code (nat_eq (length tx) 0) (ltb 64 (length tx)) (is_among (pool_of meaning config id entries) tx)
    (leb 1024 (length (pool_of meaning config id entries))) (check_reply meaning config.kind (commits_of config id entries) tx) e

-- the code of a taken transaction is 0
last_code_taken : (u : Unit {0}) (c : ℕ) (b : Bool) → not (nat_eq c 0) ≡ b
    → ◌≡◌ {A = Result (Unit {0}) SubmitRefusal} (Ok u) (cond b (Err (refusal.Rejected c)) (Ok tt)) → c ≡ 0
last_code_taken u c true is e = cc
last_code_taken u zero false is e = refl
last_code_taken u (suc c) false is e = grind (arith, is)

first_code_taken : (u : Unit {0}) (b1 b2 b3 b4 : Bool) (c : ℕ)
    → ◌≡◌ {A = Result (Unit {0}) SubmitRefusal} (Ok u)
    (first_fault ((b1, refusal.Empty) ∷ (b2, refusal.TooLong) ∷ (b3, refusal.Duplicate) ∷ (b4, refusal.Full)
    ∷ (not (nat_eq c 0), refusal.Rejected c) ∷ []) tt) → c ≡ 0
first_code_taken u true b2 b3 b4 c e = cc
first_code_taken u false true b3 b4 c e = cc
first_code_taken u false false true b4 c e = cc
first_code_taken u false false false true c e = cc
first_code_taken u false false false false c e = last_code_taken u c (not (nat_eq c 0)) refl e

pub taken_code : (meaning : Meanings) (config : Config) (id : ℕ) (entries : List Entry) (tx : List ℕ) (u : Unit {0})
    → Ok u ≡ submit_reply meaning config id entries tx → check_reply meaning config.kind (commits_of config id entries) tx ≡ 0
unfolding submit_reply
taken_code meaning config id entries tx u e =
    first_code_taken u (nat_eq (length tx) 0) (ltb 64 (length tx)) (is_among (pool_of meaning config id entries) tx)
    (leb 1024 (length (pool_of meaning config id entries))) (check_reply meaning config.kind (commits_of config id entries) tx) e

pub ran_block : (meaning : Meanings) (config : Config) (batches : List Value) (o : Option Value) (b : BlockResult)
    → Ok b ≡ block_of meaning config batches o
    → (v : Value) × ((o ≡ Some v) × (b ≡ block_reply meaning config.kind batches v))
ran_block meaning config batches None b e = cc
ran_block meaning config batches (Some v) b e = (v, (refl, cc))

module _ (meaning : Meanings) (config : Config) (ring : Ring) (id : ℕ) (entries : List Entry)
    (follows : Follows meaning config ring id entries) where
  -- the history up to a place, and its entry there
  pub record At (i : ℕ) (e : Entry) : Type 0 where
    pub lawful : Lawful meaning config ring id (take i entries) e.event e.reply
    pub rest : List Entry
    pub is : entries ≡ (take i entries ++ e ∷ []) ++ rest

  pub entry_at : (i : ℕ) (e : Entry) → slice_get entries i ≡ Some e → At i e
  unfolding Follows
  entry_at i e at = let r = lawful_at meaning config ring id [] entries i e follows at in record { lawful = r.0; rest = r.1.0; is = r.1.1 }

  -- what is committed after an entry begins what is committed in the end, and so does what was before it
  pub after_entry : (i : ℕ) (e : Entry) → At i e → Begins (commits_of config id (take i entries ++ e ∷ [])) (commits_of config id entries)
  after_entry i e p =
      subst (λ es. Begins (commits_of config id (take i entries ++ e ∷ [])) (commits_of config id es)) (sym (p.is))
      (commits_grow meaning config ring id (take i entries ++ e ∷ []) (p.rest) (subst (Follows meaning config ring id) (p.is) follows))

  pub front_follows : (i : ℕ) (e : Entry) → At i e → Follows meaning config ring id (take i entries ++ e ∷ [])
  unfolding Follows
  front_follows i e p = follows_front meaning config ring id [] (take i entries ++ e ∷ []) (p.rest)
      (subst (Follows meaning config ring id) (p.is) follows)

  pub before_entry : (i : ℕ) (e : Entry) → At i e → Begins (commits_of config id (take i entries)) (commits_of config id entries)
  before_entry i e p =
      begins_trans (commits_of config id (take i entries)) (commits_of config id (take i entries ++ e ∷ [])) (commits_of config id entries)
      (commits_grow meaning config ring id (take i entries) (e ∷ []) (front_follows i e p)) (after_entry i e p)

  pub taken_follows : (i : ℕ) (e : Entry) → At i e → Follows meaning config ring id (take i entries)
  unfolding Follows
  taken_follows i e p = follows_front meaning config ring id [] (take i entries) (e ∷ []) (front_follows i e p)

  -- the i-th batch that was committed is the decided one of its height
  pub get_commits : (es : List Entry) (i : ℕ) → AllDecided meaning config ring id es → i < executed es
      → slice_get (commits_of config id es) i ≡ decided_at config id es (i + 1)
  unfolding commits_of
  get_commits es i all lt = get_range (decided_at config id es) 1 (executed es) i all lt ∙ ap (decided_at config id es) (omega arith)

  -- each reply of the application is that on what was committed when it was given
  pub reply_on : (ledger : List Value) → Begins (commits_of config id entries) ledger → (i : ℕ) (e : Event) (r : Reply)
      → At i (record { event = e; reply = r })
      → IsReplyOn meaning config ledger (length (commits_of config id (take i entries))) e r
  unfolding execute_reply
  reply_on ledger begins i event.Execute (reply.Executed (Ok b)) p =
      let entry : Entry = record { event = event.Execute; reply = reply.Executed (Ok b) } in
      let front : List Entry = take i entries in
      let ran = ran_block meaning config (commits_of config id front)
      (decided_at config id front (length (commits_of config id front) + 1)) b
      (p.lawful) in
      let v = ran.0 in
      let all : AllDecided meaning config ring id (front ++ entry ∷ []) =
      all_decided meaning config ring id (front ++ entry ∷ []) (front_follows i entry p) in
      let size = length-commits meaning config ring id front (all_decided meaning config ring id front (taken_follows i entry p)) in
      let one = executed-append front (entry ∷ []) in
      let at_end : slice_get (commits_of config id (front ++ entry ∷ [])) (length (commits_of config id front)) ≡ Some v =
      get_commits (front ++ entry ∷ []) (length (commits_of config id front)) all (omega (arith, size, one))
      ∙ decision_stays config id (length (commits_of config id front) + 1) front (entry ∷ []) v (ran.1.0) in
      let shorter : length (commits_of config id front) < length (commits_of config id (front ++ entry ∷ [])) =
      omega (arith, size, one, length-commits meaning config ring id (front ++ entry ∷ []) all) in
      let there = begins_get (commits_of config id (front ++ entry ∷ [])) ledger (length (commits_of config id front))
      (begins_trans (commits_of config id (front ++ entry ∷ [])) (commits_of config id entries) ledger (after_entry i entry p) begins)
      shorter ∙ at_end in
      let same : take (length (commits_of config id front)) ledger ≡ commits_of config id front =
      begins_trans (commits_of config id front) (commits_of config id entries) ledger (before_entry i entry p) begins in
      (v, there, subst (λ vs. b ≡ block_reply meaning config.kind vs v) (sym same) (ran.1.1))
  reply_on ledger begins i (event.Query key h) (reply.Queried r) p =
      let entry : Entry = record { event = event.Query key h; reply = reply.Queried r } in
      let same = begins_trans (commits_of config id (take i entries)) (commits_of config id entries) ledger (before_entry i entry p) begins
      in
      subst (λ vs. r ≡ query_reply meaning config.kind vs key h) (sym same) (p.lawful)
  reply_on ledger begins i (event.Submit tx) (reply.Submitted (Err (refusal.Rejected code))) p =
      let entry : Entry = record { event = event.Submit tx; reply = reply.Submitted (Err (refusal.Rejected code)) } in
      let same = begins_trans (commits_of config id (take i entries)) (commits_of config id entries) ledger (before_entry i entry p) begins
      in
      subst (λ vs. (code ≡ check_reply meaning config.kind vs tx) × (not (nat_eq code 0) ≡ true)) (sym same)
      (rejected_code meaning config id (take i entries) tx code (p.lawful))
  reply_on ledger begins i (event.Submit tx) (reply.Submitted (Ok u)) p =
      let entry : Entry = record { event = event.Submit tx; reply = reply.Submitted (Ok u) } in
      let same = begins_trans (commits_of config id (take i entries)) (commits_of config id entries) ledger (before_entry i entry p) begins
      in
      subst (λ vs. check_reply meaning config.kind vs tx ≡ 0) (sym same) (taken_code meaning config id (take i entries) tx u (p.lawful))
  reply_on ledger begins i e r p = tt

-- the correct replica that committed most
pub record Longest (config : Config) (histories : List History) : Type 0 where
  pub replica : ℕ
  pub history : History
  pub is : history_of histories replica ≡ Some history
  pub most : (q : ℕ) (m : History) → history_of histories q ≡ Some m
      → length (commits_of config q m.entries) ≤ length (commits_of config replica history.entries)

-- among the replicas below n and one other, one committed most
pub record LongestBelow (config : Config) (histories : List History) (n : ℕ) : Type 0 where
  pub replica : ℕ
  pub history : History
  pub is : history_of histories replica ≡ Some history
  pub most : (q : ℕ) (m : History) → q < n → history_of histories q ≡ Some m
      → length (commits_of config q m.entries) ≤ length (commits_of config replica history.entries)

longer : (config : Config) (histories : List History) (n : ℕ) → LongestBelow config histories n → (o : Option History)
    → history_of histories n ≡ o → LongestBelow config histories (n + 1)
longer config histories n best None is = record {
  replica = best.replica;
  history = best.history;
  is = best.is;
  most = λ q m lt at. elim (cases_lt q n) [
    | inl before ↦ best.most q m before at
    | inr new ↦ absurd (let same : q ≡ n = omega arith in let f : Some m ≡ None =
        sym at ∙ ap (history_of histories) same ∙ is in no_some m f)
  ];
}
  where
    no_some : (m : History) → Some m ≡ None → ⊥
    no_some m e = cc
longer config histories n best (Some new) is =
    elim (cases_lt (length (commits_of config (best.replica) (best.history.entries))) (length (commits_of config n new.entries))) [
      | inl more ↦ record {
        replica = n;
        history = new;
        is = is;
        most = λ q m lt at. elim (cases_lt q n) [
          | inl before ↦ (let l = best.most q m before at in omega arith)
          | inr now ↦ newest q m (omega arith) at
        ];
      }
      | inr less ↦ record {
        replica = best.replica;
        history = best.history;
        is = best.is;
        most = λ q m lt at. elim (cases_lt q n) [
          | inl before ↦ best.most q m before at
          | inr now ↦ (let l = newest q m (omega arith) at in omega arith)
        ];
      }
    ]
  where
    newest : (q : ℕ) (m : History) → q ≡ n → history_of histories q ≡ Some m
        → length (commits_of config q m.entries) ≤ length (commits_of config n new.entries)
    newest q m same at =
        let here : history_of histories n ≡ Some m = ap (history_of histories) (sym same) ∙ at in
        let one : m ≡ new = same_Some m new (sym here ∙ is) in
        omega (
          arith,
          ap (λ (x : History). length (commits_of config q x.entries)) one,
          ap (λ x. length (commits_of config x new.entries))
              same,
        )

longest_below : (config : Config) (histories : List History) → LongestBelow config histories 0 → (n : ℕ) → LongestBelow config histories n
longest_below config histories first zero = first
longest_below config histories first (suc n) =
    subst (LongestBelow config histories) (omega arith)
    (longer config histories n (longest_below config histories first n) (history_of histories n) refl)

pub count_all : (a n : ℕ) → count_from a n (λ r. true) ≡ n
count_all a zero = refl
count_all a (suc n) = omega (arith, count_all (a + 1) n)

pub some_history : (o : Option History) → is_some o ≡ true → (m : History) × (o ≡ Some m)
some_history (Some m) is = (m, refl)
some_history None is = cc

pub longest : (meaning : Meanings) (config : Config) (ring : Ring) (histories : List History) → AreCorrect meaning config ring histories
    → Longest config histories
longest meaning config ring histories correct =
    let few = config.enough in
    let one = some_of (λ r. true) (is_correct histories) (config.replicas) (config.faults) (omega (arith, count_all 0 (config.replicas)))
    (correct.enough) in
    let m = some_history (history_of histories (one.0)) (one.1.0) in
    let first : LongestBelow config histories 0 =
    record { replica = one.0; history = m.0; is = m.1; most = λ q n lt at. absurd (omega arith) } in
    let best = longest_below config histories first (config.replicas) in
    record {
      replica = best.replica;
      history = best.history;
      is = best.is;
      most = λ q n at. best.most q n (correct.below q (ap is_some at)) at;
    }

-- the histories of correct replicas are those of one ledger
pub one_ledger : (meaning : Meanings) (config : Config) (ring : Ring) (histories : List History) → AreCorrect meaning config ring histories
    → ((h : ℕ) → ReadsBacked config histories h) → (ledger : List Value) × IsLedger meaning config histories ledger
one_ledger meaning config ring histories correct backed =
    let best = longest meaning config ring histories correct in
    let r = best.replica in
    let m = best.history in
    let ledger : List Value = commits_of config r m.entries in
    let each : (q : ℕ) (n : History) → history_of histories q ≡ Some n → Begins (commits_of config q n.entries) ledger =
    λ q n at. commits_agree meaning config ring histories q r n m correct backed at (best.is) (best.most q n at) in (
      ledger,
      record {
        some = (r, (m, (best.is, refl)));
        each = each;
        replies = λ q i n e at there.
            let follows = correct.follows q n at in
            reply_on meaning config ring q (n.entries) follows ledger (each q n at) i (e.event) (e.reply)
            (entry_at meaning config ring q (n.entries) follows i e there);
        common = λ h v w common there.
            let follows = correct.follows r m (best.is) in
            let all = all_decided meaning config ring r (m.entries) follows in
            let lt : h < executed m.entries = omega (arith, get_lt ledger h w there, length-commits meaning config ring r (m.entries) all)
            in
            let decided = sym (get_commits meaning config ring r (m.entries) follows (m.entries) h all lt) ∙ there in
            decided_common meaning config ring histories correct (h + 1) (backed (h + 1)) v common r (ap is_some (best.is)) w
            (ap (λ o. decided_of config (log_if config (h + 1) r o)) (best.is) ∙ decided);
      },
    )
