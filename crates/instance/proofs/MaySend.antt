-- What the instance lets the replica send, as a test and as a proposition.
use Rattle.std.proofs.Common.{◌≡◌, ℕ, Bool, true, false, not, ◌&&◌, ◌||◌, inl, inr, List, refl, ap, subst, arith}
use Rattle.std.specs.Prelude.{nat_eq, MatchBool, Option, Some, None, IfSome}
use Rattle.std.specs.Bool.{Decides}
use Rattle.std.specs.List.{list_all}
use Rattle.std.specs.Cmp.Lexicographic.{pointwise}
use Rattle.std.specs.Option.{is_none, option_map_or}
use Rattle.std.proofs.lemmas.Bool.{cases_Bool, and_parts}
use Rattle.std.proofs.lemmas.Bool.Decides.{Decides-eqb, Decides-and, Decides-like}
use Rattle.std.proofs.lemmas.Option.{same_Some}
use Rattle.ledger_model.specs.declared.statement.Ack.{Ack}
use Rattle.ledger_model.specs.declared.statement.Lock.{Lock}
use Rattle.ledger_model.specs.declared.statement.Report.{Report}
use Rattle.ledger_model.specs.declared.statement.SignedReport.{SignedReport}
use Rattle.ledger_model.specs.declared.statement.Statement.{Statement}
use Rattle.ledger_model.specs.declared.statement.Statement.TheVariants as statement
use Rattle.ledger_model.specs.Values.{Value, same_value}
use Rattle.ledger_model.specs.Notes.{Has}
use Rattle.ledger_model.specs.Rounds.{phase_of, place_of, owner_of, lock_place}
use Rattle.tally.specs.Readings.{reports_of}
use Rattle.phase_core.specs.Choices.{chosen}
use Rattle.tally.specs.Tallies.{all_read, read_of}
use Rattle.ledger_model.proofs.Lists.{all_has, all_from, pointwise_refl, pointwise_equal, same_value-refl, same_value-equal}
use Rattle.instance.specs.Instances.{InstanceView}
use Rattle.phase_core.proofs.Choosing.{chosen_found, none_chosen}
use Rattle.instance.specs.Plans.{own_report, own_ack_of, sent_ack, unsent_ack, MaySend}
use Rattle.instance.specs.Plans.{MaySendLock, IsOwnLockOf, IsOwnStatement, same_flag, same_version}
use Rattle.ledger_model.specs.declared.version.Version.{Version}
use Rattle.ledger_model.specs.declared.version.Version.TheVariants.{One, Two}
use Rattle.instance.specs.Plans.{same_report, same_signed, is_kept, is_own_lock, is_own_ack, may_send, may_send_report, may_send_lock}
use Rattle.instance.specs.Plans.{may_send_ack}
use Rattle.ledger_model.proofs.AtPlace.{at_place, at_reports, at_lock, at_acks, at_release}

-- ---- the tests of equality decide it

version_decides : (v w : Version) → Decides (same_version v w) (v ≡ w)
version_decides One One = (λ h. refl, λ e. refl)
version_decides One Two = (λ h. absurd cc, λ e. absurd cc)
version_decides Two One = (λ h. absurd cc, λ e. absurd cc)
version_decides Two Two = (λ h. refl, λ e. refl)

flag_decides : (a b : Bool) → Decides (same_flag a b) (a ≡ b)
flag_decides a b = grind arith

value_decides : (v w : Value) → Decides (same_value v w) (v ≡ w)
value_decides v w = (same_value-equal v w, λ e. subst (λ x. same_value v x ≡ true) e (same_value-refl v))

list_decides : {X : Type 0} (e : X → X → Bool) → ((x y : X) → Decides (e x y) (x ≡ y)) → (xs ys : List X)
    → Decides (pointwise e xs ys) (xs ≡ ys)
list_decides e each xs ys = grind (arith, each, pointwise_equal e, pointwise_refl e)

report_decides : (p q : Report) → Decides (same_report p q) (p ≡ q)
report_decides p q =
    Decides-like (same_report p q)
    (λ h i. record {
      version = h.0.0.0.0.0.0.0 i;
      height = h.0.0.0.0.0.0.1 i;
      phase = h.0.0.0.0.0.1 i;
      signer = h.0.0.0.0.1 i;
      all = h.0.0.0.1 i;
      initial =
          h.0.0.1 i;
      proper = h.0.1 i;
      locked = h.1 i;
    })
    (λ e. (
      (
        (
          (
            (
              ((ap (λ (r : Report). r.version) e, ap (λ (r : Report). r.height) e), ap (λ (r : Report). r.phase) e),
              ap (λ (r : Report). r.signer) e,
            ),
            ap (λ (r : Report). r.all)
                e,
          ),
          ap (λ (r : Report). r.initial) e,
        ),
        ap (λ (r : Report). r.proper) e,
      ),
      ap (λ (r : Report). r.locked) e,
    ))
    (Decides-and _ _ (Decides-and _ _
    (Decides-and _ _ (Decides-and _ _ (Decides-and _ _ (Decides-and _ _
    (Decides-and _ _ (version_decides p.version q.version) (Decides-eqb p.height q.height)) (Decides-eqb p.phase q.phase))
    (Decides-eqb p.signer q.signer)) (flag_decides p.all q.all)) (value_decides p.initial q.initial))
    (list_decides same_value value_decides p.proper q.proper))
    (list_decides same_value value_decides p.locked q.locked))

signed_decides : (s t : SignedReport) → Decides (same_signed s t) (s ≡ t)
signed_decides s t =
    Decides-like (same_signed s t) (λ h i. record { report = h.0 i; signature = h.1 i })
    (λ e. (ap (λ (x : SignedReport). x.report) e, ap (λ (x : SignedReport). x.signature) e))
    (Decides-and _ _ (report_decides s.report t.report) (list_decides nat_eq Decides-eqb s.signature t.signature))

-- ---- what one may make

-- a report that is kept
kept_decides : (s : SignedReport) (o : Option SignedReport) → Decides (option_map_or (same_signed s) o false) (o ≡ Some s)
kept_decides s o = grind (arith, signed_decides)

module _ (row : InstanceView) (k : ℕ) where
  all_kept : (proof : List SignedReport)
      → Decides (list_all (is_kept row) proof) ((s : SignedReport) → Has proof s → read_of row.reports s.report.signer ≡ Some s)
  all_kept proof = (
    λ h s has. (kept_decides s (read_of row.reports s.report.signer)).0 (all_has (is_kept row) proof s h has),
    λ f. all_from (is_kept row) proof (λ s has. (kept_decides s (read_of row.reports s.report.signer)).1 (f s has)),
  )

  lock_decides : (l : Lock) → Decides (is_own_lock row k l) (IsOwnLockOf row k l)
  lock_decides l =
      Decides-like (is_own_lock row k l)
      (λ h. record {
        of_version = h.0.0.0.0.0.0;
        of_height = h.0.0.0.0.0.1;
        of_phase = h.0.0.0.0.1;
        own = h.0.0.0.1;
        quorate = h.0.0.1;
        supporting = h.0.1;
        kept = h.1;
      })
      (λ o. ((((((o.of_version, o.of_height), o.of_phase), o.own), o.quorate), o.supporting), o.kept))
      (Decides-and _ _ (Decides-and _ _
      (Decides-and _ _ (Decides-and _ _ (Decides-and _ _
      (Decides-and _ _ (version_decides l.version row.config.frames) (Decides-eqb l.height row.height)) (Decides-eqb l.phase k))
      (Decides-eqb l.signer row.id))
      (λ h. h, λ h. h)) (λ h. h, λ h. h)) (all_kept l.proof))

  ack_decides : (v : Value) (a : Ack) → Decides (is_own_ack row k v a) (a ≡ own_ack_of row k v)
  ack_decides v a =
      Decides-like (is_own_ack row k v a) (λ h i. record {
        version = h.0.0.0.0 i;
        height = h.0.0.0.1 i;
        phase = h.0.0.1 i;
        signer = h.0.1 i;
        value = h.1 i;
      })
      (λ e. (
        (((ap (λ (x : Ack). x.version) e, ap (λ (x : Ack). x.height) e), ap (λ (x : Ack). x.phase) e), ap (λ (x : Ack). x.signer) e),
        ap (λ (x : Ack). x.value) e,
      ))
      (Decides-and _ _ (Decides-and _ _ (Decides-and _ _
      (Decides-and _ _ (version_decides a.version row.config.frames) (Decides-eqb a.height row.height)) (Decides-eqb a.phase k))
      (Decides-eqb a.signer row.id)) (value_decides a.value v))

  -- ---- what may be sent

  none_decides : {X : Type 0} (o : Option X) → Decides (is_none o) (o ≡ None)
  none_decides o = grind arith

  report_sent : (sent : Option Statement) → Decides (may_send_report row k sent) (sent ≡ Some (statement.Report (own_report row k)))
  report_sent (Some (statement.Report r)) =
      Decides-like _ (λ e. ap (λ p. Some (statement.Report p)) e) (λ e. cc) (report_decides r (own_report row k))
  report_sent (Some (statement.Lock l)) = (λ h. cc, λ e. cc)
  report_sent (Some (statement.Ack a)) = (λ h. cc, λ e. cc)
  report_sent None = (λ h. cc, λ e. cc)

  -- the lock that is sent
  of_lock : (s : Statement) → MaySendLock row k (Some s) → (l : Lock) × (s ≡ statement.Lock l) × IsOwnLockOf row k l
  of_lock s (inl own) = (own.0, same_Some _ _ own.1, own.2)
  of_lock s (inr none) = cc (none.0)

  lock_sent : (sent : Option Statement)
      → Decides (may_send_lock row k sent) (MatchBool (nat_eq (owner_of row.config k) row.id) (MaySendLock row k sent) (sent ≡ None))
  lock_sent (Some (statement.Lock l)) = let right = lock_decides l in let known = of_lock (statement.Lock l) in grind arith
  lock_sent (Some (statement.Report r)) = let known = of_lock (statement.Report r) in grind arith
  lock_sent (Some (statement.Ack a)) = let known = of_lock (statement.Ack a) in grind arith
  lock_sent None = elim (cases_Bool (nat_eq (owner_of row.config k) row.id)) [
    | inl mine ↦ rw mine (none_found (chosen row.config (reports_of (all_read row.reports)) row.proper.own) refl)
    | inr other ↦ rw other (λ h. refl, λ e. refl)
  ]
    where
      none_found : (o : Option Value) → chosen row.config (reports_of (all_read row.reports)) row.proper.own ≡ o
          → Decides (is_none o) (MaySendLock row k None)
      none_found None is = (λ h. inr (refl, none_chosen row.config (reports_of (all_read row.reports)) row.proper.own is), λ m. refl)
      none_found (Some v) is = (
        λ h. cc,
        λ m. elim m [
          | inl own ↦ absurd (cc (own.1))
          | inr none ↦
              absurd (cc (none.1 v, chosen_found row.config (reports_of (all_read row.reports)) row.proper.own v is))
        ],
      )

  -- the acknowledgement that is sent, where none is made and not sent
  pub of_ack : (taken : Option Value) (s : Statement) → Some s ≡ sent_ack row k taken
      → (v : Value) × (s ≡ statement.Ack (own_ack_of row k v)) × (unsent_ack row k taken ≡ None)
  of_ack taken s e = grind arith

  one_sent : (a : Ack) (taken : Option Value)
      → Decides (not (nat_eq (owner_of row.config k) row.id) && option_map_or (λ v. is_own_ack row k v a) taken false)
      (Some (statement.Ack a) ≡ sent_ack row k taken)
  one_sent a None = (λ h. absurd (cc ((and_parts (not (nat_eq (owner_of row.config k) row.id)) false h).1)), λ e. cc)
  one_sent a (Some v) = elim (cases_Bool (nat_eq (owner_of row.config k) row.id)) [
    | inl mine ↦ rw mine (λ h. cc, λ e. cc)
    | inr other ↦ rw other (Decides-like _ (λ e. ap (λ b. Some (statement.Ack b)) e) (λ e. cc) (ack_decides v a))
  ]

  none_sent : (taken : Option Value) → Decides (nat_eq (owner_of row.config k) row.id || is_none taken) (None ≡ sent_ack row k taken)
  none_sent taken = grind arith

  ack_sent : (sent : Option Statement) → Decides (may_send_ack row k sent) (sent ≡ sent_ack row k row.taken)
  ack_sent sent = grind (arith, one_sent, none_sent, of_ack)

-- in any round
pub send_decides : (row : InstanceView) (c : ℕ) (sent : Option Statement) → Decides (may_send row c sent) (MaySend row c sent)
unfolding may_send
send_decides row c sent = elim (at_place c) [
  | at_reports e ↦ rw e (report_sent row (phase_of c) sent)
  | at_lock e ↦ rw e (lock_sent row (phase_of c) sent)
  | at_acks e ↦ rw e (ack_sent row (phase_of c) sent)
  | at_release e ↦ rw e (none_decides row (phase_of c) sent)
]

-- ---- what is known of it by its kind

-- a lock is sent by the owner alone
pub sent_lock : (row : InstanceView) (c : ℕ) (s : Statement) → place_of c ≡ lock_place → MaySend row c (Some s)
    → (l : Lock) × (s ≡ statement.Lock l) × IsOwnLockOf row (phase_of c) l
sent_lock row c s place may = grind arith

-- what may be sent is one's own
pub own_if_sent : (row : InstanceView) (c : ℕ) (sent : Option Statement) → MaySend row c sent → IfSome sent (IsOwnStatement row)
own_if_sent row c sent h = grind arith

-- a lock that may be sent is one of the phase
pub lock_allowed : (row : InstanceView) (c : ℕ) (l : Lock) → MaySend row c (Some (statement.Lock l))
    → (place_of c ≡ lock_place) × IsOwnLockOf row (phase_of c) l
lock_allowed row c l h = grind arith
