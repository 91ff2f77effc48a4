-- If all correct proposals of a height are one value, correct replicas report no other, and no other is decided.
use Rattle.ledger_model.specs.Meanings.{Meanings}
use Rattle.std.proofs.Common.{◌≡◌, ℕ, zero, suc, ◌+◌, ◌*◌, ◌<◌, ◌≤◌, Bool, true, false, not, ◌&&◌, ◌||◌, cond, inl, inr, List, [], ◌∷◌}
use Rattle.std.proofs.Common.{length, refl, sym, ap, subst, ◌∙◌, zero-add, arith}
use Rattle.std.specs.Prelude.{nat_eq, Some, filter, take}
use Rattle.std.proofs.Math.Dec.{leb, ltb}
use Rattle.std.specs.List.{list_any, list_all, flat_map, range_with_len}
use Rattle.std.proofs.lemmas.List.{length-map}
use Rattle.std.proofs.lemmas.Bool.{and_parts, and_from, or_cases, cases_Bool, leb-true, ltb-true, eqb-true, eq-eqb, both_ways}
use Rattle.std.proofs.lemmas.Bool.{false_from_ne_true}
use Rattle.ledger_model.specs.declared.config.Config.{Config}
use Rattle.ledger_model.specs.declared.history.History.{History}
use Rattle.ledger_model.specs.declared.statement.Report.{Report}
use Rattle.ledger_model.specs.declared.statement.SignedReport.{SignedReport}
use Rattle.ledger_model.specs.declared.statement.SignedStatement.{SignedStatement}
use Rattle.ledger_model.specs.declared.statement.Statement.{Statement}
use Rattle.ledger_model.specs.declared.statement.Statement.TheVariants as statement
use Rattle.ledger_model.specs.Values.{Value, same_value, ascending}
use Rattle.ledger_model.specs.Rounds.{phase_of, round_at, number_of, count_from, quorum, report_place}
use Rattle.ledger_model.specs.Notes.{Note, OwnStatement, Read, Has, is_report}
use Rattle.ledger_model.specs.Locks.{names, finds, decided_of}
use Rattle.ledger_model.specs.Validity.{signers_of, ascends_within}
use Rattle.ledger_model.specs.Proper.{reported, others_reported, is_named, listed_by_other, values_in, has_initial, is_split, are_all_named}
use Rattle.ledger_model.specs.Proper.{is_all_proper, proper_values}
use Rattle.ledger_model.specs.Logs.{height_of}
use Rattle.ledger_model.specs.Rules.{Ring, report_of}
use Rattle.ledger_model.specs.Groups.{is_correct, log_in, Backed, AreCorrect, ReadsBacked, AllProposed}
use Rattle.ledger_model.proofs.Lists.{any_has, all_has, has_map, filter_has, flat_map_has, take_has, with_value_has, ascending_has}
use Rattle.ledger_model.proofs.Lists.{same_value-refl, same_value-equal}
use Rattle.ledger_model.proofs.Counting.{among, ascending_count, some_of, count_split, count_from-mono, count_with}
use Rattle.ledger_model.proofs.LockSafety.{OpenedAt, read_has, has_read, of_lock}
use Rattle.ledger_model.proofs.Goodness.{made_cases, report_as}
use Rattle.ledger_laws.proofs.Agreement.{good_in, backed_here, settled}

pub report_has : (test : Report → Bool) (s : Statement) → is_report test s ≡ true
    → (p : Report) × ((s ≡ statement.Report p) × (test p ≡ true))
report_has test (statement.Report p) h = (p, (refl, h))
report_has test (statement.Lock l) h = cc
report_has test (statement.Ack a) h = cc

-- a report of the correct replica x in phase j, which passes a test and was read before some round
pub record ReportBy (config : Config) (histories : List History) (h x j : ℕ) (front : List Note) (test : Report → Bool) : Type 0 where
  pub report : Report
  pub round : ℕ
  pub made : Has (log_in config histories h x) (OwnStatement round (statement.Report report))
  pub phase : report.phase ≡ j
  pub signer : report.signer ≡ x
  pub passes : test report ≡ true
  pub signed : SignedStatement
  pub is : signed.statement ≡ statement.Report report
  pub read : Has front (Read (round_at report_place j) signed)

module _ (meaning : Meanings) (config : Config) (ring : Ring) (histories : List History)
    (correct : AreCorrect meaning config ring histories) (h : ℕ)
    (backed : ReadsBacked config histories h) where
  pub report_by : (r : ℕ) → is_correct histories r ≡ true → (front : List Note) (c : ℕ) → OpenedAt (log_in config histories h r) front c
      → (x : ℕ) → is_correct histories x ≡ true → (j : ℕ) (test : Report → Bool)
      → reported front j x test ≡ true → ReportBy config histories h x j front test
  report_by r is front c opened x also j test read =
      let found = read_has front (round_at report_place j) (is_report (λ p. nat_eq p.signer x && test p)) read in
      let s = found.0 in
      let report = report_has (λ p. nat_eq p.signer x && test p) (s.statement) (found.1.1) in
      let p = report.0 in
      let parts = and_parts (nat_eq p.signer x) (test p) (report.1.1) in
      let signer : p.signer ≡ x = eqb-true (p.signer) x (parts.0) in
      let in_log = (opened.past (round_at report_place j) s (found.1.0)).0 in
      let good = good_in meaning config ring histories correct h r is in
      let of_height : p.height ≡ h = sym (ap height_of (report.1.0)) ∙ good.heights (round_at report_place j) s in_log in
      let right = good.reads (round_at report_place j) s in_log in
      let phase = right.reports p (report.1.0) in
      let whole = backed r (round_at report_place j) s is in_log in
      let made = backed_here meaning config ring histories correct h backed (statement.Report p) of_height
      (subst (Backed config histories) (report.1.0) (whole.own)) (ap (is_correct histories) signer ∙ also) in
      record {
        report = p;
        round = made.0;
        made = subst (λ y. Has (log_in config histories h y) (OwnStatement (made.0) (statement.Report p))) signer (made.1);
        phase = omega arith;
        signer = signer;
        passes = parts.1;
        signed = s;
        is = report.1.0;
        read = found.1.0;
      }

  module _ (v : Value) (common : AllProposed config histories h v) where
    -- a report that names v alone
    pub record IsPlain (p : Report) : Type 0 where
      pub one : p.all ≡ false
      pub only : (w : Value) → list_any (same_value w) p.proper ≡ true → w ≡ v

    abbrev pub PlainBelow : ℕ → Type 0
    PlainBelow n = (x c : ℕ) (p : Report) → is_correct histories x ≡ true
        → Has (log_in config histories h x) (OwnStatement c (statement.Report p)) → p.phase < n → IsPlain p

    -- one of the others that reported is correct
    pub other_by : (r : ℕ) → is_correct histories r ≡ true → (front : List Note) (c : ℕ) → OpenedAt (log_in config histories h r) front c
        → (j : ℕ) (test : Report → Bool)
        → config.faults < others_reported config r front j test
        → (x : ℕ) × ((is_correct histories x ≡ true) × ReportBy config histories h x j front test)
    other_by r is front c opened j test many =
        let found = some_of (λ x. not (nat_eq x r) && reported front j x test) (is_correct histories) (config.replicas) (config.faults)
        many (correct.enough) in
        let x = found.0 in
        let parts = and_parts (not (nat_eq x r)) (reported front j x test) (found.1.1) in
        (x, (found.1.0, report_by r is front c opened x (found.1.0) j test (parts.1)))

    -- what a correct replica reports as its initial value
    pub initial_is : (x c : ℕ) (p : Report) → is_correct histories x ≡ true
        → Has (log_in config histories h x) (OwnStatement c (statement.Report p)) → p.initial ≡ v
    unfolding report_of
    initial_is x c p is made =
        let m = (good_in meaning config ring histories correct h x is).made c (statement.Report p) made in
        let told = report_as config x h (m.front) c (m.made) p (made_cases config x h (m.front) c (m.mute) (m.made) (m.may)) (m.has) in
        ap (λ (q : Report). q.initial) (told.1.1) ∙ common x (told.0) is (m.begins (told.0) (told.1.0))

    pub not_split : (r : ℕ) → is_correct histories r ≡ true → (front : List Note) (c : ℕ) → OpenedAt (log_in config histories h r) front c
        → (j : ℕ) → is_split config r front j v ≡ true → ⊥
    not_split r is front c opened j split =
        let known : ℕ → Bool = λ x. reported front j x (λ p. true) in
        let parts = and_parts (ltb (2 * config.faults) (others_reported config r front j (λ p. true) + 1))
        (list_all (λ w. leb (number_of config (has_initial r front j v w)) config.faults) (v ∷ values_in (λ p. p.initial ∷ []) j front))
        split in
        let many = ltb-true (2 * config.faults) (others_reported config r front j (λ p. true) + 1) (parts.0) in
        let own = (and_parts (leb (number_of config (has_initial r front j v v)) config.faults)
        (list_all (λ w. leb (number_of config (has_initial r front j v w)) config.faults) (values_in (λ p. p.initial ∷ []) j front))
        (parts.1)).0 in
        let few = leb-true (number_of config (has_initial r front j v v)) (config.faults) own in
        let whole = count_with known r 0 (config.replicas) (omega arith) (let b = correct.below r is in omega arith) in
        let part = count_split (λ x. nat_eq x r || known x) (is_correct histories) 0 (config.replicas) in
        let has : (x : ℕ) → (is_correct histories x && (nat_eq x r || known x)) ≡ true → has_initial r front j v v x ≡ true = λ x both.
        let b = and_parts (is_correct histories x) (nat_eq x r || known x) both in
        elim (cases_Bool (nat_eq x r)) [
          | inl same ↦ simp same (same_value-refl v)
          | inr other ↦ elim (or_cases (nat_eq x r) (known x) (b.1)) [
            | inl is_r ↦ absurd (both_ways (nat_eq x r) other is_r)
            | inr read ↦
                let q = report_by r is front c opened x (b.0) j (λ p. true) read in
                let initial = initial_is x (q.round) (q.report) (b.0) (q.made) in
                let test : Report → Bool = λ p. nat_eq p.signer x && same_value v p.initial in
                let passes : test (q.report) ≡ true =
                and_from (nat_eq q.report.signer x) (same_value v q.report.initial) (eq-eqb (q.report.signer) x (q.signer))
                (subst (λ w. same_value v w ≡ true) (sym initial) (same_value-refl v)) in
                simp other (has_read front (round_at report_place j) (is_report test) (q.signed) (q.read)
                (subst (λ s. is_report test s ≡ true) (sym (q.is)) passes))
          ]
        ]
        in
        let more = count_from-mono (λ x. is_correct histories x && (nat_eq x r || known x)) (has_initial r front j v v) has 0
        (config.replicas) in
        let missing = correct.enough in
        omega (arith, many, few, whole, part, more, missing)

    pub not_all : (n : ℕ) → PlainBelow n → (r : ℕ) → is_correct histories r ≡ true → (front : List Note) (c : ℕ)
        → OpenedAt (log_in config histories h r) front c
        → (k : ℕ) → k ≤ n → is_all_proper config r front k v ≡ true → ⊥
    unfolding is_all_proper
    not_all n plain r is front c opened k le all =
        let found = any_has (λ j. ltb j k && (are_all_named config r front j || is_split config r front j v)) (range_with_len 1 k) all in
        let j = found.0 in
        let parts = and_parts (ltb j k) (are_all_named config r front j || is_split config r front j v) (found.1.1) in
        let before = ltb-true j k (parts.0) in
        elim (or_cases (are_all_named config r front j) (is_split config r front j v) (parts.1)) [
          | inl named ↦
              let by = other_by r is front c opened j (λ p. p.all)
              (ltb-true (config.faults) (others_reported config r front j (λ p. p.all)) named) in
              let q = by.1.1 in
              let phase = q.phase in
              let plain_q = plain (by.0) (q.round) (q.report) (by.1.0) (q.made) (omega arith) in
              both_ways (q.report.all) (plain_q.one) (q.passes)
          | inr split ↦ not_split r is front c opened j split
        ]

    pub named_only : (n : ℕ) → PlainBelow n → (r : ℕ) → is_correct histories r ≡ true → (front : List Note) (c : ℕ)
        → OpenedAt (log_in config histories h r) front c
        → (j : ℕ) → j < n → (w : Value) → is_named config r front j w ≡ true → w ≡ v
    named_only n plain r is front c opened j lt w named =
        let by = other_by r is front c opened j (λ p. names p w)
        (ltb-true (config.faults) (others_reported config r front j (λ p. names p w)) named) in
        let q = by.1.1 in
        let phase = q.phase in
        let plain_q = plain (by.0) (q.round) (q.report) (by.1.0) (q.made) (omega arith) in
        elim (or_cases (q.report.all) (list_any (same_value w) q.report.proper) (q.passes)) [
          | inl all ↦ absurd (both_ways (q.report.all) (plain_q.one) all)
          | inr listed ↦ plain_q.only w listed
        ]

    pub proper_only : (n : ℕ) → PlainBelow n → (r : ℕ) → is_correct histories r ≡ true → (front : List Note) (c : ℕ)
        → OpenedAt (log_in config histories h r) front c
        → (k : ℕ) → k ≤ n → (w : Value) → list_any (same_value w) (proper_values config r front k v) ≡ true → w ≡ v
    unfolding proper_values
    proper_only n plain r is front c opened k le w named =
        let found = any_has (same_value w) (proper_values config r front k v) named in
        let y = found.0 in
        let candidates : ℕ → List Value =
        λ j. cond (ltb j k) (filter (is_named config r front j) (values_in (listed_by_other r) j front)) [] in
        let others : List Value = filter (λ x. not (same_value v x)) (ascending (flat_map candidates (range_with_len 1 k))) in
        same_value-equal w y (found.1.1) ∙ elim (with_value_has v (take 3 others) y (found.1.0)) [
          | inl own ↦ sym own
          | inr other ↦
              let kept = filter_has (λ x. not (same_value v x)) (ascending (flat_map candidates (range_with_len 1 k))) y
              (take_has 3 others y other) in
              let at_j = flat_map_has candidates (range_with_len 1 k) y
              (ascending_has (flat_map candidates (range_with_len 1 k)) y (kept.0)) in
              let j = at_j.0 in
              elim (cases_Bool (ltb j k)) [
                | inl before ↦
                    let listed : Has (filter (is_named config r front j) (values_in (listed_by_other r) j front)) y =
                    simp before at (at_j.1.1) in
                    let lt = ltb-true j k before in
                    named_only n plain r is front c opened j (omega arith) y
                    ((filter_has (is_named config r front j) (values_in (listed_by_other r) j front) y listed).1)
                | inr after ↦ absurd (simp after at (at_j.1.1))
              ]
        ]

    pub plain_below : (n : ℕ) → PlainBelow n
    unfolding report_of
    plain_below zero = λ x c p is made below. absurd (omega arith)
    plain_below (suc n) = λ x c p is made below.
        let m = (good_in meaning config ring histories correct h x is).made c (statement.Report p) made in
        let told = report_as config x h (m.front) c (m.made) p (made_cases config x h (m.front) c (m.mute) (m.made) (m.may)) (m.has) in
        let own : told.0 ≡ v = common x (told.0) is (m.begins (told.0) (told.1.0)) in
        let same : p ≡ report_of config x h (m.front) (phase_of c) v = told.1.1 ∙ ap (report_of config x h (m.front) (phase_of c)) own in
        let phase : p.phase ≡ phase_of c = ap (λ (q : Report). q.phase) same in
        let earlier : phase_of c ≤ n = omega arith in
        record {
          one = ap (λ (q : Report). q.all) same
              ∙ false_from_ne_true (is_all_proper config x (m.front) (phase_of c) v)
              (not_all n (plain_below n) x is (m.front) c (m.opened) (phase_of c) earlier);
          only = λ w named. proper_only n (plain_below n) x is (m.front) c (m.opened) (phase_of c) earlier w
              (subst (λ vs. list_any (same_value w) vs ≡ true) (ap (λ (q : Report). q.proper) same) named);
        }

    -- what a correct replica decided is the common proposal
    pub decided_common : (r : ℕ) → is_correct histories r ≡ true → (w : Value) → decided_of config (log_in config histories h r) ≡ Some w
        → w ≡ v
    decided_common r is w decided =
        let a = settled meaning config ring histories correct h backed r is w decided in
        let l = a.lock in
        let outer = and_parts (nat_eq (length l.proof) (quorum config) && ascends_within 0 config.replicas (signers_of l.proof))
        (list_all (of_lock l) l.proof) (a.valid.quorate) in
        let inner = and_parts (nat_eq (length l.proof) (quorum config)) (ascends_within 0 config.replicas (signers_of l.proof)) (outer.0) in
        let size : length l.proof ≡ quorum config = eqb-true (length l.proof) (quorum config) (inner.0) in
        let signers : length (signers_of l.proof) ≤ count_from 0 config.replicas (among (signers_of l.proof)) =
        ascending_count config.replicas 0 (signers_of l.proof)
        (subst (λ e. ascends_within 0 e (signers_of l.proof) ≡ true) (sym (zero-add config.replicas)) (inner.1)) in
        let same_size : length (signers_of l.proof) ≡ length l.proof = length-map l.proof (λ s. s.report.signer) in
        let few = config.enough in
        let found = some_of (among (signers_of l.proof)) (is_correct histories) (config.replicas) (config.faults) (omega arith)
        (correct.enough) in
        let x = found.0 in
        let named = any_has (λ y. nat_eq y x) (signers_of l.proof) (found.1.1) in
        let report = has_map (λ (s : SignedReport). s.report.signer) l.proof (named.0) (named.1.0) in
        let p = report.0 in
        let signer : p.report.signer ≡ x = report.1.1 ∙ eqb-true (named.0) x (named.1.1) in
        let same_height = (and_parts (nat_eq p.report.height l.height) (nat_eq p.report.phase l.phase)
        (all_has (of_lock l) l.proof p (outer.1) (report.1.0))).0 in
        let of_height : p.report.height ≡ h = eqb-true (p.report.height) (l.height) same_height ∙ a.of_height in
        let made = backed_here meaning config ring histories correct h backed (statement.Report p.report) of_height
        (a.valid.reports p (report.1.0)) (ap (is_correct histories) signer ∙ found.1.0) in
        let made_x : Has (log_in config histories h x) (OwnStatement (made.0) (statement.Report p.report)) =
        subst (λ y. Has (log_in config histories h y) (OwnStatement (made.0) (statement.Report p.report))) signer (made.1) in
        let plain = plain_below (p.report.phase + 1) x (made.0) (p.report) (found.1.0) made_x (omega arith) in
        let finding = all_has (λ s. finds s.report l.value) l.proof p (a.valid.supporting) (report.1.0) in
        let naming = (and_parts (names p.report l.value) (list_all (same_value l.value) p.report.locked) finding).0 in
        sym (a.value) ∙ elim (or_cases (p.report.all) (list_any (same_value l.value) p.report.proper) naming) [
          | inl all ↦ absurd (both_ways (p.report.all) (plain.one) all)
          | inr listed ↦ plain.only (l.value) listed
        ]
