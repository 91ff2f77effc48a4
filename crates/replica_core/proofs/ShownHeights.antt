-- An open height, according to a lawful round end: what is made there, and that its frames are those of the height.
use Rattle.std.proofs.Common.{◌≡◌, ℕ, ◌+◌, ◌≤◌, inl, inr, Bool, true, false, List, [], ◌∷◌, ◌++◌, length, refl, sym, subst, ◌∙◌, arith}
use Rattle.std.specs.Prelude.{nat_eq, map, Option, Some, None}
use Rattle.std.specs.List.{list_all, AllByRecursion}
use Rattle.std.proofs.lemmas.Bool.{cases_Bool, eqb-true, ne_eqb, and_parts}
use Rattle.ledger_model.specs.declared.config.Config.{Config}
use Rattle.ledger_model.specs.declared.statement.SignedStatement.{SignedStatement}
use Rattle.ledger_model.specs.declared.statement.Statement.{Statement}
use Rattle.ledger_model.specs.Values.{Value}
use Rattle.ledger_model.specs.Rounds.{phase_of, place_of, owner_of, ack_place, lock_place, release_place, report_place}
use Rattle.ledger_model.specs.Notes.{Note, clock_of}
use Rattle.ledger_model.specs.Locks.{value_taken}
use Rattle.ledger_model.specs.Logs.{own_ack}
use Rattle.ledger_model.specs.Rules.{Ring, MayMake, MayMakeOpen, MayLock, acks_of, is_signed}
use Rattle.ledger_model.specs.Lawful.{held_locks, are_signed_reports}
use Rattle.ledger_model.specs.Spelling.{IsFrame}
use Rattle.instance.specs.declared.round_statement.RoundStatement.{RoundStatement}
use Rattle.instance.specs.declared.round_statement.RoundStatement.TheVariants as made
use Rattle.instance.specs.Instances.{InstanceView}
use Rattle.instance.specs.Matching.{MatchesLog}
use Rattle.instance.specs.Plans.{MaySend}
use Rattle.instance.proofs.AtClock.{allowed_at}
use Rattle.instance.proofs.MaySend.{own_if_sent}
use Rattle.replica_core.specs.RoundEnds.{IsMadeAt, frames_of_height}
use Rattle.replica_core.proofs.SentFrames.{statements_in, is_all_signed}
use Rattle.replica_core.proofs.AllHeights.{of_height}
use Rattle.replica_core.proofs.OpenEnds.{own_alone, locks_alone}

-- ---- one statement a height

-- an acknowledgement at most
one_ack : (config : Config) (id h k : ℕ) (taken : Option Value) → length (acks_of config id h k taken) ≤ 1
one_ack config id h k None = omega arith
one_ack config id h k (Some v) = omega arith

-- what may be made where a height is open is one statement at most
at_most_one : (config : Config) (id h : ℕ) (log : List Note) (c : ℕ) (own : Value) (made : List Statement)
    → MayMakeOpen config id h log c own made → length made ≤ 1
at_most_one config id h log c own made may = elim (cases_Bool (nat_eq (place_of c) report_place)) [
  | inl first ↦ (let is = rw first at may in subst (λ xs. length xs ≤ 1) (sym is) (omega arith))
  | inr not_first ↦ elim (cases_Bool (nat_eq (place_of c) lock_place)) [
    | inl second ↦ elim (cases_Bool (nat_eq (owner_of config (phase_of c)) id)) [
      | inl mine ↦ by_lock (rw (not_first, second, mine) at may)
      | inr others ↦ (let is = rw (not_first, second, others) at may in subst (λ xs. length xs ≤ 1) (sym is) (omega arith))
    ]
    | inr not_second ↦ elim (cases_Bool (nat_eq (place_of c) ack_place)) [
      | inl third ↦ (let is = rw (not_first, not_second, third) at may
          in subst (λ xs. length xs ≤ 1) (sym is) (one_ack config id h (phase_of c) (value_taken log (phase_of c))))
      | inr not_third ↦ (let is = rw (not_first, not_second, not_third) at may in subst (λ xs. length xs ≤ 1) (sym is) (omega arith))
    ]
  ]
]
  where
    by_lock : MayLock config id h log (phase_of c) made → length made ≤ 1
    by_lock (inl some) = subst (λ xs. length xs ≤ 1) (sym some.1) (omega arith)
    by_lock (inr none) = subst (λ xs. length xs ≤ 1) (sym none.0) (omega arith)

-- ---- what is said of one height

-- what is made there, and that its frames spell the statements of the height
pub record IsShownAt (config : Config) (ring : Ring) (mute : Bool) (c : ℕ) (ss : List SignedStatement) (row : InstanceView) : Type 0 where
  pub made : RoundStatement
  pub is_made : IsMadeAt ring mute c row made
  pub sent : statements_in (frames_of_height config c row made) ≡ of_height row.height ss

-- the statement of a list of one
abbrev one_of : List SignedStatement → Option Statement
one_of [] = None
one_of (s ∷ ss) = Some s.statement

module _ (ring : Ring) (row : InstanceView) (log : List Note) (clock : ℕ) (old : MatchesLog ring row log) (now : clock_of log ≡ clock) where
  abbrev c : ℕ
  c = clock + 1

  abbrev may_be : Bool → List SignedStatement → Type 0
  may_be mute ss = MayMake row.config row.id row.height log c mute (map (λ s. s.statement) ss)

  abbrev acks : Bool → List SignedStatement
  acks mute = own_ack row.config row.id row.height log c mute

  -- what is made where the height is open
  open_may : (ss : List SignedStatement) → may_be false ss
      → MayMakeOpen row.config row.id row.height log c row.proper.own (map (λ s. s.statement) ss)
  unfolding MayMake
  open_may ss may = rw old.opened at may

  -- a mute replica makes nothing
  none_mute : (ss : List SignedStatement) → may_be true (ss ++ acks true) → ss ≡ []
  unfolding MayMake own_ack
  none_mute [] may = refl
  none_mute (s ∷ ss) may = absurd (cc may)

  -- what it may send is what is kept allows
  sends_one : (ss : List SignedStatement) → may_be false (ss ++ acks false) → length ss ≤ 1 → MaySend row c (one_of ss)
  sends_one [] may few = allowed_at ring row log clock old now None may
  sends_one (s ∷ []) may few = allowed_at ring row log clock old now (Some s.statement) may
  sends_one (s ∷ t ∷ ss) may few = absurd (omega (arith, few))

  -- it is one at most
  few_sent : (ss : List SignedStatement) → may_be false (ss ++ acks false) → length ss ≤ 1
  few_sent ss may =
      let most = at_most_one row.config row.id row.height log c row.proper.own (map (λ s. s.statement) (ss ++ acks false))
      (open_may (ss ++ acks false) may) in
      counted ss (acks false) most
    where
      counted : (xs ys : List SignedStatement) → length (map (λ (s : SignedStatement). s.statement) (xs ++ ys)) ≤ 1 → length xs ≤ 1
      counted [] ys le = omega arith
      counted (x ∷ []) ys le = omega arith
      counted (x ∷ y ∷ xs) ys le = absurd (omega (arith, le))

  module _ (config : Config) (all : List SignedStatement) where
    abbrev there : List SignedStatement
    there = of_height row.height all

    -- a mute replica, before place 4
    pub shown_mute : nat_eq (place_of c) release_place ≡ false → may_be true (there ++ acks true) → IsShownAt config ring true c all row
    shown_mute early may =
        let is_made : IsMadeAt ring true c row made.Mute = record { silent = refl; may = tt; own = tt; signed = tt; frame = tt } in
        record {
          made = made.Mute;
          is_made = is_made;
          sent = own_alone config ring row log clock old now true made.Mute is_made early ∙ sym (none_mute there may);
        }

    -- one that is not mute, before place 4
    pub shown_one : nat_eq (place_of c) release_place ≡ false → may_be false (there ++ acks false)
        → list_all (is_all_signed ring) there ≡ true
        → AllByRecursion IsFrame there
        → IsShownAt config ring false c all row
    shown_one early may = by there refl (few_sent there may) (sends_one there may (few_sent there may))
      where
        by : (ss : List SignedStatement) → there ≡ ss → length ss ≤ 1 → MaySend row c (one_of ss)
            → list_all (is_all_signed ring) there ≡ true → AllByRecursion IsFrame there
            → IsShownAt config ring false c all row
        by [] is few sends signed frames =
            let is_made : IsMadeAt ring false c row made.Unsent =
            record { silent = refl; may = sends; own = tt; signed = tt; frame = tt } in
            record {
              made = made.Unsent;
              is_made = is_made;
              sent =
                  own_alone config ring row log clock old now false made.Unsent is_made early ∙ sym is;
            }
        by (s ∷ []) is few sends signed frames =
            let verified = (and_parts (is_signed ring s) (are_signed_reports ring s.statement)
            ((and_parts (is_all_signed ring s) true (rw is at signed)).0)).0 in
            let own = own_if_sent row c (Some s.statement) sends in
            let is_made : IsMadeAt ring false c row (made.Sent s) = record {
              silent = refl;
              may = sends;
              own = (own.signer, own.version);
              signed = verified;
              frame = (subst (AllByRecursion IsFrame) is frames).0;
            } in
            record {
              made = made.Sent s;
              is_made = is_made;
              sent =
                  own_alone config ring row log clock old now false (made.Sent s) is_made early ∙ sym is;
            }
        by (s ∷ t ∷ ss) is few sends signed frames = absurd (omega (arith, few))

    -- at place 4 the held locks are sent on, and nothing is made
    pub shown_release : (mute : Bool) → nat_eq (place_of c) release_place ≡ true → there ≡ held_locks log
        → IsShownAt config ring mute c all row
    shown_release true last is =
        let is_made : IsMadeAt ring true c row made.Mute = record { silent = refl; may = tt; own = tt; signed = tt; frame = tt } in
        record {
          made = made.Mute;
          is_made = is_made;
          sent =
              locks_alone config ring row log clock old now true made.Mute is_made last ∙ sym is;
        }
    shown_release false last is =
        let place = eqb-true (place_of c) 4 last in
        let first : nat_eq (place_of c) report_place ≡ false = ne_eqb (place_of c) 1 (λ e. omega (arith, e, place)) in
        let second : nat_eq (place_of c) lock_place ≡ false = ne_eqb (place_of c) 2 (λ e. omega (arith, e, place)) in
        let third : nat_eq (place_of c) ack_place ≡ false = ne_eqb (place_of c) 3 (λ e. omega (arith, e, place)) in
        let none : MaySend row c None = rw (first, second, third) refl in
        let is_made : IsMadeAt ring false c row made.Unsent = record { silent = refl; may = none; own = tt; signed = tt; frame = tt } in
        record {
          made = made.Unsent;
          is_made = is_made;
          sent =
              locks_alone config ring row log clock old now false made.Unsent is_made last ∙ sym is;
        }
