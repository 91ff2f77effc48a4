-- An open height as a round opens: what is made and sent there, and its state afterwards.
use Rattle.std.proofs.Common.{◌≡◌, ℕ, ◌+◌, inl, inr, Bool, true, false, List, [], ◌∷◌, ◌++◌, refl, sym, ap, subst, ◌∙◌, arith, append-nil}
use Rattle.std.specs.Prelude.{nat_eq, map, Some, None}
use Rattle.std.specs.List.{cons_option}
use Rattle.std.proofs.lemmas.Bool.{cases_Bool, eqb-true, eqb-false, ne_eqb}
use Rattle.std.proofs.lemmas.List.Elements.{filter_map-append}
use Rattle.ledger_model.specs.declared.version.Version.TheVariants.{Two}
use Rattle.ledger_model.specs.declared.config.Config.{Config}
use Rattle.ledger_model.specs.declared.reply.RoundEnded.{RoundEnded}
use Rattle.ledger_model.specs.declared.reply.Sent.{Sent}
use Rattle.ledger_model.specs.declared.statement.SignedStatement.{SignedStatement}
use Rattle.ledger_model.specs.Rounds.{place_of, ack_place, lock_place, release_place, report_place}
use Rattle.ledger_model.specs.Notes.{Note, Has, clock_of, is_open}
use Rattle.ledger_model.specs.Logs.{statements_sent, own_ack, statements_made}
use Rattle.ledger_model.specs.Reading.{reading}
use Rattle.ledger_model.specs.Rules.{Ring, MayMake}
use Rattle.ledger_model.specs.Lawful.{held_locks}
use Rattle.lock_proofs.specs.LockTables.{as_statement}
use Rattle.ledger_model.specs.Spelling.{IsFrame, frame_bytes}
use Rattle.ledger_model.proofs.FrameReading.{reading-again, any_frame}
use Rattle.ledger_model.proofs.Lists.{has_map}
use Rattle.instance.specs.declared.round_statement.RoundStatement.{RoundStatement}
use Rattle.instance.specs.declared.round_statement.RoundStatement.TheVariants as made
use Rattle.instance.specs.Instances.{InstanceView}
use Rattle.instance.specs.Matching.{MatchesLog}
use Rattle.instance.specs.Plans.{opened_effects, is_mute_made, own_statement_sent, closed}
use Rattle.instance.specs.Laws.{MayClose, IsFrameMade, made_in, opened_by}
use Rattle.instance.proofs.AtClock.{allows_at, sends_at, closes_at}
use Rattle.replica_core.specs.RoundEnds.{IsMadeAt, sent_own, sent_on, frames_of_height}
use Rattle.replica_core.proofs.SentFrames.{MayMakeOf, statements_in, may_make}

-- ---- frames that are read again

-- the own one
pub own_read : (config : Config) (m : RoundStatement) → IsFrameMade m → statements_in (map (sent_own config) (own_statement_sent m)) ≡ own_statement_sent m
own_read config made.Mute frame = refl
own_read config made.Unsent frame = refl
own_read config (made.Sent f) frame = ap (λ o. cons_option o []) (reading-again Two f frame)

-- those that are sent on
read_again : (ss : List SignedStatement) → ((s : SignedStatement) → Has ss s → IsFrame s)
    → statements_in (map sent_on (map frame_bytes ss)) ≡ ss
read_again [] frames = refl
read_again (s ∷ ss) frames =
    ap (λ o. cons_option o (statements_in (map sent_on (map frame_bytes ss)))) (reading-again Two s (frames s (inl refl)))
    ∙ ap (λ ts. s ∷ ts) (read_again ss (λ t has. frames t (inr has)))

-- no lock is sent on but at place 4
pub none_on : (row : InstanceView) (c : ℕ) → nat_eq (place_of c) release_place ≡ false → (opened_effects row c).sends_on ≡ []
unfolding opened_effects
none_on row c early = elim (cases_Bool (nat_eq (place_of c) report_place)) [
  | inl first ↦ rw first refl
  | inr not_first ↦ elim (cases_Bool (nat_eq (place_of c) lock_place)) [
    | inl second ↦ rw (not_first, second) refl
    | inr not_second ↦ elim (cases_Bool (nat_eq (place_of c) ack_place)) [
      | inl third ↦ rw (not_first, not_second, third) refl
      | inr not_third ↦
          let one = eqb-false (place_of c) 1 not_first in
          let two = eqb-false (place_of c) 2 not_second in
          let three = eqb-false (place_of c) 3 not_third in
          let four = eqb-false (place_of c) 4 early in
          absurd (omega (arith, one, two, three, four))
    ]
  ]
]

-- nothing is acknowledged but at place 3
no_ack : (config : Config) (id h : ℕ) (log : List Note) (c : ℕ) (mute : Bool) → nat_eq (place_of c) ack_place ≡ false
    → own_ack config id h log c mute ≡ []
unfolding own_ack
no_ack config id h log c true other = refl
no_ack config id h log c false other = elim (cases_Bool (is_open log)) [ inl is ↦ rw (is, other) refl | inr none ↦ rw none refl ]

-- nothing is made at place 4
pub none_made : (row : InstanceView) (c : ℕ) → nat_eq (place_of c) release_place ≡ true → (m : RoundStatement) → MayMakeOf row c m
    → own_statement_sent m ≡ []
none_made row c last made.Mute may = refl
none_made row c last made.Unsent may = refl
none_made row c last (made.Sent f) may =
    let place = eqb-true (place_of c) 4 last in
    let first : nat_eq (place_of c) report_place ≡ false = ne_eqb (place_of c) 1 (λ e. omega (arith, e, place)) in
    let second : nat_eq (place_of c) lock_place ≡ false = ne_eqb (place_of c) 2 (λ e. omega (arith, e, place)) in
    let third : nat_eq (place_of c) ack_place ≡ false = ne_eqb (place_of c) 3 (λ e. omega (arith, e, place)) in
    let none : Some f.statement ≡ None = rw (first, second, third) at may in
    absurd (cc none)

module _ (config : Config) (ring : Ring) (row : InstanceView) (log : List Note) (clock : ℕ) (old : MatchesLog ring row log)
    (now : clock_of log ≡ clock)
    (mute : Bool) (m : RoundStatement) (is_made : IsMadeAt ring mute (clock + 1) row m) where
  abbrev c : ℕ
  c = clock + 1

  -- what is kept allows it
  allowed : MayMakeOf row c m
  allowed = may_make ring mute c row m is_made

  -- what the frames spell: the own statement, and the locks that are sent on
  two_parts : statements_in (frames_of_height config c row m) ≡ own_statement_sent m ++ statements_in (map sent_on (opened_effects row c).sends_on)
  two_parts =
      filter_map-append (λ (f : Sent). reading f.frame) (map (sent_own config) (own_statement_sent m)) (map sent_on (opened_effects row c).sends_on)
      ∙ ap (λ ss. ss ++ statements_in (map sent_on (opened_effects row c).sends_on)) (own_read config m is_made.frame)

  -- the own statement alone before place 4
  pub own_alone : nat_eq (place_of c) release_place ≡ false → statements_in (frames_of_height config c row m) ≡ own_statement_sent m
  own_alone early = two_parts ∙ ap (λ fs. own_statement_sent m ++ statements_in (map sent_on fs)) (none_on row c early) ∙ append-nil (own_statement_sent m)

  -- a held lock has a frame
  held_frame : (s : SignedStatement) → Has (held_locks log) s → IsFrame s
  held_frame s has =
      let lock = has_map as_statement row.table s (subst (λ ss. Has ss s) (sym old.locks) has) in
      subst IsFrame lock.1.1 (any_frame row.config.frames (as_statement lock.0) (old.sound.held lock.0 lock.1.0).frame)

  -- the held locks alone at place 4
  pub locks_alone : nat_eq (place_of c) release_place ≡ true → statements_in (frames_of_height config c row m) ≡ held_locks log
  locks_alone last =
      two_parts
      ∙ ap (λ ss. ss ++ statements_in (map sent_on (opened_effects row c).sends_on)) (none_made row c last m allowed)
      ∙ ap (λ fs. statements_in (map sent_on fs)) (sends_at ring row log clock old now (eqb-true (place_of c) 4 last))
      ∙ read_again (held_locks log) held_frame

  -- by the log it may be made
  pub may_close : MayClose row log c m
  unfolding MayMake own_ack
  may_close = by m allowed
    where
      by : (x : RoundStatement) → MayMakeOf row c x → MayClose row log c x
      by made.Mute may = refl
      by made.Unsent may = allows_at ring row log clock old now None may
      by (made.Sent f) may = allows_at ring row log clock old now (Some f.statement) may

  -- what is kept then matches the log that goes on with it
  pub closes_there : MatchesLog ring (closed row c (opened_effects row c) m) (opened_by row log c m)
  closes_there = closes_at ring row log clock old now m is_made.frame may_close is_made.signed

  module _ (id h : ℕ) (same_config : row.config ≡ config) (same_id : row.id ≡ id) (same_height : row.height ≡ h) where
    -- what is made is what the frames and the own acknowledgement make it
    pub made_is : (end : RoundEnded) → end.mute ≡ mute → statements_sent h end ≡ statements_in (frames_of_height config c row m)
        → statements_made config id h log c end ≡ made_in row log c m
    unfolding statements_made
    made_is end says sent = elim (cases_Bool (nat_eq (place_of c) release_place)) [
      | inl last ↦
          let place = eqb-true (place_of c) 4 last in
          let third : nat_eq (place_of c) ack_place ≡ false = ne_eqb (place_of c) 3 (λ e. omega (arith, e, place)) in
          rw last (sym (
          ap (λ ss. ss ++ own_ack row.config row.id row.height log c (is_mute_made m)) (none_made row c last m allowed)
          ∙ no_ack row.config row.id row.height log c (is_mute_made m) third))
      | inr early ↦
          let same_mute : end.mute ≡ is_mute_made m = says ∙ sym is_made.silent in
          let alike : own_ack config id h log c end.mute ≡ own_ack row.config row.id row.height log c (is_mute_made m) =
          λ i. own_ack (sym same_config i) (sym same_id i) (sym same_height i) log c (same_mute i) in
          rw early (
          ap (λ ss. ss ++ own_ack config id h log c end.mute) (sent ∙ own_alone early)
          ∙ ap (λ ss. own_statement_sent m ++ ss) alike)
    ]

    -- it may be made
    pub may_there : MayMake config id h log c mute (map (λ s. s.statement) (made_in row log c m))
    may_there =
        let statements = map (λ (s : SignedStatement). s.statement) (made_in row log c m) in
        subst (λ g. MayMake g id h log c mute statements) same_config
        (subst (λ r. MayMake row.config r h log c mute statements) same_id
        (subst (λ n. MayMake row.config row.id n log c mute statements) same_height
        (subst (λ b. MayMake row.config row.id row.height log c b statements) is_made.silent may_close)))
