-- The leaves that a round end uses: one for each statement of its own that is sent, in the order of the frames.
use Rattle.std.proofs.Common.{◌≡◌, ℕ, ◌+◌, inl, inr, true, false, List, [], ◌∷◌, ◌++◌, length, refl, sym, ap, subst, ◌∙◌, arith, append-nil}
use Rattle.std.specs.Prelude.{nat_eq, map, None, is_some, if◌then◌else◌}
use Rattle.std.specs.List.{cons_option, AllByRecursion}
use Rattle.std.proofs.lemmas.Bool.{cases_Bool, eqb-true, ne_eqb}
use Rattle.ledger_model.specs.declared.version.Version.TheVariants.{Two}
use Rattle.ledger_model.specs.declared.config.Config.{Config}
use Rattle.ledger_model.specs.declared.statement.SignedStatement.{SignedStatement}
use Rattle.ledger_model.specs.Rounds.{place_of, ack_place, lock_place, release_place, report_place}
use Rattle.ledger_model.proofs.FrameReading.{reading-again}
use Rattle.key_ring.specs.Signers.{SignerView}
use Rattle.instance.specs.declared.round_statement.RoundStatement.{RoundStatement}
use Rattle.instance.specs.declared.round_statement.RoundStatement.TheVariants as made
use Rattle.instance.specs.Instances.{InstanceView}
use Rattle.instance.specs.Plans.{chosen_statement, own_statement_sent}
use Rattle.instance.specs.Laws.{IsFrameMade}
use Rattle.replica_core.specs.Replays.{ReplayView}
use Rattle.replica_core.specs.RoundEnds.{sent_own, sent_on, frames_of_height, frames_of_heights, due, SignsFrom}
use Rattle.replica_core.specs.Steps.{AreSignedFrom, UsesLeaves}
use Rattle.replica_core.specs.ChosenEnds.{all_mute, end_reply}
use Rattle.replica_core.proofs.SentFrames.{statements_in}
use Rattle.replica_core.proofs.OpenEnds.{none_on}

-- ---- before place 4

module _ (config : Config) (c : ℕ) (early : nat_eq (place_of c) release_place ≡ false) where
  -- the own statement alone is sent at a height
  own_frame : (row : InstanceView) (m : RoundStatement) → frames_of_height config c row m ≡ map (sent_own config) (own_statement_sent m)
  own_frame row m =
      ap (λ frames. map (sent_own config) (own_statement_sent m) ++ map sent_on frames) (none_on row c early)
      ∙ append-nil (map (sent_own config) (own_statement_sent m))

  -- nothing is sent by a mute replica
  no_frames : (rows : List InstanceView) → frames_of_heights config c rows (all_mute rows) ≡ []
  no_frames [] = refl
  no_frames (row ∷ rows) = ap (λ frames. frames ++ frames_of_heights config c rows (all_mute rows)) (own_frame row made.Mute) ∙ no_frames rows

  module _ (keys : SignerView) where
    -- as many frames are sent as statements are due
    count_frames : (leaf : ℕ) (rows : List InstanceView) (ms : List RoundStatement) → SignsFrom keys.secret leaf c rows ms
        → length (frames_of_heights config c rows ms) ≡ due c rows
    count_frames leaf [] [] signs = refl
    count_frames leaf [] (m ∷ ms) signs = absurd signs
    count_frames leaf (row ∷ rows) [] signs = absurd signs
    count_frames leaf (row ∷ rows) (made.Mute ∷ ms) signs = absurd signs
    count_frames leaf (row ∷ rows) (made.Unsent ∷ ms) signs =
        let rest = count_frames leaf rows ms signs.1 in
        let none = ap (λ o. (if is_some o then 1 else 0) + due c rows) signs.0 in
        ap (λ frames. length (frames ++ frames_of_heights config c rows ms)) (own_frame row made.Unsent) ∙ omega (arith, rest, none)
    count_frames leaf (row ∷ rows) (made.Sent f ∷ ms) signs =
        let rest = count_frames (leaf + 1) rows ms signs.2 in
        let one = ap (λ o. (if is_some o then 1 else 0) + due c rows) signs.0 in
        ap (λ frames. length (frames ++ frames_of_heights config c rows ms)) (own_frame row (made.Sent f)) ∙ omega (arith, rest, one)

    -- each is signed with the next leaf
    each_next : (leaf : ℕ) (rows : List InstanceView) (ms : List RoundStatement) → SignsFrom keys.secret leaf c rows ms
        → AllByRecursion IsFrameMade ms
        → AreSignedFrom keys leaf (statements_in (frames_of_heights config c rows ms))
    each_next leaf [] [] signs frames = tt
    each_next leaf [] (m ∷ ms) signs frames = absurd signs
    each_next leaf (row ∷ rows) [] signs frames = absurd signs
    each_next leaf (row ∷ rows) (made.Mute ∷ ms) signs frames = absurd signs
    each_next leaf (row ∷ rows) (made.Unsent ∷ ms) signs frames =
        subst (λ first. AreSignedFrom keys leaf (statements_in (first ++ frames_of_heights config c rows ms))) (sym (own_frame row made.Unsent))
        (each_next leaf rows ms signs.1 frames.1)
    each_next leaf (row ∷ rows) (made.Sent f ∷ ms) signs frames =
        let rest : List SignedStatement = statements_in (frames_of_heights config c rows ms) in
        subst (λ first. AreSignedFrom keys leaf (statements_in (first ++ frames_of_heights config c rows ms))) (sym (own_frame row (made.Sent f)))
        (subst (λ o. AreSignedFrom keys leaf (cons_option o rest)) (sym (reading-again Two f frames.0))
        (signs.1, each_next (leaf + 1) rows ms signs.2 frames.1))

-- ---- at place 4

-- nothing is chosen
none_chosen : (row : InstanceView) (c : ℕ) → nat_eq (place_of c) release_place ≡ true → chosen_statement row c ≡ None
unfolding chosen_statement
none_chosen row c last =
    let place = eqb-true (place_of c) 4 last in
    let first : nat_eq (place_of c) report_place ≡ false = ne_eqb (place_of c) 1 (λ e. omega (arith, e, place)) in
    let second : nat_eq (place_of c) lock_place ≡ false = ne_eqb (place_of c) 2 (λ e. omega (arith, e, place)) in
    let third : nat_eq (place_of c) ack_place ≡ false = ne_eqb (place_of c) 3 (λ e. omega (arith, e, place)) in
    rw (first, second, third) refl

-- nothing is due
none_due : (c : ℕ) (rows : List InstanceView) → nat_eq (place_of c) release_place ≡ true → due c rows ≡ 0
none_due c [] last = refl
none_due c (row ∷ rows) last =
    let rest = none_due c rows last in
    let none = ap (λ o. (if is_some o then 1 else 0) + due c rows) (none_chosen row c last) in
    omega (arith, rest, none)

-- ---- in any round

-- the keys with as many leaves used
with_used : (keys : SignerView) (m n : ℕ) → m ≡ n → record keys { used = m } ≡ record keys { used = n }
with_used keys m n same = λ i. record { secret = keys.secret; used = same i }

-- a mute end uses no leaf
pub mute_leaves : (held : ReplayView) (keys : SignerView) → UsesLeaves keys held.clock (end_reply held true (all_mute held.rows)) keys
mute_leaves held keys =
    let c : ℕ = held.clock + 1 in
    elim (cases_Bool (nat_eq (place_of c) release_place)) [
      | inl last ↦ rw last refl
      | inr early ↦
          let none = no_frames held.config c early held.rows in
          let unused = ap length none in
          rw early (
            with_used keys keys.used (keys.used + length (frames_of_heights held.config c held.rows (all_mute held.rows))) (omega (arith, unused)),
            subst (λ frames. AreSignedFrom keys keys.used (statements_in frames)) (sym none) tt,
          )
    ]

-- an end at which what is chosen is signed uses a leaf for each statement that is due
pub signed_leaves : (held : ReplayView) (keys : SignerView) (ms : List RoundStatement)
    → SignsFrom keys.secret keys.used (held.clock + 1) held.rows ms → AllByRecursion IsFrameMade ms
    → UsesLeaves keys held.clock (end_reply held false ms) (record keys { used = keys.used + due (held.clock + 1) held.rows })
signed_leaves held keys ms signs frames =
    let c : ℕ = held.clock + 1 in
    elim (cases_Bool (nat_eq (place_of c) release_place)) [
      | inl last ↦
          let none = none_due c held.rows last in
          rw last (with_used keys (keys.used + due c held.rows) keys.used (omega (arith, none)))
      | inr early ↦
          let count = count_frames held.config c early keys keys.used held.rows ms signs in
          rw early (
            with_used keys (keys.used + due c held.rows) (keys.used + length (frames_of_heights held.config c held.rows ms)) (omega (arith, count)),
            each_next held.config c early keys keys.used held.rows ms signs frames,
          )
    ]
