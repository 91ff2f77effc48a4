-- How each height closes its round, as lists in the order of heights.
use Rattle.ledger_model.specs.Meanings.{Meanings}
use Rattle.std.proofs.Common.{◌≡◌, ℕ, ◌+◌, ◌<◌, Bool, true, false, List, [], ◌∷◌, inl, inr, refl, sym, ap, subst, ◌∙◌, arith}
use Rattle.std.proofs.Math.Dec.{ltb}
use Rattle.std.proofs.lemmas.Bool.{cases_lt, lt-ltb, le-ltb}
use Rattle.ledger_model.specs.Limits.{last_round}
use Rattle.ledger_model.specs.Logs.{notes_of}
use Rattle.std.specs.Prelude.{map, Some, slice_get, Result, Ok, Err, IfOk}
use Rattle.std.specs.declared.alloc.AllocError.{AllocError}
use Rattle.ledger_model.specs.declared.event.Event.TheVariants as event
use Rattle.ledger_model.specs.declared.reply.Reply.TheVariants as reply
use Rattle.key_ring.specs.Signers.{SignerView, public_key_of}
use Rattle.std.specs.List.{AllByRecursion}
use Rattle.std.specs.Option.{IfSome}
use Rattle.ledger_model.specs.declared.statement.Statement.{Statement}
use Rattle.ledger_model.specs.Notes.{signer_of, version_of}
use Rattle.ledger_model.specs.declared.config.Config.{Config}
use Rattle.lms_tree.specs.Trees.{Secret}
use Rattle.instance.specs.declared.round_statement.RoundStatement.{RoundStatement}
use Rattle.instance.specs.declared.round_statement.RoundStatement.TheVariants as made
use Rattle.instance.specs.declared.round_plan.RoundPlan.{RoundPlan}
use Rattle.instance.specs.Instances.{InstanceView}
use Rattle.instance.specs.Plans.{chosen_statement, opened_effects, IsOwnMade, IsOwnStatement}
use Rattle.instance.proofs.SpelledPlans.{chosen_own_statement}
use Rattle.height_row.specs.declared.round_closing.RoundClosing.{RoundClosing}
use Rattle.height_row.specs.Heights.{height_plan}
use Rattle.replica_core.specs.Replays.{ReplayView, IsWithinLimits}
use Rattle.replica_core.specs.RoundEnds.{after_end, due, SignsFrom}
use Rattle.replica_core.specs.Steps.{IsStep, UsesLeaves}
use Rattle.replica_core.specs.ChosenEnds.{all_mute, end_reply, IsVerifiedMade}
use Rattle.replica_core.specs.Cores.{CoreView}
use Rattle.replica_core.specs.PreparedEnds.{PreparedView, IsPreparedFor, IsEndPrepared, made_by_closings, prepared_of, after_prepared}
use Rattle.replica_core.specs.Signing.{SignsPlans}
use Rattle.instance.specs.Laws.{IsFrameMade}
use Rattle.replica_core.proofs.SignedPlans.{signs_from}
use Rattle.replica_core.proofs.ChosenEnds.{mute_ends, signed_ends}
use Rattle.replica_core.proofs.AscendingRows.{each_found}
use Rattle.replica_core.proofs.Quiet.{unheard}

-- what holds of each image
pub all_images : {X Y : Type 0} (P : Y → Type 0) (f : X → Y) (xs : List X) → AllByRecursion (λ x. P (f x)) xs → AllByRecursion P (map f xs)
all_images P f [] all = tt
all_images P f (x ∷ xs) all = (all.0, all_images P f xs all.1)

pub of_images : {X Y : Type 0} (P : Y → Type 0) (f : X → Y) (xs : List X) → AllByRecursion P (map f xs) → AllByRecursion (λ x. P (f x)) xs
of_images P f [] all = tt
of_images P f (x ∷ xs) all = (all.0, of_images P f xs all.1)

-- what holds of each holds of each together
pub all_both : {X : Type 0} (P Q : X → Type 0) (xs : List X) → AllByRecursion P xs → AllByRecursion Q xs
    → AllByRecursion (λ x. P x × Q x) xs
all_both P Q [] ps qs = tt
all_both P Q (x ∷ xs) ps qs = ((ps.0, qs.0), all_both P Q xs ps.1 qs.1)

-- each height ends as it is planned
pub planned_ends : (c : ℕ) (rows : List InstanceView)
    → map (λ (p : RoundPlan). p.ending) (map (height_plan c) rows) ≡ map (λ row. opened_effects row c) rows
planned_ends c [] = refl
planned_ends c (row ∷ rows) = ap (λ es. opened_effects row c ∷ es) (planned_ends c rows)

-- ---- a mute replica

-- it makes nothing at each height
pub mades_mute : (c : ℕ) (rows : List InstanceView) (closings : List RoundClosing)
    → map (λ x. x.ending) closings ≡ map (λ row. opened_effects row c) rows
    → AllByRecursion (λ x. x.made ≡ made.Mute) closings → map (λ x. x.made) closings ≡ all_mute rows
mades_mute c [] [] endings mute = refl
mades_mute c [] (x ∷ closings) endings mute = absurd cc
mades_mute c (row ∷ rows) [] endings mute = absurd cc
mades_mute c (row ∷ rows) (x ∷ closings) endings mute =
    let rest : map (λ x. x.ending) closings ≡ map (λ row. opened_effects row c) rows = cc in
    rw mute.0 (ap (λ ms. made.Mute ∷ ms) (mades_mute c rows closings rest mute.1))

-- nothing is the replica's own
pub mute_own : (config : Config) (id : ℕ) (closings : List RoundClosing) → AllByRecursion (λ x. x.made ≡ made.Mute) closings
    → AllByRecursion (λ x. IsOwnMade config id x.made) closings
mute_own config id [] mute = tt
mute_own config id (x ∷ closings) mute = (rw mute.0 tt, mute_own config id closings mute.1)

-- ---- one that signs

-- what is chosen is the replica's own
chosen_own : (config : Config) (row : InstanceView) (c id : ℕ) (s : Statement) → (row.config ≡ config) × (row.id ≡ id)
    → chosen_statement row c ≡ Some s
    → (signer_of s ≡ id) × (version_of s ≡ config.frames)
chosen_own config row c id s same is =
    let own = subst (λ o. IfSome o (IsOwnStatement row)) is (chosen_own_statement row c) in
    (own.signer ∙ same.1, own.version ∙ ap (λ (x : Config). x.frames) same.0)

-- each statement that is signed is its own
pub signs_own : (config : Config) (secret : Secret) (leaf c id : ℕ) (rows : List InstanceView) (ms : List RoundStatement)
    → AllByRecursion (λ row. (row.config ≡ config) × (row.id ≡ id)) rows → SignsFrom secret leaf c rows ms
    → AllByRecursion (IsOwnMade config id) ms
signs_own config secret leaf c id [] [] ids signs = tt
signs_own config secret leaf c id [] (m ∷ ms) ids signs = absurd signs
signs_own config secret leaf c id (row ∷ rows) [] ids signs = absurd signs
signs_own config secret leaf c id (row ∷ rows) (made.Mute ∷ ms) ids signs = absurd signs
signs_own config secret leaf c id (row ∷ rows) (made.Unsent ∷ ms) ids signs = (tt, signs_own config secret leaf c id rows ms ids.1 signs.1)
signs_own config secret leaf c id (row ∷ rows) (made.Sent f ∷ ms) ids signs =
    (chosen_own config row c id f.statement ids.0 signs.0, signs_own config secret (leaf + 1) c id rows ms ids.1 signs.2)

-- each open height is the replica's
pub each_own : (held : ReplayView) → IsWithinLimits held
    → AllByRecursion (λ row. (row.config ≡ held.config) × (row.id ≡ held.id)) held.rows
each_own held is_held = each_found (λ row. (row.config ≡ held.config) × (row.id ≡ held.id)) held.rows is_held.ascend
    (λ h row at. let own = is_held.own h row at in (own.config, own.id))

-- ---- what is prepared

-- it is ready if another round follows, and the heights end so
pub ready_of : (held : ReplayView) (mute : Bool) (closings : List RoundClosing) → held.clock < last_round
    → map (λ x. x.ending) closings ≡ map (λ row. opened_effects row (held.clock + 1)) held.rows
    → AllByRecursion (λ x. IsOwnMade held.config held.id x.made) closings → IsPreparedFor held (prepared_of held mute closings)
ready_of held mute closings early endings own = record { clock = early; endings = endings; own = own; reply = refl }

-- the prepared end is a step, and its leaves are used
pub end_prepared : (meaning : Meanings) (held : ReplayView) (keys new : SignerView) (mute : Bool) (closings : List RoundClosing)
    (result : Result PreparedView AllocError) → IfOk result (λ p. p ≡ prepared_of held mute closings)
    → IfOk result (IsPreparedFor held)
    → IsStep meaning held event.RoundEnd (end_reply held mute (made_by_closings closings)) (after_end held mute (made_by_closings closings))
    → UsesLeaves keys held.clock (end_reply held mute (made_by_closings closings)) new
    → IfOk result (λ p. IsEndPrepared meaning (record { replay = held; keys = keys }) p new)
end_prepared meaning held keys new mute closings (Ok p) is ready step leaves = record {
  ready = ready;
  step = subst (λ (x : PreparedView). IsStep meaning held event.RoundEnd (reply.RoundEnded (Ok x.ended)) (after_prepared held x))
      (sym is) step;
  leaves = subst (λ (x : PreparedView). UsesLeaves keys held.clock (reply.RoundEnded (Ok x.ended)) new) (sym is) leaves;
}
end_prepared meaning held keys new mute closings (Err e) is ready step leaves = tt

-- fewer leaves are left than are due just where the leaves are fewer than those used and those due
pub short_of : (left due leaves used : ℕ) → used + left ≡ leaves → ltb left due ≡ ltb leaves (used + due)
short_of left due leaves used all =
    elim (cases_lt left due) [
      | inl fewer ↦ lt-ltb left due fewer ∙ sym (lt-ltb leaves (used + due) (omega (arith, all, fewer)))
      | inr enough ↦ le-ltb left due enough ∙ sym (le-ltb leaves (used + due) (omega (arith, all, enough)))
    ]

-- no round is left
pub over : (meaning : Meanings) (held : ReplayView) → held.clock ≡ last_round
    → IsStep meaning held event.RoundEnd (reply.RoundEnded (Err (record {}))) held
unfolding notes_of
over meaning held last entries matches = (
  matches.clock ∙ last,
  refl,
  unheard meaning held entries (record { event = event.RoundEnd; reply = reply.RoundEnded (Err (record {})) }) matches refl refl refl
      (λ floor. refl) held.pool refl (λ h. refl),
)

-- what is planned, by what is kept
pub planned_by : (old : CoreView) (held : ReplayView) (keys : SignerView) (plans : List RoundPlan)
    → record { replay = held; keys = keys } ≡ old
    → plans ≡ map (height_plan (old.replay.clock + 1)) old.replay.rows → plans ≡ map (height_plan (held.clock + 1)) held.rows
planned_by old held keys plans is planned = subst (λ (x : CoreView). plans ≡ map (height_plan (x.replay.clock + 1)) x.replay.rows) (sym is) planned

-- what each height is done with, where all is planned so, and signed
module _ (meaning : Meanings) (old : CoreView) (held : ReplayView) (keys : SignerView) (plans : List RoundPlan)
    (closings : List RoundClosing)
    (is : record { replay = held; keys = keys } ≡ old) (is_held : IsWithinLimits old.replay)
    (planned : plans ≡ map (height_plan (old.replay.clock + 1)) old.replay.rows)
    (signs : SignsPlans keys.secret keys.used plans (map (λ (x : RoundClosing). x.made) closings)) where
  kept : IsWithinLimits held
  kept = subst (λ (x : CoreView). IsWithinLimits x.replay) (sym is) is_held

  from : SignsFrom keys.secret keys.used (held.clock + 1) held.rows (map (λ (x : RoundClosing). x.made) closings)
  from = signs_from keys.secret keys.used (held.clock + 1) held.rows (map (λ (x : RoundClosing). x.made) closings)
      (subst (λ ps. SignsPlans keys.secret keys.used ps (map (λ (x : RoundClosing). x.made) closings))
      (planned_by old held keys plans is planned) signs)

  -- each statement is the replica's own
  pub signed_own : AllByRecursion (λ (x : RoundClosing). IsOwnMade held.config held.id x.made) closings
  signed_own = of_images (IsOwnMade held.config held.id) (λ (x : RoundClosing). x.made) closings
      (signs_own held.config keys.secret keys.used (held.clock + 1) held.id held.rows (map (λ (x : RoundClosing). x.made) closings)
      (each_own held kept) from)

  -- the end is a step, and uses a leaf for each
  pub signed_step : old.replay.clock < last_round → old.replay.mute ≡ false → slice_get held.ring held.id ≡ Some (public_key_of keys.secret)
      → AllByRecursion (λ (x : RoundClosing). IsFrameMade x.made) closings
      → AllByRecursion (λ (x : RoundClosing). IsVerifiedMade (public_key_of keys.secret) x.made) closings
      → IsStep meaning held event.RoundEnd (end_reply held false (map (λ (x : RoundClosing). x.made) closings))
      (after_end held false (map (λ (x : RoundClosing). x.made) closings))
      × UsesLeaves keys held.clock (end_reply held false (map (λ (x : RoundClosing). x.made) closings))
      (record keys { used = keys.used + due (held.clock + 1) held.rows })
  signed_step early loud own_key frames verified =
      signed_ends meaning held keys (map (λ (x : RoundClosing). x.made) closings) kept
      (subst (λ (x : CoreView). x.replay.clock < last_round) (sym is) early)
      (subst (λ (x : CoreView). x.replay.mute ≡ false) (sym is) loud) own_key from
      (all_both IsFrameMade (IsVerifiedMade (public_key_of keys.secret)) (map (λ (x : RoundClosing). x.made) closings)
      (all_images IsFrameMade (λ (x : RoundClosing). x.made) closings frames)
      (all_images (IsVerifiedMade (public_key_of keys.secret)) (λ (x : RoundClosing). x.made) closings verified))

-- the end of a mute replica is a step, and uses no leaf
pub mute_step : (meaning : Meanings) (held : ReplayView) (keys : SignerView) (closings : List RoundClosing) → IsWithinLimits held
    → held.clock < last_round
    → map (λ (x : RoundClosing). x.ending) closings ≡ map (λ row. opened_effects row (held.clock + 1)) held.rows
    → AllByRecursion (λ (x : RoundClosing). x.made ≡ made.Mute) closings
    → IsStep meaning held event.RoundEnd (end_reply held true (map (λ (x : RoundClosing). x.made) closings))
    (after_end held true (map (λ (x : RoundClosing). x.made) closings))
    × UsesLeaves keys held.clock (end_reply held true (map (λ (x : RoundClosing). x.made) closings)) keys
mute_step meaning held keys closings is_held early endings mute =
    let made = mades_mute (held.clock + 1) held.rows closings endings mute in
    let ends = mute_ends meaning held is_held early in (
      subst (λ (ms : List RoundStatement). IsStep meaning held event.RoundEnd (end_reply held true ms) (after_end held true ms))
          (sym made) ends.0,
      subst (λ (ms : List RoundStatement). UsesLeaves keys held.clock (end_reply held true ms) keys) (sym made) (ends.1 keys),
    )
