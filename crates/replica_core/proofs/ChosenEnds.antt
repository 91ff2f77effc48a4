-- A round end at which chosen statements are signed, and a mute round end: each is a step.
use Rattle.ledger_model.specs.Meanings.{Meanings}
use Rattle.std.proofs.Common.{◌≡◌, ℕ, ◌+◌, ◌<◌, Bool, true, false, List, [], ◌∷◌, refl, sym, ap, subst, ◌∙◌}
use Rattle.std.specs.Prelude.{Some, IsTrue, slice_get}
use Rattle.std.specs.List.{AllByRecursion}
use Rattle.ledger_model.specs.Limits.{last_round}
use Rattle.ledger_model.specs.declared.event.Event.TheVariants as event
use Rattle.ledger_model.specs.declared.history.Entry.{Entry}
use Rattle.ledger_model.specs.declared.statement.SignedStatement.{SignedStatement}
use Rattle.ledger_model.specs.Spelling.{statement_bytes}
use Rattle.ledger_model.specs.Notes.{signer_of}
use Rattle.ledger_model.specs.Logs.{log_of}
use Rattle.ledger_model.specs.Rules.{Ring, is_signed, is_signed_by}
use Rattle.lms_tree.specs.Trees.{Secret}
use Rattle.key_ring.specs.Signers.{public_key_of}
use Rattle.instance.specs.declared.round_statement.RoundStatement.{RoundStatement}
use Rattle.instance.specs.declared.round_statement.RoundStatement.TheVariants as made
use Rattle.instance.specs.Instances.{InstanceView}
use Rattle.instance.specs.Plans.{MaySend, chosen_statement}
use Rattle.instance.specs.Laws.{IsFrameMade}
use Rattle.instance.proofs.MaySend.{own_if_sent}
use Rattle.instance.proofs.AtClock.{chooses_at}
use Rattle.replica_core.specs.Replays.{ReplayView, IsWithinLimits, MatchesHistory}
use Rattle.replica_core.specs.RoundEnds.{AreMade, after_end, SignsFrom}
use Rattle.replica_core.specs.Steps.{IsStep}
use Rattle.replica_core.specs.ChosenEnds.{all_mute, IsVerifiedMade, IsFrameUnder, end_reply, MuteEnds, SignedEnds}
use Rattle.replica_core.proofs.AscendingRows.{each_found}
use Rattle.replica_core.proofs.RoundsEnd.{rounds_end}
use Rattle.replica_core.proofs.UsedLeaves.{mute_leaves, signed_leaves}
use Rattle.ledger_model.proofs.Lists.{each_weaker}

-- an end at which this may be made after each history that is matched is a step
end_step : (meaning : Meanings) (held : ReplayView) (mute : Bool) (ms : List RoundStatement) → IsWithinLimits held → held.clock < last_round
    → (held.mute ≡ true → mute ≡ true)
    → ((entries : List Entry) → MatchesHistory meaning held entries → AreMade held.ring mute (held.clock + 1) held.rows ms)
    → IsStep meaning held event.RoundEnd (end_reply held mute ms) (after_end held mute ms)
end_step meaning held mute ms is_held early still are_made entries matches =
    let end = (rounds_end meaning held mute ms entries is_held early matches still (are_made entries matches)).0 in
    ((subst (λ n. n < last_round) (sym matches.clock) early, end.lawful), end.signed, end.matches)

-- ---- a mute end

-- a mute replica may make nothing
pub none_made : (ring : Ring) (c : ℕ) (rows : List InstanceView) → AreMade ring true c rows (all_mute rows)
none_made ring c [] = tt
none_made ring c (row ∷ rows) = (record { silent = refl; may = tt; own = tt; signed = tt; frame = tt }, none_made ring c rows)

-- an end of a round at which the replica is mute is a step, and uses no leaf
pub mute_ends : MuteEnds
mute_ends meaning held is_held early = (
  end_step meaning held true (all_mute held.rows) is_held early (λ was. refl)
      (λ entries matches. none_made held.ring (held.clock + 1) held.rows),
  mute_leaves held,
)

-- ---- one at which what is chosen is signed

module _ (ring : Ring) (id : ℕ) (key : List ℕ) (in_ring : slice_get ring id ≡ Some key) (secret : Secret) (c : ℕ) where
  -- the height is the replica's, and what is chosen there may be sent
  abbrev HasChoice : InstanceView → Type 0
  HasChoice row = (row.id ≡ id) × MaySend row c (chosen_statement row c)

  -- what verifies under the replica's own key is signed by the ring
  signed_by_ring : (f : SignedStatement) → signer_of f.statement ≡ id → IsVerifiedMade key (made.Sent f) → IsTrue (is_signed ring f)
  signed_by_ring f signer verified =
      ap (λ n. is_signed_by (slice_get ring n) (statement_bytes f.statement) f.signature) signer
      ∙ ap (λ o. is_signed_by o (statement_bytes f.statement) f.signature) in_ring
      ∙ verified

  -- what is chosen and signed may be made
  chosen_made : (leaf : ℕ) (rows : List InstanceView) (ms : List RoundStatement) → AllByRecursion HasChoice rows
      → SignsFrom secret leaf c rows ms
      → AllByRecursion (IsFrameUnder key) ms → AreMade ring false c rows ms
  chosen_made leaf [] [] choices signs verified = tt
  chosen_made leaf [] (m ∷ ms) choices signs verified = absurd signs
  chosen_made leaf (row ∷ rows) [] choices signs verified = absurd signs
  chosen_made leaf (row ∷ rows) (made.Mute ∷ ms) choices signs verified = absurd signs
  chosen_made leaf (row ∷ rows) (made.Unsent ∷ ms) choices signs verified = (
    record { silent = refl; may = subst (MaySend row c) signs.0 choices.0.1; own = tt; signed = tt; frame = tt },
    chosen_made leaf rows ms choices.1 signs.1 verified.1,
  )
  chosen_made leaf (row ∷ rows) (made.Sent f ∷ ms) choices signs verified =
      let may = subst (MaySend row c) signs.0 choices.0.1 in
      let own = own_if_sent row c (Some f.statement) may in (
        record {
          silent = refl;
          may = may;
          own = (own.signer, own.version);
          signed = signed_by_ring f (own.signer ∙ choices.0.0) verified.0.1;
          frame = verified.0.0;
        },
        chosen_made (leaf + 1) rows ms choices.1 signs.2 verified.1,
      )

-- what is chosen at each open height may be sent, after each history that is matched
choices : (meaning : Meanings) (held : ReplayView) (entries : List Entry) → IsWithinLimits held → MatchesHistory meaning held entries
    → AllByRecursion (λ row. (row.id ≡ held.id) × MaySend row (held.clock + 1) (chosen_statement row (held.clock + 1))) held.rows
choices meaning held entries is_held matches =
    each_found (λ row. (row.id ≡ held.id) × MaySend row (held.clock + 1) (chosen_statement row (held.clock + 1))) held.rows is_held.ascend
    (λ h row is. (
      (is_held.own h row is).id,
      chooses_at held.ring row (log_of held.config held.id h entries) held.clock (matches.opened h row is) (matches.clocks h),
    ))

-- an end at which what is chosen is signed is a step, and uses a leaf for each statement that is due
pub signed_ends : SignedEnds
signed_ends meaning held keys ms is_held early loud in_ring signs verified = (
  end_step meaning held false ms is_held early (λ was. sym loud ∙ was)
      (λ entries matches. chosen_made held.ring held.id (public_key_of keys.secret) in_ring keys.secret (held.clock + 1) keys.used held.rows ms
      (choices meaning held entries is_held matches) signs verified),
  signed_leaves held keys ms signs (each_weaker (IsFrameUnder (public_key_of keys.secret)) IsFrameMade ms (λ m is. is.0) verified),
)
