-- A height that is not open, as a round opens: nothing is made or sent there.
use Rattle.std.proofs.Common.{◌≡◌, ℕ, inl, inr, Bool, true, false, List, [], ◌∷◌, ◌++◌, refl, ap, ◌∙◌}
use Rattle.std.specs.Prelude.{nat_eq, None, is_some, if◌then◌else◌}
use Rattle.std.proofs.lemmas.Bool.{cases_Bool, and_from}
use Rattle.std.proofs.lemmas.List.Folds.{list_all-append}
use Rattle.ledger_model.specs.declared.config.Config.{Config}
use Rattle.ledger_model.specs.declared.reply.RoundEnded.{RoundEnded}
use Rattle.ledger_model.specs.Rounds.{place_of, release_place}
use Rattle.ledger_model.specs.Notes.{Note, Proposed, Round, OwnStatement, Read, Retired, initial_of, is_retired, open_of}
use Rattle.ledger_model.specs.Logs.{statements_sent, own_ack, statements_made}
use Rattle.ledger_model.specs.Rules.{MayMake}
use Rattle.ledger_model.specs.Lawful.{held_locks, locks_sent_on}
use Rattle.instance.specs.Matching.{is_round, only_rounds}

-- a log of rounds alone is one still once another is open
pub rounds_still : (log : List Note) → only_rounds log ≡ true → (c : ℕ) → only_rounds (log ++ Round c ∷ []) ≡ true
rounds_still log only c = list_all-append is_round log (Round c ∷ []) ∙ and_from (only_rounds log) true only refl

-- a round opens no height, and retires none
same_initial : (log : List Note) (c : ℕ) → initial_of (log ++ Round c ∷ []) ≡ initial_of log
same_initial [] c = refl
same_initial (Proposed v ∷ log) c = refl
same_initial (Round d ∷ log) c = same_initial log c
same_initial (OwnStatement d s ∷ log) c = same_initial log c
same_initial (Read d s ∷ log) c = same_initial log c
same_initial (Retired f ∷ log) c = same_initial log c

same_retired : (log : List Note) (c : ℕ) → is_retired (log ++ Round c ∷ []) ≡ is_retired log
same_retired [] c = refl
same_retired (Proposed v ∷ log) c = same_retired log c
same_retired (Round d ∷ log) c = same_retired log c
same_retired (OwnStatement d s ∷ log) c = same_retired log c
same_retired (Read d s ∷ log) c = same_retired log c
same_retired (Retired f ∷ log) c = refl

pub open_still : (log : List Note) (c : ℕ) → open_of (log ++ Round c ∷ []) ≡ open_of log
open_still log c =
    ap (λ b. if b then None else initial_of (log ++ Round c ∷ [])) (same_retired log c)
    ∙ ap (λ o. if is_retired log then None else o) (same_initial log c)

module _ (log : List Note) (closed : open_of log ≡ None) where
  -- no lock is sent on
  pub no_locks : locks_sent_on log ≡ []
  no_locks = ap (λ o. if is_some o then held_locks log else []) closed

  module _ (config : Config) (id h : ℕ) where
    -- nothing is acknowledged there
    no_ack : (c : ℕ) (mute : Bool) → own_ack config id h log c mute ≡ []
    unfolding own_ack
    no_ack c true = refl
    no_ack c false = rw closed refl

    -- nothing is made there, where nothing is sent
    pub nothing_made : (c : ℕ) (end : RoundEnded) → statements_sent h end ≡ [] → statements_made config id h log c end ≡ []
    unfolding statements_made
    nothing_made c end none = elim (cases_Bool (nat_eq (place_of c) release_place)) [
      | inl last ↦ rw last refl
      | inr early ↦ rw early (ap (λ ss. ss ++ own_ack config id h log c end.mute) none ∙ no_ack c end.mute)
    ]

    -- and nothing is what may be made
    pub may_nothing : (c : ℕ) (mute : Bool) → MayMake config id h log c mute []
    unfolding MayMake
    may_nothing c true = refl
    may_nothing c false = rw closed refl
