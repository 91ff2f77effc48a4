-- The frames that a height sends: what they encode, and that they are signed.
use Rattle.std.proofs.Common.{◌≡◌, ℕ, ◌+◌, Bool, true, ◌&&◌, List, [], ◌∷◌, ◌++◌, refl, sym, ap, subst, ◌∙◌}
use Rattle.std.specs.Prelude.{map, MatchBool, Some, None}
use Rattle.std.specs.List.{filter_map, cons_option, list_all, AllByRecursion}
use Rattle.std.proofs.lemmas.Bool.{and_from}
use Rattle.std.proofs.lemmas.List.Elements.{filter_map-append}
use Rattle.std.proofs.lemmas.List.Folds.{list_all-append}
use Rattle.ledger_model.specs.declared.version.Version.TheVariants.{Two}
use Rattle.ledger_model.specs.declared.config.Config.{Config}
use Rattle.ledger_model.specs.declared.reply.Sent.{Sent}
use Rattle.ledger_model.specs.declared.statement.SignedStatement.{SignedStatement}
use Rattle.ledger_model.specs.declared.statement.Statement.TheVariants as statement
use Rattle.ledger_model.specs.Notes.{Note, clock_of}
use Rattle.ledger_model.specs.Reading.{reading}
use Rattle.ledger_model.specs.Rules.{Ring, is_signed}
use Rattle.ledger_model.specs.Lawful.{IsSentRight, addressee_of, are_signed_reports}
use Rattle.lock_proofs.specs.LockTables.{as_statement}
use Rattle.ledger_model.proofs.FrameReading.{reading-again}
use Rattle.instance.specs.declared.round_statement.RoundStatement.{RoundStatement}
use Rattle.instance.specs.declared.round_statement.RoundStatement.TheVariants as made
use Rattle.instance.specs.Instances.{InstanceView}
use Rattle.instance.specs.Matching.{MatchesLog}
use Rattle.instance.specs.Plans.{MaySend, opened_effects, is_mute_made, own_statement_sent}
use Rattle.instance.specs.Laws.{IsSignedMade, IsFrameMade, IsLockSentOn}
use Rattle.instance.proofs.MaySend.{own_if_sent}
use Rattle.instance.proofs.AtClock.{signed_at}
use Rattle.instance.proofs.Makes.{sends_locks}
use Rattle.replica_core.specs.RoundEnds.{IsMadeAt, own_statement, sent_own, sent_on, frames_of_height}
use Rattle.replica_core.proofs.SentHeights.{height_in}
use Rattle.ledger_model.proofs.Lists.{each_append}

-- the statements that frames spell
abbrev pub statements_in : List Sent → List SignedStatement
statements_in frames = filter_map (λ f. reading f.frame) frames

-- its signature verifies, and those of the reports in its proof
abbrev pub is_all_signed : Ring → SignedStatement → Bool
is_all_signed ring s = is_signed ring s && are_signed_reports ring s.statement

-- each frame spells a statement of the height, signed, to its addressee
pub record AreSentAt (config : Config) (ring : Ring) (h : ℕ) (frames : List Sent) : Type 0 where
  pub right : AllByRecursion (IsSentRight config) frames
  pub heights : AllByRecursion (λ s. height_in s ≡ h) (statements_in frames)
  pub signed : list_all (is_all_signed ring) (statements_in frames) ≡ true

module _ (config : Config) (ring : Ring) (h : ℕ) where
  -- no frame
  none_sent : AreSentAt config ring h []
  none_sent = record { right = tt; heights = tt; signed = refl }

  -- one frame
  one_sent : (sent : Sent) (s : SignedStatement) → reading sent.frame ≡ Some s → sent.addressee ≡ addressee_of config s.statement
      → height_in s ≡ h
      → is_all_signed ring s ≡ true → AreSentAt config ring h (sent ∷ [])
  one_sent sent s reads addressed of_height signed = record {
    right = (record { signed = s; spelled = reads; addressed = addressed }, tt);
    heights = subst (λ o. AllByRecursion (λ t. height_in t ≡ h) (cons_option o [])) (sym reads) (of_height, tt);
    signed = ap (λ o. list_all (is_all_signed ring) (cons_option o [])) reads ∙ and_from (is_all_signed ring s) true signed refl;
  }

  -- those of two lists
  both_sent : (xs ys : List Sent) → AreSentAt config ring h xs → AreSentAt config ring h ys → AreSentAt config ring h (xs ++ ys)
  both_sent xs ys first second =
      let both : statements_in (xs ++ ys) ≡ statements_in xs ++ statements_in ys =
      filter_map-append (λ (f : Sent). reading f.frame) xs ys in
      record {
        right = each_append (IsSentRight config) xs ys first.right second.right;
        heights = subst (AllByRecursion (λ s. height_in s ≡ h)) (sym both)
            (each_append (λ s. height_in s ≡ h) (statements_in xs) (statements_in ys) first.heights second.heights);
        signed = ap (list_all (is_all_signed ring)) both ∙ list_all-append (is_all_signed ring) (statements_in xs) (statements_in ys)
            ∙ and_from (list_all (is_all_signed ring) (statements_in xs)) (list_all (is_all_signed ring) (statements_in ys)) first.signed
            second.signed;
      }

  -- the locks that are sent on
  locks_sent : (frames : List (List ℕ)) → AllByRecursion (IsLockSentOn ring h) frames → AreSentAt config ring h (map sent_on frames)
  locks_sent [] each = none_sent
  locks_sent (frame ∷ frames) each =
      let is = each.0 in
      both_sent (sent_on frame ∷ []) (map sent_on frames)
      (one_sent (sent_on frame) (as_statement is.lock) is.reads refl is.of_height
      (and_from (is_signed ring (as_statement is.lock)) (are_signed_reports ring (statement.Lock is.lock.lock)) is.signed is.proof_signed))
      (locks_sent frames each.1)

-- what may be made as round c opens
abbrev pub MayMakeOf : InstanceView → ℕ → RoundStatement → Type 0
MayMakeOf row c made.Mute = Unit {0}
MayMakeOf row c made.Unsent = MaySend row c None
MayMakeOf row c (made.Sent f) = MaySend row c (Some f.statement)

-- what is kept allows what is made
pub may_make : (ring : Ring) (mute : Bool) (c : ℕ) (row : InstanceView) (m : RoundStatement) → IsMadeAt ring mute c row m
    → MayMakeOf row c m
may_make ring mute c row m is_made =
    by m (subst (λ b. MatchBool b (Unit {0}) (MaySend row c (own_statement m))) (sym is_made.silent) is_made.may)
  where
    by : (x : RoundStatement) → MatchBool (is_mute_made x) (Unit {0}) (MaySend row c (own_statement x)) → MayMakeOf row c x
    by made.Mute may = tt
    by made.Unsent may = may
    by (made.Sent f) may = may

module _ (config : Config) (ring : Ring) (row : InstanceView) (log : List Note) (clock : ℕ) (old : MatchesLog ring row log)
    (now : clock_of log ≡ clock) where
  -- the own statement
  own_sent : (m : RoundStatement) → MayMakeOf row (clock + 1) m → IsSignedMade ring m → IsFrameMade m
      → AreSentAt config ring row.height (map (sent_own config) (own_statement_sent m))
  own_sent made.Mute may signed frame = none_sent config ring row.height
  own_sent made.Unsent may signed frame = none_sent config ring row.height
  own_sent (made.Sent f) may signed frame =
      one_sent config ring row.height (sent_own config f) f (reading-again Two f frame) refl
      (own_if_sent row (clock + 1) (Some f.statement) may).height
      (and_from (is_signed ring f) (are_signed_reports ring f.statement) signed
      (signed_at ring row log clock old now (Some f.statement) may))

  -- all frames of the height
  pub frames_sent : (mute : Bool) (m : RoundStatement) → IsMadeAt ring mute (clock + 1) row m
      → AreSentAt config ring row.height (frames_of_height config (clock + 1) row m)
  frames_sent mute m is_made =
      both_sent config ring row.height (map (sent_own config) (own_statement_sent m)) (map sent_on (opened_effects row (clock + 1)).sends_on)
      (own_sent m (may_make ring mute (clock + 1) row m is_made) is_made.signed is_made.frame)
      (locks_sent config ring row.height (opened_effects row (clock + 1)).sends_on (sends_locks ring row log (clock + 1) old))
