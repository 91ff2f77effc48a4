-- What is ignored before its signature is checked is ignored with that cause, whatever the signature is.
use Rattle.ledger_model.specs.Meanings.{Meanings}
use Rattle.std.proofs.Common.{◌≡◌, ℕ, ◌<◌, ◌≤◌, Bool, true, false, inl, inr, List, [], ◌∷◌, ◌++◌, refl, sym, ap, subst, ◌∙◌}
use Rattle.std.specs.Prelude.{Some, None, Result, Ok, Err, IfErr, OnOk}
use Rattle.std.proofs.lemmas.Bool.{lt-ltb, le-ltb}
use Rattle.ledger_model.specs.declared.history.Entry.{Entry}
use Rattle.ledger_model.specs.declared.config.Config.{Config}
use Rattle.ledger_model.specs.declared.reply.Ignored.{Ignored}
use Rattle.ledger_model.specs.declared.reply.Ignored.TheVariants as cause
use Rattle.ledger_model.specs.declared.statement.SignedStatement.{SignedStatement}
use Rattle.ledger_model.specs.declared.statement.Statement.{Statement}
use Rattle.ledger_model.specs.Notes.{Note, clock_of, signer_of}
use Rattle.ledger_model.specs.Logs.{log_of, height_of}
use Rattle.ledger_model.specs.Lawful.{answer}
use Rattle.ledger_model.specs.Rules.{Ring, is_signed, is_repeated, first_of, place_causes, causes_before_signature, proof_causes, causes}
use Rattle.ledger_model.specs.Rules.{answer_to}
use Rattle.ledger_model.specs.Rules.{is_table_full, is_not_mine}
use Rattle.instance.specs.Instances.{InstanceView}
use Rattle.instance.specs.Matching.{MatchesLog}
use Rattle.height_row.specs.Heights.{row_at}
use Rattle.replica_core.specs.Replays.{ReplayView, MatchesHistory}
use Rattle.replica_core.specs.Placing.{answer_before_signature}
use Rattle.replica_core.proofs.Unopened.{closed_there}

-- a cause that applies is the first, whatever follows
first_stays : {C : Type 0} (xs ys : List (Bool × C)) (f : C) → first_of xs ≡ Err f → first_of (xs ++ ys) ≡ Err f
first_stays [] ys f h = absurd (cc)
first_stays ((true, c) ∷ xs) ys f h = h
first_stays ((false, c) ∷ xs) ys f h = first_stays xs ys f h

-- where none applies, the first is one of those that follow
first_follows : {C : Type 0} (xs ys : List (Bool × C)) → first_of xs ≡ Ok tt → first_of (xs ++ ys) ≡ first_of ys
first_follows [] ys h = refl
first_follows ((true, c) ∷ xs) ys h = absurd (cc)
first_follows ((false, c) ∷ xs) ys h = first_follows xs ys h

module _ (config : Config) (ring : Ring) (log : List Note) (s : SignedStatement) where
  pub ignored_before : (f : Ignored) → first_of (causes_before_signature config log s.statement []) ≡ Err f
      → answer_to config ring log s ≡ Err f
  unfolding causes
  ignored_before f h = first_stays (causes_before_signature config log s.statement [])
      (proof_causes config ring (is_table_full log s.statement) (is_not_mine log s.statement) s) f h

  pub unsigned_after : first_of (causes_before_signature config log s.statement []) ≡ Ok tt → is_signed ring s ≡ false
      → answer_to config ring log s ≡ Err cause.BadSignature
  unfolding causes
  unsigned_after h unsigned = first_follows (causes_before_signature config log s.statement [])
      (proof_causes config ring (is_table_full log s.statement) (is_not_mine log s.statement) s) h ∙ rw unsigned refl

module _ (meaning : Meanings) (held : ReplayView) (s : Statement) (entries : List Entry) where
  pub stranger_before : held.config.replicas ≤ signer_of s → answer_before_signature held.config held.id entries s ≡ Err cause.Signer
  stranger_before high = simp (le-ltb (signer_of s) held.config.replicas high) refl

  module _ (matches : MatchesHistory meaning held entries) (low : signer_of s < held.config.replicas) where
    pub unopened_before : row_at held.rows (height_of s) ≡ None
        → answer_before_signature held.config held.id entries s ≡ Err cause.NoRow
    unopened_before none =
        simp (lt-ltb (signer_of s) held.config.replicas low, closed_there meaning held entries matches (height_of s) none) refl

    -- where the height is open, its instance decides
    pub judged_before : (row : InstanceView) (r : Result (Unit {0}) Ignored)
        → row_at held.rows (height_of s) ≡ Some row → row.config ≡ held.config
        → ((ring : Ring) (log : List Note) → MatchesLog ring row log → clock_of log ≡ held.clock
        → r ≡ first_of (place_causes row.config held.clock (is_repeated log s) s []))
        → r ≡ answer_before_signature held.config held.id entries s
    judged_before row r at own judged =
        let log = log_of held.config held.id (height_of s) entries in
        let opened = matches.opened (height_of s) row at in
        judged held.ring log opened (matches.clocks (height_of s))
        ∙ rw (lt-ltb (signer_of s) held.config.replicas low, opened.opened, own, sym (matches.clocks (height_of s))) refl

-- ---- what that says of the reply to a delivery

module _ (config : Config) (id : ℕ) (entries : List Entry) where
  pub each_ignored : (t : Statement) (r : Result (Unit {0}) Ignored) → r ≡ answer_before_signature config id entries t
      → IfErr r (λ f. (ring : Ring) (s : SignedStatement) → s.statement ≡ t → answer config ring id entries (Some s) ≡ Err f)
  each_ignored t (Ok u) is = tt
  each_ignored t (Err f) is = λ ring s same.
      ignored_before config ring (log_of config id (height_of s.statement) entries) s f
      (subst (λ x. answer_before_signature config id entries x ≡ Err f) (sym same) (sym is))

  pub each_checked : (s : SignedStatement) (r : Result (Unit {0}) Ignored) → r ≡ answer_before_signature config id entries s.statement
      → OnOk r ((ring : Ring) → is_signed ring s ≡ false → answer config ring id entries (Some s) ≡ Err cause.BadSignature)
  each_checked s (Ok u) is = λ ring unsigned.
      unsigned_after config ring (log_of config id (height_of s.statement) entries) s (sym is) unsigned
  each_checked s (Err f) is = tt
