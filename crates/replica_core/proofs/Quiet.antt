-- An entry that opens no round, runs no block and raises no floor: what it leaves unchanged of what a history makes.
use Rattle.ledger_model.specs.Meanings.{Meanings}
use Rattle.std.proofs.Common.{◌≡◌, ℕ, ◌+◌, ◌<◌, ◌≤◌, true, false, cond, List, [], ◌∷◌, ◌++◌, sym, ap, subst, ◌∙◌, arith}
use Rattle.std.specs.Prelude.{◌||◌, Some, None}
use Rattle.std.proofs.lemmas.List.{append-nil}
use Rattle.std.proofs.Math.Bool.{or-false}
use Rattle.ledger_model.specs.declared.history.Entry.{Entry}
use Rattle.ledger_model.specs.Values.{Value}
use Rattle.ledger_model.specs.Notes.{Note, clock_of, is_open}
use Rattle.ledger_model.specs.Logs.{log_of, notes_of, is_mute, says_mute}
use Rattle.ledger_model.specs.Commits.{is_block, floor_step, floor_of, pool_of, pool_step}
use Rattle.ledger_model.specs.Lawful.{clock_at, is_opened}
use Rattle.ledger_model.proofs.Steps.{log_of-snoc}
use Rattle.ledger_model.proofs.Floors.{floor_of-snoc}
use Rattle.instance.specs.Instances.{InstanceView}
use Rattle.instance.specs.Matching.{MatchesLog, only_rounds}
use Rattle.height_row.specs.Heights.{row_at}
use Rattle.replica_core.specs.Replays.{ReplayView, MatchesHistory}
use Rattle.replica_core.proofs.Histories.{pool_more, clock_more, mute_more, commits_stay, blocks_stay}

module _ (meaning : Meanings) (held : ReplayView) (entries : List Entry) (e : Entry) where
  -- the log of a height
  abbrev pub log_at : ℕ → List Note
  log_at h = log_of held.config held.id h entries

  -- what the entry adds to it
  abbrev pub notes_at : ℕ → List Note
  notes_at h = notes_of held.config held.id h (log_at h) e.event e.reply

  -- the log with the entry
  pub log_then : (h : ℕ) → log_of held.config held.id h (entries ++ e ∷ []) ≡ log_at h ++ notes_at h
  unfolding log_of
  log_then h = log_of-snoc meaning held.config held.ring held.id h [] entries e

  -- where nothing is added it is as before
  pub log_stays : (h : ℕ) → notes_at h ≡ [] → log_of held.config held.id h (entries ++ e ∷ []) ≡ log_at h
  log_stays h none = log_then h ∙ ap (λ ns. log_at h ++ ns) none ∙ append-nil (log_at h)

  module _ (matches : MatchesHistory meaning held entries) (no_round : is_opened e.reply ≡ false) (no_block : is_block e.reply ≡ false)
      (loud : says_mute e.reply ≡ false) (no_floor : (floor : ℕ) → floor_step floor e.reply ≡ floor) where
    -- the pool then
    pub pool_then : pool_of meaning held.config held.id (entries ++ e ∷ []) ≡ pool_step meaning held.config held.commits held.pool e.event
        e.reply
    pool_then =
        pool_more meaning held.config held.id entries e
        ∙ ap (λ vs. pool_step meaning held.config vs (pool_of meaning held.config held.id entries) e.event e.reply)
        (commits_stay held.config held.id entries e matches.blocks no_block ∙ matches.commits)
        ∙ ap (λ p. pool_step meaning held.config held.commits p e.event e.reply) matches.pool

    -- what is kept then matches, where the heights and the pool do
    pub quiet : (rows : List InstanceView) (pool : Value)
        → pool_step meaning held.config held.commits held.pool e.event e.reply ≡ pool
        → ((h : ℕ) → clock_of (log_of held.config held.id h (entries ++ e ∷ [])) ≡ held.clock)
        → ((h : ℕ) (row : InstanceView) → row_at rows h ≡ Some row
        → MatchesLog held.ring row (log_of held.config held.id h (entries ++ e ∷ [])))
        → ((h : ℕ) → held.floor ≤ h → row_at rows h ≡ None → only_rounds (log_of held.config held.id h (entries ++ e ∷ [])) ≡ true)
        → ((h : ℕ) → h < held.floor → is_open (log_of held.config held.id h (entries ++ e ∷ [])) ≡ false)
        → MatchesHistory meaning (record held { rows = rows; pool = pool }) (entries ++ e ∷ [])
    quiet rows pool same_pool clocks opened unopened retired = record {
      clock = clock_more entries e ∙ ap (λ b. clock_at entries + cond b 1 0) no_round ∙ (let c = matches.clock in omega (arith, c));
      clocks = clocks;
      opened = opened;
      unopened = unopened;
      retired = retired;
      floor = floor_of-snoc entries e ∙ no_floor (floor_of entries) ∙ matches.floor;
      low = matches.low;
      pool = pool_then ∙ same_pool;
      commits = commits_stay held.config held.id entries e matches.blocks no_block ∙ matches.commits;
      machine = matches.machine;
      blocks = blocks_stay held.config held.id entries e matches.blocks no_block;
      mute = mute_more entries e ∙ ap (λ b. is_mute entries || b) loud ∙ or-false (is_mute entries) ∙ matches.mute;
    }

    -- and where nothing is added to any log, with the pool alone
    pub unheard : (pool : Value) → pool_step meaning held.config held.commits held.pool e.event e.reply ≡ pool → ((h : ℕ) → notes_at h ≡ [])
        → MatchesHistory meaning (record held { pool = pool }) (entries ++ e ∷ [])
    unheard pool same_pool none =
        quiet held.rows pool same_pool
        (λ h. ap clock_of (log_stays h (none h)) ∙ matches.clocks h)
        (λ h row is. subst (λ l. MatchesLog held.ring row l) (sym (log_stays h (none h))) (matches.opened h row is))
        (λ h from is. ap only_rounds (log_stays h (none h)) ∙ matches.unopened h from is)
        (λ h below. ap is_open (log_stays h (none h)) ∙ matches.retired h below)
