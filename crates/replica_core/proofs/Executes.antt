-- The application runs the next block.
use Rattle.ledger_model.specs.Meanings.{Meanings}
use Rattle.std.proofs.Common.{◌≡◌, ℕ, ◌+◌, List, [], ◌∷◌, ◌++◌, length, refl, sym, ap, subst, ◌∙◌, arith}
use Rattle.std.specs.Prelude.{Option, Some, None, Result, Ok, Err}
use Rattle.std.proofs.Math.Bool.{or-false}
use Rattle.ledger_model.specs.declared.event.Event.TheVariants as event
use Rattle.ledger_model.specs.declared.history.Entry.{Entry}
use Rattle.ledger_model.specs.declared.reply.BlockResult.{BlockResult}
use Rattle.ledger_model.specs.declared.reply.NothingDecided.{NothingDecided}
use Rattle.ledger_model.specs.declared.reply.Reply.TheVariants as reply
use Rattle.ledger_model.specs.Values.{Value}
use Rattle.std.proofs.lemmas.List.{length-append}
use Rattle.ledger_model.specs.Notes.{clock_of, is_open}
use Rattle.ledger_model.specs.Logs.{log_of, notes_of, is_mute}
use Rattle.ledger_model.specs.Replies.{block_reply}
use Rattle.ledger_model.specs.Commits.{executed, decided_at, commits_of, pool_of, pool_step, pool_after_block, last_block, block_of}
use Rattle.ledger_model.specs.Commits.{execute_reply}
use Rattle.ledger_model.proofs.Floors.{floor_of-snoc}
use Rattle.instance.specs.Matching.{MatchesLog, only_rounds}
use Rattle.replica_core.specs.Replays.{ReplayView, IsOneCluster, MatchesHistory}
use Rattle.replica_core.specs.Steps.{IsStep, next_decided, execute_held, with_block, after_execute}
use Rattle.replica_core.proofs.Histories.{pool_more, clock_more, mute_more, count_commits, commits_more, blocks_more}
use Rattle.replica_core.proofs.Quiet.{log_stays, unheard}
use Rattle.replica_core.proofs.Unopened.{decided_from}

-- the last of the batches is the one that was put after them
last_of : (vs : List Value) (v : Value) → last_block (vs ++ v ∷ []) ≡ v
last_of [] v = refl
last_of (w ∷ []) v = refl
last_of (w ∷ x ∷ vs) v = last_of (x ∷ vs) v

module _ (meaning : Meanings) (held : ReplayView) (one : IsOneCluster held) (entries : List Entry)
    (matches : MatchesHistory meaning held entries) where
  -- the height after the committed ones is decided by what is kept as by the history
  decided_next : next_decided held ≡ decided_at held.config held.id entries (length (commits_of held.config held.id entries) + 1)
  decided_next =
      decided_from meaning held entries matches one (length held.commits + 1) matches.low
      ∙ ap (λ vs. decided_at held.config held.id entries (length vs + 1)) (sym matches.commits)

  -- what is answered by what is kept is what is answered by the history
  answered : execute_held meaning held ≡ execute_reply meaning held.config held.id entries
  unfolding execute_reply
  answered =
      ap (block_of meaning held.config held.commits) decided_next
      ∙ ap (λ vs. block_of meaning held.config vs (decided_at held.config held.id entries
      (length (commits_of held.config held.id entries) + 1)))
      (sym matches.commits)

  -- nothing is decided
  unchanged : MatchesHistory meaning held (entries ++ record { event = event.Execute; reply = reply.Executed (Err (record {})) } ∷ [])
  unfolding notes_of
  unchanged = unheard meaning held entries (record { event = event.Execute; reply = reply.Executed (Err (record {})) }) matches refl refl
      refl
      (λ floor. refl) held.pool refl (λ h. refl)

  -- a block is run
  with_one : (v : Value) (b : BlockResult) → next_decided held ≡ Some v
      → MatchesHistory meaning (with_block meaning held v) (entries ++ record { event = event.Execute; reply = reply.Executed (Ok b) } ∷ [])
  unfolding notes_of
  with_one v b is = record {
    clock = clock_more entries entry ∙ (let c = matches.clock in omega (arith, c));
    clocks = λ h. ap clock_of (same h) ∙ matches.clocks h;
    opened = λ h row at. subst (λ l. MatchesLog held.ring row l) (sym (same h)) (matches.opened h row at);
    unopened = λ h from none. ap only_rounds (same h) ∙ matches.unopened h from none;
    retired = λ h below. ap is_open (same h) ∙ matches.retired h below;
    floor = floor_of-snoc entries entry ∙ matches.floor;
    low = (let low = matches.low in let one_more = length-append held.commits (v ∷ []) in omega (arith, low, one_more));
    pool =
        pool_more meaning held.config held.id entries entry
        ∙ ap (λ vs. pool_step meaning held.config vs (pool_of meaning held.config held.id entries) event.Execute (reply.Executed (Ok b)))
        commits
        ∙ ap (λ p. pool_step meaning held.config (held.commits ++ v ∷ []) p event.Execute (reply.Executed (Ok b))) matches.pool
        ∙ ap (λ w. pool_after_block meaning held.config (held.commits ++ v ∷ []) w held.pool) (last_of held.commits v);
    commits = commits;
    machine = refl;
    blocks = blocks_more held.config held.id entries entry v matches.blocks refl decided;
    mute = mute_more entries entry ∙ or-false (is_mute entries) ∙ matches.mute;
  }
    where
      entry : Entry
      entry = record { event = event.Execute; reply = reply.Executed (Ok b) }

      same : (h : ℕ) → log_of held.config held.id h (entries ++ entry ∷ []) ≡ log_of held.config held.id h entries
      same h = log_stays meaning held entries entry h refl

      decided : decided_at held.config held.id entries (executed entries + 1) ≡ Some v
      decided = ap (λ n. decided_at held.config held.id entries (n + 1)) (sym (count_commits held.config held.id entries matches.blocks))
          ∙ sym decided_next ∙ is

      commits : commits_of held.config held.id (entries ++ entry ∷ []) ≡ held.commits ++ v ∷ []
      commits = commits_more held.config held.id entries entry v matches.blocks refl decided ∙ ap (λ vs. vs ++ v ∷ []) matches.commits

-- the next block is run, or nothing is decided
pub executes : (meaning : Meanings) (held : ReplayView) (answer : Result BlockResult NothingDecided) → IsOneCluster held
    → answer ≡ execute_held meaning held
    → IsStep meaning held event.Execute (reply.Executed answer) (after_execute meaning held (next_decided held))
executes meaning held answer one is entries matches = (
  is ∙ answered meaning held one entries matches,
  refl,
  by (next_decided held) refl answer is,
)
  where
    by : (o : Option Value) → next_decided held ≡ o → (a : Result BlockResult NothingDecided) → a ≡ execute_held meaning held
        → MatchesHistory meaning (after_execute meaning held o) (entries ++ record { event = event.Execute; reply = reply.Executed a } ∷ [])
    by None none a e = subst (λ x. MatchesHistory meaning held (entries ++ record { event = event.Execute; reply = reply.Executed x } ∷ []))
        (sym (e ∙ ap (block_of meaning held.config held.commits) none)) (unchanged meaning held one entries matches)
    by (Some v) some a e = subst (λ x. MatchesHistory meaning (with_block meaning held v)
        (entries ++ record { event = event.Execute; reply = reply.Executed x } ∷ []))
        (sym (e ∙ ap (block_of meaning held.config held.commits) some))
        (with_one meaning held one entries matches v (block_reply meaning held.config.kind held.commits v) some)
