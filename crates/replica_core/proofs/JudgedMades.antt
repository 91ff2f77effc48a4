-- What an open height may make, by the log that it matches.
use Rattle.ledger_model.specs.Meanings.{Meanings}
use Rattle.std.proofs.Common.{◌≡◌, ℕ, ◌+◌, ◌⊎◌, true, false, List, [], ◌∷◌, map, suc, length, refl, arith}
use Rattle.std.specs.Prelude.{Some, None, slice_get}
use Rattle.std.specs.List.{AllByRecursion}
use Rattle.ledger_model.specs.declared.history.Entry.{Entry}
use Rattle.ledger_model.specs.declared.statement.SignedStatement.{SignedStatement}
use Rattle.ledger_model.specs.Notes.{Note, clock_of}
use Rattle.ledger_model.specs.Rules.{Ring, is_signed}
use Rattle.ledger_model.specs.Spelling.{IsFrame}
use Rattle.instance.specs.declared.round_statement.RoundStatement.TheVariants as made
use Rattle.instance.specs.Instances.{InstanceView}
use Rattle.instance.specs.Matching.{MatchesLog}
use Rattle.instance.specs.Laws.{MayBeSent}
use Rattle.instance.specs.Plans.{IsOwnMade}
use Rattle.height_row.specs.Heights.{row_at, AreFound}
use Rattle.height_row.specs.declared.round_closing.RoundClosing.{RoundClosing}
use Rattle.instance.proofs.AtClock.{allows_at, allowed_at}
use Rattle.instance.proofs.MaySend.{own_if_sent}
use Rattle.replica_core.proofs.PairedLists.{both_ended}
use Rattle.replica_core.specs.Replays.{ReplayView, MatchesHistory}
use Rattle.replica_core.specs.RoundEnds.{IsMadeAt, AreMade}

module _ (ring : Ring) (row : InstanceView) (log : List Note) (clock : ℕ) (old : MatchesLog ring row log) (now : clock_of log ≡ clock) where
  -- nothing
  pub unsent_made : MayBeSent row log (clock + 1) None → IsMadeAt ring false (clock + 1) row made.Unsent
  unsent_made may = record { silent = refl; may = allowed_at ring row log clock old now None may; own = tt; signed = tt; frame = tt }

  pub unsent_may : IsMadeAt ring false (clock + 1) row made.Unsent → MayBeSent row log (clock + 1) None
  unsent_may is = allows_at ring row log clock old now None is.may

  -- a signed statement
  pub sent_made : (f : SignedStatement) → MayBeSent row log (clock + 1) (Some f.statement) → is_signed ring f ≡ true → IsFrame f
      → IsMadeAt ring false (clock + 1) row (made.Sent f)
  sent_made f may signed frame =
      let sends = allowed_at ring row log clock old now (Some f.statement) may in
      let own = own_if_sent row (clock + 1) (Some f.statement) sends in
      record {
        silent = refl;
        may = sends;
        own = (own.signer, own.version);
        signed = signed;
        frame =
            frame;
      }

  pub sent_may : (f : SignedStatement) → IsMadeAt ring false (clock + 1) row (made.Sent f)
      → MayBeSent row log (clock + 1) (Some f.statement)
  sent_may f is = allows_at ring row log clock old now (Some f.statement) is.may

-- ---- at each height

-- what is left of the heights, and of what they make, decides of them all
pub record IsJudging (meaning : Meanings) (held : ReplayView) (xs : List RoundClosing) (rows_left : List InstanceView)
    (left : List RoundClosing) : Type 0
  where
    pub count : length left ≡ length rows_left
    -- each of these heights is open
    pub found : AllByRecursion (λ row. row_at held.rows row.height ≡ Some row) rows_left
    pub own : AllByRecursion (λ x. IsOwnMade held.config held.id x.made) left
        → AllByRecursion (λ x. IsOwnMade held.config held.id x.made) xs
    pub may : (entries : List Entry) → MatchesHistory meaning held entries
        → AreMade held.ring false (held.clock + 1) rows_left (map (λ x. x.made) left)
        → AreMade held.ring false (held.clock + 1) held.rows (map (λ x. x.made) xs)
    pub only : AreMade held.ring false (held.clock + 1) held.rows (map (λ x. x.made) xs)
        → AreMade held.ring false (held.clock + 1) rows_left (map (λ x. x.made) left)

each_there : (P : InstanceView → Type 0) (rows : List InstanceView)
    → ((place : ℕ) (row : InstanceView) → slice_get rows place ≡ Some row → P row) → AllByRecursion P rows
each_there P [] each = tt
each_there P (row ∷ rows) each = (each 0 row refl, each_there P rows (λ place x is. each (suc place) x is))

module _ (meaning : Meanings) (held : ReplayView) (xs : List RoundClosing) where
  pub judging_begins : AreFound held.rows → length xs ≡ length held.rows → IsJudging meaning held xs held.rows xs
  judging_begins found count = record {
    count = count;
    found = each_there (λ row. row_at held.rows row.height ≡ Some row) held.rows found;
    own = λ own. own;
    may = λ entries matches made. made;
    only = λ made. made;
  }

  -- the next height may make what it does
  pub judging_next : {rows_left : List InstanceView} {left : List RoundClosing} (row : InstanceView) (rows : List InstanceView)
      (x : RoundClosing) (later : List RoundClosing) → IsJudging meaning held xs rows_left left → rows_left ≡ row ∷ rows → left ≡ x ∷ later
      → IsOwnMade held.config held.id x.made
      → ((entries : List Entry) → MatchesHistory meaning held entries → IsMadeAt held.ring false (held.clock + 1) row x.made)
      → IsJudging meaning held xs rows later
  judging_next row rows x later judging first next own made =
      let at = rw (first, next) at judging in
      record {
        count = let count = at.count in omega (arith, count);
        found = at.found.1;
        own = λ others. at.own (own, others);
        may = λ entries matches others. at.may entries matches (made entries matches, others);
        only = λ all. (at.only all).1;
      }

  -- each is open, and what it makes is one of them
  pub judged_row : {rows_left : List InstanceView} {left : List RoundClosing} (row : InstanceView) (rows : List InstanceView)
      → IsJudging meaning held xs rows_left left → rows_left ≡ row ∷ rows → row_at held.rows row.height ≡ Some row
  judged_row row rows judging first = (rw first at judging.found).0

  pub judged_made : {rows_left : List InstanceView} {left : List RoundClosing} (row : InstanceView) (rows : List InstanceView)
      (x : RoundClosing) (later : List RoundClosing) → IsJudging meaning held xs rows_left left → rows_left ≡ row ∷ rows → left ≡ x ∷ later
      → AreMade held.ring false (held.clock + 1) held.rows (map (λ x. x.made) xs)
      → IsMadeAt held.ring false (held.clock + 1) row x.made
  judged_made row rows x later judging first next all = ((rw (first, next) at judging).only all).0

  -- in the end they are judged
  both_end : {rows_left : List InstanceView} {left : List RoundClosing} → IsJudging meaning held xs rows_left left
      → (rows_left ≡ []) ⊎ (length left ≡ 0) → IsJudging meaning held xs [] []
  both_end {rows_left = rows_left} {left = left} judging end =
      let ended = both_ended rows_left left judging.count end in
      rw (ended.0, ended.1) at judging

  pub judged_may : {rows_left : List InstanceView} {left : List RoundClosing} → IsJudging meaning held xs rows_left left
      → (rows_left ≡ []) ⊎ (length left ≡ 0) → (entries : List Entry) → MatchesHistory meaning held entries
      → AreMade held.ring false (held.clock + 1) held.rows (map (λ x. x.made) xs)
  judged_may judging end entries matches = (both_end judging end).may entries matches tt

  pub judged_own : {rows_left : List InstanceView} {left : List RoundClosing} → IsJudging meaning held xs rows_left left
      → (rows_left ≡ []) ⊎ (length left ≡ 0) → AllByRecursion (λ x. IsOwnMade held.config held.id x.made) xs
  judged_own judging end = (both_end judging end).own tt
