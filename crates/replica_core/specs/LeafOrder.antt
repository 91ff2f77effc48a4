-- Which leaf signs which statement of a history: no leaf signs two.
use Rattle.std.specs.Prelude.{◌≡◌, ℕ, ◌+◌, ◌==◌, ◌<◌, List, [], ◌∷◌, ◌++◌, Ok, if◌then◌else◌}
use Rattle.std.specs.List.{filter_map, AllByRecursion}
use Rattle.ledger_model.specs.declared.history.Entry.{Entry}
use Rattle.ledger_model.specs.declared.reply.Reply.{Reply}
use Rattle.ledger_model.specs.declared.reply.Reply.TheVariants as reply
use Rattle.ledger_model.specs.declared.statement.SignedStatement.{SignedStatement}
use Rattle.ledger_model.specs.Rounds.{place_of, release_place}
use Rattle.ledger_model.specs.Reading.{reading}
use Rattle.ledger_model.specs.Spelling.{statement_bytes}
use Rattle.ledger_model.specs.Lawful.{is_opened}
use Rattle.lms_tree.specs.Trees.{Secret}
use Rattle.key_ring.specs.Signers.{signed_with}
use Rattle.key_ring.specs.Laws.{AscendFrom}

-- the statements of its own in a reply that opens round c; at place 4 it sends on locks, which it doesn't sign again
abbrev pub own_in : ℕ → Reply → List SignedStatement
own_in c (reply.RoundEnded (Ok ended)) = if place_of c == release_place then [] else filter_map (λ f. reading f.frame) ended.frames
own_in c _ = []

-- the statements of its own that these entries send, if `clock` rounds were opened before
unfoldable pub own_after : ℕ → List Entry → List SignedStatement
own_after clock [] = []
own_after clock (e ∷ es) = own_in (clock + 1) e.reply ++ own_after (clock + (if is_opened e.reply then 1 else 0)) es

-- the statements of its own that the whole history sends
abbrev pub own_statements : List Entry → List SignedStatement
own_statements entries = own_after 0 entries

-- each statement is signed with the leaf at the same place of the list
unfoldable pub AreSignedWith : Secret → List SignedStatement → List ℕ → Type 0
AreSignedWith secret [] [] = Unit {0}
AreSignedWith secret (s ∷ ss) (leaf ∷ leaves) =
    (s.signature ≡ signed_with secret leaf (statement_bytes s.statement)) × AreSignedWith secret ss leaves
AreSignedWith secret [] (leaf ∷ leaves) = ⊥
AreSignedWith secret (s ∷ ss) [] = ⊥

-- The statements of its own that a history sends are signed with leaves that ascend, so no leaf signs two of them. Each of these
-- leaves is among the first `used`.
pub record SignsOnce (secret : Secret) (used : ℕ) (entries : List Entry) : Type 0 where
  pub leaves : List ℕ
  pub ascend : AscendFrom 0 leaves
  pub below : AllByRecursion (λ leaf. leaf < used) leaves
  pub signed : AreSignedWith secret (own_statements entries) leaves
