-- A request that one exchange serves.
use Rattle.std.proofs.Common.{◌≡◌, ℕ, List, [], ◌∷◌, ◌++◌, Bool, true, false, refl, sym, ap, ◌∙◌, arith}
use Rattle.std.proofs.lemmas.Bool.{le-ltb}
use Rattle.std.specs.Prelude.{nat_lt, ◌||◌, Ok, if◌then◌else◌}
use Rattle.std.specs.Int.{w32, to_be_bytes}
use Rattle.ledger_model.specs.declared.reply.QueryAnswer.{QueryAnswer}
use Rattle.ledger_model.specs.Sessions.{Exchange, Queries, Heights, Request, Query, Height, Session, Serves, Gives, is_too_long, status, present}
use Rattle.client_sessions.specs.Answering.{AnswersOneRequest}

-- a choice by a test that holds
if_so : (test : Bool) (reply : List ℕ) (new : Session) (x y : List ℕ × Session) → test ≡ true → Gives reply new x
    → Gives reply new (if test then x else y)
if_so true reply new x y holds gives = gives
if_so false reply new x y holds gives = absurd cc

-- by one that fails
if_not : (test : Bool) (reply : List ℕ) (new : Session) (x y : List ℕ × Session) → test ≡ false → Gives reply new y
    → Gives reply new (if test then x else y)
if_not true reply new x y fails gives = absurd cc
if_not false reply new x y fails gives = gives

-- no height is below 0
none_below : (height : ℕ) → nat_lt height 0 ≡ false
none_below height = le-ltb height 0 (omega arith)

module _ {T : Type 0} (asks : T → Exchange → T → Type 0) (count : ℕ) (before after : T) (old : Session) where
  pub by_one : (request : Request) (reply : List ℕ) (new : Session) (exchange : Exchange)
      → asks before exchange after → Serves count old request (exchange ∷ []) reply new
      → AnswersOneRequest asks count before after old request reply new
  by_one request reply new exchange asked serves = record { exchanges = exchange ∷ []; asked = (after, asked, refl); serves = serves }

  -- the application's height is behind
  pub query_behind : (min : ℕ) (key : List ℕ) (replica : ℕ) (found : QueryAnswer) → asks before (Queries replica key (Ok found)) after
      → replica ≡ old.replica
      → (nat_lt found.height min || nat_lt found.height old.greatest) ≡ true
      → AnswersOneRequest asks count before after old (Query min key) (status 2) old
  query_behind min key replica found asked same behind =
      by_one (Query min key) (status 2) old (Queries replica key (Ok found)) asked (same, refl, if_so _ _ _ _ _ behind (refl, refl))

  -- or isn't, but the value fits into no reply
  pub query_too_long : (min : ℕ) (key : List ℕ) (replica : ℕ) (found : QueryAnswer) → asks before (Queries replica key (Ok found)) after
      → replica ≡ old.replica
      → (nat_lt found.height min || nat_lt found.height old.greatest) ≡ false
      → is_too_long found.value ≡ true
      → AnswersOneRequest asks count before after old (Query min key) (status 6) old
  query_too_long min key replica found asked same behind long =
      by_one (Query min key) (status 6) old (Queries replica key (Ok found)) asked
      (same, refl, if_not _ _ _ _ _ behind (if_so _ _ _ _ _ long (refl, refl)))

  -- or does
  pub query_told : (min : ℕ) (key : List ℕ) (replica : ℕ) (found : QueryAnswer) (new : Session)
      → asks before (Queries replica key (Ok found)) after → replica ≡ old.replica
      → (nat_lt found.height min || nat_lt found.height old.greatest) ≡ false
      → is_too_long found.value ≡ false
      → new ≡ record old { greatest = found.height }
      → AnswersOneRequest asks count before after old (Query min key) (0 ∷ to_be_bytes w32 found.height ++ present found.value) new
  query_told min key replica found new asked same behind short raised =
      by_one (Query min key) (0 ∷ to_be_bytes w32 found.height ++ present found.value) new (Queries replica key (Ok found)) asked
      (same, refl, if_not _ _ _ _ _ behind (if_not _ _ _ _ _ short (refl, raised)))

  -- the board's height is behind
  pub height_behind : (replica height : ℕ) → asks before (Heights replica height) after → replica ≡ old.replica
      → (nat_lt height 0 || nat_lt height old.greatest) ≡ true → AnswersOneRequest asks count before after old Height (status 2) old
  height_behind replica height asked same behind =
      by_one Height (status 2) old (Heights replica height) asked
      (same, if_so _ _ _ _ _ (sym (ap (λ b. b || nat_lt height old.greatest) (none_below height)) ∙ behind) (refl, refl))

  -- or isn't
  pub height_told : (replica height : ℕ) (new : Session) → asks before (Heights replica height) after → replica ≡ old.replica
      → (nat_lt height 0 || nat_lt height old.greatest) ≡ false
      → new ≡ record old { greatest = height }
      → AnswersOneRequest asks count before after old Height (0 ∷ to_be_bytes w32 height) new
  height_told replica height new asked same behind raised =
      by_one Height (0 ∷ to_be_bytes w32 height) new (Heights replica height) asked
      (same, if_not _ _ _ _ _ (sym (ap (λ b. b || nat_lt height old.greatest) (none_below height)) ∙ behind) (refl, raised))
