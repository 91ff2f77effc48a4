-- How much of a text was written, by writes that may fail.
use Rattle.std.specs.Prelude.{◌≡◌, ℕ, List, ◌++◌, Option, Result, MatchResult}
use Rattle.std.specs.Io.KnownBytes.{Appends}

-- a prefix of the text was written
pub record AppendsSome (before after : Option (List ℕ)) (text : List ℕ) : Type 0 where
  pub done : List ℕ
  pub left : List ℕ
  pub split : done ++ left ≡ text
  pub written : Appends before after done

-- the text was written: all of it if there was no error, and otherwise a prefix
abbrev pub Writes : {T E : Type 0} → Result T E → Option (List ℕ) → Option (List ℕ) → List ℕ → Type 0
Writes result before after text = MatchResult result (λ _. Appends before after text) (λ _. AppendsSome before after text)
