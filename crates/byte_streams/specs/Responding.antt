-- What a subcommand does with its streams: the bytes that it reads, and the text that it writes in response.
use Rattle.std.specs.Prelude.{ℕ, List, Option}
use Rattle.std.specs.Io.KnownBytes.{Appends, Consumes}
use Rattle.byte_streams.specs.Writing.{AppendsSome}

-- some bytes were read, and a text that goes with them was written
pub record Responds (GoesWith : List ℕ → List ℕ → Type 0) (unread left before after : Option (List ℕ)) : Type 0 where
  pub input : List ℕ
  pub text : List ℕ
  pub goes_with : GoesWith input text
  pub read : Consumes unread left input
  pub written : Appends before after text

-- some bytes were read, and a prefix of a text that goes with them was written
pub record RespondsSome (GoesWith : List ℕ → List ℕ → Type 0) (unread left before after : Option (List ℕ)) : Type 0 where
  pub input : List ℕ
  pub text : List ℕ
  pub goes_with : GoesWith input text
  pub read : Consumes unread left input
  pub written : AppendsSome before after text
