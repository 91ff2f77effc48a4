-- A response that was written in full is a prefix of itself.
use Rattle.std.proofs.Common.{ℕ, List}
use Rattle.std.specs.Prelude.{Option}
use Rattle.std.specs.Io.KnownBytes.{Keeps}
use Rattle.std.proofs.KnownBytes.{Appends-kept}
use Rattle.byte_streams.specs.Responding.{Responds, RespondsSome}
use Rattle.byte_streams.proofs.WritingLemmas.{all_some}

-- all was written, and then nothing more
pub responds_some : (P Q : List ℕ → List ℕ → Type 0) (unread left before mid after : Option (List ℕ))
    → ((input text : List ℕ) → P input text → Q input text)
    → Responds P unread left before mid → Keeps mid after → RespondsSome Q unread left before after
responds_some P Q unread left before mid after weaker done keeps = record {
  input = done.input;
  text = done.text;
  goes_with = weaker done.input done.text done.goes_with;
  read = done.read;
  written = all_some before after done.text (Appends-kept before mid after done.text done.written keeps);
}
