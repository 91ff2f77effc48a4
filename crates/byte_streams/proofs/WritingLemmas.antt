-- Prefixes of texts that were written.
use Rattle.std.proofs.Common.{ℕ, List, [], ◌++◌, refl, sym, ap, ◌∙◌, append_assoc, append-nil, ◌≡◌, ◌-◌, length, take, drop}
use Rattle.std.proofs.Common.{take-append-drop}
use Rattle.std.specs.Prelude.{Option}
use Rattle.std.specs.Io.KnownBytes.{Appends, Keeps}
use Rattle.std.proofs.KnownBytes.{Appends-kept, Appends-nil, Appends-trans}
use Rattle.byte_streams.specs.Writing.{AppendsSome}
use Rattle.std.proofs.lemmas.List.{take_rest}

-- all of a text is a prefix of it
pub all_some : (a b : Option (List ℕ)) (text : List ℕ) → Appends a b text → AppendsSome a b text
all_some a b text written = record { done = text; left = []; split = append-nil text; written = written }

-- so it is where nothing was written after it
pub kept_some : (a b c : Option (List ℕ)) (text : List ℕ) → Appends a b text → Keeps b c → AppendsSome a c text
kept_some a b c text written keeps = all_some a c text (Appends-kept a b c text written keeps)

-- the empty text is a prefix of any text
pub nothing_some : (a : Option (List ℕ)) (text : List ℕ) → AppendsSome a a text
nothing_some a text = record { done = []; left = text; split = refl; written = Appends-nil a }

-- a whole text, and a prefix of the next
pub then_some : (a b c : Option (List ℕ)) (first second : List ℕ) → Appends a b first → AppendsSome b c second
    → AppendsSome a c (first ++ second)
then_some a b c first second whole some = record {
  done = first ++ some.done;
  left = some.left;
  split = append_assoc first some.done some.left ∙ ap (λ l. first ++ l) some.split;
  written = Appends-trans a b c first some.done whole some.written;
}

-- a prefix of a text is one of a longer text
pub longer_some : (a b : Option (List ℕ)) (text more : List ℕ) → AppendsSome a b text → AppendsSome a b (text ++ more)
longer_some a b text more some = record {
  done = some.done;
  left = some.left ++ more;
  split = sym (append_assoc some.done some.left more) ∙ ap (λ l. l ++ more) some.split;
  written = some.written;
}

-- what is written of what is left joins what was written
pub more_written : (all done left : List ℕ) (n : ℕ) → all ≡ done ++ left
    → all ≡ (done ++ take n left) ++ take (length left - n) (drop n left)
more_written all done left n e =
    e ∙ ap (λ l. done ++ l) (sym (take-append-drop n left)) ∙ sym (append_assoc done (take n left) (drop n left))
    ∙ ap (λ l. (done ++ take n left) ++ l) (sym (take_rest left n))
