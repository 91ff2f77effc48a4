-- The words of a line, joined from the left and from the right.
use Rattle.std.proofs.Common.{◌≡◌, ◌∙◌, ℕ, List, ◌++◌, append_assoc}
use Rattle.std.specs.Prelude.{codes}

-- two words after a first text
pub two_words : (head a b end : List ℕ) → head ++ a ++ codes " " ++ b ++ end ≡ head ++ (a ++ (codes " " ++ (b ++ end)))
two_words head a b end =
    append_assoc (head ++ a ++ codes " ") b end ∙ append_assoc (head ++ a) (codes " ") (b ++ end)
    ∙ append_assoc head a (codes " " ++ (b ++ end))

-- three words after it
pub three_words : (head a b c end : List ℕ)
    → head ++ a ++ codes " " ++ b ++ codes " " ++ c ++ end ≡ head ++ (a ++ (codes " " ++ (b ++ (codes " " ++ (c ++ end)))))
three_words head a b c end =
    append_assoc (head ++ a ++ codes " " ++ b ++ codes " ") c end
    ∙ append_assoc (head ++ a ++ codes " " ++ b) (codes " ") (c ++ end)
    ∙ two_words head a b (codes " " ++ (c ++ end))

-- a text after three others
pub headed : (head number name rest : List ℕ) → head ++ number ++ name ++ rest ≡ head ++ (number ++ (name ++ rest))
headed head number name rest = append_assoc (head ++ number) name rest ∙ append_assoc head number (name ++ rest)
