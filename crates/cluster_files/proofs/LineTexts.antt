-- The text that TOML's printer writes for the table of a cluster.
use Rattle.std.proofs.Common.{◌≡◌, ◌∙◌, ℕ, ◌≤◌, Bool, true, false, List, [], ◌∷◌, ◌++◌, length, codes, decimal, refl, ap, subst, arith}
use Rattle.std.specs.List.{All, flat_map, list_all}
use Rattle.std.proofs.lemmas.List.Elements.{All-head, All-tail}
use Rattle.hex.specs.Hex.{encode_lower}
use Rattle.ledger_model.specs.declared.config.AppKind.{AppKind}
use Rattle.ledger_model.specs.declared.config.AppKind.TheVariants.{Own, KvStore, Counter, Purse}
use Rattle.ledger_model.specs.Numbers.{version_number}
use Rattle.lm_ots.specs.Parameters.{bits_of, levels_of}
use Rattle.toml_writer.specs.Text.{key_text, needs_escape}
use Rattle.toml.specs.Data.{Data, array, string}
use Rattle.toml.specs.Tables.{Expression, key_value}
use Rattle.toml.specs.Text.{IsDocumentText, IsItemsText, IsLinesText, IsValueText, expressions, is_section, section}
use Rattle.cluster_files.specs.KeyBytes.{Is56Bytes}
use Rattle.cluster_files.specs.FileTables.{cluster_table, keys_data, kind_word, number_data}
use Rattle.cluster_files.specs.FileTexts.{cluster_text, file_lines, in_quotes, key_lines, name_line}
use Rattle.cluster_setup.specs.declared.public_cluster.PublicCluster.{PublicCluster}
use Rattle.cluster_files.proofs.PlainTexts.{is_plain, plain_digits, string_text-plain}

-- a name and a value, as the printer takes them
abbrev pair : List ℕ → Data → Expression
pair name value = (([], name), key_value value)

-- an array of keys is written after its name, and not under a header
no_section : (ring : List (List ℕ)) → is_section (array (keys_data ring)) ≡ false
no_section [] = refl
no_section (key ∷ ring) = refl

no_header : (name : List ℕ) (ring : List (List ℕ)) → section ([], name) (array (keys_data ring)) ≡ []
no_header name [] = refl
no_header name (key ∷ ring) = refl

abbrev pairs_of : PublicCluster → List Expression
pairs_of cluster =
    pair (codes "bits") (number_data (bits_of cluster.params.width))
    ∷ pair (codes "faults") (number_data cluster.config.faults)
    ∷ pair (codes "frames") (number_data (version_number cluster.config.frames))
    ∷ pair (codes "keys") (array (keys_data cluster.ring))
    ∷ pair (codes "kind") (string (kind_word cluster.config.kind))
    ∷ pair (codes "levels") (number_data (levels_of cluster.params.height))
    ∷ pair (codes "replicas") (number_data cluster.config.replicas)
    ∷ []

expressions-cluster_table : (cluster : PublicCluster) → expressions (cluster_table cluster) ≡ pairs_of cluster
expressions-cluster_table cluster = rw (no_section cluster.ring, no_header (codes "keys") cluster.ring) refl

-- the texts of values
number_text : (n : ℕ) (text : List ℕ) → IsValueText true (number_data n) text → text ≡ decimal n
number_text n text is = is.0

plain_word : (kind : AppKind) → list_all is_plain (kind_word kind) ≡ true
unfolding needs_escape
plain_word Own = refl
plain_word KvStore = refl
plain_word Counter = refl
plain_word Purse = refl

word_text : (kind : AppKind) (text : List ℕ) → IsValueText true (string (kind_word kind)) text → text ≡ in_quotes (kind_word kind)
word_text kind text is = is ∙ string_text-plain (kind_word kind) (plain_word kind)

items_text : (is_first : Bool) (ring : List (List ℕ)) → All Is56Bytes ring → (text : List ℕ) → IsItemsText true true is_first (keys_data ring) text → text ≡ key_lines ring
items_text is_first [] each text is = is
items_text is_first (key ∷ ring) each text (this, rest, whole, value, more) =
    let plain = plain_digits key (All-head Is56Bytes key ring each).bytes in
    whole ∙ ap (λ t. codes "\n    " ++ (t ++ (codes "," ++ rest))) (value ∙ string_text-plain (encode_lower key) plain)
    ∙ ap (λ t. codes "\n    " ++ (in_quotes (encode_lower key) ++ (codes "," ++ t))) (items_text false ring (All-tail Is56Bytes key ring each) rest more)

keys_text : (ring : List (List ℕ)) → 2 ≤ length ring → All Is56Bytes ring → (text : List ℕ) → IsValueText true (array (keys_data ring)) text
    → text ≡ codes "[" ++ key_lines ring
keys_text [] two each text is = absurd (omega arith)
keys_text (key ∷ []) two each text is = absurd (omega arith)
keys_text (a ∷ b ∷ ring) two each text (rest, whole, items) =
    whole ∙ ap (λ t. codes "[" ++ t) (items_text true (a ∷ b ∷ ring) each rest items)

-- the expressions are written as these lines
record Writes (es : List Expression) (lines : List (List ℕ)) : Type 0 where
  says : (started : Bool) (text : List ℕ) → IsLinesText true started es text → text ≡ flat_map (λ line. line) lines

writes_none : Writes [] []
writes_none = record { says = λ started text is. is }

-- a line, and those after it
writes_line : {es : List Expression} {lines : List (List ℕ)} (name : List ℕ) (value : Data) (written : List ℕ) → key_text name ≡ name
    → ((text : List ℕ) → IsValueText true value text → text ≡ written) → Writes es lines → Writes (pair name value ∷ es) (name_line name written ∷ lines)
writes_line {es} {lines} name value written bare is_value later = record { says = says }
  where
    says : (started : Bool) (text : List ℕ) → IsLinesText true started (pair name value ∷ es) text
        → text ≡ flat_map (λ line. line) (name_line name written ∷ lines)
    says started text (this, rest, whole, (shown, line, is), more) =
        whole ∙ ap (λ t. t ++ rest) (line ∙ ap (λ n. n ++ (codes " = " ++ (shown ++ codes "\n"))) bare
        ∙ ap (λ t. name ++ (codes " = " ++ (t ++ codes "\n"))) (is_value shown is))
        ∙ ap (λ t. name_line name written ++ t) (later.says true rest more)

writes_file : (cluster : PublicCluster) → All Is56Bytes cluster.ring → Writes (pairs_of cluster) (file_lines cluster)
unfolding key_text
writes_file cluster each =
    let two : 2 ≤ length cluster.ring = omega (arith, cluster.counted, cluster.config.enough, cluster.config.tolerant) in
    writes_line (codes "bits") (number_data (bits_of cluster.params.width)) _ refl (number_text _)
    (writes_line (codes "faults") (number_data cluster.config.faults) _ refl (number_text _)
    (writes_line (codes "frames") (number_data (version_number cluster.config.frames)) _ refl (number_text _)
    (writes_line (codes "keys") (array (keys_data cluster.ring)) _ refl (keys_text cluster.ring two each)
    (writes_line (codes "kind") (string (kind_word cluster.config.kind)) _ refl (word_text cluster.config.kind)
    (writes_line (codes "levels") (number_data (levels_of cluster.params.height)) _ refl (number_text _)
    (writes_line (codes "replicas") (number_data cluster.config.replicas) _ refl (number_text _) writes_none))))))

-- the document is the file
pub document_text : (cluster : PublicCluster) → All Is56Bytes cluster.ring → (text : List ℕ) → IsDocumentText true (cluster_table cluster) text
    → text ≡ cluster_text cluster
unfolding cluster_text
document_text cluster each text is =
    (writes_file cluster each).says false text (subst (λ es. IsLinesText true false es text) (expressions-cluster_table cluster) is)
