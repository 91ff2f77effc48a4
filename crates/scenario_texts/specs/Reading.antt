-- What words and lines read as, by the functions of this crate. That reading inverts writing is proved in `proofs/`; no
-- public clause cites this file.
use Rattle.ledger_model.specs.declared.config.AppKinds.{AppKinds}
use Rattle.std.specs.Prelude.{ℕ, zero, suc, ◌+◌, ◌*◌, ◌^◌, ◌≤◌, ◌==◌, nat_lt, nat_le, Bool, true, false, not, ◌&&◌, List, [], ◌∷◌}
use Rattle.std.specs.Prelude.{◌++◌, length, codes}
use Rattle.std.specs.Prelude.{Option, Some, None, is_some, option_and_then, if◌then◌else◌}
use Rattle.std.specs.List.{find, list_all, list_any, slice_split}
use Rattle.std.specs.Char.{is_ascii, is_ascii_uppercase}
use Rattle.std.specs.Option.{option_map}
use Rattle.std.specs.Result.{result_ok}
use Rattle.std.specs.Str.{bytes_eq}
use Rattle.std.specs.Str.Parse.{digits_value}
use Rattle.std.proofs.Common.{suc-le-suc, zero-le}
use Rattle.hex.specs.Hex.{decode_of}
use Rattle.ledger_model.specs.Limits.{max_tx_len, max_key_len}
use Rattle.ledger_model.specs.Versions.{batch_limit}
use Rattle.ledger_model.specs.declared.version.Version.{Version}
use Rattle.ledger_model.specs.declared.version.Version.TheVariants as version
use Rattle.ledger_model.specs.Values.{Value}
use Rattle.ledger_model.specs.declared.config.AppKind.{AppKind}
use Rattle.ledger_model.specs.Numbers.{has_kind, kind_of_number}
use Rattle.lm_ots.specs.declared.params.Width.TheVariants.{W4, W8}
use Rattle.lm_ots.specs.declared.params.TreeHeight.TheVariants.{H5, H10}
use Rattle.lm_ots.specs.declared.params.Params.{Params}
use Rattle.plain_text.specs.Numbers.{is_decimal, has_needless_zero}
use Rattle.plain_text.specs.Transactions.{is_plain, nibble, byte_of}
use Rattle.scenario_texts.specs.Plans.{Plan}
use Rattle.scenario_texts.specs.Lines.{short_line_len, max_line_len}
use Rattle.scenario_texts.specs.Words.{keyword_text}
use Rattle.scenario_texts.specs.declared.keyword.Keyword.{Keyword}
use Rattle.scenario_texts.specs.declared.keyword.Keyword.TheVariants as keyword
use Rattle.scenario_texts.specs.declared.command.Towards.{Towards}
use Rattle.scenario_texts.specs.declared.command.Towards.TheVariants.{One, All}
use Rattle.scenario_texts.specs.declared.command.Lie.{Lie}
use Rattle.scenario_texts.specs.declared.command.Command.{Command}
use Rattle.scenario_texts.specs.declared.command.Command.TheVariants as command

infixl 10 ◌>>=◌
abbrev pub ◌>>=◌ : {A B : Type 0} → Option A → (A → Option B) → Option B
o >>= f = option_and_then f o

-- the first of these keywords that the word is
abbrev pub keyword_among : List Keyword → List ℕ → Option Keyword
keyword_among [] word = None
keyword_among (k ∷ ks) word = if bytes_eq word (keyword_text k) then Some k else keyword_among ks word

abbrev pub all_keywords : List Keyword
all_keywords =
    keyword.Config ∷ keyword.Keys ∷ keyword.Frames ∷ keyword.Liar ∷ keyword.Submit ∷ keyword.Propose ∷ keyword.End ∷ keyword.Pass
    ∷ keyword.Inject ∷ keyword.Execute ∷ keyword.Query ∷ keyword.Retire ∷ keyword.Info ∷ keyword.Silent ∷ keyword.Round ∷ keyword.LieReport
    ∷ keyword.LieLock ∷ keyword.LieStale ∷ keyword.LieAck ∷ []

-- the keyword that the word is
unfoldable pub keyword_of : List ℕ → Option Keyword
keyword_of word = keyword_among all_keywords word

-- the number below 2^32 that the word encodes
unfoldable pub word_number : List ℕ → Option ℕ
word_number word = if is_decimal word && not (has_needless_zero word) && nat_lt (digits_value 10 word) (2 ^ 32)
    then Some (digits_value 10 word) else None

-- the number, at least 1, that the word encodes
unfoldable pub positive_of : List ℕ → Option ℕ
positive_of word = do
  n ← word_number word
  if n == 0 then None else Some n

-- the number in the only field
unfoldable pub one_number : List (List ℕ) → Option ℕ
one_number (a ∷ []) = word_number a
one_number _ = None

-- the two numbers in the two fields
unfoldable pub two_numbers : List (List ℕ) → Option (ℕ × ℕ)
two_numbers (a ∷ b ∷ []) = do
  x ← word_number a
  y ← word_number b
  Some (x, y)
two_numbers _ = None

-- the three numbers in the three fields
unfoldable pub three_numbers : List (List ℕ) → Option (ℕ × ℕ × ℕ)
three_numbers (a ∷ b ∷ c ∷ []) = do
  x ← word_number a
  y ← word_number b
  z ← word_number c
  Some (x, y, z)
three_numbers _ = None

-- the byte, followed by the bytes
abbrev pub onto : Option ℕ → Option (List ℕ) → Option (List ℕ)
onto (Some b) (Some bytes) = Some (b ∷ bytes)
onto (Some b) None = None
onto None bytes = None

-- the byte, if it stands for itself
abbrev pub bare_of : ℕ → Option ℕ
bare_of b = if is_plain b then Some b else None

-- the bytes that the word encodes
unfoldable pub word_bytes : List ℕ → Option (List ℕ)
word_bytes [] = Some []
word_bytes (b ∷ []) = onto (bare_of b) (Some [])
word_bytes (b ∷ c ∷ []) = onto (bare_of b) (word_bytes (c ∷ []))
word_bytes (b ∷ c ∷ d ∷ rest) = if b == 0x5c then onto (byte_of (nibble c) (nibble d)) (word_bytes rest)
    else onto (bare_of b) (word_bytes (c ∷ d ∷ rest))

-- the bytes that the word encodes in lower-case hexadecimal digits
unfoldable pub hex_of : List ℕ → Option (List ℕ)
hex_of word = if list_any is_ascii_uppercase word then None else result_ok (decode_of word)

-- the bytes in the only field, which may be missing but not empty
abbrev pub optional : (List ℕ → Option (List ℕ)) → List (List ℕ) → Option (List ℕ)
optional read [] = Some []
optional read (word ∷ []) = if length word == 0 then None else read word
optional read _ = None

-- the only field's bytes, in their printed form
unfoldable pub optional_bytes : List (List ℕ) → Option (List ℕ)
optional_bytes fields = optional word_bytes fields

-- the only field's bytes, in hexadecimal digits
unfoldable pub optional_hex : List (List ℕ) → Option (List ℕ)
optional_hex fields = optional hex_of fields

-- the transaction that the word encodes
unfoldable pub tx_of : List ℕ → Option (List ℕ)
tx_of word = do
  bytes ← word_bytes word
  if nat_le 1 (length bytes) && nat_le (length bytes) max_tx_len then Some bytes else None

-- the transactions that the words encode
unfoldable pub txs_of : List (List ℕ) → Option Value
txs_of [] = Some []
txs_of (word ∷ words) = do
  tx ← tx_of word
  txs ← txs_of words
  Some (tx ∷ txs)

-- the bytes after this first byte
abbrev pub without_first : ℕ → List ℕ → Option (List ℕ)
without_first c [] = None
without_first c (b ∷ rest) = if b == c then Some rest else None

-- the bytes before this last byte
abbrev pub without_last : ℕ → List ℕ → Option (List ℕ)
without_last c [] = None
without_last c (b ∷ []) = if b == c then Some [] else None
without_last c (b ∷ d ∷ rest) = option_map (λ front. b ∷ front) (without_last c (d ∷ rest))

-- the text between the brackets
unfoldable pub bracketed : List ℕ → Option (List ℕ)
bracketed word = do
  rest ← without_first 91 word
  without_last 93 rest

-- the words between the commas; none if there is nothing in the brackets
unfoldable pub elements : List ℕ → List (List ℕ)
elements [] = []
elements (b ∷ rest) = slice_split (λ c. c == 44) (b ∷ rest)

-- the batch that the word encodes, with at most as many transactions as frames of this version carry
unfoldable pub batch_of : Version → List ℕ → Option Value
batch_of version word = do
  inner ← bracketed word
  txs ← txs_of (elements inner)
  if nat_le (length txs) (batch_limit version) then Some txs else None

-- where a lie goes
unfoldable pub towards_of : List ℕ → Option Towards
towards_of word = if bytes_eq word (codes "all") then Some All else option_map One (word_number word)

-- the liar that the word names
unfoldable pub liar_of : List ℕ → List ℕ → Option ℕ
liar_of liars word = do
  n ← word_number word
  find (λ liar. liar == n) liars

-- n is at most the limit, if it is
abbrev pub at_most : (n limit : ℕ) → Option (n ≤ limit)
at_most zero limit = Some zero-le
at_most (suc n) zero = None
at_most (suc n) (suc limit) = option_map suc-le-suc (at_most n limit)

-- the lie at this height and in this phase, which are both at least 1, with a batch that fits into frames of this version
unfoldable pub lie_at : Version → ℕ → ℕ → ℕ → Value → Towards → Option Lie
lie_at version liar zero phase batch to = None
lie_at version liar (suc h) zero batch to = None
lie_at version liar (suc h) (suc k) batch to = option_map (λ fits. record {
  version = version;
  liar = liar;
  height = suc h;
  phase = suc k;
  batch = batch;
  to = to;
  some_height = suc-le-suc zero-le;
  some_phase = suc-le-suc zero-le;
  fits = fits;
}) (at_most (length batch) (batch_limit version))

-- the lie that the fields encode
unfoldable pub lie_of : Version → List ℕ → List (List ℕ) → Option Lie
lie_of version liars (l ∷ h ∷ k ∷ b ∷ t ∷ []) = do
  liar ← liar_of liars l
  height ← positive_of h
  phase ← positive_of k
  batch ← batch_of version b
  to ← towards_of t
  lie_at version liar height phase batch to
lie_of version liars _ = None

-- `submit`
unfoldable pub submit_of : List (List ℕ) → Option Command
submit_of [] = None
submit_of (r ∷ rest) = do
  replica ← word_number r
  bytes ← optional_bytes rest
  Some (command.Submit replica bytes)

-- `inject`
unfoldable pub inject_of : List (List ℕ) → Option Command
inject_of [] = None
inject_of (t ∷ rest) = do
  to ← word_number t
  bytes ← optional_hex rest
  Some (command.Inject to bytes)

-- `query`
unfoldable pub query_command : List (List ℕ) → Option Command
query_command [] = None
query_command (r ∷ rest) = do
  replica ← word_number r
  key ← optional_bytes rest
  if nat_le (length key) max_key_len then Some (command.Query replica key) else None

-- `propose`
unfoldable pub propose_of : List (List ℕ) → Option Command
propose_of fields = option_map (λ n. command.Propose n.0 n.1) (two_numbers fields)

-- `retire`
unfoldable pub retire_of : List (List ℕ) → Option Command
retire_of fields = option_map (λ n. command.Retire n.0 n.1) (two_numbers fields)

-- `pass`
unfoldable pub pass_of : List (List ℕ) → Option Command
pass_of fields = option_map (λ n. command.Pass n.0 n.1 n.2) (three_numbers fields)

-- a command with one number
unfoldable pub simple_of : Keyword → List (List ℕ) → Option Command
simple_of keyword.End fields = option_map command.End (one_number fields)
simple_of keyword.Execute fields = option_map command.Execute (one_number fields)
simple_of keyword.Info fields = option_map command.Info (one_number fields)
simple_of keyword.Silent [] = Some command.Silent
simple_of keyword.Round [] = Some command.Round
simple_of _ _ = None

-- a lie whose proof has the reports of another phase
unfoldable pub stale_of : Version → List ℕ → List (List ℕ) → Option Command
stale_of version liars (l ∷ h ∷ k ∷ j ∷ b ∷ t ∷ []) = do
  source ← positive_of j
  lie ← lie_of version liars (l ∷ h ∷ k ∷ b ∷ t ∷ [])
  Some (command.LieStale lie source)
stale_of version liars _ = None

-- a lie
unfoldable pub lying_of : Version → List ℕ → Keyword → List (List ℕ) → Option Command
lying_of version liars keyword.LieReport fields = option_map command.LieReport (lie_of version liars fields)
lying_of version liars keyword.LieLock fields = option_map command.LieLock (lie_of version liars fields)
lying_of version liars keyword.LieAck fields = option_map command.LieAck (lie_of version liars fields)
lying_of version liars _ fields = None

-- the command of a line, in a cluster with frames of this version and these liars
unfoldable pub command_of : Version → List ℕ → Keyword → List (List ℕ) → Option Command
command_of version liars keyword.Submit fields = submit_of fields
command_of version liars keyword.Propose fields = propose_of fields
command_of version liars keyword.Pass fields = pass_of fields
command_of version liars keyword.Inject fields = inject_of fields
command_of version liars keyword.Query fields = query_command fields
command_of version liars keyword.Retire fields = retire_of fields
command_of version liars keyword.LieReport fields = lying_of version liars keyword.LieReport fields
command_of version liars keyword.LieLock fields = lying_of version liars keyword.LieLock fields
command_of version liars keyword.LieStale fields = stale_of version liars fields
command_of version liars keyword.LieAck fields = lying_of version liars keyword.LieAck fields
command_of version liars k fields = simple_of k fields

-- a cluster may have this size
abbrev pub is_size : ℕ → ℕ → Bool
is_size replicas faults = nat_le (3 * faults + 1) replicas && nat_le replicas 13 && nat_le 1 faults

-- the cluster of a line, for a program that has these kinds of applications
unfoldable pub config_of : AppKinds → List (List ℕ) → Option (ℕ × ℕ × AppKind)
config_of kinds fields = do
  n ← three_numbers fields
  kind ← kind_of_number n.2
  if has_kind kinds kind && is_size n.0 n.1 then Some (n.0, n.1, kind) else None

-- the plan that consists of the cluster
unfoldable pub begun_of : AppKinds → List (List ℕ) → Option Plan
begun_of kinds fields = option_map (λ c. record {
  replicas = c.0;
  faults = c.1;
  kind = c.2;
  keys = None;
  frames = version.One;
  liars = [];
  commands = [];
}) (config_of kinds fields)

-- the parameter set of a width and a height of the tree
unfoldable pub params_from : ℕ × ℕ → Option Params
params_from n = do
  width ← if n.0 == 4 then Some W4 else if n.0 == 8 then Some W8 else None
  height ← if n.1 == 5 then Some H5 else if n.1 == 10 then Some H10 else None
  Some (record { width = width; height = height })

-- no line sets version 2
abbrev pub is_first : Version → Bool
is_first version.One = true
is_first version.Two = false

-- no version, no liar and no command was read
unfoldable pub has_setup_alone : Plan → Bool
has_setup_alone p = is_first p.frames && length p.liars == 0 && length p.commands == 0

-- the plan with the parameter set of a line
unfoldable pub with_keys : Plan → List (List ℕ) → Option Plan
with_keys p fields = do
  n ← two_numbers fields
  keys ← params_from n
  if not (is_some p.keys) && has_setup_alone p then Some (record p { keys = Some keys }) else None

-- the plan with version 2 for its frames
unfoldable pub with_frames : Plan → List (List ℕ) → Option Plan
with_frames p (word ∷ []) = if bytes_eq word (codes "2") && has_setup_alone p then Some (record p { frames = version.Two }) else None
with_frames p _ = None

-- the replica may be named as another liar
unfoldable pub is_new_liar : Plan → ℕ → Bool
is_new_liar p n = length p.commands == 0 && nat_lt (length p.liars) p.faults && nat_lt n p.replicas
    && not (list_any (λ liar. liar == n) p.liars)

-- the plan with the liar of a line
unfoldable pub with_liar : Plan → List (List ℕ) → Option Plan
with_liar p fields = do
  n ← one_number fields
  if is_new_liar p n then Some (record p { liars = p.liars ++ n ∷ [] }) else None

-- the plan with the command of a line
unfoldable pub with_command : Plan → Keyword → List (List ℕ) → Option Plan
with_command p k fields = do
  c ← command_of p.frames p.liars k fields
  Some (record p { commands = p.commands ++ c ∷ [] })

-- the plan after one more line
unfoldable pub going_on : Plan → Keyword → List (List ℕ) → Option Plan
going_on p keyword.Config fields = None
going_on p keyword.Keys fields = with_keys p fields
going_on p keyword.Frames fields = with_frames p fields
going_on p keyword.Liar fields = with_liar p fields
going_on p k fields = with_command p k fields

-- the plan that starts with this line
unfoldable pub first_plan : AppKinds → Keyword → List (List ℕ) → Option Plan
first_plan kinds keyword.Config fields = begun_of kinds fields
first_plan kinds _ fields = None

-- the plan after one more line, given the line's keyword and fields; the first line starts it
unfoldable pub next_by_keyword : AppKinds → Option Plan → Keyword → List (List ℕ) → Option Plan
next_by_keyword kinds None k fields = first_plan kinds k fields
next_by_keyword kinds (Some p) k fields = going_on p k fields

-- the plan after one more line, given the line's words
unfoldable pub next_by_words : AppKinds → Option Plan → List (List ℕ) → Option Plan
next_by_words kinds so_far [] = None
next_by_words kinds so_far (word ∷ fields) = do
  k ← keyword_of word
  next_by_keyword kinds so_far k fields

-- the line, if each byte of it is ASCII
unfoldable pub ascii_of : List ℕ → Option (List ℕ)
ascii_of line = if list_all is_ascii line then Some line else None

-- the plan after one more line
unfoldable pub next_of : AppKinds → Option Plan → List ℕ → Option Plan
next_of kinds so_far line = do
  text ← ascii_of line
  next_by_words kinds so_far (slice_split (λ b. b == 32) text)

-- the most bytes of the next line after the lines that gave this plan
abbrev pub limit_after : Option Plan → ℕ
limit_after None = short_line_len
limit_after (Some p) = if is_first p.frames then short_line_len else max_line_len
