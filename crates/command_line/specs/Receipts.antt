-- The spelling of a receipt, as a word of the command line.
use Rattle.std.specs.Prelude.{◌≡◌, ℕ, ◌<◌, ◌≤◌, ◌^◌, ◌∷◌, ◌++◌, length}
use Rattle.clap.specs.Words.{Text}
use Rattle.plain_text.specs.Numbers.{number_text}
use Rattle.plain_text.specs.Transactions.{StandsFor}
use Rattle.cluster_setup.specs.declared.audit_settings.Receipt.{Receipt}

-- the numbers of a replica and of an entry in decimal, without needless zeros, and a word, with a colon between each two
abbrev pub receipt_spelling : ℕ → ℕ → Text → Text
receipt_spelling replica index word = number_text replica ++ (0x3a ∷ number_text index ++ (0x3a ∷ word))

-- The text spells the receipt: its replica, its index, and a word that stands for its transaction, which has 1 to 64 bytes.
-- A number has no colon, so the text is cut at its first two colons, and the word may have more.
pub record SpellsReceipt (text : Text) (receipt : Receipt) : Type 0 where
  pub word : Text
  pub spelled : text ≡ receipt_spelling receipt.replica receipt.index word
  pub replica : receipt.replica < 256
  pub index : receipt.index < 2 ^ 32
  pub stands : StandsFor word receipt.tx
  pub some : 1 ≤ length receipt.tx
  pub short : length receipt.tx ≤ 64
