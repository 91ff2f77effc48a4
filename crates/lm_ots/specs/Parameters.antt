-- The numbers of RFC 8554 for each parameter set.
use Rattle.std.specs.Prelude.{ℕ}
use Rattle.ledger_model.specs.Signatures.{Params as Numbers}
use Rattle.lm_ots.specs.declared.params.Width.{Width}
use Rattle.lm_ots.specs.declared.params.Width.TheVariants.{W4, W8}
use Rattle.lm_ots.specs.declared.params.TreeHeight.{TreeHeight}
use Rattle.lm_ots.specs.declared.params.TreeHeight.TheVariants.{H5, H10}
use Rattle.lm_ots.specs.declared.params.Params.{Params}

-- the width of a digit in bits
abbrev pub bits_of : Width → ℕ
bits_of W4 = 4
bits_of W8 = 8

-- the number of chains
abbrev pub chains_of : Width → ℕ
chains_of W4 = 67
chains_of W8 = 34

-- the shift of the checksum
abbrev pub shift_of : Width → ℕ
shift_of W4 = 4
shift_of W8 = 0

-- the type code of LM-OTS
abbrev pub ots_code_of : Width → ℕ
ots_code_of W4 = 3
ots_code_of W8 = 4

-- the height of the tree
abbrev pub levels_of : TreeHeight → ℕ
levels_of H5 = 5
levels_of H10 = 10

-- the type code of LMS
abbrev pub lms_code_of : TreeHeight → ℕ
lms_code_of H5 = 5
lms_code_of H10 = 6

-- the numbers of a parameter set
abbrev pub numbers_of : Params → Numbers
numbers_of p = record {
  width = bits_of p.width;
  chains = chains_of p.width;
  shift = shift_of p.width;
  height = levels_of p.height;
  ots_code = ots_code_of p.width;
  lms_code = lms_code_of p.height;
}
