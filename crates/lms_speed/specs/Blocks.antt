-- The number of SHA-256 blocks that the parts of LMS hash (RFC 8554).
use Rattle.std.specs.Prelude.{ℕ, ◌+◌, ◌-◌, ◌*◌, ◌/◌, ◌^◌}
use Rattle.ledger_model.specs.Signatures.{Params, last_step}

-- the number of blocks of n bytes; the padding has at least 9 bytes
abbrev pub blocks_of : ℕ → ℕ
blocks_of n = (n + 9 + 63) / 64

-- a leaf after its chains are at their ends: its public value (section 4.3), and the hash at its node (section 5.3)
abbrev pub leaf_blocks : Params → ℕ
leaf_blocks p = blocks_of (22 + 32 * p.chains) + blocks_of (22 + 32)

-- an inner node (section 5.3)
abbrev pub node_blocks : ℕ
node_blocks = blocks_of (22 + 64)

-- the nodes above a leaf
abbrev pub path_blocks : Params → ℕ
path_blocks p = p.height * node_blocks

-- a whole tree: each chain's start and all its steps, one block each; then the leaves and the inner nodes
abbrev pub tree_blocks : Params → ℕ
tree_blocks p = 2 ^ p.height * (p.chains * 2 ^ p.width + leaf_blocks p) + (2 ^ p.height - 1) * node_blocks

-- the digest of a message of n bytes, which follow the randomizer (section 4.5)
abbrev pub digest_blocks : ℕ → ℕ
digest_blocks n = blocks_of (22 + 32 + n)

-- a signature of n bytes, given the tree: the steps, the starts of the chains, the randomizer and the digest
abbrev pub signing_blocks : Params → ℕ → ℕ → ℕ
signing_blocks p steps n = steps + p.chains + 1 + digest_blocks n

-- the verification of a signature: the remaining steps, the digest, the leaf and the path
abbrev pub verification_blocks : Params → ℕ → ℕ → ℕ
verification_blocks p steps n = p.chains * last_step p - steps + digest_blocks n + leaf_blocks p + path_blocks p
