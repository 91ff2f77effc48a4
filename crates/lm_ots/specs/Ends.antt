-- The ends that the chains of a leaf lead to.
use Rattle.std.specs.Prelude.{ℕ, List, [], ◌∷◌, ◌++◌, slice_index, slice_index_or}
use Rattle.std.specs.Int.{w16, w32, to_be_bytes}
use Rattle.lm_ots.specs.declared.leaf_chains.Chains.{Chains}
use Rattle.lm_ots.specs.Steps.{walk}

-- the bytes that identify a chain, `I || u32(q) || u16(i)`
abbrev pub chain_prefix : Chains → ℕ → List ℕ
chain_prefix chains i = chains.identifier ++ to_be_bytes w32 chains.leaf ++ to_be_bytes w16 i

-- the message that the next step of a chain hashes
abbrev pub message_of : Chains → ℕ → List ℕ
message_of chains i =
    chains.identifier ++ to_be_bytes w32 chains.leaf ++ to_be_bytes w16 i ++ (slice_index chains.next i ∷ [])
    ++ slice_index_or chains.values i []

-- the value of a chain after it has taken the steps that it has left
unfoldable pub end_of : Chains → ℕ → List ℕ
end_of chains i = walk (chain_prefix chains i) (slice_index chains.next i) (slice_index chains.left i) (slice_index_or chains.values i [])
