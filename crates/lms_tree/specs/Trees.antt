-- A tree as contracts see it, and its table of nodes.
use Rattle.std.specs.Prelude.{◌≡◌, ◌≤◌, ◌<◌, ◌+◌, ◌*◌, ◌^◌, ℕ, List, [], length, slice_index_or}
use Rattle.ledger_model.specs.Signatures.{Params as Numbers, node}
use Rattle.lm_ots.specs.declared.params.Params.{Params}

-- what a tree is made of: its parameter set, its identifier and its secret seed
pub record Secret : Type 0 where
  pub params : Params
  pub identifier : List ℕ
  pub seed : List ℕ

-- from number `from` on, the table has each node's hash at the node's number; node r is n levels above the leaves and d
-- below the root
pub record KeepsNodes (p : Numbers) (id seed : List ℕ) (from : ℕ) (nodes : List (List ℕ)) : Type 0 where
  pub whole : length nodes ≡ 2 * 2 ^ p.height
  pub hashes : (n d r : ℕ) → n + d ≡ p.height → 2 ^ d ≤ r → r < 2 ^ (d + 1) → from ≤ r → slice_index_or nodes r [] ≡ node p id seed n r
