-- The lines of `abft cluster` and `abft serve`.
use Rattle.std.specs.Prelude.{ℕ, ◌+◌, List, [], ◌∷◌, ◌++◌, codes, decimal, Option, Some, None}

-- the line of a replica: the number of blocks that it committed
abbrev pub commit_line : ℕ → ℕ → List ℕ
commit_line replica height = codes "commits " ++ (decimal replica ++ 32 ∷ (decimal height ++ 10 ∷ []))

-- the lines of replicas, from this number on
unfoldable pub commit_lines : ℕ → List ℕ → List ℕ
commit_lines replica [] = []
commit_lines replica (height ∷ heights) = commit_line replica height ++ commit_lines (replica + 1) heights

-- the line with the port of the listener
abbrev pub port_line : ℕ → List ℕ
port_line port = codes "listening " ++ decimal port ++ 10 ∷ []

-- the line with the port, and one with that of HTTP, if it is served
abbrev pub port_lines : ℕ → Option ℕ → List ℕ
port_lines port None = port_line port
port_lines port (Some http) = codes "listening " ++ (decimal port ++ (codes "\nhttp " ++ (decimal http ++ 10 ∷ [])))
