-- The file into which a cluster writes its histories.
use Rattle.std.specs.Prelude.{ℕ, List, Option, Some, None}
use Rattle.std.specs.Io.KnownBytes.{Appends}
use Rattle.byte_streams.specs.declared.program_fault.ProgramFault.{ProgramFault}
use Rattle.byte_streams.specs.declared.program_fault.ProgramFault.TheVariants as fault
use Rattle.byte_streams.specs.Writing.{AppendsSome}

-- a file for histories: its path, and the bytes in it, if they are known
pub record HistoriesFileView : Type 0 where
  pub path : List ℕ
  pub bytes : Option (List ℕ)

-- the bytes in the file, if there is one and they are known
abbrev pub file_bytes : Option HistoriesFileView → Option (List ℕ)
file_bytes None = None
file_bytes (Some file) = file.bytes

-- the path of the file, if there is one
abbrev pub file_path : Option HistoriesFileView → Option (List ℕ)
file_path None = None
file_path (Some file) = Some file.path

-- The bytes were written into the file, if there is one: all of them, whatever the fault, unless it is the file's own. Then a prefix was.
abbrev pub Saves : ProgramFault → Option (List ℕ) → Option (List ℕ) → List ℕ → Type 0
Saves (fault.NoFile path error) empty full bytes = AppendsSome empty full bytes
Saves _ empty full bytes = Appends empty full bytes
