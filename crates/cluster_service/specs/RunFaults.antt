-- Which faults end a running cluster, and when.
use Rattle.std.specs.Prelude.{◌≡◌, ◌⊎◌, ℕ, Bool, true, false, IsTrue, ⊤, List, Option, Some}
use Rattle.std.specs.Io.KnownBytes.{Keeps}
use Rattle.std.specs.String.{string_bytes}
use Rattle.byte_streams.specs.declared.program_fault.ProgramFault.{ProgramFault}
use Rattle.byte_streams.specs.declared.program_fault.ProgramFault.TheVariants as fault
use Rattle.byte_streams.specs.declared.resource.Resource.{Resource}
use Rattle.byte_streams.specs.declared.resource.Resource.TheVariants as resource
use Rattle.cluster_service.specs.HistoriesFiles.{HistoriesFileView, file_path}

-- a cluster asks for this before it has ended: the input whose end stops it, the clock, and random bytes
abbrev pub is_asked_in_run : Resource → Bool
is_asked_in_run resource.Input = true
is_asked_in_run resource.Clock = true
is_asked_in_run resource.Random = true
is_asked_in_run _ = false

-- a fault of a run, or of taking its histories: memory ran out, one of these was refused, a thread could not be made, or a replica was not
-- of the cluster
abbrev pub IsRunFault : ProgramFault → Type 0
IsRunFault fault.NoMemory = ⊤
IsRunFault (fault.Refused refused error) = IsTrue (is_asked_in_run refused)
IsRunFault fault.NoThread = ⊤
IsRunFault (fault.Stranger replica) = ⊤
IsRunFault _ = ⊥

-- memory ran out, or standard output refused a write
abbrev pub IsWriteFault : ProgramFault → Type 0
IsWriteFault fault.NoMemory = ⊤
IsWriteFault (fault.Refused refused error) = refused ≡ resource.Output
IsWriteFault _ = ⊥

-- its end asks for this: random bytes for the audit, and standard output
abbrev pub is_asked_at_end : Resource → Bool
is_asked_at_end resource.Random = true
is_asked_at_end resource.Output = true
is_asked_at_end _ = false

-- memory ran out for the lines at the end of a cluster, or one of these was refused
abbrev pub IsLineFault : ProgramFault → Type 0
IsLineFault fault.NoMemory = ⊤
IsLineFault (fault.Refused refused error) = IsTrue (is_asked_at_end refused)
IsLineFault _ = ⊥

-- the file of the histories, which has this path, could not be written
abbrev pub IsSaveFault : Option (List ℕ) → ProgramFault → Type 0
IsSaveFault named (fault.NoFile path error) = named ≡ Some (string_bytes path)
IsSaveFault named _ = ⊥

-- the end of a cluster that was run could not be written: its lines, or the file of the histories
abbrev pub IsReportFault : Option HistoriesFileView → ProgramFault → Type 0
IsReportFault file fault.NoMemory = ⊤
IsReportFault file (fault.Refused refused error) = IsTrue (is_asked_at_end refused)
IsReportFault file (fault.NoFile path error) = file_path file ≡ Some (string_bytes path)
IsReportFault file _ = ⊥

-- the file of the histories with this path, if one is named, could not be made, or memory ran out
abbrev pub IsFileFault : Option (List ℕ) → ProgramFault → Type 0
IsFileFault named fault.NoMemory = ⊤
IsFileFault named (fault.NoFile path error) = named ≡ Some (string_bytes path)
IsFileFault named _ = ⊥

-- this port could not be listened at
abbrev pub IsPortFault : ℕ → ProgramFault → Type 0
IsPortFault port (fault.NoListener refused error) = refused ≡ port
IsPortFault port _ = ⊥

-- A fault of a run comes before anything is written, into the file too; that it doesn't come after a whole run isn't said. All others come
-- as the lines or the file are written.
abbrev pub EndsCluster : Option HistoriesFileView → Option HistoriesFileView → Option (List ℕ) → Option (List ℕ) → ProgramFault → Type 0
EndsCluster empty full before after f = IsReportFault empty f ⊎ (IsRunFault f × (Keeps before after × (full ≡ empty)))
