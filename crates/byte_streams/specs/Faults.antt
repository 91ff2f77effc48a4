-- Which faults stop the program.
use Rattle.std.specs.Prelude.{◌≡◌, Bool, true, false, IsTrue, ⊤}
use Rattle.byte_streams.specs.declared.program_fault.ProgramFault.{ProgramFault}
use Rattle.byte_streams.specs.declared.program_fault.ProgramFault.TheVariants as fault
use Rattle.byte_streams.specs.declared.resource.Resource.{Resource}
use Rattle.byte_streams.specs.declared.resource.Resource.TheVariants as resource

-- the system refused this resource
abbrev pub IsRefusalOf : Resource → ProgramFault → Type 0
IsRefusalOf wanted (fault.Refused refused error) = refused ≡ wanted
IsRefusalOf wanted _ = ⊥

-- memory ran out, or the system refused random bytes
abbrev pub IsMemoryOrRandom : ProgramFault → Type 0
IsMemoryOrRandom fault.NoMemory = ⊤
IsMemoryOrRandom (fault.Refused refused error) = refused ≡ resource.Random
IsMemoryOrRandom _ = ⊥

-- a program that reads standard input and writes standard output asks for this: one of the two, or random bytes
abbrev pub is_asked : Resource → Bool
is_asked resource.Input = true
is_asked resource.Output = true
is_asked resource.Random = true
is_asked _ = false

-- memory ran out, or the system refused standard input, standard output or random bytes
abbrev pub IsMemoryOrAsked : ProgramFault → Type 0
IsMemoryOrAsked fault.NoMemory = ⊤
IsMemoryOrAsked (fault.Refused refused error) = IsTrue (is_asked refused)
IsMemoryOrAsked _ = ⊥
