use Rattle.std.proofs.Common.{rules}
use Rattle.command_line.proofs.usage_fault.UsageFault.is_asked_for.Goals as goal

pub returns-in-CommandLine : goal.returns-in-CommandLine
returns-in-CommandLine c = search rules
