-- The faults of what a cluster does at its end are faults of its end.
use Rattle.std.proofs.Common.{refl, sym, subst}
use Rattle.std.specs.Prelude.{IsTrue, Option}
use Rattle.byte_streams.specs.Faults.{IsMemoryOrRandom}
use Rattle.byte_streams.specs.declared.program_fault.ProgramFault.{ProgramFault}
use Rattle.byte_streams.specs.declared.program_fault.ProgramFault.TheVariants as fault
use Rattle.cluster_service.specs.HistoriesFiles.{HistoriesFileView, file_path}
use Rattle.cluster_service.specs.RunFaults.{IsLineFault, IsReportFault, IsSaveFault, IsWriteFault, is_asked_at_end}

pub written_line : (e : ProgramFault) → IsWriteFault e → IsLineFault e
written_line fault.NoMemory is = tt
written_line (fault.Refused refused error) is = subst (λ r. IsTrue (is_asked_at_end r)) (sym is) refl
written_line fault.HistoryFull is = absurd is
written_line (fault.NoListener port error) is = absurd is
written_line fault.NoThread is = absurd is
written_line (fault.NoFile path error) is = absurd is
written_line (fault.Stranger replica) is = absurd is

pub audited_line : (e : ProgramFault) → IsMemoryOrRandom e → IsLineFault e
audited_line fault.NoMemory is = tt
audited_line (fault.Refused refused error) is = subst (λ r. IsTrue (is_asked_at_end r)) (sym is) refl
audited_line fault.HistoryFull is = absurd is
audited_line (fault.NoListener port error) is = absurd is
audited_line fault.NoThread is = absurd is
audited_line (fault.NoFile path error) is = absurd is
audited_line (fault.Stranger replica) is = absurd is

module _ (file : Option HistoriesFileView) where
  pub line_fault : (e : ProgramFault) → IsLineFault e → IsReportFault file e
  line_fault fault.NoMemory is = tt
  line_fault (fault.Refused refused error) is = is
  line_fault fault.HistoryFull is = absurd is
  line_fault (fault.NoListener port error) is = absurd is
  line_fault fault.NoThread is = absurd is
  line_fault (fault.NoFile path error) is = absurd is
  line_fault (fault.Stranger replica) is = absurd is

  pub file_fault : (e : ProgramFault) → IsSaveFault (file_path file) e → IsReportFault file e
  file_fault fault.NoMemory is = absurd is
  file_fault (fault.Refused refused error) is = absurd is
  file_fault fault.HistoryFull is = absurd is
  file_fault (fault.NoListener port error) is = absurd is
  file_fault fault.NoThread is = absurd is
  file_fault (fault.NoFile path error) is = is
  file_fault (fault.Stranger replica) is = absurd is
