-- Why `abft deliver` stops, from call to call.
use Rattle.ledger_model.specs.Meanings.{Meanings}
use Rattle.std.proofs.Common.{ℕ, ◌≤◌, List, length, refl, subst, sym}
use Rattle.std.specs.Prelude.{Option, Result, Ok, Err, IfErr, IsTrue}
use Rattle.ledger_model.specs.declared.history.Entry.{Entry}
use Rattle.cluster_setup.specs.declared.deliver_settings.DeliverSettings.{DeliverSettings}
use Rattle.byte_streams.specs.declared.program_fault.ProgramFault.{ProgramFault}
use Rattle.byte_streams.specs.declared.program_fault.ProgramFault.TheVariants as fault
use Rattle.byte_streams.specs.Faults.{IsMemoryOrAsked, is_asked}
use Rattle.program.specs.Faults.{IsReadFault, FailsAfter}
use Rattle.program.specs.Streams.{FillsHistory, StopsDelivery}
use Rattle.ledger_model.specs.Limits.{max_history_len}

-- allocation failure, or a resource that the system refused, stops the program whatever the history is
pub stops_anyway : (entries : List Entry) (e : ProgramFault) → IsMemoryOrAsked e → FailsAfter entries e
stops_anyway entries fault.NoMemory is = tt
stops_anyway entries (fault.Refused resource error) is = is
stops_anyway entries fault.HistoryFull is = absurd is
stops_anyway entries (fault.NoListener port error) is = absurd is
stops_anyway entries fault.NoThread is = absurd is
stops_anyway entries (fault.NoFile path error) is = absurd is
stops_anyway entries (fault.Stranger replica) is = absurd is

pub read_stops : (entries : List Entry) (e : ProgramFault) → IsReadFault e → FailsAfter entries e
read_stops entries fault.NoMemory is = tt
read_stops entries (fault.Refused resource error) is = subst (λ r. IsTrue (is_asked r)) (sym is.0) refl
read_stops entries fault.HistoryFull is = absurd is
read_stops entries (fault.NoListener port error) is = absurd is
read_stops entries fault.NoThread is = absurd is
read_stops entries (fault.NoFile path error) is = absurd is
read_stops entries (fault.Stranger replica) is = absurd is

pub read_is : (e : ProgramFault) → IsReadFault e → IsMemoryOrAsked e
read_is fault.NoMemory is = tt
read_is (fault.Refused resource error) is = subst (λ r. IsTrue (is_asked r)) (sym is.0) refl
read_is fault.HistoryFull is = absurd is
read_is (fault.NoListener port error) is = absurd is
read_is fault.NoThread is = absurd is
read_is (fault.NoFile path error) is = absurd is
read_is (fault.Stranger replica) is = absurd is

pub if_stops : {T : Type 0} (r : Result T ProgramFault) (entries : List Entry) → IfErr r IsMemoryOrAsked → IfErr r (FailsAfter entries)
if_stops (Ok x) entries is = tt
if_stops (Err e) entries is = stops_anyway entries e is

module _ (meaning : Meanings) (s : DeliverSettings) (unread left before after : Option (List ℕ)) where
  -- where the history was full there, it was full
  pub stops_delivery : (entries : List Entry) (e : ProgramFault)
      → (max_history_len ≤ length entries → FillsHistory meaning s unread left before after)
      → FailsAfter entries e → StopsDelivery meaning s unread left before after e
  stops_delivery entries fault.NoMemory filled is = tt
  stops_delivery entries (fault.Refused resource error) filled is = is
  stops_delivery entries fault.HistoryFull filled is = filled is
  stops_delivery entries (fault.NoListener port error) filled is = absurd is
  stops_delivery entries fault.NoThread filled is = absurd is
  stops_delivery entries (fault.NoFile path error) filled is = absurd is
  stops_delivery entries (fault.Stranger replica) filled is = absurd is

  -- other faults stop it anyway
  pub stops_delivery_anyway : (e : ProgramFault) → IsMemoryOrAsked e → StopsDelivery meaning s unread left before after e
  stops_delivery_anyway fault.NoMemory is = tt
  stops_delivery_anyway (fault.Refused resource error) is = is
  stops_delivery_anyway fault.HistoryFull is = absurd is
  stops_delivery_anyway (fault.NoListener port error) is = absurd is
  stops_delivery_anyway fault.NoThread is = absurd is
  stops_delivery_anyway (fault.NoFile path error) is = absurd is
  stops_delivery_anyway (fault.Stranger replica) is = absurd is
