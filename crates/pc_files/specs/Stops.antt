-- Why files give no case.
use Rattle.pc_model.specs.declared.fault.Refusal.{Refusal}
use Rattle.pc_model.specs.declared.fault.Refusal.TheVariants as refusals
use Rattle.pc_files.specs.declared.stop.Stop.{Stop}
use Rattle.pc_files.specs.declared.stop.Stop.TheVariants as stops

abbrev pub stop_of : Refusal → Stop
stop_of (refusals.Fault fault) = stops.Refused fault
stop_of refusals.Memory = stops.Memory
