-- The number of each status.
use Rattle.std.specs.Prelude.{ℕ}
use Rattle.pc_base.specs.declared.status.Status.{Status}
use Rattle.pc_base.specs.declared.status.Status.TheVariants.{Done, SaidNo, Usage, Malformed, ReadFault, WriteFault, Memory}

-- the number with which the program ends
abbrev pub code_of : Status → ℕ
code_of Done = 0
code_of SaidNo = 1
code_of Usage = 2
code_of Malformed = 3
code_of ReadFault = 4
code_of WriteFault = 5
code_of Memory = 6
