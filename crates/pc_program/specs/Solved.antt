-- When all constraints of a program are settled, and when the program is solved.
use Rattle.std.specs.Prelude.{◌≡◌, ◌*◌, ◌<◌, ◌≤◌, ◌^◌, ⊤, nat_abs}
use Rattle.std.specs.Prelude as prelude
use Rattle.pc_program_bound.specs.declared.program.Program.{Program}
use Rattle.pc_program_bound.specs.Allocation.{constraints_of, worth, IsAllocation}
use Rattle.pc_program_bound.specs.Bound.{IsFit, bound_of, IsMultiplier, IsVoid}
use Rattle.pc_program.specs.Settled.{IsShort, AreSettled}
use Rattle.pc_program.specs.declared.solving.Settled.{Settled}
use Rattle.pc_program.specs.declared.solving.Settled.TheVariants.{All, Short}
use Rattle.pc_program.specs.declared.solving.Solved.{Solved}
use Rattle.pc_program.specs.declared.solving.Solved.TheVariants.{Best, Nothing}

-- each constraint is settled by its multiplier, or one is short
abbrev pub IsSettling : Program → Settled → Type 0
IsSettling p (All counts multipliers) = AreSettled p counts multipliers (constraints_of p)
IsSettling p (Short place) = (place < constraints_of p) × IsShort p place

-- an allocation whose value its multipliers prove the greatest, or multipliers that show that there is none
abbrev pub IsSolved : Program → Solved → Type 0
IsSolved p (Best counts value mult) =
    IsAllocation p p.floor p.cap counts × (value ≡ worth p counts) × IsMultiplier p mult × (value ≡ bound_of p p.floor p.cap mult)
IsSolved p (Nothing mult) = IsVoid p p.floor p.cap mult

-- the value is at most what the rows of 40 cells can be worth
abbrev pub IsSmall : Solved → Type 0
IsSmall (Best counts value mult) = nat_abs value ≤ 40 * 2 ^ 117
IsSmall (Nothing mult) = ⊤

-- the multipliers and their denominator fit
abbrev pub AreFitMultipliers : Solved → Type 0
AreFitMultipliers (Best counts value mult) = prelude.All IsFit mult.by × IsFit mult.den
AreFitMultipliers (Nothing mult) = prelude.All IsFit mult.by × IsFit mult.den
