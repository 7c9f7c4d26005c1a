-- What the steps of a box end in, as the code says it, and what is known of it.
use Rattle.std.specs.Prelude.{◌≡◌, ℕ, pos, List, length, All}
use Rattle.pc_program_bound.specs.declared.program.Program.{Program}
use Rattle.pc_program_bound.specs.Allocation.{constraints_of}
use Rattle.pc_program_bound.specs.Bound.{IsFit}
use Rattle.pc_simplex_tableau.specs.Relaxation.{Ending, at_vertex, at_void, at_wide, at_stall, phase_two}
use Rattle.pc_simplex_tableau.specs.Conditions.{IsSized, AreFitNumbers}
use Rattle.pc_simplex.specs.declared.phases.Ended as code
use Rattle.pc_simplex.specs.declared.phases.Ended.TheVariants.{AtVertex, AtVoid, AtWide, AtStall}

abbrev pub ending_of : code.Ended → Ending
ending_of (AtVertex steps t) = at_vertex steps t
ending_of (AtVoid steps mult) = at_void steps mult
ending_of (AtWide steps) = at_wide steps
ending_of (AtStall steps) = at_stall steps

-- the tableau of a vertex has its lengths and its numbers fit; so do the multipliers of a void box, over 1
abbrev pub IsSoundEnding : Program → List ℕ → List ℕ → Ending → Type 0
IsSoundEnding p floors caps (at_vertex steps t) = IsSized (phase_two p floors caps) t × AreFitNumbers t
IsSoundEnding p floors caps (at_void steps mult) = (length mult.by ≡ constraints_of p) × All IsFit mult.by × (mult.den ≡ pos 1)
IsSoundEnding p floors caps (at_wide steps) = Unit {0}
IsSoundEnding p floors caps (at_stall steps) = Unit {0}
