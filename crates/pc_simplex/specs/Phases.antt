-- What the two phases of a box end in, step by step.
use Rattle.std.specs.Prelude.{ℕ, pos, Bool, true, false, ◌&&◌, int_lt, List}
use Rattle.pc_program_bound.specs.declared.program.Program.{Program}
use Rattle.pc_simplex_tableau.specs.declared.step.Step.{Step}
use Rattle.pc_simplex_tableau.specs.Tableau.{TableauRow, Tableau, Columns, WholeRun, ended, wide, stalled, is_helper, value_of}
use Rattle.pc_simplex_tableau.specs.Relaxation.{Ending, at_vertex, at_void, at_wide, at_stall, phase_one, phase_two_from, has_helper, multipliers}

-- a row whose helper is left above nothing
abbrev pub is_left : Columns → TableauRow → Bool
is_left f row = is_helper f row.basic && int_lt (pos 0) (value_of f row)

-- what the steps of the second phase end in
abbrev pub ending_by : WholeRun → Ending
ending_by found = elim found [ ended left steps t ↦ at_vertex steps t | wide steps ↦ at_wide steps | stalled steps ↦ at_stall steps ]

-- what follows where no column enters in the first phase
abbrev pub after_phase_one : Program → List ℕ → List ℕ → ℕ → List Step → Tableau → Ending
after_phase_one p floors caps left steps t = elim (has_helper (phase_one p floors caps) t) [
  | true ↦ at_void steps (multipliers p t (pos 1))
  | false ↦ phase_two_from p floors caps left steps t
]
