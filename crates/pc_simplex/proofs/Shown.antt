-- What each answer shows.
use Rattle.std.proofs.Common.{ℕ, List}
use Rattle.pc_program_bound.specs.declared.program.Program.{Program}
use Rattle.pc_program_bound.specs.Allocation.{IsBox, IsProgram}
use Rattle.pc_program_bound.proofs.Duality.{void-no_relaxed}
use Rattle.pc_simplex_tableau.specs.Point.{Relaxation, vertex, void, wide, stalled, IsRelaxation}
use Rattle.pc_simplex.specs.Vertices.{IsShown, IsGreatest}
use Rattle.pc_simplex.proofs.Vertices.{IsVertex-point, IsVoid-mult}
use Rattle.pc_simplex.proofs.Worth.{worth_most}

pub IsShown-relaxation : (p : Program) (floors caps : List ℕ) → IsProgram p → IsBox p floors caps → (r : Relaxation) → IsRelaxation p floors caps r → IsShown p floors caps r
IsShown-relaxation p floors caps program box (vertex point mult) is = IsVertex-point p floors caps program box point mult is
IsShown-relaxation p floors caps program box (void mult) is = IsVoid-mult p floors caps program box mult is
IsShown-relaxation p floors caps program box (wide steps) is = tt
IsShown-relaxation p floors caps program box (stalled steps) is = tt

pub IsGreatest-relaxation : (p : Program) (floors caps : List ℕ) → IsProgram p → IsBox p floors caps → (r : Relaxation) → IsRelaxation p floors caps r → IsGreatest p floors caps r
IsGreatest-relaxation p floors caps program box (vertex point mult) is = λ v den counts relaxed. worth_most p floors caps point mult v den counts relaxed
IsGreatest-relaxation p floors caps program box (void mult) is = λ den counts relaxed. void-no_relaxed p floors caps den counts mult (IsVoid-mult p floors caps program box mult is) relaxed
IsGreatest-relaxation p floors caps program box (wide steps) is = tt
IsGreatest-relaxation p floors caps program box (stalled steps) is = tt
