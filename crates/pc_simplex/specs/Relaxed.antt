-- A relaxation, as the code answers it.
use Rattle.pc_simplex.specs.declared.relaxed.Relaxed as code
use Rattle.pc_simplex.specs.declared.relaxed.Relaxed.TheVariants.{Vertex, Void, Wide, Stalled}
use Rattle.pc_simplex_tableau.specs.Point.{Relaxation, vertex, void, wide, stalled}

abbrev pub relaxation_of : code.Relaxed → Relaxation
relaxation_of (Vertex point mult) = vertex point mult
relaxation_of (Void mult) = void mult
relaxation_of (Wide steps) = wide steps
relaxation_of (Stalled steps) = stalled steps
