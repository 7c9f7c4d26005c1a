-- What a step does, as the code says it.
use Rattle.pc_simplex_tableau.specs.declared.limit.Way as code
use Rattle.pc_simplex_tableau.specs.declared.limit.Way.TheVariants.{Turning, Pivoting, TurningAndPivoting}
use Rattle.pc_simplex_tableau.specs.Tableau.{Way, turning, pivoting, turning_and_pivoting}

abbrev pub way_of : code.Way → Way
way_of Turning = turning
way_of (Pivoting r) = pivoting r
way_of (TurningAndPivoting r) = turning_and_pivoting r
