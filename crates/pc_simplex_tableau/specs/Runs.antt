-- How a run ends, as the code says it.
use Rattle.pc_simplex_tableau.specs.declared.run.WholeRun as code
use Rattle.pc_simplex_tableau.specs.declared.run.WholeRun.TheVariants.{Ended, Wide, Stalled}
use Rattle.pc_simplex_tableau.specs.Tableau.{Columns, WholeRun, ended, wide, stalled}
use Rattle.pc_simplex_tableau.specs.Conditions.{IsSized, AreFitNumbers}

abbrev pub run_of : code.WholeRun → WholeRun
run_of (Ended left steps t) = ended left steps t
run_of (Wide steps) = wide steps
run_of (Stalled steps) = stalled steps

-- the tableau in which a run ends is as the steps want it
abbrev pub IsSoundRun : Columns → WholeRun → Type 0
IsSoundRun f (ended left steps t) = IsSized f t × AreFitNumbers t
IsSoundRun f (wide steps) = Unit {0}
IsSoundRun f (stalled steps) = Unit {0}
