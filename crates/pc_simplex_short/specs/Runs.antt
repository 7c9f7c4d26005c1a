-- How a run over short rows ends, as the code says it.
use Rattle.pc_simplex_short.specs.declared.run.ShortRun as code
use Rattle.pc_simplex_short.specs.declared.run.ShortRun.TheVariants.{Ended, Stalled}
use Rattle.pc_simplex_tableau.specs.Tableau.{WholeRun, ended, stalled}
use Rattle.pc_simplex_short.specs.Short.{ShortSetting, spelled}
use Rattle.pc_simplex_short.specs.Kept.{IsShort}

abbrev pub run_of : ShortSetting → code.ShortRun → WholeRun
run_of f (Ended left steps t) = ended left steps (spelled f t)
run_of f (Stalled steps) = stalled steps

abbrev pub IsShortEnd : ShortSetting → code.ShortRun → Type 0
IsShortEnd f (Ended left steps t) = IsShort f t
IsShortEnd f (Stalled steps) = Unit {0}
