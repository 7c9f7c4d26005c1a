-- A tableau that stands whole or in short form, as the code says it.
use Rattle.pc_simplex_tableau.specs.Tableau.{Tableau}
use Rattle.pc_simplex_short.specs.Short.{spelled}
use Rattle.pc_simplex_short.specs.Kept.{IsSetting, IsShort}
use Rattle.pc_simplex.specs.declared.corner.Form as code
use Rattle.pc_simplex.specs.declared.corner.Form.TheVariants.{Whole, Short}

abbrev pub tableau_of : code.Form → Tableau
tableau_of (Whole t) = t
tableau_of (Short f t) = spelled f t

abbrev pub IsSoundForm : code.Form → Type 0
IsSoundForm (Whole t) = Unit {0}
IsSoundForm (Short f t) = IsSetting f × IsShort f t
