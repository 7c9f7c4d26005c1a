-- A cell that may have five rows and gains one each, in a constraint that allows three: its setting, and where its steps start.
use Rattle.std.specs.Prelude.{pos, false, [], ◌∷◌, None}
use Rattle.pc_simplex_tableau.specs.Tableau.{Tableau}
use Rattle.pc_simplex_short.specs.Short.{ShortSetting}

abbrev pub sample_setting : ShortSetting
sample_setting = record {
  columns = record { ranges = 5 ∷ 3 ∷ []; count = 3; helper = None };
  places = (0 ∷ []) ∷ (0 ∷ []) ∷ (0 ∷ []) ∷ [];
  gains = pos 1 ∷ pos 0 ∷ pos 0 ∷ [];
  top = 1;
  constraints = 1;
}

abbrev pub sample_start : Tableau
sample_start = record {
  rows = record { numbers = pos 1 ∷ pos 3 ∷ []; basic = 1 } ∷ [];
  turned = false ∷ false ∷ false ∷ [];
  aim = pos 0 ∷ [];
  weight = pos 1;
}
