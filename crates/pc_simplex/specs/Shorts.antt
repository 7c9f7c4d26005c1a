-- A program in short form: what its phases leave as it is, and where the first one starts.
use Rattle.std.specs.Prelude.{◌≡◌, ◌<◌, ◌≤◌, ◌^◌, ◌⊎◌, nat_abs, ℕ, zero, suc, ◌+◌, ◌-◌, ◌==◌, ◌&&◌, not, nat_lt, int_lt, ℤ, pos, ◌-ℤ◌, Bool, true, cond, List, [], ◌∷◌, ◌++◌, length, All, Any, Some}
use Rattle.std.specs.List.{list_all}
use Rattle.pc_model.specs.Places.{has_bit}
use Rattle.pc_program_bound.specs.declared.program.Program.{Program}
use Rattle.pc_program_bound.specs.Sums.{nat_at, int_at}
use Rattle.pc_program_bound.specs.Allocation.{cells_of, constraints_of}
use Rattle.pc_simplex_tableau.specs.Numbers.{table}
use Rattle.pc_simplex_tableau.specs.Tableau.{TableauRow, Tableau, Columns, is_helper, range_of, run}
use Rattle.pc_simplex_tableau.specs.declared.step.Step.{Step}
use Rattle.pc_simplex_tableau.specs.Conditions.{IsSized, AreFitNumbers}
use Rattle.pc_simplex_tableau.specs.Relaxation.{columns_of, slack_of, helper_of, slack_range, left_of, is_short, freed, does_freed_fit, Ending, at_vertex, at_void, at_wide, at_stall}
use Rattle.pc_simplex_short.specs.Short.{ShortSetting}
use Rattle.pc_simplex.specs.Floors.{does_start_turned}
use Rattle.pc_simplex.specs.Phases.{ending_by}

-- the places below n of the bits of a mask
unfoldable pub places_below : ℕ → ℕ → List ℕ
places_below zero mask = []
places_below (suc n) mask = places_below n mask ++ cond (has_bit mask n) (n ∷ []) []

-- the constraints of a column by number
abbrev pub column_places : Program → ℕ → List ℕ
column_places p k =
    cond (nat_lt k (cells_of p)) (places_below (constraints_of p) (nat_at p.masks k))
    (cond (nat_lt k (helper_of p 0)) ((k - cells_of p) ∷ []) ((k - helper_of p 0) ∷ []))

-- the columns of a phase: as many as the program has, no range is greater than a number of 64 bits
pub record AreColumns (p : Program) (f : Columns) : Type 0 where
  pub count : f.count ≡ columns_of p
  pub ranges : length f.ranges ≡ cells_of p + constraints_of p
  pub few : columns_of p < 2 ^ 32
  pub ends : (k u : ℕ) → range_of f k ≡ Some u → u < 2 ^ 64

abbrev pub setting_of : Program → Columns → List ℤ → ℕ → ShortSetting
setting_of p columns gains top = record {
  columns = columns;
  places = table (columns_of p) (column_places p);
  gains = gains;
  top = top;
  constraints = constraints_of p;
}

-- the greatest size of a gain, and at least 1
pub record IsGreatestSize (gains : List ℤ) (top : ℕ) : Type 0 where
  pub some : 1 ≤ top
  pub most : All (λ g. nat_abs g ≤ top) gains
  pub reached : (top ≡ 1) ⊎ Any (λ g. nat_abs g ≡ top) gains

-- ---- the first rows: each is its own constraint once

abbrev pub short_value : Program → List ℕ → ℕ → ℤ
short_value p floors j = cond (is_short p floors j) (left_of p floors j -ℤ pos (slack_range p j)) (left_of p floors j)

abbrev pub unit_row : Program → ℕ → ℤ → List ℤ
unit_row p j value = table (constraints_of p) (λ k. cond (k == j) (pos 1) (pos 0)) ++ value ∷ []

abbrev pub first_short_row : Program → List ℕ → ℕ → TableauRow
first_short_row p floors j = record {
  numbers = unit_row p j (short_value p floors j);
  basic = cond (is_short p floors j) (helper_of p j) (slack_of p j);
}

abbrev pub no_aim : Program → List ℤ
no_aim p = table (constraints_of p) (λ j. pos 0)

abbrev pub first_short : Program → List ℕ → Tableau
first_short p floors = record {
  rows = table (constraints_of p) (first_short_row p floors);
  turned = table (columns_of p) (does_start_turned p floors);
  aim = no_aim p;
  weight = pos 1;
}

-- the second phase starts with no constraint in its objective row
abbrev pub second_short : Program → Tableau → Tableau
second_short p t = record t { aim = no_aim p; weight = pos 1 }

-- a row whose helper is left above nothing
abbrev pub is_left_short : ShortSetting → TableauRow → Bool
is_left_short f row = is_helper f.columns row.basic && int_lt (pos 0) (int_at row.numbers f.constraints)

abbrev pub has_left : ShortSetting → List TableauRow → Bool
has_left f rows = not (list_all (λ row. not (is_left_short f row)) rows)

-- ---- what the steps of the second phase end in

abbrev pub IsEndingFrom : Columns → ℕ → List Step → Tableau → Ending → Type 0
IsEndingFrom f left steps t e = (does_freed_fit t ≡ true) × (e ≡ ending_by (run f left steps (freed t)))

abbrev pub IsSoundEnd : Columns → Ending → Type 0
IsSoundEnd f (at_vertex steps t) = IsSized f t × AreFitNumbers t
IsSoundEnd f (at_void steps mult) = ⊥
IsSoundEnd f (at_wide steps) = Unit {0}
IsSoundEnd f (at_stall steps) = Unit {0}
