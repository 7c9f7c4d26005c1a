-- Floors whose sums fit, and the numbers of a constraint that has so much left.
use Rattle.std.specs.Prelude.{◌≡◌, ◌<◌, ◌≤◌, ◌^◌, ◌==◌, ◌-◌, ◌&&◌, ◌||◌, ◌-ℤ◌, nat_le, nat_lt, int_lt, ℕ, ℤ, pos, negsuc, Bool, cond, List, length, slice_set}
use Rattle.pc_model.specs.Places.{has_bit}
use Rattle.pc_program_bound.specs.declared.program.Program.{Program}
use Rattle.pc_program_bound.specs.Sums.{nat_at}
use Rattle.pc_program_bound.specs.Allocation.{cells_of}
use Rattle.pc_simplex_tableau.specs.Tableau.{TableauRow}
use Rattle.pc_simplex_tableau.specs.Relaxation.{columns_of, slack_of, helper_of, slack_range, left_of, is_short}

pub record AreFloors (p : Program) (floors : List ℕ) : Type 0 where
  pub sized : length floors ≡ cells_of p
  pub small : (i : ℕ) → i < cells_of p → nat_at floors i ≤ 1_000_000_000
  pub few : columns_of p < 2 ^ 32

-- the floors of a constraint's cells are together more than its most
abbrev pub is_overfull : Program → List ℕ → ℕ → Bool
is_overfull p floors j = int_lt (left_of p floors j) (pos 0)

-- the number of constraint j at a column, or at the place of the value, with what is left at that place
abbrev pub number_at : Program → ℕ → ℤ → ℕ → ℤ
number_at p j left k =
    cond (nat_lt k (cells_of p)) (cond (has_bit (nat_at p.masks k) j) (pos 1) (pos 0))
    (cond (k == slack_of p j || k == helper_of p j) (pos 1)
    (cond (k == columns_of p) left (pos 0)))

-- a column that starts turned: the slack of a constraint that is short
abbrev pub does_start_turned : Program → List ℕ → ℕ → Bool
does_start_turned p floors k = nat_le (cells_of p) k && nat_lt k (helper_of p 0) && is_short p floors (k - cells_of p)

-- the row of a short constraint that has so much left, from its numbers before its slack is turned
abbrev pub short_row : Program → ℕ → ℤ → List ℤ → TableauRow
short_row p j left numbers = record {
  numbers = slice_set (slice_set numbers (columns_of p) (left -ℤ pos (slack_range p j))) (slack_of p j) (negsuc 0);
  basic = helper_of p j;
}
