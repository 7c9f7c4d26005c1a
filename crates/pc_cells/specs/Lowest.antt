-- The lowest number of a side, and the lowest row of a box.
use Rattle.std.specs.Prelude.{◌≡◌, ℕ, ℤ, ◌≤ℤ◌, true, Option, Some}
use Rattle.pc_model.specs.declared.row.Row.{Row}
use Rattle.pc_model.specs.declared.region.Side.{Side}
use Rattle.pc_model.specs.declared.region.Region.{Region}
use Rattle.pc_model.specs.Aggregate.{number_at}
use Rattle.pc_model.specs.Membership.{holds, has}
use Rattle.pc_model.specs.Places.{is_place_of}

-- no place of the set is below
abbrev pub IsBelowPlaces : ℕ → ℤ → Type 0
IsBelowPlaces bits number = (place : ℤ) → is_place_of bits place ≡ true → number ≤ℤ place

-- the side holds the number, and none below
pub record IsLeastOf (side : Side) (number : ℤ) : Type 0 where
  pub held : holds side number ≡ true
  pub least : (other : ℤ) → holds side other ≡ true → number ≤ℤ other

-- no row of the box has less, in any column but the named one
abbrev pub IsLowestBut : Option ℕ → Region → Row → Type 0
IsLowestBut named box row = (column : ℕ) → (named ≡ Some column → ⊥) → (other : Row) → has box other ≡ true → number_at row column ≤ℤ number_at other column
