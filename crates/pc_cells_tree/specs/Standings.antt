-- How a box stands to a constraint: its predicate is an area, or what is outside all areas of the list.
use Rattle.std.specs.Prelude.{◌≡◌, ℕ, ◌<◌, ⊤, nat_lt, Bool, true, false, Option, Some, None, cond, List, length, drop, All, Any, slice_index_or}
use Rattle.pc_model.specs.declared.region.Region.{Region}
use Rattle.pc_model.specs.declared.constraint.When.{When}
use Rattle.pc_model.specs.declared.constraint.When.TheVariants.{Boxes, Outside}
use Rattle.pc_model.specs.declared.constraint.Constraint.{Constraint}
use Rattle.pc_model.specs.Cells.{IsInsideNamed, IsApartFromNamed, SpeaksOfAll, SpeaksOfNone}
use Rattle.pc_cells_tree.specs.declared.standing.Crossing.{Crossing}
use Rattle.pc_cells_tree.specs.declared.standing.Standing.{Standing}
use Rattle.pc_cells_tree.specs.declared.standing.Standing.TheVariants.{OfAll, OfNone, Open}
use Rattle.pc_cells_tree.specs.Stances.{IsAcross, IsAcrossAt, box_in, no_box}

-- ---- a constraint that is crossed

-- the values are crossed, or the box at a place
abbrev pub is_of_values : Option ℕ → Bool
is_of_values None = true
is_of_values (Some place) = false

abbrev pub place_in : Option ℕ → ℕ
place_in None = 0
place_in (Some place) = place

-- the box crosses a box of the area that a predicate names, and is inside none of them
abbrev pub IsAcrossWhen : Region → When → ℕ → Type 0
IsAcrossWhen part (Boxes area) place = IsAcrossAt part area.boxes place
IsAcrossWhen part Outside place = ⊥

-- the constraint leaves open which rows of the box have its values, or which of them are in the area that it names
abbrev pub IsCrossedBy : List Constraint → Region → Bool → ℕ → Constraint → Type 0
IsCrossedBy all part true place c = SpeaksOfAll all part c × IsAcross part c.values
IsCrossedBy all part false place c = IsAcrossWhen part c.when place

pub record IsCrossing (all : List Constraint) (part : Region) (crossing : Crossing) : Type 0 where
  pub there : crossing.place < length all
  pub crossed : (c : Constraint) → IsCrossedBy all part (is_of_values crossing.box_place) (place_in crossing.box_place) (slice_index_or all crossing.place c)

-- the region that is crossed, and that it is there
abbrev pub region_of : When → ℕ → Region
region_of (Boxes area) place = box_in area.boxes place
region_of Outside place = no_box

abbrev pub crossed_in : Crossing → Constraint → Region
crossed_in crossing c = cond (is_of_values crossing.box_place) c.values (region_of c.when (place_in crossing.box_place))

abbrev pub HasBoxAt : When → ℕ → Type 0
HasBoxAt (Boxes area) place = place < length area.boxes
HasBoxAt Outside place = ⊥

abbrev pub HasRegion : Crossing → Constraint → Type 0
HasRegion crossing c = cond (is_of_values crossing.box_place) ⊤ (HasBoxAt c.when (place_in crossing.box_place))

-- which of two crossings is cut along: values come before areas, and then the one with fewer open faces does
unfoldable pub is_before : Crossing → Crossing → Bool
is_before one other =
    cond (is_of_values one.box_place) (cond (is_of_values other.box_place) (nat_lt one.faces other.faces) true)
    (cond (is_of_values other.box_place) false (nat_lt one.faces other.faces))

-- ---- how the box stands

-- the predicate crosses an area of the list, and the constraint does not speak of the whole box
pub record IsOpenTo (all : List Constraint) (part : Region) (c : Constraint) (crossing : Crossing) : Type 0 where
  pub is_crossing : IsCrossing all part crossing
  pub not_all : SpeaksOfAll all part c → ⊥

abbrev pub IsStanding : List Constraint → Region → Constraint → Standing → Type 0
IsStanding all part c OfAll = SpeaksOfAll all part c
IsStanding all part c OfNone = SpeaksOfNone all part c
IsStanding all part c (Open crossing) = IsOpenTo all part c crossing

abbrev pub IsStandingAt : List Constraint → Region → ℕ → Standing → Type 0
IsStandingAt all part place standing = (c : Constraint) → IsStanding all part (slice_index_or all place c) standing

-- the box is apart from the area that a constraint names, or inside it
abbrev pub IsBeside : Region → Constraint → Type 0
IsBeside part c = IsApartFromNamed part c.when

abbrev pub IsNamedIn : Region → Constraint → Type 0
IsNamedIn part c = IsInsideNamed part c.when

-- to what is outside, as far as the areas from a place on say
abbrev pub IsOutsideFrom : List Constraint → Region → ℕ → Standing → Type 0
IsOutsideFrom all part from OfAll = All (IsBeside part) (drop from all)
IsOutsideFrom all part from OfNone = Any (IsNamedIn part) all
IsOutsideFrom all part from (Open crossing) = IsCrossing all part crossing × (All (IsBeside part) all → ⊥)

-- with an area before them that is crossed: of two the one that comes first is kept, and the new one of equals
abbrev pub IsWithArea : Crossing → Standing → Standing → Type 0
IsWithArea crossing OfNone with_it = with_it ≡ OfNone
IsWithArea crossing OfAll with_it = with_it ≡ Open crossing
IsWithArea crossing (Open other) with_it = with_it ≡ Open (cond (is_before other crossing) other crossing)

-- the predicate is an area of one box
abbrev pub IsLone : When → Type 0
IsLone (Boxes area) = length area.boxes ≡ 1
IsLone Outside = ⊥
