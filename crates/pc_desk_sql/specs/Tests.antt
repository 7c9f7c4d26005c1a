-- Conditions on the values of a row.
use Rattle.std.specs.Prelude.{ℕ, ◌+◌, ℤ, pos, List, [], ◌∷◌, flat_map, map, if◌then◌else◌}
use Rattle.pc_model.specs.declared.constraint.Constraint.{Constraint}
use Rattle.pc_model.specs.declared.constraint.When.{When}
use Rattle.pc_model.specs.declared.constraint.When.TheVariants.{Boxes, Outside}
use Rattle.pc_model.specs.declared.region.Region.{Region}
use Rattle.pc_model.specs.declared.region.Side.{Side}
use Rattle.pc_model.specs.declared.region.Side.TheVariants.{Span, Names}
use Rattle.pc_model.specs.declared.schema.Column.{Column}
use Rattle.pc_model.specs.declared.schema.Kind.{Kind}
use Rattle.pc_model.specs.declared.schema.Kind.TheVariants.{Int, Dec, Cat}
use Rattle.pc_model.specs.Places.{is_place_of}

-- what is tested of a value: that it is there, is a number from low to high, is one of the names, or is NULL
pub data Test : Type 0 where
  Known : Test
  Within : ℤ → ℤ → Test
  Among : List (List ℕ) → Test
  Missing : Test

-- A box is a test for each column of the schema, and holds where all of them do. A clause says that one of some boxes holds, or
-- that none does.
pub data Clause : Type 0 where
  OneOf : List (List Test) → Clause
  NoneOf : List (List Test) → Clause

-- ---- of a side, a box and a predicate

-- the names whose places are in the set, where the first has this place
unfoldable pub chosen_names : ℕ → ℕ → List (List ℕ) → List (List ℕ)
chosen_names bits place [] = []
chosen_names bits place (name ∷ names) =
    if is_place_of bits (pos place) then name ∷ chosen_names bits (place + 1) names else chosen_names bits (place + 1) names

abbrev pub name_if : ℕ → ℕ → List ℕ → List (List ℕ)
name_if bits place name = if is_place_of bits (pos place) then name ∷ [] else []

-- no column has a side of the other kind
abbrev pub test_of : Kind → Side → Test
test_of (Int low high) (Span from upto) = Within from upto
test_of (Int low high) (Names bits) = Missing
test_of (Dec scale low high) (Span from upto) = Within from upto
test_of (Dec scale low high) (Names bits) = Missing
test_of (Cat names) (Span from upto) = Missing
test_of (Cat names) (Names bits) = Among (chosen_names bits 0 names)

-- a test for each side, also for one that is the whole of its column
unfoldable pub tests_of : List Column → List Side → List Test
tests_of [] sides = []
tests_of (column ∷ columns) [] = []
tests_of (column ∷ columns) (side ∷ sides) = test_of column.kind side ∷ tests_of columns sides

-- each field is a value of its column
abbrev pub known : List Column → List Test
known columns = map (λ (column : Column). Known) columns

abbrev pub box_of : List Column → Region → List Test
box_of columns region = tests_of columns region.sides

-- that none of these boxes is the row's
abbrev pub none_named : List Column → When → List Clause
none_named columns (Boxes area) = NoneOf (map (box_of columns) area.boxes) ∷ []
none_named columns Outside = []

abbrev pub outside_of : List Column → List Constraint → List Clause
outside_of columns constraints =
    OneOf (known columns ∷ []) ∷ flat_map (λ (c : Constraint). none_named columns c.when) constraints

-- a row of the schema of which a predicate among these constraints speaks
abbrev pub under_of : List Column → List Constraint → When → List Clause
under_of columns constraints (Boxes area) = OneOf (map (box_of columns) area.boxes) ∷ []
under_of columns constraints Outside = outside_of columns constraints
