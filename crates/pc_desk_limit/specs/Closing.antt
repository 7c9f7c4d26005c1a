-- The boxes of rows that limits alone would open.
use Rattle.std.specs.List.{list_any}
use Rattle.std.specs.Prelude.{◌≡◌, ◌&&◌, ℕ, nat_lt, not, Bool, true, List, [], ◌∷◌, ◌++◌, All, count_by, filter, flat_map, fold}
use Rattle.pc_model.specs.declared.schema.Schema.{Schema}
use Rattle.pc_model.specs.declared.region.Region.{Region}
use Rattle.pc_model.specs.declared.constraint.When.{When}
use Rattle.pc_model.specs.declared.constraint.When.TheVariants.{Boxes, Outside}
use Rattle.pc_model.specs.declared.constraint.Constraint.{Constraint}
use Rattle.pc_model.specs.declared.row.Row.{Row}
use Rattle.pc_model.specs.Membership.{has, is_named, is_named_by_some}
use Rattle.pc_model.specs.Regions.{is_region_of}
use Rattle.pc_box.specs.Sides.{rest_of}

-- the boxes are regions of the schema, and of some one schema
abbrev pub AreRegions : Schema → List Region → Type 0
AreRegions schema boxes = All (λ (box : Region). is_region_of schema box ≡ true) boxes

abbrev pub HaveOneSchema : List Region → Type 0
HaveOneSchema boxes = (schema : Schema) × AreRegions schema boxes

-- some rows of which it speaks may be lost
abbrev pub has_room : Constraint → Bool
has_room c = nat_lt 0 c.most

-- how many of the boxes hold a row
abbrev pub count_of_row : Row → List Region → ℕ
count_of_row row boxes = count_by (λ (box : Region). has box row) boxes

-- a limit that has room speaks of the row, and no constraint does
abbrev pub is_opened_by_some : List Constraint → Row → Bool
is_opened_by_some limits row = list_any (λ (c : Constraint). has_room c && is_named c.when row) limits

abbrev pub is_opened : List Constraint → List Constraint → Row → Bool
is_opened constraints limits row = is_opened_by_some limits row && not (is_named_by_some constraints row)

-- the boxes of a predicate; the rows outside have none
abbrev pub boxes_of : When → List Region
boxes_of (Boxes area) = area.boxes
boxes_of Outside = []

abbrev pub named_boxes : List Constraint → List Region
named_boxes constraints = flat_map (λ (c : Constraint). boxes_of c.when) constraints

-- the boxes from which the limits let rows be lost
abbrev pub opened_boxes : List Constraint → List Region
opened_boxes limits = named_boxes (filter has_room limits)

-- what is left of boxes without another, and without each of some
abbrev pub without : List Region → Region → List Region
without boxes other = flat_map (λ (box : Region). rest_of box other) boxes

abbrev pub left_of : List Region → List Region → List Region
left_of boxes others = fold without boxes others

-- what neither the constraints name nor is closed already is closed with this box
abbrev pub with_box : List Region → List Region → Region → List Region
with_box named closed box = closed ++ left_of (box ∷ []) (named ++ closed)

abbrev pub closing_boxes : List Constraint → List Constraint → List Region
closing_boxes constraints limits = fold (with_box (named_boxes constraints)) [] (opened_boxes limits)
