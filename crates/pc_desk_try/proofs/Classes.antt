-- The cells of the whole domain are the classes that constraints lets.
use Rattle.std.proofs.Common.{◌≡◌, ◌∙◌, ◌↔◌, ℕ, zero, suc, ◌+◌, ◌<◌, ◌==◌, Bool, true, false, cond, List, [], ◌∷◌, All, AllPairs, Contains, count_by, filter, length, map, slice_index_or, refl, sym, ap, ap₂, subst, arith, eqb-true, true≢false}
use Rattle.std.proofs.lemmas.Bool.{eq-eqb}
use Rattle.std.proofs.lemmas.List.{get_or-map, length-map}
use Rattle.std.proofs.lemmas.List.Elements.{All-contains, All-contains_itself, All-filter, All-get_or, All-head, All-map, All-tail, All-weaker, filter_passes}
use Rattle.pc_model.specs.declared.constraint.Constraint.{Constraint}
use Rattle.pc_model.specs.declared.region.Region.{Region}
use Rattle.pc_model.specs.declared.row.Row.{Row}
use Rattle.pc_model.specs.declared.schema.Schema.{Schema}
use Rattle.pc_model.specs.declared.tree.Leaf.{Leaf}
use Rattle.pc_model.specs.Cells.{Class, HasRowOf, IsInSome, IsRowOf, class_of, classes_of, is_class, leaves_in, mask_of}
use Rattle.pc_model.specs.Membership.{in_domain, is_in}
use Rattle.pc_model.specs.Regions.{is_region_of, whole_area}
use Rattle.pc_model.proofs.Areas.{in_whole_area}
use Rattle.pc_model.proofs.Lists.{AllPairs-head, AllPairs-tail}
use Rattle.pc_model.proofs.Tallies.{count_by-cons, count_by-skips}
use Rattle.pc_box.specs.Boxes.{IsBox}
use Rattle.pc_cells.specs.declared.cells.Cell.{Cell}
use Rattle.pc_cells.specs.declared.cells.Cells.{Cells}
use Rattle.pc_cells.specs.Found.{AreCellsFor, IsFilled, class_of_cell, leaf_at}
use Rattle.pc_cells.proofs.Decomposed.{classes_of_cells}
use Rattle.pc_cells_laws.proofs.Cells.{classes_of-differ}
use Rattle.pc_desk_try.proofs.Room.{open_of_room, room_of_open}
use Rattle.pc_desk_try.specs.declared.opening.Opening.{Opening}
use Rattle.pc_desk_try.specs.Openings.{AreOpenings, CanBeLost, IsOpening, IsRowIn, is_open, is_open_cell, opening_of, openings_in, opens_to}

-- ---- masks of classes that differ

-- so many of the classes have this mask
abbrev with_mask : ℕ → List Class → ℕ
with_mask mask classes = count_by (λ (class : Class). class.mask == mask) classes

abbrev Differ : Class → Class → Type 0
Differ a b = is_class a b ≡ false

abbrev IsChosen : Class → Type 0
IsChosen class = class.chosen ≡ true

same_mask : (a b : Class) (mask : ℕ) → a.mask ≡ mask → (b.mask == mask) ≡ true → a.chosen ≡ true → b.chosen ≡ true → is_class a b ≡ true
same_mask a b mask first second one other =
    let same : (a.mask == b.mask) ≡ true = eq-eqb a.mask b.mask (first ∙ sym (eqb-true b.mask mask second)) in
    rw (same, one, other) refl

other_step : (a b : Class) (mask : ℕ) (classes : List Class) → a.mask ≡ mask → a.chosen ≡ true → b.chosen ≡ true → Differ a b → (test : Bool) → (b.mask == mask) ≡ test
    → with_mask mask classes ≡ 0 → with_mask mask (b ∷ classes) ≡ 0
other_step a b mask classes is one other differ true same later = absurd (true≢false (sym (same_mask a b mask is same one other) ∙ differ))
other_step a b mask classes is one other differ false unlike later = count_by-cons (λ (class : Class). class.mask == mask) b classes ∙ rw (unlike, later) refl

no_other : (a : Class) (mask : ℕ) (classes : List Class) → a.mask ≡ mask → a.chosen ≡ true → All IsChosen classes → All (Differ a) classes → with_mask mask classes ≡ 0
no_other a mask [] is one chosen differ = refl
no_other a mask (b ∷ classes) is one chosen differ =
    other_step a b mask classes is one (All-head IsChosen b classes chosen) (All-head (Differ a) b classes differ) (b.mask == mask) refl
    (no_other a mask classes is one (All-tail IsChosen b classes chosen) (All-tail (Differ a) b classes differ))

later_step : (a class : Class) (classes : List Class) → a.chosen ≡ true → class.chosen ≡ true → Differ a class → (test : Bool) → (a.mask == class.mask) ≡ test
    → with_mask class.mask classes ≡ 1 → with_mask class.mask (a ∷ classes) ≡ 1
later_step a class classes one other differ true same later =
    let back : (class.mask == a.mask) ≡ true = eq-eqb class.mask a.mask (sym (eqb-true a.mask class.mask same)) in
    absurd (true≢false (sym (same_mask a class a.mask refl back one other) ∙ differ))
later_step a class classes one other differ false unlike later = count_by-cons (λ (found : Class). found.mask == class.mask) a classes ∙ rw (unlike, later) refl

one_at : (class : Class) (classes : List Class) → All IsChosen classes → AllPairs Differ classes → class.chosen ≡ true → (k : ℕ) → k < length classes → slice_index_or classes k class ≡ class
    → with_mask class.mask classes ≡ 1
one_at class [] chosen pairs one k inside is = absurd (omega (arith, inside))
one_at class (a ∷ classes) chosen pairs one zero inside is =
    let same : (a.mask == class.mask) ≡ true = eq-eqb a.mask class.mask (ap (λ (found : Class). found.mask) is) in
    let none = no_other a class.mask classes (ap (λ (found : Class). found.mask) is) (All-head IsChosen a classes chosen) (All-tail IsChosen a classes chosen) (AllPairs-head Differ a classes pairs) in
    count_by-cons (λ (found : Class). found.mask == class.mask) a classes ∙ rw (same, none) refl
one_at class (a ∷ classes) chosen pairs one (suc k) inside is =
    let within : k < length classes = omega (arith, inside) in
    let differ = All-contains (Differ a) classes class (AllPairs-head Differ a classes pairs) (k, within, is) in
    later_step a class classes (All-head IsChosen a classes chosen) one differ (a.mask == class.mask) refl
    (one_at class classes (All-tail IsChosen a classes chosen) (AllPairs-tail Differ a classes pairs) one k within is)

-- so many of the openings have this mask
abbrev with_openings : ℕ → List Opening → ℕ
with_openings mask openings = count_by (λ (opening : Opening). opening.mask == mask) openings

counted : (mask : ℕ) (cells : List Cell) → with_openings mask (map opening_of cells) ≡ with_mask mask (map class_of_cell cells)
counted mask [] = refl
counted mask (cell ∷ cells) =
    count_by-cons (λ (opening : Opening). opening.mask == mask) (opening_of cell) (map opening_of cells)
    ∙ ap (λ (n : ℕ). cond (cell.mask == mask) 1 0 + n) (counted mask cells)
    ∙ sym (count_by-cons (λ (class : Class). class.mask == mask) (class_of_cell cell) (map class_of_cell cells))

-- a class that has no room is one of no row that can be lost
kept_step : (constraints : List Constraint) (mask : ℕ) → is_open constraints mask ≡ true → (cell : Cell) (kept cells : List Opening) → with_openings mask kept ≡ with_openings mask cells
    → (test : Bool) → is_open constraints cell.mask ≡ test → with_openings mask (cond test (opening_of cell ∷ kept) kept) ≡ with_openings mask (opening_of cell ∷ cells)
kept_step constraints mask lets cell kept cells same true is =
    count_by-cons (λ (opening : Opening). opening.mask == mask) (opening_of cell) kept
    ∙ ap (λ (n : ℕ). cond (cell.mask == mask) 1 0 + n) same ∙ sym (count_by-cons (λ (opening : Opening). opening.mask == mask) (opening_of cell) cells)
kept_step constraints mask lets cell kept cells same false is = by (cell.mask == mask) refl
  where
    by : (test : Bool) → (cell.mask == mask) ≡ test → with_openings mask kept ≡ with_openings mask (opening_of cell ∷ cells)
    by true here = absurd (true≢false (sym lets ∙ ap (is_open constraints) (sym (eqb-true cell.mask mask here)) ∙ is))
    by false unlike = same ∙ sym (count_by-skips (λ (opening : Opening). opening.mask == mask) (opening_of cell) cells unlike)

map_kept : (test : Bool) (cell : Cell) (cells : List Cell) → map opening_of (cond test (cell ∷ cells) cells) ≡ cond test (opening_of cell ∷ map opening_of cells) (map opening_of cells)
map_kept true cell cells = refl
map_kept false cell cells = refl

kept_count : (constraints : List Constraint) (mask : ℕ) → is_open constraints mask ≡ true → (cells : List Cell) → with_openings mask (openings_in constraints cells) ≡ with_openings mask (map opening_of cells)
kept_count constraints mask lets [] = refl
kept_count constraints mask lets (cell ∷ cells) =
    ap (with_openings mask) (map_kept (is_open constraints cell.mask) cell (filter (is_open_cell constraints) cells))
    ∙ kept_step constraints mask lets cell (openings_in constraints cells) (map opening_of cells) (kept_count constraints mask lets cells) (is_open constraints cell.mask) refl

abbrev class_with : ℕ → Bool → Class
class_with mask chosen = record { mask = mask; chosen = chosen }

-- ---- cells of the whole domain

first_leaf : (leaves : List Region) → 0 < length leaves → slice_index_or leaves 0 (leaf_at leaves 0) ≡ leaf_at leaves 0
first_leaf [] some = absurd (omega (arith, some))
first_leaf (leaf ∷ leaves) some = refl

module _ (schema : Schema) (constraints : List Constraint) (found : Cells) (is : AreCellsFor schema constraints (whole_area schema) found) where
  abbrev leaves : List Leaf
  leaves = leaves_in schema found.tree.nodes

  abbrev classes : List Class
  classes = map class_of_cell found.cells

  classes_are : classes ≡ classes_of leaves
  classes_are = ap (map class_of_cell) is.cells ∙ classes_of_cells leaves (classes_of leaves)

  -- each row of the domain is one of the area
  row_chosen : (row : Row) → in_domain schema row ≡ true → is_in (whole_area schema) row ≡ true
  row_chosen row own = in_whole_area schema row ∙ own

  class_chosen : (class : Class) → HasRowOf schema constraints (whole_area schema) class → IsChosen class
  class_chosen class has_row = sym (ap (λ (c : Class). c.chosen) has_row.1.of_class) ∙ row_chosen has_row.0 has_row.1.allowed

  all_chosen : All IsChosen classes
  all_chosen = All-weaker (Contains classes) IsChosen (λ class here. class_chosen class ((is.classes class).0 here)) classes (All-contains_itself classes)

  one_class : (row : Row) → CanBeLost schema constraints row → count_by (opens_to constraints row) (openings_in constraints found.cells) ≡ 1
  one_class row lost =
      let class = class_of constraints (whole_area schema) row in
      let there = (is.classes class).1 (row, record { allowed = lost.allowed; lawful = lost.lawful; of_class = refl }) in
      kept_count constraints (mask_of constraints row) (open_of_room constraints row lost.room) found.cells
      ∙ counted (mask_of constraints row) found.cells
      ∙ one_at class classes all_chosen (subst (AllPairs Differ) (sym classes_are) (classes_of-differ leaves)) (row_chosen row lost.allowed) there.0 there.1 there.2

  cell_chosen : (cell : Cell) → Contains found.cells cell → cell.chosen ≡ true
  cell_chosen cell here =
      let long = length-map found.cells class_of_cell in
      let inside = here.1 in
      let within : here.0 < length classes = omega (arith, long, inside) in
      let same = get_or-map class_of_cell found.cells here.0 cell (class_of_cell cell) here.1 ∙ ap class_of_cell here.2 in
      let there : Contains classes (class_of_cell cell) = (here.0, within, same) in
      class_chosen (class_of_cell cell) ((is.classes (class_of_cell cell)).0 there)

  -- a row of a cell that is open is one of its class, and the other way round
  row_in : (cell : Cell) → is_open_cell constraints cell ≡ true → (row : Row) → IsRowOf schema constraints (whole_area schema) (class_of_cell cell) row → IsRowIn schema constraints (opening_of cell) row
  row_in cell lets row of_row =
      let same = ap (λ (c : Class). c.mask) of_row.of_class in (
        record { allowed = of_row.allowed; lawful = of_row.lawful; room = room_of_open constraints row (ap (is_open constraints) same ∙ lets) },
        eq-eqb cell.mask (mask_of constraints row) (sym same),
      )

  row_of : (cell : Cell) → Contains found.cells cell → (row : Row) → IsRowIn schema constraints (opening_of cell) row → IsRowOf schema constraints (whole_area schema) (class_of_cell cell) row
  row_of cell here row within = record {
    allowed = within.0.allowed;
    lawful = within.0.lawful;
    of_class = ap₂ (λ (mask : ℕ) (chosen : Bool). class_with mask chosen) (sym (eqb-true cell.mask (mask_of constraints row) within.1)) (row_chosen row within.0.allowed ∙ sym (cell_chosen cell here));
  }

  opening : (cell : Cell) → Contains found.cells cell → is_open_cell constraints cell ≡ true → IsOpening schema constraints (opening_of cell)
  opening cell here lets =
      let filled = All-contains IsFilled found.cells cell is.filled here in
      let own = All-contains (λ (cell : Cell). All (λ (leaf : Region). is_region_of schema leaf ≡ true) cell.leaves) found.cells cell is.regions here in
      let rows = All-contains (λ (cell : Cell). (row : Row) → (IsRowOf schema constraints (whole_area schema) (class_of_cell cell) row ↔ IsInSome cell.leaves row)) found.cells cell is.rows here in
      record {
        region = All-get_or (λ (leaf : Region). is_region_of schema leaf ≡ true) cell.leaves 0 (record { sides = [] }) filled.some own;
        filled = All-get_or IsBox cell.leaves 0 (record { sides = [] }) filled.some filled.boxes;
        rows = λ row inside. row_in cell lets row ((rows row).1 (0, leaf_at cell.leaves 0, filled.some, first_leaf cell.leaves filled.some, inside));
        boxes = cell.leaves;
        count = refl;
        whole = λ row. (λ within. (rows row).0 (row_of cell here row within), λ inside. row_in cell lets row ((rows row).1 inside));
      }

  -- what holds of each cell that is lets
  each_open : All (λ (cell : Cell). IsOpening schema constraints (opening_of cell)) (filter (is_open_cell constraints) found.cells)
  each_open =
      let all = All-filter (is_open_cell constraints) (λ (cell : Cell). is_open_cell constraints cell ≡ true → IsOpening schema constraints (opening_of cell)) found.cells
      (All-weaker (Contains found.cells) (λ (cell : Cell). is_open_cell constraints cell ≡ true → IsOpening schema constraints (opening_of cell)) opening found.cells (All-contains_itself found.cells)) in
      let passes = filter_passes (is_open_cell constraints) found.cells in
      λ place cell there. all place cell there (passes place cell there)

  pub are_openings : AreOpenings schema constraints (openings_in constraints found.cells)
  are_openings = record {
    each = All-map (IsOpening schema constraints) opening_of (filter (is_open_cell constraints) found.cells) each_open;
    one = one_class;
  }
