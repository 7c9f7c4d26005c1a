-- Lists of cells: what is said of them stays when each is cut by the pieces of a column.
use Rattle.std.proofs.Common.{◌≡◌, ◌∙◌, ℕ, ◌≤◌, nat_lt, Bool, true, false, ℤ, pos, List, [], ◌∷◌, All, length, get_or, if◌then◌else◌, sym, subst, arith}
use Rattle.std.specs.Prelude.{AllPairs, Any, fold}
use Rattle.std.specs.List.{list_any}
use Rattle.std.proofs.lemmas.Bool.{and_from}
use Rattle.std.proofs.lemmas.List.Elements.{All-cons, All-head, All-nil, All-tail}
use Rattle.std.proofs.lemmas.List.Folds.{Any-from_list_any, list_any_at}
use Rattle.pc_model.specs.declared.area.Area.{Area}
use Rattle.pc_model.specs.declared.region.Region.{Region}
use Rattle.pc_model.specs.declared.region.Side.{Side}
use Rattle.pc_model.specs.declared.row.Row.{Row}
use Rattle.pc_model.specs.declared.schema.Schema.{Schema}
use Rattle.pc_model.specs.Boxes.{IsAreaOf, box_limit}
use Rattle.pc_model.specs.Membership.{holds, is_in}
use Rattle.pc_model.specs.Regions.{is_region_of}
use Rattle.pc_desk_divide.specs.declared.parting.Parting.{Parting}
use Rattle.pc_desk_divide.specs.Cells.{AreApart, StayWithin, cut_cell, cut_cells, listed, narrowed_area, narrowed_boxes}
use Rattle.pc_desk_divide.proofs.Lists.{all_flat, any_flat, pairs_flat}
use Rattle.pc_desk_divide.proofs.Narrowed.{IsPiece, cut_rows, or_nothing, part_rows}
use Rattle.pc_desk_divide.proofs.SideParts.{narrowed_few, narrowed_regions}

-- ---- partings, and lists of cells

abbrev pub ShareNoNumber : Side → Side → Type 0
ShareNoNumber p q = (n : ℤ) → holds p n ≡ true → holds q n ≡ true → ⊥

abbrev pub number_at : Row → ℕ → ℤ
number_at row column = get_or row.cells column (pos 0)

-- pieces of a column, of which each row of the area has a number of just one
pub record IsParting (schema : Schema) (chosen : Area) (parting : Parting) : Type 0 where
  pub pieces : All (IsPiece schema parting.column) parting.pieces
  pub apart : AllPairs ShareNoNumber parting.pieces
  pub cover : (row : Row) → is_in chosen row ≡ true → list_any (λ (piece : Side). holds piece (number_at row parting.column)) parting.pieces ≡ true

pub record AreCells (schema : Schema) (chosen : Area) (cells : List Area) : Type 0 where
  pub areas : All (IsAreaOf schema) cells
  pub apart : AreApart cells
  pub within : StayWithin chosen cells
  pub cover : (row : Row) → is_in chosen row ≡ true → list_any (λ (cell : Area). is_in cell row) cells ≡ true

-- ---- an area that is listed if it has boxes

listed_all : (P : Area → Type 0) (area : Area) → P area → All P (listed area)
listed_all P area is = by_test (nat_lt 0 (length area.boxes))
  where
    by_test : (test : Bool) → All P (if test then area ∷ [] else [])
    by_test true = All-cons P area [] is (All-nil P)
    by_test false = All-nil P

listed_pairs : (R : Area → Area → Type 0) (area : Area) → AllPairs R (listed area)
listed_pairs R area = by_test (nat_lt 0 (length area.boxes))
  where
    by_test : (test : Bool) → AllPairs R (if test then area ∷ [] else [])
    by_test true = λ i j d before inside. absurd (omega arith)
    by_test false = λ i j d before inside. absurd (omega arith)

listed_area : (schema : Schema) (boxes : List Region) → All (λ (box : Region). is_region_of schema box ≡ true) boxes → length boxes ≤ box_limit → All (IsAreaOf schema) (listed (record { boxes = boxes }))
listed_area schema [] of_schema few = All-nil (IsAreaOf schema)
listed_area schema (box ∷ boxes) of_schema few =
    listed_all (IsAreaOf schema) (record { boxes = box ∷ boxes }) (record { some = omega arith; few = few; each = of_schema })

-- ---- the parts of one cell

module _ (schema : Schema) (chosen : Area) (parting : Parting) (is : IsParting schema chosen parting) where
  parts_areas : (cell : Area) → IsAreaOf schema cell → All (IsAreaOf schema) (cut_cell parting cell)
  parts_areas cell area =
      all_flat (λ (piece : Side). listed (narrowed_area parting.column cell piece)) (IsAreaOf schema) parting.pieces
      (λ i d there. let piece = get_or parting.pieces i d in
      let few = narrowed_few parting.column piece cell.boxes in
      listed_area schema (narrowed_boxes parting.column piece cell.boxes)
      (narrowed_regions schema parting.column piece (is.pieces i d there) cell.boxes area.each) (omega (arith, few, area.few)))

  parts_within : (cell : Area) → IsAreaOf schema cell → StayWithin cell (cut_cell parting cell)
  parts_within cell area =
      all_flat (λ (piece : Side). listed (narrowed_area parting.column cell piece)) (λ (part : Area). (row : Row) → is_in part row ≡ true → is_in cell row ≡ true) parting.pieces
      (λ i d there. let piece = get_or parting.pieces i d in
      listed_all (λ (part : Area). (row : Row) → is_in part row ≡ true → is_in cell row ≡ true) (narrowed_area parting.column cell piece)
      (λ row held. (part_rows schema parting.column cell row piece (is.pieces i d there) area.each held).0))

  abbrev Apart : Area → Area → Type 0
  Apart a b = (row : Row) → is_in a row ≡ true → is_in b row ≡ true → ⊥

  parts_apart : (cell : Area) → IsAreaOf schema cell → AreApart (cut_cell parting cell)
  parts_apart cell area =
      pairs_flat (λ (piece : Side). listed (narrowed_area parting.column cell piece)) Apart parting.pieces
      (λ i d there. listed_pairs Apart (narrowed_area parting.column cell (get_or parting.pieces i d)))
      (λ i j d before inside.
      let first = get_or parting.pieces i d in
      let second = get_or parting.pieces j d in
      listed_all (λ (a : Area). All (Apart a) (listed (narrowed_area parting.column cell second))) (narrowed_area parting.column cell first)
      (listed_all (Apart (narrowed_area parting.column cell first)) (narrowed_area parting.column cell second)
      (λ row in_first in_second.
      is.apart i j d before inside (number_at row parting.column)
      (part_rows schema parting.column cell row first (is.pieces i d (omega arith)) area.each in_first).1
      (part_rows schema parting.column cell row second (is.pieces j d inside) area.each in_second).1)))

  -- ---- the parts of all cells

  pub cut_are_cells : (cells : List Area) → AreCells schema chosen cells → AreCells schema chosen (cut_cells cells parting)
  cut_are_cells cells are = record {
    areas = all_flat (cut_cell parting) (IsAreaOf schema) cells (λ i d there. parts_areas (get_or cells i d) (are.areas i d there));
    apart = pairs_flat (cut_cell parting) Apart cells
        (λ i d there. parts_apart (get_or cells i d) (are.areas i d there))
        (λ i j d before inside k e first l f second row in_first in_second.
        are.apart i j d before inside row
        (parts_within (get_or cells i d) (are.areas i d (omega arith)) k e first row in_first)
        (parts_within (get_or cells j d) (are.areas j d inside) l f second row in_second));
    within = all_flat (cut_cell parting) (λ (part : Area). (row : Row) → is_in part row ≡ true → is_in chosen row ≡ true) cells
        (λ i d there k e first row held. are.within i d there row (parts_within (get_or cells i d) (are.areas i d there) k e first row held));
    cover = λ row held. covered row held (Any-from_list_any (λ (cell : Area). is_in cell row) cells (are.cover row held));
  }
    where
      covered : (row : Row) → is_in chosen row ≡ true → Any (λ (cell : Area). is_in cell row ≡ true) cells → list_any (λ (part : Area). is_in part row) (cut_cells cells parting) ≡ true
      covered row held (k, cell, there, same, inside) =
          let area = subst (IsAreaOf schema) same (are.areas k cell there) in
          let some = cut_rows schema parting.column cell row parting.pieces is.pieces area.each ∙ and_from _ _ inside (is.cover row held) in
          any_flat (cut_cell parting) (λ (part : Area). is_in part row) cells
          ∙ list_any_at (λ (c : Area). list_any (λ (part : Area). is_in part row) (cut_cell parting c)) cells k cell there
          (subst (λ (c : Area). list_any (λ (part : Area). is_in part row) (cut_cell parting c) ≡ true) (sym same) some)

-- ---- one column after the other

pub all_cut : (schema : Schema) (chosen : Area) (partings : List Parting) (cells : List Area) → All (IsParting schema chosen) partings → AreCells schema chosen cells → AreCells schema chosen (fold cut_cells cells partings)
all_cut schema chosen [] cells are_partings are = are
all_cut schema chosen (parting ∷ partings) cells are_partings are =
    all_cut schema chosen partings (cut_cells cells parting) (All-tail (IsParting schema chosen) parting partings are_partings)
    (cut_are_cells schema chosen parting (All-head (IsParting schema chosen) parting partings are_partings) cells are)

pub one_cell_is : (schema : Schema) (chosen : Area) → IsAreaOf schema chosen → AreCells schema chosen (chosen ∷ [])
one_cell_is schema chosen area = record {
  areas = All-cons (IsAreaOf schema) chosen [] area (All-nil (IsAreaOf schema));
  apart = λ i j d before inside. absurd (omega arith);
  within = All-cons (λ (cell : Area). (row : Row) → is_in cell row ≡ true → is_in chosen row ≡ true) chosen [] (λ row held. held) (All-nil (λ (cell : Area). (row : Row) → is_in cell row ≡ true → is_in chosen row ≡ true));
  cover = λ row held. or_nothing (is_in chosen row) ∙ held;
}
