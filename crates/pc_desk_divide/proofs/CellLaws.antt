-- What is said of the cells.
use Rattle.std.proofs.Common.{◌≡◌, ◌<◌, Bool, true, false, pos, List, [], ◌∷◌, length, get_or, slice_get, nat_lt, Option, Some, None, IfOk, Result, Ok, Err, if◌then◌else◌, refl, sym, subst, arith, true≢false, ltb-true}
use Rattle.std.specs.Prelude.{IsSomeAnd}
use Rattle.std.proofs.lemmas.List.Elements.{All-map, All-nil}
use Rattle.std.proofs.lemmas.List.Folds.{Any-from_list_any}
use Rattle.std.proofs.lemmas.Option.{get_or_from_slice_get, slice_get_within}
use Rattle.pc_num.specs.declared.memory.Memory.{Memory}
use Rattle.pc_model.specs.declared.area.Area.{Area}
use Rattle.pc_model.specs.declared.region.Side.{Side}
use Rattle.pc_model.specs.declared.row.Row.{Row}
use Rattle.pc_model.specs.declared.schema.Column.{Column}
use Rattle.pc_model.specs.declared.schema.Schema.{Schema}
use Rattle.pc_model.specs.Boxes.{IsAreaOf}
use Rattle.pc_model.specs.Membership.{is_in}
use Rattle.pc_model.specs.Regions.{is_side_of}
use Rattle.pc_model.specs.WellFormed.{IsKind, IsWellFormed}
use Rattle.pc_desk_divide.specs.declared.cells.Cells.{Cells}
use Rattle.pc_desk_divide.specs.declared.division.Division.{Division}
use Rattle.pc_desk_divide.specs.Cells.{AreCellsOf, Cover, cell_limit, cells_in, cells_of, cells_with, choices, parting_of, partings_of}
use Rattle.pc_desk_divide.specs.declared.cells.Cells.TheVariants.{Divided, TooMany}
use Rattle.pc_desk_divide.specs.Pieces.{AreDivisions, Cuts, IsDivision, hull_of, pieces_if}
use Rattle.pc_desk_divide.proofs.CellCounts.{few_cells}
use Rattle.pc_desk_divide.proofs.CutLists.{AreCells, IsParting, all_cut, one_cell_is}
use Rattle.pc_desk_divide.proofs.Hulls.{holds_if, hull_has, hull_side}
use Rattle.pc_desk_divide.proofs.Narrowed.{IsPiece}
use Rattle.pc_desk_divide.proofs.PartingLaws.{pieces_are_cut}
use Rattle.pc_desk_divide.proofs.SideParts.{IsSideIf}

module _ (schema : Schema) (chosen : Area) (formed : IsWellFormed schema) (area : IsAreaOf schema chosen) where
  is_parting : (division : Division) → IsDivision schema division → IsParting schema chosen (parting_of chosen.boxes division)
  is_parting division is = by_column (slice_get schema.columns division.column) refl is
    where
      by_hull : (c : Column) → division.column < length schema.columns → ((d : Column) → get_or schema.columns division.column d ≡ c) → IsKind c.kind → Cuts division.pieces c.kind → (hull : Option Side) → IsSideIf (is_side_of c.kind) hull
          → ((row : Row) → is_in chosen row ≡ true → holds_if hull (get_or row.cells division.column (pos 0)) ≡ true)
          → IsParting schema chosen (record { column = division.column; pieces = pieces_if division.pieces hull })
      by_hull c there same kind cuts None side has = record {
        pieces = All-nil (IsPiece schema division.column);
        apart = λ i j d before inside. absurd (omega (arith, inside));
        cover = λ row held. absurd (true≢false (sym (has row held)));
      }
      by_hull c there same kind cuts (Some hull) side has =
          let cut = pieces_are_cut c.kind division.pieces hull kind cuts side in
          record {
            pieces = λ i d inside. record { there = there; side = λ e. subst (λ (column : Column). is_side_of column.kind (get_or (pieces_if division.pieces (Some hull)) i d) ≡ true) (sym (same e)) (cut.each i d inside) };
            apart = cut.apart;
            cover = λ row held. cut.cover (get_or row.cells division.column (pos 0)) (has row held);
          }

      by_column : (found : Option Column) → slice_get schema.columns division.column ≡ found → IsSomeAnd found (λ (column : Column). Cuts division.pieces column.kind) → IsParting schema chosen (parting_of chosen.boxes division)
      by_column None e cuts = absurd cuts
      by_column (Some c) e cuts =
          let there = slice_get_within schema.columns division.column c e in
          let same : (d : Column) → get_or schema.columns division.column d ≡ c = λ d. get_or_from_slice_get schema.columns division.column c d e in
          let kind : IsKind c.kind = subst (λ (column : Column). IsKind column.kind) (same c) (formed.columns.all division.column c there).kind in
          let side = hull_side schema division.column there c chosen.boxes None area.each tt in
          by_hull c there same kind cuts (hull_of division.column chosen.boxes)
          (subst (λ (column : Column). IsSideIf (is_side_of column.kind) (hull_of division.column chosen.boxes)) (same c) side)
          (λ row held. hull_has schema division.column there c chosen.boxes None row area.each tt held)

  pub are_cells : (divisions : List Division) → AreDivisions schema divisions → AreCells schema chosen (cells_with chosen (partings_of chosen divisions))
  are_cells divisions are =
      all_cut schema chosen (partings_of chosen divisions) (chosen ∷ [])
      (All-map (IsParting schema chosen) (parting_of chosen.boxes) divisions (λ i d inside. is_parting (get_or divisions i d) (are.each i d inside)))
      (one_cell_is schema chosen area)

  pub cells_in_are : (divisions : List Division) → AreDivisions schema divisions → AreCells schema chosen (cells_in chosen divisions)
  unfolding cells_in
  cells_in_are divisions are = are_cells divisions are

  pub cover_all : (divisions : List Division) → AreDivisions schema divisions → Cover chosen (cells_in chosen divisions)
  cover_all divisions are = λ row held. Any-from_list_any (λ (cell : Area). is_in cell row) (cells_in chosen divisions) ((cells_in_are divisions are).cover row held)

  of_cells : (divisions : List Division) → AreDivisions schema divisions → AreCellsOf schema (cells_of chosen divisions)
  unfolding cells_of
  of_cells divisions are = by_test (nat_lt cell_limit (choices (partings_of chosen divisions))) refl
    where
      by_test : (test : Bool) → nat_lt cell_limit (choices (partings_of chosen divisions)) ≡ test →
          AreCellsOf schema (if test then TooMany (choices (partings_of chosen divisions)) else Divided (cells_with chosen (partings_of chosen divisions)))
      by_test true e = ltb-true cell_limit (choices (partings_of chosen divisions)) e
      by_test false e = ((are_cells divisions are).areas, few_cells chosen (partings_of chosen divisions) e)

  pub cells_are_of : (divisions : List Division) (result : Result Cells Memory) → AreDivisions schema divisions → IfOk result (λ (cells : Cells). cells ≡ cells_of chosen divisions) → IfOk result (AreCellsOf schema)
  cells_are_of divisions (Ok cells) are e = subst (AreCellsOf schema) (sym e) (of_cells divisions are)
  cells_are_of divisions (Err memory) are e = tt
