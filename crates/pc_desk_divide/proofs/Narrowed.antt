-- The rows of what of a box, of an area and of a cell has a number of a piece.
use Rattle.std.proofs.Common.{◌≡◌, ◌∙◌, ℕ, zero, suc, ◌<◌, ◌&&◌, ◌||◌, nat_lt, Bool, true, false, ℤ, pos, List, [], ◌∷◌, All, length, get_or, Option, Some, None, is_some, unwrap_or, flat_map, if◌then◌else◌, refl, sym, ap, ap₂, subst, arith, true≢false, lt-ltb}
use Rattle.std.specs.Cmp.Lexicographic.{pointwise}
use Rattle.std.specs.List.{cons_option, filter_map, list_any}
use Rattle.std.proofs.lemmas.Bool.{and_parts, and_from, false_from_ne_true}
use Rattle.std.proofs.lemmas.List.Elements.{All-head, All-tail}
use Rattle.std.proofs.lemmas.List.Folds.{list_any-append}
use Rattle.std.proofs.lemmas.Option.{slice_get-get_or}
use Rattle.pc_model.specs.declared.area.Area.{Area}
use Rattle.pc_model.specs.declared.region.Region.{Region}
use Rattle.pc_model.specs.declared.region.Side.{Side}
use Rattle.pc_model.specs.declared.region.Side.TheVariants.{Names}
use Rattle.pc_model.specs.declared.row.Row.{Row}
use Rattle.pc_model.specs.declared.schema.Column.{Column}
use Rattle.pc_model.specs.declared.schema.Kind.{Kind}
use Rattle.pc_model.specs.declared.schema.Kind.TheVariants.{Cat}
use Rattle.pc_model.specs.declared.schema.Schema.{Schema}
use Rattle.pc_model.specs.Membership.{has, holds, is_in}
use Rattle.pc_model.specs.Regions.{is_region_of, is_side_of, meet_sides}
use Rattle.pc_box.specs.Boxes.{are_like}
use Rattle.pc_box.proofs.CutRows.{held_set}
use Rattle.pc_box.proofs.Rows.{all_held}
use Rattle.pc_box.proofs.Schemas.{AreAlike-from_schema}
use Rattle.pc_box.proofs.SideRows.{holds_common, nothing_shared}
use Rattle.pc_desk_divide.specs.Cells.{common_if, listed, narrowed, narrowed_area, narrowed_boxes, with_side_if}

-- ---- sides of one column

-- two sides of one kind are alike
pub alike_sides : (kind : Kind) (s t : Side) → is_side_of kind s ≡ true → is_side_of kind t ≡ true → are_like s t ≡ true
unfolding is_region_of
alike_sides kind s t first second =
    let alike = AreAlike-from_schema (record { columns = record { name = []; kind = kind } ∷ [] }) (record { sides = s ∷ [] }) (record { sides = t ∷ [] })
    (and_from (is_side_of kind s) true first refl) (and_from (is_side_of kind t) true second refl) in
    (and_parts (are_like s t) true alike).0

-- what the common part of two sides holds
abbrev pub HoldsBoth : Side → Side → Option Side → Type 0
HoldsBoth s t None = (n : ℤ) → holds s n ≡ true → holds t n ≡ true → ⊥
HoldsBoth s t (Some m) = (n : ℤ) → holds m n ≡ (holds s n && holds t n)

pub common_holds : (s t : Side) → are_like s t ≡ true → HoldsBoth s t (meet_sides s t)
common_holds s t like = by_option (meet_sides s t) refl
  where
    by_option : (found : Option Side) → meet_sides s t ≡ found → HoldsBoth s t found
    by_option None e = λ n first second. nothing_shared s t n like (ap is_some e) first second
    by_option (Some m) e = λ n.
        subst (λ (side : Side). holds side n ≡ (holds s n && holds t n)) (ap (λ (found : Option Side). unwrap_or found s) e) (holds_common s t n like (ap is_some e))

-- ---- the side of a box in a column

pub sides_at : (columns : List Column) (sides : List Side) (i : ℕ) (c : Column) (d : Side) → pointwise (λ (column : Column). is_side_of column.kind) columns sides ≡ true → i < length columns →
    (i < length sides) × (is_side_of (get_or columns i c).kind (get_or sides i d) ≡ true)
sides_at [] sides i c d h there = absurd (omega arith)
sides_at (column ∷ columns) [] i c d h there = absurd (true≢false (sym h))
sides_at (column ∷ columns) (side ∷ sides) zero c d h there =
    (omega arith, (and_parts (is_side_of column.kind side) (pointwise (λ (column : Column). is_side_of column.kind) columns sides) h).0)
sides_at (column ∷ columns) (side ∷ sides) (suc i) c d h there =
    let rest = sides_at columns sides i c d (and_parts (is_side_of column.kind side) (pointwise (λ (column : Column). is_side_of column.kind) columns sides) h).1 (omega arith) in
    (omega arith, rest.1)

pub held_at : (sides : List Side) (cells : List ℤ) (i : ℕ) (d : Side) → i < length sides → all_held sides cells ≡ true → holds (get_or sides i d) (get_or cells i (pos 0)) ≡ true
held_at [] cells i d there h = absurd (omega arith)
held_at (side ∷ sides) [] i d there h = absurd (true≢false (sym h))
held_at (side ∷ sides) (n ∷ cells) zero d there h = (and_parts (holds side n) (all_held sides cells) h).0
held_at (side ∷ sides) (n ∷ cells) (suc i) d there h = held_at sides cells i d (omega arith) (and_parts (holds side n) (all_held sides cells) h).1

-- ---- a box

abbrev has_if : Option Region → Row → Bool
has_if None row = false
has_if (Some box) row = has box row

-- a piece of a column of the schema
pub record IsPiece (schema : Schema) (column : ℕ) (piece : Side) : Type 0 where
  pub there : column < length schema.columns
  pub side : (c : Column) → is_side_of (get_or schema.columns column c).kind piece ≡ true

module _ (schema : Schema) (column : ℕ) (piece : Side) (is : IsPiece schema column piece) (row : Row) where
  narrowed_row : (box : Region) → is_region_of schema box ≡ true → has_if (narrowed column piece box) row ≡ (has box row && holds piece (get_or row.cells column (pos 0)))
  unfolding is_region_of has
  narrowed_row box of_schema =
      let c : Column = record { name = []; kind = Cat [] } in
      let at = sides_at schema.columns box.sides column c (Names 0) of_schema is.there in
      let side = get_or box.sides column (Names 0) in
      let like = alike_sides (get_or schema.columns column c).kind side piece at.1 (is.side c) in
      subst (λ (found : Option Side). has_if (with_side_if box column (common_if found piece)) row ≡ (all_held box.sides row.cells && holds piece (get_or row.cells column (pos 0))))
      (sym (slice_get-get_or box.sides column (Names 0) at.0)) (by_option (meet_sides side piece) (common_holds side piece like) at.0)
    where
      by_option : (found : Option Side) → HoldsBoth (get_or box.sides column (Names 0)) piece found → column < length box.sides →
          has_if (with_side_if box column found) row ≡ (all_held box.sides row.cells && holds piece (get_or row.cells column (pos 0)))
      by_option None says there = sym (false_from_ne_true _ (λ both.
          let p = and_parts (all_held box.sides row.cells) (holds piece (get_or row.cells column (pos 0))) both in
          says (get_or row.cells column (pos 0)) (held_at box.sides row.cells column (Names 0) there p.0) p.1))
      by_option (Some m) says there = held_set (holds piece) box.sides row.cells column m (Names 0) there says

  -- ---- boxes

  or_and : (a b p : Bool) → ((a && p) || (b && p)) ≡ ((a || b) && p)
  or_and true true true = refl
  or_and true true false = refl
  or_and true false true = refl
  or_and true false false = refl
  or_and false b p = refl

  any_cons : (found : Option Region) (rest : List Region) → list_any (λ (box : Region). has box row) (cons_option found rest) ≡ (has_if found row || list_any (λ (box : Region). has box row) rest)
  any_cons None rest = refl
  any_cons (Some box) rest = refl

  boxes_rows : (boxes : List Region) → All (λ (box : Region). is_region_of schema box ≡ true) boxes →
      list_any (λ (box : Region). has box row) (narrowed_boxes column piece boxes) ≡ (list_any (λ (box : Region). has box row) boxes && holds piece (get_or row.cells column (pos 0)))
  unfolding narrowed_boxes
  boxes_rows [] of_schema = refl
  boxes_rows (box ∷ boxes) of_schema =
      any_cons (narrowed column piece box) (filter_map (narrowed column piece) boxes)
      ∙ ap₂ (λ (a b : Bool). a || b)
      (narrowed_row box (All-head (λ (b : Region). is_region_of schema b ≡ true) box boxes of_schema))
      (boxes_rows boxes (All-tail (λ (b : Region). is_region_of schema b ≡ true) box boxes of_schema))
      ∙ or_and (has box row) (list_any (λ (b : Region). has b row) boxes) (holds piece (get_or row.cells column (pos 0)))

-- ---- a cell

pub or_nothing : (a : Bool) → (a || false) ≡ a
or_nothing true = refl
or_nothing false = refl

and_or : (a p q : Bool) → ((a && p) || (a && q)) ≡ (a && (p || q))
and_or true p q = refl
and_or false p q = refl

and_none : (a : Bool) → (a && false) ≡ false
and_none true = refl
and_none false = refl

listed_rows : (row : Row) (boxes : List Region) → list_any (λ (cell : Area). is_in cell row) (listed (record { boxes = boxes })) ≡ list_any (λ (box : Region). has box row) boxes
listed_rows row [] = refl
listed_rows row (box ∷ boxes) = by_test (nat_lt 0 (length (box ∷ boxes))) refl
  where
    by_test : (test : Bool) → nat_lt 0 (length (box ∷ boxes)) ≡ test →
        list_any (λ (cell : Area). is_in cell row) (if test then record { boxes = box ∷ boxes } ∷ [] else []) ≡ list_any (λ (b : Region). has b row) (box ∷ boxes)
    by_test true e = or_nothing (list_any (λ (b : Region). has b row) (box ∷ boxes))
    by_test false e = absurd (true≢false (sym (lt-ltb 0 (length (box ∷ boxes)) (omega arith)) ∙ e))

-- the parts of a cell have together the cell's rows with a number of some piece
pub cut_rows : (schema : Schema) (column : ℕ) (cell : Area) (row : Row) (pieces : List Side) → All (IsPiece schema column) pieces → All (λ (box : Region). is_region_of schema box ≡ true) cell.boxes →
    list_any (λ (part : Area). is_in part row) (flat_map (λ (piece : Side). listed (narrowed_area column cell piece)) pieces)
    ≡ (is_in cell row && list_any (λ (piece : Side). holds piece (get_or row.cells column (pos 0))) pieces)
cut_rows schema column cell row [] are of_schema = sym (and_none (is_in cell row))
cut_rows schema column cell row (piece ∷ pieces) are of_schema =
    list_any-append (λ (part : Area). is_in part row) (listed (narrowed_area column cell piece)) _
    ∙ ap₂ (λ (a b : Bool). a || b)
    (listed_rows row (narrowed_boxes column piece cell.boxes)
    ∙ boxes_rows schema column piece (All-head (IsPiece schema column) piece pieces are) row cell.boxes of_schema)
    (cut_rows schema column cell row pieces (All-tail (IsPiece schema column) piece pieces are) of_schema)
    ∙ and_or (is_in cell row) (holds piece (get_or row.cells column (pos 0))) (list_any (λ (p : Side). holds p (get_or row.cells column (pos 0))) pieces)

-- a row of a part is one of the cell, and has a number of the piece
pub part_rows : (schema : Schema) (column : ℕ) (cell : Area) (row : Row) (piece : Side) → IsPiece schema column piece → All (λ (box : Region). is_region_of schema box ≡ true) cell.boxes →
    is_in (narrowed_area column cell piece) row ≡ true → (is_in cell row ≡ true) × (holds piece (get_or row.cells column (pos 0)) ≡ true)
part_rows schema column cell row piece is of_schema held =
    and_parts (is_in cell row) (holds piece (get_or row.cells column (pos 0))) (sym (boxes_rows schema column piece is row cell.boxes of_schema) ∙ held)
