-- A number of each side of a box, and another at one column.
use Rattle.std.proofs.Common.{◌≡◌, ℕ, zero, suc, ◌<◌, ◌^◌, ◌&&◌, int_le, true, ℤ, List, [], ◌∷◌, length, get_or, set, Option, Some, IfSome, slice_get, subst, refl, sym, ◌∙◌, ap, true≢false, arith, to_z, w64}
use Rattle.std.specs.Cmp.Lexicographic.{pointwise}
use Rattle.std.specs.Int.{w128}
use Rattle.std.specs.Int.Count.{count_trailing_zeros}
use Rattle.std.proofs.lemmas.Bool.{and_parts, and_from}
use Rattle.std.proofs.lemmas.Int.{ints, to_z_pos}
use Rattle.std.proofs.lemmas.Nat.Bits.{bit_at-trailing_zeros}
use Rattle.pc_model.specs.declared.row.Row.{Row}
use Rattle.pc_model.specs.declared.region.Side.{Side}
use Rattle.pc_model.specs.declared.region.Side.TheVariants.{Names}
use Rattle.pc_model.specs.declared.region.Region.{Region}
use Rattle.pc_model.specs.Membership.{holds, has, is_between}
use Rattle.pc_model.specs.CutTrees.{side_at}
use Rattle.pc_model.specs.Places.{is_place_of}
use Rattle.pc_model.proofs.Between.{le_from_test, between_from}
use Rattle.pc_box.specs.Boxes.{are_like}
use Rattle.pc_box.proofs.Places.{some_from_place}
use Rattle.pc_cells.proofs.Spans.{like_at}

-- ---- one side

pub least_of_span : (low high : ℤ) → (int_le low high && int_le low high) ≡ true → is_between low high low ≡ true
least_of_span low high like = between_from low high low (omega (arith, ints)) (le_from_test low high (and_parts (int_le low high) (int_le low high) like).0)

pub lowest_is_place : (bits : ℕ) → 0 < bits → bits < 2 ^ 128 → is_place_of bits (to_z w64 (count_trailing_zeros 128 bits)) ≡ true
lowest_is_place bits some fits =
    let lowest = bit_at-trailing_zeros w128 bits some fits in
    rw (to_z_pos w64 (count_trailing_zeros 128 bits) (omega (arith, lowest.0)), lowest.1) refl

pub side_like : (sides : List Side) (place : ℕ) (d : Side) → pointwise are_like sides sides ≡ true → place < length sides → are_like (get_or sides place d) (get_or sides place d) ≡ true
side_like sides place d like inside = like_at sides place d inside like

-- ---- another number at one column

as_many_cells : (sides : List Side) (cells : List ℤ) → pointwise holds sides cells ≡ true → length sides ≡ length cells
as_many_cells [] [] held = refl
as_many_cells [] (n ∷ cells) held = absurd (true≢false (sym held))
as_many_cells (side ∷ sides) [] held = absurd (true≢false (sym held))
as_many_cells (side ∷ sides) (n ∷ cells) held = let rest = as_many_cells sides cells (and_parts (holds side n) (pointwise holds sides cells) held).1 in omega arith

-- no column past the last holds a number
nothing_held : (n : ℤ) → holds (Names 0) n ≡ true → ⊥
unfolding holds
nothing_held n held = let some = some_from_place 0 n held in omega arith

held_inside : (sides : List Side) (column : ℕ) (n : ℤ) → holds (get_or sides column (Names 0)) n ≡ true → column < length sides
held_inside [] column n held = absurd (nothing_held n held)
held_inside (side ∷ sides) zero n held = omega arith
held_inside (side ∷ sides) (suc column) n held = let rest = held_inside sides column n held in omega arith

held_with : (sides : List Side) (cells : List ℤ) (column : ℕ) (n : ℤ) → pointwise holds sides cells ≡ true → holds (get_or sides column (Names 0)) n ≡ true → pointwise holds sides (set cells column n) ≡ true
held_with [] cells column n held named = absurd (nothing_held n named)
held_with (side ∷ sides) [] column n held named = absurd (true≢false (sym held))
held_with (side ∷ sides) (m ∷ cells) zero n held named = and_from (holds side n) (pointwise holds sides cells) named (and_parts (holds side m) (pointwise holds sides cells) held).1
held_with (side ∷ sides) (m ∷ cells) (suc column) n held named =
    let p = and_parts (holds side m) (pointwise holds sides cells) held in
    and_from (holds side m) (pointwise holds sides (set cells column n)) p.0 (held_with sides cells column n p.1 named)

pub set_there : (cells : List ℤ) (column : ℕ) (n : ℤ) → column < length cells → slice_get (set cells column n) column ≡ Some n
set_there [] column n inside = absurd (omega arith)
set_there (m ∷ cells) zero n inside = refl
set_there (m ∷ cells) (suc column) n inside = set_there cells column n (omega arith)

module _ (region : Region) (sides : List Side) (cells : List ℤ) (of_region : sides ≡ region.sides) (held : pointwise holds sides cells ≡ true) where
  all_held : pointwise holds region.sides cells ≡ true
  all_held = subst (λ (x : List Side). pointwise holds x cells ≡ true) of_region held

  pub row_held : (row : Row) → row.cells ≡ cells → has region row ≡ true
  unfolding has
  row_held row is = rw is all_held

  module _ (named : Option ℕ) (column : ℕ) (value : ℤ) (is_named : named ≡ Some column) (holding : IfSome named (λ (n : ℕ). holds (side_at region n) value ≡ true)) where
    value_held : holds (side_at region column) value ≡ true
    value_held = subst (λ (o : Option ℕ). IfSome o (λ n. holds (side_at region n) value ≡ true)) is_named holding

    pub cell_inside : column < length cells
    cell_inside = omega (arith, as_many_cells region.sides cells all_held, held_inside region.sides column value value_held)

    module _ (row : Row) (other : ℤ) (with : List ℤ) (same : other ≡ value) (set_is : with ≡ set cells column other) (row_is : row.cells ≡ with) where
      cells_are : row.cells ≡ set cells column value
      cells_are = row_is ∙ set_is ∙ ap (set cells column) same

      pub row_with_held : has region row ≡ true
      unfolding has
      row_with_held = rw cells_are (held_with region.sides cells column value all_held value_held)

      pub number_there : IfSome named (λ (n : ℕ). slice_get row.cells n ≡ Some value)
      number_there = rw (is_named, cells_are) (set_there cells column value cell_inside)
