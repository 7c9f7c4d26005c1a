-- The numbers of a column in the leaves of a cell.
use Rattle.std.proofs.Common.{◌≡◌, ℕ, zero, suc, ◌<◌, int_le, true, ℤ, ◌≤ℤ◌, List, [], ◌∷◌, length, get_or, All, sym, subst, arith}
use Rattle.std.specs.Cmp.Lexicographic.{pointwise}
use Rattle.std.proofs.lemmas.Bool.{and_parts}
use Rattle.std.proofs.lemmas.Int.{ints}
use Rattle.pc_model.specs.declared.row.Row.{Row}
use Rattle.pc_model.specs.declared.region.Side.{Side}
use Rattle.pc_model.specs.declared.region.Side.TheVariants.{Span, Names}
use Rattle.pc_model.specs.declared.region.Region.{Region}
use Rattle.pc_model.specs.Membership.{holds}
use Rattle.pc_model.specs.CutTrees.{side_at}
use Rattle.pc_model.specs.Aggregate.{number_at}
use Rattle.pc_model.specs.Cells.{IsInSome, IsSpanned, low_of, high_of, low_at, high_at, least_low, greatest_high}
use Rattle.pc_model.proofs.Between.{le_from_test, between_from}
use Rattle.pc_box.specs.Boxes.{are_like, IsBox}
use Rattle.pc_cells.specs.declared.cells.Cell.{Cell}
use Rattle.pc_cells.specs.Found.{IsFilled, cell_at, leaves_at, leaf_at, HoldsNumber, HasNumbers}
use Rattle.pc_cells_laws.proofs.Spans.{spanned_inside, above_least, below_greatest}

-- ---- one side

low_held : (side : Side) → IsSpanned side → are_like side side ≡ true → holds side (low_of side) ≡ true
unfolding holds
low_held (Span low high) spanned like = between_from low high low (omega (arith, ints)) (le_from_test low high (and_parts (int_le low high) (int_le low high) like).0)
low_held (Names bits) spanned like = absurd spanned

high_held : (side : Side) → IsSpanned side → are_like side side ≡ true → holds side (high_of side) ≡ true
unfolding holds
high_held (Span low high) spanned like = between_from low high high (le_from_test low high (and_parts (int_le low high) (int_le low high) like).0) (omega (arith, ints))
high_held (Names bits) spanned like = absurd spanned

-- ---- the side of a column

-- no side of a box is empty
pub like_at : (sides : List Side) (column : ℕ) (d : Side) → column < length sides → pointwise are_like sides sides ≡ true → are_like (get_or sides column d) (get_or sides column d) ≡ true
like_at [] column d inside like = absurd (omega arith)
like_at (side ∷ sides) zero d inside like = (and_parts (are_like side side) (pointwise are_like sides sides) like).0
like_at (side ∷ sides) (suc column) d inside like = like_at sides column d (omega arith) (and_parts (are_like side side) (pointwise are_like sides sides) like).1

-- ---- a leaf

module _ (column : ℕ) (leaf : Region) (spanned : IsSpanned (side_at leaf column)) where
  leaf_like : IsBox leaf → are_like (side_at leaf column) (side_at leaf column) ≡ true
  leaf_like filled = like_at leaf.sides column (Names 0) (spanned_inside leaf.sides column spanned) filled

-- ---- the leaves of a cell

module _ (column : ℕ) (leaves : List Region) (spans : All (λ (leaf : Region). IsSpanned (side_at leaf column)) leaves) where
  module _ (filled : All IsBox leaves) (place : ℕ) (number : ℤ) (there : place < length leaves) where
    holds_low : number ≡ low_at column (leaf_at leaves place) → HoldsNumber leaves place column number
    holds_low is =
        let leaf = leaf_at leaves place in
        let spanned = spans place (record { sides = [] }) there in
        record { there = there; held = subst (λ n. holds (side_at leaf column) n ≡ true) (sym is) (low_held (side_at leaf column) spanned (leaf_like column leaf spanned (filled place (record { sides = [] }) there))) }

    holds_high : number ≡ high_at column (leaf_at leaves place) → HoldsNumber leaves place column number
    holds_high is =
        let leaf = leaf_at leaves place in
        let spanned = spans place (record { sides = [] }) there in
        record { there = there; held = subst (λ n. holds (side_at leaf column) n ≡ true) (sym is) (high_held (side_at leaf column) spanned (leaf_like column leaf spanned (filled place (record { sides = [] }) there))) }

-- ---- a cell at its place

module _ (cells : List Cell) (place : ℕ) (filled : IsFilled (cell_at cells place)) where
  module _ (column : ℕ) (numbers : HasNumbers column (cell_at cells place)) (leaves : List Region) (same : leaves ≡ leaves_at cells place) (number : ℤ) where
    pub cell_above : number ≡ least_low column leaves → (row : Row) → IsInSome (leaves_at cells place) row → number ≤ℤ number_at row column
    cell_above is row found =
        subst (λ n. n ≤ℤ number_at row column) (sym (subst (λ (l : List Region). number ≡ least_low column l) same is)) (above_least column (leaves_at cells place) numbers row found)

    pub cell_below : number ≡ greatest_high column leaves → (row : Row) → IsInSome (leaves_at cells place) row → number_at row column ≤ℤ number
    cell_below is row found =
        subst (λ n. number_at row column ≤ℤ n) (sym (subst (λ (l : List Region). number ≡ greatest_high column l) same is)) (below_greatest column (leaves_at cells place) numbers row found)

    module _ (leaf : ℕ) (inside : leaf < length leaves) where
      pub cell_holds_low : number ≡ low_at column (leaf_at leaves leaf) → HoldsNumber (leaves_at cells place) leaf column number
      cell_holds_low is =
          holds_low column (leaves_at cells place) numbers filled.boxes leaf number (subst (λ (l : List Region). leaf < length l) same inside)
          (subst (λ (l : List Region). number ≡ low_at column (leaf_at l leaf)) same is)

      pub cell_holds_high : number ≡ high_at column (leaf_at leaves leaf) → HoldsNumber (leaves_at cells place) leaf column number
      cell_holds_high is =
          holds_high column (leaves_at cells place) numbers filled.boxes leaf number (subst (λ (l : List Region). leaf < length l) same inside)
          (subst (λ (l : List Region). number ≡ high_at column (leaf_at l leaf)) same is)
