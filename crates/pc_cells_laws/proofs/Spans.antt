-- The numbers of a column in boxes whose sides there are spans.
use Rattle.std.proofs.Common.{◌≡◌, ℕ, zero, suc, ◌<◌, true, ℤ, pos, ◌≤ℤ◌, List, [], ◌∷◌, length, get_or, All, IsSomeAnd, slice_get, slice_index_or, sym, subst, true≢false, arith}
use Rattle.std.specs.Cmp.Lexicographic.{pointwise}
use Rattle.std.proofs.lemmas.Bool.{and_parts}
use Rattle.std.proofs.lemmas.Int.{ints}
use Rattle.pc_model.specs.declared.schema.Kind.{Kind}
use Rattle.pc_model.specs.declared.schema.Kind.TheVariants.{Int, Dec, Cat}
use Rattle.pc_model.specs.declared.schema.Column.{Column}
use Rattle.pc_model.specs.declared.schema.Schema.{Schema}
use Rattle.pc_model.specs.declared.row.Row.{Row}
use Rattle.pc_model.specs.declared.region.Side.{Side}
use Rattle.pc_model.specs.declared.region.Side.TheVariants.{Span, Names}
use Rattle.pc_model.specs.declared.region.Region.{Region}
use Rattle.pc_model.specs.Accepted.{IsNumeric, IsColumnWhere}
use Rattle.pc_model.specs.Aggregate.{number_at}
use Rattle.pc_model.specs.Membership.{holds, has}
use Rattle.pc_model.specs.Regions.{is_side_of, is_region_of}
use Rattle.pc_model.specs.CutTrees.{side_at}
use Rattle.pc_model.specs.Cells.{IsInSome, IsSpanned, low_of, high_of, low_at, high_at, least_low, greatest_high}
use Rattle.pc_model.proofs.Between.{between_parts}
use Rattle.pc_cells_laws.proofs.Leasts.{least_under, greatest_over}

-- ---- one side

between_ends : (side : Side) (n : ℤ) → IsSpanned side → holds side n ≡ true → (low_of side ≤ℤ n) × (n ≤ℤ high_of side)
unfolding holds
between_ends (Span low high) n spanned held = between_parts low high n held
between_ends (Names bits) n spanned held = absurd spanned

-- ---- the side of a column

-- the sides of a row hold its numbers
held_at : (sides : List Side) (cells : List ℤ) (column : ℕ) (d : Side) → column < length sides → pointwise holds sides cells ≡ true → holds (get_or sides column d) (get_or cells column (pos 0)) ≡ true
held_at [] cells column d inside held = absurd (omega arith)
held_at (side ∷ sides) [] column d inside held = absurd (true≢false (sym held))
held_at (side ∷ sides) (n ∷ cells) zero d inside held = (and_parts (holds side n) (pointwise holds sides cells) held).0
held_at (side ∷ sides) (n ∷ cells) (suc column) d inside held = held_at sides cells column d (omega arith) (and_parts (holds side n) (pointwise holds sides cells) held).1

-- a span stands at a column that is there
pub spanned_inside : (sides : List Side) (column : ℕ) → IsSpanned (get_or sides column (Names 0)) → column < length sides
spanned_inside [] column spanned = absurd spanned
spanned_inside (side ∷ sides) zero spanned = omega arith
spanned_inside (side ∷ sides) (suc column) spanned = let rest = spanned_inside sides column spanned in omega arith

-- ---- a box

module _ (column : ℕ) (leaf : Region) (spanned : IsSpanned (side_at leaf column)) where
  row_between : (row : Row) → has leaf row ≡ true → (low_at column leaf ≤ℤ number_at row column) × (number_at row column ≤ℤ high_at column leaf)
  unfolding has
  row_between row held =
      between_ends (side_at leaf column) (number_at row column) spanned (held_at leaf.sides row.cells column (Names 0) (spanned_inside leaf.sides column spanned) held)

-- ---- boxes

module _ (column : ℕ) (leaves : List Region) (spans : All (λ (leaf : Region). IsSpanned (side_at leaf column)) leaves) where
  pub above_least : (row : Row) → IsInSome leaves row → least_low column leaves ≤ℤ number_at row column
  above_least row found =
      let leaf = found.1 in
      let spanned = subst (λ (x : Region). IsSpanned (side_at x column)) found.3 (spans found.0 leaf found.2) in
      let own = (row_between column leaf spanned row found.4).0 in
      let least = subst (λ (x : Region). least_low column leaves ≤ℤ low_at column x) found.3 (least_under (low_at column) leaves found.0 leaf found.2) in
      omega (arith, ints)

  pub below_greatest : (row : Row) → IsInSome leaves row → number_at row column ≤ℤ greatest_high column leaves
  below_greatest row found =
      let leaf = found.1 in
      let spanned = subst (λ (x : Region). IsSpanned (side_at x column)) found.3 (spans found.0 leaf found.2) in
      let own = (row_between column leaf spanned row found.4).1 in
      let greatest = subst (λ (x : Region). high_at column x ≤ℤ greatest_high column leaves) found.3 (greatest_over (high_at column) leaves found.0 leaf found.2) in
      omega (arith, ints)

-- ---- a column of numbers of a schema

spanned_side : (kind : Kind) (side : Side) → IsNumeric kind → is_side_of kind side ≡ true → IsSpanned side
spanned_side (Int low high) (Span from to) numeric h = tt
spanned_side (Int low high) (Names bits) numeric h = absurd (true≢false (sym h))
spanned_side (Dec scale low high) (Span from to) numeric h = tt
spanned_side (Dec scale low high) (Names bits) numeric h = absurd (true≢false (sym h))
spanned_side (Cat names) side numeric h = absurd numeric

spanned_at : (columns : List Column) (sides : List Side) (column : ℕ) → IsSomeAnd (slice_get columns column) (λ (c : Column). IsNumeric c.kind) →
    pointwise (λ (c : Column). is_side_of c.kind) columns sides ≡ true → IsSpanned (slice_index_or sides column (Names 0))
spanned_at [] sides column numeric h = absurd numeric
spanned_at (c ∷ columns) [] column numeric h = absurd (true≢false (sym h))
spanned_at (c ∷ columns) (side ∷ sides) zero numeric h = spanned_side c.kind side numeric (and_parts (is_side_of c.kind side) (pointwise (λ (x : Column). is_side_of x.kind) columns sides) h).0
spanned_at (c ∷ columns) (side ∷ sides) (suc column) numeric h =
    spanned_at columns sides column numeric (and_parts (is_side_of c.kind side) (pointwise (λ (x : Column). is_side_of x.kind) columns sides) h).1

pub spanned_leaf : (schema : Schema) (leaf : Region) (column : ℕ) → IsColumnWhere IsNumeric schema column → is_region_of schema leaf ≡ true → IsSpanned (side_at leaf column)
unfolding is_region_of
spanned_leaf schema leaf column numeric h = spanned_at schema.columns leaf.sides column numeric h
