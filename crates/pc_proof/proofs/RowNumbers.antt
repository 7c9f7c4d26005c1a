-- Numbers of rows that a schema allows are small.
use Rattle.std.proofs.Common.{◌≡◌, ℕ, zero, suc, ◌≤◌, ℤ, pos, negsuc, ◌≤ℤ◌, true, true≢false, List, [], ◌∷◌, length, get_or, All, Option, Some, None, refl, sym, arith, ltb-true}
use Rattle.std.specs.Prelude.{nat_abs}
use Rattle.std.specs.Cmp.Lexicographic.{pointwise}
use Rattle.std.proofs.lemmas.Bool.{and_parts}
use Rattle.std.proofs.lemmas.Int.{ints}
use Rattle.std.proofs.lemmas.List.Elements.{All-head, All-tail}
use Rattle.pc_num.specs.Scaled.{greatest_size}
use Rattle.pc_model.specs.declared.schema.Kind.{Kind}
use Rattle.pc_model.specs.declared.schema.Kind.TheVariants.{Int, Dec, Cat}
use Rattle.pc_model.specs.declared.schema.Column.{Column}
use Rattle.pc_model.specs.declared.schema.Schema.{Schema}
use Rattle.pc_model.specs.declared.row.Row.{Row}
use Rattle.pc_model.specs.declared.query.Query.{Query}
use Rattle.pc_model.specs.Aggregate.{asked}
use Rattle.pc_model.specs.Membership.{allows, in_domain}
use Rattle.pc_model.specs.WellFormed.{IsSpan, IsKind, IsColumn, IsWellFormed}
use Rattle.pc_model.proofs.Between.{between_parts}

pub between_small : (low high n : ℤ) → IsSpan low high → (low ≤ℤ n) × (n ≤ℤ high) → nat_abs n ≤ greatest_size
between_small low high n span between = omega (arith, ints, span.small_low, span.small_high, between.0, between.1)

kind_small : (kind : Kind) (n : ℤ) → IsKind kind → allows kind n ≡ true → nat_abs n ≤ greatest_size
unfolding allows
kind_small (Int low high) n is allowed = between_small low high n is (between_parts low high n allowed)
kind_small (Dec scale low high) n is allowed = between_small low high n is.1 (between_parts low high n allowed)
kind_small (Cat names) (pos place) is allowed = let below = ltb-true place (length names) allowed in omega (arith, below, is.few)
kind_small (Cat names) (negsuc below) is allowed = absurd (true≢false (sym allowed))

cell_small : (columns : List Column) (cells : List ℤ) (place : ℕ) → All IsColumn columns → pointwise (λ (column : Column). allows column.kind) columns cells ≡ true → nat_abs (get_or cells place (pos 0)) ≤ greatest_size
cell_small [] [] place are allowed = omega arith
cell_small [] (n ∷ cells) place are allowed = absurd (true≢false (sym allowed))
cell_small (column ∷ columns) [] place are allowed = absurd (true≢false (sym allowed))
cell_small (column ∷ columns) (n ∷ cells) zero are allowed =
    kind_small column.kind n (All-head IsColumn column columns are).kind (and_parts (allows column.kind n) (pointwise (λ (column : Column). allows column.kind) columns cells) allowed).0
cell_small (column ∷ columns) (n ∷ cells) (suc place) are allowed =
    cell_small columns cells place (All-tail IsColumn column columns are) (and_parts (allows column.kind n) (pointwise (λ (column : Column). allows column.kind) columns cells) allowed).1

pub asked_small : (schema : Schema) (query : Query) (row : Row) → IsWellFormed schema → in_domain schema row ≡ true → nat_abs (asked query row) ≤ greatest_size
unfolding in_domain
asked_small schema query row formed allowed = by_column query.column refl
  where
    by_column : (column : Option ℕ) → query.column ≡ column → nat_abs (asked query row) ≤ greatest_size
    by_column None is = rw is (omega arith)
    by_column (Some column) is = rw is (cell_small schema.columns row.cells column formed.columns.all allowed)
