-- The region of the whole domain holds the rows of the domain, and is a region of its schema.
use Rattle.std.proofs.Common.{◌≡◌, ℕ, ◌-◌, ◌<◌, ◌≤◌, ◌^◌, nat_lt, Bool, true, false, ℤ, pos, negsuc, List, [], ◌∷◌, length, map, All, refl, arith}
use Rattle.std.specs.Cmp.Lexicographic.{pointwise}
use Rattle.std.proofs.lemmas.Bool.{and_from}
use Rattle.std.proofs.lemmas.Nat.Bits.{bit_at_ones, bit_at_ones_above}
use Rattle.std.proofs.lemmas.Bool.Decides.{nat_tests}
use Rattle.std.proofs.lemmas.List.Elements.{All-head, All-tail}
use Rattle.pc_model.specs.declared.schema.Kind.{Kind}
use Rattle.pc_model.specs.declared.schema.Kind.TheVariants.{Int, Dec, Cat}
use Rattle.pc_model.specs.declared.schema.Column.{Column}
use Rattle.pc_model.specs.declared.schema.Schema.{Schema}
use Rattle.pc_model.specs.declared.row.Row.{Row}
use Rattle.pc_model.specs.Membership.{allows, has, holds, in_domain}
use Rattle.pc_model.specs.Places.{is_below, is_place_of}
use Rattle.pc_model.specs.Regions.{whole_side, is_side_of, is_region_of, whole_region}
use Rattle.pc_model.specs.WellFormed.{IsColumn, IsWellFormed}
use Rattle.pc_model.proofs.Regions.{whole_is_side}
use Rattle.pc_model.proofs.Whole.{side_of_column}

-- the places of so many ones are those below their number
first_places : (count : ℕ) (number : ℤ) → is_place_of (2 ^ count - 1) number ≡ is_below count number
first_places count (pos place) = by_test (nat_lt place count) refl
  where
    by_test : (test : Bool) → nat_lt place count ≡ test → is_place_of (2 ^ count - 1) (pos place) ≡ test
    by_test true e = let inside : place < count = grind (arith, nat_tests, e) in rw (bit_at_ones count place inside) refl
    by_test false e = let past : count ≤ place = grind (arith, nat_tests, e) in rw (bit_at_ones_above count place past) refl
first_places count (negsuc below) = refl

whole_holds : (kind : Kind) (number : ℤ) → holds (whole_side kind) number ≡ allows kind number
unfolding holds allows
whole_holds (Int low high) number = refl
whole_holds (Dec scale low high) number = refl
whole_holds (Cat names) number = first_places (length names) number

pub domain_holds : (columns : List Column) (cells : List ℤ) → pointwise holds (map side_of_column columns) cells ≡ pointwise (λ (column : Column). allows column.kind) columns cells
domain_holds [] [] = refl
domain_holds [] (number ∷ cells) = refl
domain_holds (column ∷ columns) [] = refl
domain_holds (column ∷ columns) (number ∷ cells) = rw (whole_holds column.kind number, domain_holds columns cells) refl

-- the whole region has the rows of the domain
pub in_whole : (schema : Schema) (row : Row) → has (whole_region schema) row ≡ in_domain schema row
unfolding has in_domain
in_whole schema row = domain_holds schema.columns row.cells

pub whole_are_sides : (columns : List Column) → All IsColumn columns → pointwise (λ (column : Column). is_side_of column.kind) columns (map side_of_column columns) ≡ true
whole_are_sides [] all = refl
whole_are_sides (column ∷ columns) all =
    and_from (is_side_of column.kind (side_of_column column)) (pointwise (λ (column : Column). is_side_of column.kind) columns (map side_of_column columns))
    (whole_is_side column.kind (All-head IsColumn column columns all).kind) (whole_are_sides columns (All-tail IsColumn column columns all))

pub whole_is_region : (schema : Schema) → IsWellFormed schema → is_region_of schema (whole_region schema) ≡ true
unfolding is_region_of
whole_is_region schema formed = whole_are_sides schema.columns formed.columns.all
