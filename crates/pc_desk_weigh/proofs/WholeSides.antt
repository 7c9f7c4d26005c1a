-- A schema that has some region has the whole one.
use Rattle.std.proofs.Common.{◌≡◌, ℕ, ◌-◌, ◌^◌, nat_lt, ◌&&◌, true, ℤ, List, [], ◌∷◌, length, map, refl, arith}
use Rattle.std.specs.Prelude.{int_le}
use Rattle.std.specs.Cmp.Lexicographic.{pointwise}
use Rattle.std.proofs.lemmas.Int.{ints}
use Rattle.std.proofs.lemmas.Bool.{and_from, and_parts, false≢true}
use Rattle.std.proofs.lemmas.Bool.Decides.{nat_tests}
use Rattle.pc_model.specs.declared.region.Region.{Region}
use Rattle.pc_model.specs.declared.region.Side.{Side}
use Rattle.pc_model.specs.declared.region.Side.TheVariants.{Span, Names}
use Rattle.pc_model.specs.declared.schema.Kind.{Kind}
use Rattle.pc_model.specs.declared.schema.Kind.TheVariants.{Int, Dec, Cat}
use Rattle.pc_model.specs.declared.schema.Column.{Column}
use Rattle.pc_model.specs.declared.schema.Schema.{Schema}
use Rattle.pc_model.specs.Regions.{whole_side, is_side_of, is_region_of, whole_region}
use Rattle.pc_model.proofs.Between.{le_from_test, test_from_le}
use Rattle.pc_model.proofs.Whole.{side_of_column}

span : (low high from to : ℤ) → (int_le low from && (int_le from to && int_le to high)) ≡ true → (int_le low low && (int_le low high && int_le high high)) ≡ true
span low high from to e =
    let outer = and_parts (int_le low from) (int_le from to && int_le to high) e in
    let inner = and_parts (int_le from to) (int_le to high) outer.1 in
    let a = le_from_test low from outer.0 in
    let b = le_from_test from to inner.0 in
    let d = le_from_test to high inner.1 in
    and_from (int_le low low) (int_le low high && int_le high high) (test_from_le low low (omega (arith, ints)))
    (and_from (int_le low high) (int_le high high) (test_from_le low high (omega (arith, ints, a, b, d))) (test_from_le high high (omega (arith, ints))))

bits_of : (n bits : ℕ) → (nat_lt 0 bits && nat_lt bits n) ≡ true → (nat_lt 0 (n - 1) && nat_lt (n - 1) n) ≡ true
bits_of n bits e = grind (arith, nat_tests, e)

whole_of : (kind : Kind) (side : Side) → is_side_of kind side ≡ true → is_side_of kind (whole_side kind) ≡ true
whole_of (Int low high) (Span from to) e = span low high from to e
whole_of (Int low high) (Names bits) e = absurd (false≢true e)
whole_of (Dec scale low high) (Span from to) e = span low high from to e
whole_of (Dec scale low high) (Names bits) e = absurd (false≢true e)
whole_of (Cat names) (Span from to) e = absurd (false≢true e)
whole_of (Cat names) (Names bits) e = bits_of (2 ^ length names) bits e

sides_of : (columns : List Column) (sides : List Side) → pointwise (λ (column : Column). is_side_of column.kind) columns sides ≡ true → pointwise (λ (column : Column). is_side_of column.kind) columns (map side_of_column columns) ≡ true
sides_of [] sides e = refl
sides_of (column ∷ columns) [] e = absurd (false≢true e)
sides_of (column ∷ columns) (side ∷ sides) e =
    let both = and_parts (is_side_of column.kind side) (pointwise (λ (c : Column). is_side_of c.kind) columns sides) e in
    and_from (is_side_of column.kind (side_of_column column)) (pointwise (λ (c : Column). is_side_of c.kind) columns (map side_of_column columns))
    (whole_of column.kind side both.0) (sides_of columns sides both.1)

pub whole_too : (schema : Schema) (region : Region) → is_region_of schema region ≡ true → is_region_of schema (whole_region schema) ≡ true
unfolding is_region_of
whole_too schema region e = sides_of schema.columns region.sides e
