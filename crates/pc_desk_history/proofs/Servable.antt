-- The values and the numbers of a draft are those of a constraint of the schema.
use Rattle.std.proofs.Common.{◌≡◌, ℕ, zero, suc, ◌+◌, ◌-◌, ◌*◌, ◌/◌, ◌%◌, ◌<◌, ◌≤◌, min, max, ◌&&◌, int_le, Bool, true, false, ℤ, pos, ◌+ℤ◌, ◌-ℤ◌, ◌≤ℤ◌, unsigned_abs, List, [], ◌∷◌, All, fold, get_or, length, map, Option, Some, None, IfSome, if◌then◌else◌, refl, sym, subst, arith, inl, inr, true≢false}
use Rattle.std.specs.Prelude.{⊤}
use Rattle.std.specs.Int.{int_min, int_max}
use Rattle.std.specs.List.{AllPass, reduce}
use Rattle.std.specs.Cmp.Lexicographic.{pointwise}
use Rattle.std.proofs.lemmas.Bool.{and_from, and_parts}
use Rattle.std.proofs.lemmas.Int.{clamps, ints, fold-int_min_bounds, fold-int_max_bounds, fold-int_min_reached, fold-int_max_reached}
use Rattle.std.proofs.lemmas.List.Elements.{All-contains, All-filter, All-head, All-map, All-tail}
use Rattle.std.proofs.lemmas.List.Sums.{count_by-le-length, length-filter}
use Rattle.pc_model.specs.declared.area.Area.{Area}
use Rattle.pc_model.specs.declared.region.Side.TheVariants.{Span}
use Rattle.pc_model.specs.declared.row.Row.{Row}
use Rattle.pc_model.specs.declared.schema.Column.{Column}
use Rattle.pc_model.specs.declared.schema.Kind.{Kind}
use Rattle.pc_model.specs.declared.schema.Kind.TheVariants.{Int, Dec, Cat}
use Rattle.pc_model.specs.declared.schema.Schema.{Schema}
use Rattle.pc_model.specs.Accepted.{frequency_limit}
use Rattle.pc_model.specs.Aggregate.{number_at}
use Rattle.pc_model.specs.Membership.{allows, in_domain, is_between, is_in}
use Rattle.pc_model.specs.Regions.{is_region_of, is_side_of, is_span_in, whole_side}
use Rattle.pc_model.specs.WellFormed.{IsColumn, IsKind, IsSpan, IsWellFormed}
use Rattle.pc_model.proofs.Between.{between_parts, test_from_le}
use Rattle.pc_model.proofs.Regions.{whole_is_side}
use Rattle.pc_desk_history.specs.declared.extent.Extent.{Extent}
use Rattle.pc_desk_history.specs.declared.numbers.Numbers.{Numbers}
use Rattle.pc_desk_history.specs.declared.wish.Wish.{Wish}
use Rattle.pc_desk_history.specs.Draft.{IsWish, counts_gaps, from_none, is_fixed, numbers_for, numbers_in, numbers_of, numbers_over, numbers_with, or_none, ranged_side, side_of, side_within, sides_from, values_of}
use Rattle.pc_desk_history.specs.Periods.{count_in, extent_from, extent_of, is_of, periods_of, rows_in}
use Rattle.pc_desk_history.specs.Widening.{part_of}

-- ---- the rows of a cell

pub rows_in_domain : (schema : Schema) (cell : Area) (rows : List Row) → AllPass (in_domain schema) rows → AllPass (in_domain schema) (rows_in cell rows)
rows_in_domain schema cell rows inside = All-filter (is_in cell) (λ row. in_domain schema row ≡ true) rows inside

pub rows_in_few : (cell : Area) (rows : List Row) (limit : ℕ) → length rows ≤ limit → length (rows_in cell rows) ≤ limit
rows_in_few cell rows limit few = omega (arith, length-filter (is_in cell) rows, count_by-le-length (is_in cell) rows, few)

-- ---- extents

abbrev IsFrom : ℤ → ℤ → ℤ → Type 0
IsFrom low high number = (low ≤ℤ number) × (number ≤ℤ high)

-- an extent from low to high
abbrev IsExtentIn : ℤ → ℤ → Option Extent → Type 0
IsExtentIn low high None = ⊤
IsExtentIn low high (Some extent) = (low ≤ℤ extent.low) × (extent.low ≤ℤ extent.high) × (extent.high ≤ℤ high)

extent_is : (low high : ℤ) (numbers : List ℤ) → All (IsFrom low high) numbers → IsExtentIn low high (extent_from (reduce int_min numbers) (reduce int_max numbers))
extent_is low high [] all = tt
extent_is low high (number ∷ numbers) all =
    let first = All-head (IsFrom low high) number numbers all in
    let later = All-tail (IsFrom low high) number numbers all in
    let least = (fold-int_min_bounds number numbers (fold int_min number numbers) refl).0 in
    let greatest = (fold-int_max_bounds number numbers (fold int_max number numbers) refl).0 in
    let from : low ≤ℤ fold int_min number numbers = elim (fold-int_min_reached number numbers (fold int_min number numbers) refl) [
      | inl same ↦ rw same first.0
      | inr inside ↦ (All-contains (IsFrom low high) numbers (fold int_min number numbers) later inside).0
    ] in
    let to : fold int_max number numbers ≤ℤ high = elim (fold-int_max_reached number numbers (fold int_max number numbers) refl) [
      | inl same ↦ rw same first.1
      | inr inside ↦ (All-contains (IsFrom low high) numbers (fold int_max number numbers) later inside).1
    ] in
    (from, between least greatest, to)
  where
    between : {a b c : ℤ} → a ≤ℤ b → b ≤ℤ c → a ≤ℤ c
    between least greatest = omega (arith, ints)

-- ---- sides

span_is : (low high from to : ℤ) → low ≤ℤ from → from ≤ℤ to → to ≤ℤ high → is_span_in low high (Span from to) ≡ true
span_is low high from to above ordered below =
    and_from (int_le low from) (int_le from to && int_le to high) (test_from_le low from above)
    (and_from (int_le from to) (int_le to high) (test_from_le from to ordered) (test_from_le to high below))

-- widened as far as may be, and no further than a domain goes
widened_is : (low high from to : ℤ) (less more : ℕ) → low ≤ℤ high → low ≤ℤ from → from ≤ℤ to → to ≤ℤ high →
    is_span_in low high (Span (int_max low (from -ℤ pos less)) (int_min high (to +ℤ pos more))) ≡ true
widened_is low high from to less more some above ordered below =
    span_is low high (int_max low (from -ℤ pos less)) (int_min high (to +ℤ pos more))
    (omega (arith, ints, clamps)) (omega (arith, ints, clamps)) (omega (arith, ints, clamps))

within_is : (percent : ℕ) (low high : ℤ) (extent : Option Extent) → IsSpan low high → IsExtentIn low high extent → is_span_in low high (side_within percent low high extent) ≡ true
within_is percent low high None span is = whole_is_side (Int low high) span
within_is percent low high (Some extent) span is =
    widened_is low high extent.low extent.high (part_of percent (unsigned_abs extent.low)) (part_of percent (unsigned_abs extent.high)) span.ordered is.0 is.1 is.2

spanned_is : (percent column : ℕ) (inside : List Row) (low high : ℤ) → IsSpan low high → All (λ row. is_between low high (number_at row column) ≡ true) inside →
    is_span_in low high (side_within percent low high (extent_of column inside)) ≡ true
spanned_is percent column inside low high span all =
    within_is percent low high (extent_of column inside) span
    (extent_is low high (map (λ (row : Row). number_at row column) inside)
    (All-map (IsFrom low high) (λ (row : Row). number_at row column) inside
    (λ k d here. between_parts low high (number_at (get_or inside k d) column) (all k d here))))

ranged_is : (percent column : ℕ) (inside : List Row) (kind : Kind) → IsKind kind → All (λ row. allows kind (number_at row column) ≡ true) inside →
    is_side_of kind (ranged_side percent kind (extent_of column inside)) ≡ true
unfolding allows
ranged_is percent column inside (Int low high) is all = spanned_is percent column inside low high is all
ranged_is percent column inside (Dec scale low high) is all = spanned_is percent column inside low high is.1 all
ranged_is percent column inside (Cat names) is all = whole_is_side (Cat names) is

side_is : (wish : Wish) (inside : List Row) (column : ℕ) (kind : Kind) → IsKind kind → All (λ row. allows kind (number_at row column) ≡ true) inside →
    is_side_of kind (side_of wish inside column kind) ≡ true
side_is wish inside column kind is all = by_test (is_fixed wish column)
  where
    by_test : (test : Bool) → is_side_of kind (if test then whole_side kind else ranged_side wish.widen kind (extent_of column inside)) ≡ true
    by_test true = whole_is_side kind is
    by_test false = ranged_is wish.widen column inside kind is all

sides_are : (wish : Wish) (inside : List Row) (place : ℕ) (columns : List Column) → All IsColumn columns →
    ((k : ℕ) (d : Column) → k < length columns → All (λ row. allows (get_or columns k d).kind (number_at row (place + k)) ≡ true) inside) →
    pointwise (λ (column : Column). is_side_of column.kind) columns (sides_from wish inside place columns) ≡ true
unfolding sides_from
sides_are wish inside place [] are each = refl
sides_are wish inside place (c ∷ columns) are each =
    let here : place + 0 ≡ place = omega arith in
    and_from (is_side_of c.kind (side_of wish inside place c.kind)) (pointwise (λ (column : Column). is_side_of column.kind) columns (sides_from wish inside (place + 1) columns))
    (side_is wish inside place c.kind (All-head IsColumn c columns are).kind
    (subst (λ (n : ℕ). All (λ row. allows c.kind (number_at row n) ≡ true) inside) here (each 0 c (omega arith))))
    (sides_are wish inside (place + 1) columns (All-tail IsColumn c columns are)
    (λ k d there. let next : place + suc k ≡ place + 1 + k = omega arith in
    subst (λ (n : ℕ). All (λ row. allows (get_or columns k d).kind (number_at row n) ≡ true) inside) next (each (suc k) d (omega arith))))

-- a row of the domain has a number of each column
allowed_at : (columns : List Column) (cells : List ℤ) (k : ℕ) (d : Column) → pointwise (λ (column : Column). allows column.kind) columns cells ≡ true → k < length columns →
    allows (get_or columns k d).kind (get_or cells k (pos 0)) ≡ true
allowed_at [] cells k d passed here = absurd (omega arith)
allowed_at (c ∷ columns) [] k d passed here = absurd (true≢false (sym passed))
allowed_at (c ∷ columns) (number ∷ cells) zero d passed here =
    (and_parts (allows c.kind number) (pointwise (λ (column : Column). allows column.kind) columns cells) passed).0
allowed_at (c ∷ columns) (number ∷ cells) (suc k) d passed here =
    allowed_at columns cells k d (and_parts (allows c.kind number) (pointwise (λ (column : Column). allows column.kind) columns cells) passed).1 (omega arith)

pub values_are : (schema : Schema) (wish : Wish) (inside : List Row) → IsWellFormed schema → AllPass (in_domain schema) inside →
    is_region_of schema (values_of schema wish inside) ≡ true
unfolding is_region_of in_domain
values_are schema wish inside formed all =
    sides_are wish inside 0 schema.columns formed.columns.all
    (λ k d here i e there. let from : 0 + k ≡ k = omega arith in
    subst (λ (n : ℕ). allows (get_or schema.columns k d).kind (number_at (get_or inside i e) n) ≡ true) (sym from)
    (allowed_at schema.columns (get_or inside i e).cells k d (all i e there) here))

-- ---- numbers

-- from a least to a most, of rows that a constraint may allow
record AreOrdered (numbers : Numbers) : Type 0 where
  ordered : numbers.least ≤ numbers.most
  few : numbers.most ≤ frequency_limit

shared_are : (lost share rest : ℕ) → lost ≤ frequency_limit → AreOrdered (record { least = min lost share; most = min lost (share + rest) })
shared_are lost share rest few = record { ordered = omega arith; few = omega arith }

for_are : (lost : Option ℕ) (count total : ℕ) → count ≤ frequency_limit → IfSome lost (λ (most : ℕ). most ≤ frequency_limit) → AreOrdered (numbers_for lost count total)
for_are None count total few small = record { ordered = omega arith; few = few }
for_are (Some lost) count total few small = shared_are lost ((lost * count) / max 1 total) (min 1 ((lost * count) % max 1 total)) small

both_are : (before after : Numbers) → AreOrdered before → AreOrdered after →
    AreOrdered (record { least = min before.least after.least; most = max before.most after.most })
both_are before after first second =
    let a = first.ordered in
    let b = first.few in
    let c = second.few in
    record { ordered = omega arith; few = omega arith }

with_are : (before : Option Numbers) (numbers : Numbers) → IfSome before AreOrdered → AreOrdered numbers → IfSome (numbers_with before numbers) AreOrdered
with_are None numbers are is = is
with_are (Some before) numbers are is = both_are before numbers are is

over_are : (wish : Wish) (chosen inside : List Row) (periods : List ℤ) (before : Option Numbers) → length inside ≤ frequency_limit →
    IfSome wish.lost (λ (most : ℕ). most ≤ frequency_limit) → IfSome before AreOrdered →
    IfSome (fold (λ (b : Option Numbers) (period : ℤ). numbers_with b (numbers_in wish chosen inside period)) before periods) AreOrdered
over_are wish chosen inside [] before few small are = are
over_are wish chosen inside (period ∷ periods) before few small are =
    let counted : count_in wish.per inside period ≤ frequency_limit = omega (arith, count_by-le-length (is_of wish.per period) inside, few) in
    over_are wish chosen inside periods (numbers_with before (numbers_in wish chosen inside period)) few small
    (with_are before (numbers_in wish chosen inside period) are
    (for_are wish.lost (count_in wish.per inside period) (count_in wish.per chosen period) counted small))

or_none_are : (numbers : Option Numbers) → IfSome numbers AreOrdered → AreOrdered (or_none numbers)
or_none_are None are = record { ordered = omega arith; few = omega arith }
or_none_are (Some numbers) are = are

from_none_are : (gapped : Bool) (numbers : Numbers) → AreOrdered numbers → AreOrdered (from_none gapped numbers)
from_none_are true numbers are = record { ordered = omega arith; few = are.few }
from_none_are false numbers are = are

widened_are : (least most less more : ℕ) → least ≤ most → most ≤ frequency_limit → AreOrdered (record { least = least - less; most = min frequency_limit (most + more) })
widened_are least most less more ordered few = record { ordered = omega arith; few = omega arith }

numbers_are : (schema : Schema) (wish : Wish) (chosen inside : List Row) → IsWish schema wish → length inside ≤ frequency_limit → AreOrdered (numbers_of schema wish chosen inside)
numbers_are schema wish chosen inside is few =
    let over = numbers_over wish chosen inside (periods_of wish.per chosen) in
    let before = from_none (counts_gaps schema wish chosen) (or_none over) in
    let are = from_none_are (counts_gaps schema wish chosen) (or_none over) (or_none_are over (over_are wish chosen inside (periods_of wish.per chosen) None few is.lost tt)) in
    widened_are before.least before.most (part_of wish.widen before.least) (part_of wish.widen before.most) are.ordered are.few

pub numbers_ordered : (schema : Schema) (wish : Wish) (chosen inside : List Row) → IsWish schema wish → length inside ≤ frequency_limit →
    (numbers_of schema wish chosen inside).least ≤ (numbers_of schema wish chosen inside).most
numbers_ordered schema wish chosen inside is few = (numbers_are schema wish chosen inside is few).ordered

pub numbers_few : (schema : Schema) (wish : Wish) (chosen inside : List Row) → IsWish schema wish → length inside ≤ frequency_limit →
    (numbers_of schema wish chosen inside).most ≤ frequency_limit
numbers_few schema wish chosen inside is few = (numbers_are schema wish chosen inside is few).few
