-- Extents hold the numbers of their rows, also where they are widened.
use Rattle.std.proofs.Common.{◌≡◌, ℕ, ◌≤◌, ◌||◌, Bool, true, false, cond, ℤ, ◌≤ℤ◌, int_le, int_lt, unsigned_abs, List, [], ◌∷◌, All, map, length, IfSome, IsSomeAnd, refl, arith, mul-zero}
use Rattle.std.specs.Prelude.{fold}
use Rattle.std.specs.Int.{int_min, int_max}
use Rattle.std.specs.List.{list_any}
use Rattle.std.proofs.lemmas.Bool.{or_left, or_right}
use Rattle.std.proofs.lemmas.Int.{ints, clamps, fold-int_max_bounds, fold-int_min_bounds}
use Rattle.std.proofs.lemmas.List.Elements.{All-cons, All-head, All-nil, All-tail}
use Rattle.pc_model.specs.declared.row.Row.{Row}
use Rattle.pc_model.specs.Aggregate.{number_at}
use Rattle.pc_model.proofs.Between.{test_from_le}
use Rattle.pc_desk_history.specs.declared.extent.Extent.{Extent}
use Rattle.pc_desk_history.specs.Periods.{IsBetween, extent_of}
use Rattle.pc_desk_history.specs.Widening.{lowered, part_of, raised}

-- a number from the low to the high end
pub record IsInside (number : ℤ) (extent : Extent) : Type 0 where
  pub low : extent.low ≤ℤ number
  pub high : number ≤ℤ extent.high

All-of_map : {X : Type 0} (P : ℤ → Type 0) (f : X → ℤ) (xs : List X) → All P (map f xs) → All (λ x. P (f x)) xs
All-of_map P f [] all = All-nil (λ x. P (f x))
All-of_map P f (x ∷ xs) all =
    All-cons (λ x. P (f x)) x xs (All-head P (f x) (map f xs) all) (All-of_map P f xs (All-tail P (f x) (map f xs) all))

pub extent_holds : (column : ℕ) (rows : List Row) → All (λ row. IfSome (extent_of column rows) (IsInside (number_at row column))) rows
extent_holds column [] = All-nil (λ row. IfSome (extent_of column []) (IsInside (number_at row column)))
extent_holds column (row ∷ rows) =
    let below = fold-int_min_bounds (f row) (map f rows) least refl in
    let above = fold-int_max_bounds (f row) (map f rows) greatest refl in
    let each_below = All-of_map (λ n. least ≤ℤ n) f rows below.1 in
    let each_above = All-of_map (λ n. n ≤ℤ greatest) f rows above.1 in
    All-cons (λ (other : Row). IsInside (f other) whole) row rows (record { low = below.0; high = above.0 })
    (λ k d inside. record { low = each_below k d inside; high = each_above k d inside })
  where
    f : Row → ℤ
    f other = number_at other column

    least : ℤ
    least = fold int_min (f row) (map f rows)

    greatest : ℤ
    greatest = fold int_max (f row) (map f rows)

    whole : Extent
    whole = record { low = least; high = greatest }

pub lowered_below : (percent : ℕ) (least number other : ℤ) → least ≤ℤ other → number ≤ℤ other → lowered percent least number ≤ℤ other
lowered_below percent least number other low below = omega (arith, ints, clamps, low, below)

pub raised_above : (percent : ℕ) (greatest number other : ℤ) → other ≤ℤ greatest → other ≤ℤ number → other ≤ℤ raised percent greatest number
raised_above percent greatest number other high above = omega (arith, ints, clamps, high, above)

-- ---- ends are numbers of rows

module _ (f : Row → ℤ) where
  least_over : (low first : ℤ) (rows : List Row) → low ≤ℤ first → All (λ row. low ≤ℤ f row) rows → low ≤ℤ fold int_min first (map f rows)
  least_over low first [] before each = before
  least_over low first (row ∷ rows) before each =
      let here = All-head (λ r. low ≤ℤ f r) row rows each in
      least_over low (int_min first (f row)) rows (omega (arith, ints, clamps, before, here)) (All-tail (λ r. low ≤ℤ f r) row rows each)

  greatest_under : (high first : ℤ) (rows : List Row) → first ≤ℤ high → All (λ row. f row ≤ℤ high) rows → fold int_max first (map f rows) ≤ℤ high
  greatest_under high first [] before each = before
  greatest_under high first (row ∷ rows) before each =
      let here = All-head (λ r. f r ≤ℤ high) row rows each in
      greatest_under high (int_max first (f row)) rows (omega (arith, ints, clamps, before, here)) (All-tail (λ r. f r ≤ℤ high) row rows each)

  least_is : (number first : ℤ) (rows : List Row) → fold int_min first (map f rows) ≤ℤ number → (int_le first number || list_any (λ row. int_le (f row) number) rows) ≡ true
  least_is number first [] below = or_left (int_le first number) false (test_from_le first number below)
  least_is number first (row ∷ rows) below = by_test (int_lt (f row) first) (least_is number (int_min first (f row)) rows below)
    where
      rest : Bool
      rest = list_any (λ r. int_le (f r) number) rows

      second : (test : Bool) → (test || rest) ≡ true → (test || (int_le (f row) number || rest)) ≡ true
      second true some = refl
      second false some = or_right (int_le (f row) number) rest some

      by_test : (test : Bool) → (int_le (cond test (f row) first) number || rest) ≡ true → (int_le first number || (int_le (f row) number || rest)) ≡ true
      by_test true some = or_right (int_le first number) (int_le (f row) number || rest) some
      by_test false some = second (int_le first number) some

  greatest_is : (number first : ℤ) (rows : List Row) → number ≤ℤ fold int_max first (map f rows) → (int_le number first || list_any (λ row. int_le number (f row)) rows) ≡ true
  greatest_is number first [] above = or_left (int_le number first) false (test_from_le number first above)
  greatest_is number first (row ∷ rows) above = by_test (int_lt (f row) first) (greatest_is number (int_max first (f row)) rows above)
    where
      rest : Bool
      rest = list_any (λ r. int_le number (f r)) rows

      second : (test : Bool) → (test || rest) ≡ true → (test || (int_le number (f row) || rest)) ≡ true
      second true some = refl
      second false some = or_right (int_le number (f row)) rest some

      by_test : (test : Bool) → (int_le number (cond test first (f row)) || rest) ≡ true → (int_le number first || (int_le number (f row) || rest)) ≡ true
      by_test true some = second (int_le number first) some
      by_test false some = or_right (int_le number first) (int_le number (f row) || rest) some

-- a number within an extent is between the numbers of two rows
pub between_rows : (column : ℕ) (rows : List Row) (number : ℤ) → IfSome (extent_of column rows) (λ extent. IsInside number extent → IsBetween column rows number)
between_rows column [] number = tt
between_rows column (row ∷ rows) number = λ inside. record {
  first = least_is (λ r. number_at r column) number (number_at row column) rows inside.low;
  last = greatest_is (λ r. number_at r column) number (number_at row column) rows inside.high;
}

-- an extent goes no further than what its rows are within
pub record IsWithinEnds (low high : ℤ) (extent : Extent) : Type 0 where
  pub low_end : low ≤ℤ extent.low
  pub high_end : extent.high ≤ℤ high

pub extent_within : (column : ℕ) (rows : List Row) (low high : ℤ) → All (λ row. (low ≤ℤ number_at row column) × (number_at row column ≤ℤ high)) rows → 1 ≤ length rows →
    IsSomeAnd (extent_of column rows) (IsWithinEnds low high)
extent_within column [] low high each some = absurd (omega (arith, some))
extent_within column (row ∷ rows) low high each some =
    let here = All-head (λ r. (low ≤ℤ number_at r column) × (number_at r column ≤ℤ high)) row rows each in
    let later = All-tail (λ r. (low ≤ℤ number_at r column) × (number_at r column ≤ℤ high)) row rows each in
    record {
      low_end = least_over (λ r. number_at r column) low (number_at row column) rows here.0 (λ k d there. (later k d there).0);
      high_end = greatest_under (λ r. number_at r column) high (number_at row column) rows here.1 (λ k d there. (later k d there).1);
    }

-- .. also where it is widened by nothing
pub no_part : (percent size : ℕ) → percent ≡ 0 → part_of percent size ≡ 0
no_part percent size none = rw (none, mul-zero size) refl

pub low_end_kept : (percent : ℕ) (least low number : ℤ) → percent ≡ 0 → low ≤ℤ number → low ≤ℤ lowered percent least number
low_end_kept percent least low number none over = let part = no_part percent (unsigned_abs number) none in omega (arith, ints, clamps, part, over)

pub high_end_kept : (percent : ℕ) (greatest high number : ℤ) → percent ≡ 0 → number ≤ℤ high → raised percent greatest number ≤ℤ high
high_end_kept percent greatest high number none under = let part = no_part percent (unsigned_abs number) none in omega (arith, ints, clamps, part, under)
