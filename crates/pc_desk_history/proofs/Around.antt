-- The numbers that are drafted are around those of each past period.
use Rattle.std.proofs.Common.{◌≡◌, ◌∙◌, ℕ, ◌≤◌, ◌⊎◌, Bool, true, false, ℤ, pos, ◌≤ℤ◌, ◌-ℤ◌, int_le, ◌||◌, List, [], ◌∷◌, All, length, Option, Some, None, IfSome, IsSomeAnd, slice_get, refl, sym, subst, arith, true≢false, inl, inr}
use Rattle.std.specs.Ordering.{int_eq}
use Rattle.std.specs.Prelude.{fold}
use Rattle.std.specs.List.{list_any}
use Rattle.std.proofs.lemmas.Bool.Decides.{Decides-int_eq}
use Rattle.std.proofs.lemmas.Int.{ints}
use Rattle.std.proofs.lemmas.List.Folds.{Any-from_list_any}
use Rattle.pc_model.specs.declared.row.Row.{Row}
use Rattle.pc_model.specs.declared.schema.Kind.{Kind}
use Rattle.pc_model.specs.declared.schema.Kind.TheVariants.{Int, Dec, Cat}
use Rattle.pc_model.specs.declared.schema.Column.{Column}
use Rattle.pc_model.specs.declared.schema.Schema.{Schema}
use Rattle.pc_model.specs.Accepted.{frequency_limit}
use Rattle.pc_model.specs.Aggregate.{number_at}
use Rattle.pc_model.proofs.Between.{le_from_test, test_from_le}
use Rattle.pc_desk_history.specs.declared.numbers.Numbers.{Numbers}
use Rattle.pc_desk_history.specs.declared.extent.Extent.{Extent}
use Rattle.pc_desk_history.specs.declared.wish.Wish.{Wish}
use Rattle.pc_desk_history.specs.Draft.{counts_gaps, from_none, numbers_for, numbers_of, numbers_over, numbers_with, or_none}
use Rattle.pc_desk_history.specs.Periods.{count_in, extent_of, has_gap, has_gap_in, IsBetween, IsPeriod, IsPeriodFor, IsPeriodOf, is_gapped, is_of, is_wider, periods_of}
use Rattle.pc_desk_history.specs.Widening.{widened_numbers}
use Rattle.pc_desk_history.proofs.Extents.{IsInside, extent_holds}
use Rattle.pc_desk_history.proofs.Gaps.{all_periods, fewer_than_wide, is_listed_of, is_unlisted_of, periods_distinct}

pub record IsAround (count : ℕ) (numbers : Numbers) : Type 0 where
  pub least : numbers.least ≤ count
  pub most : count ≤ numbers.most

-- ---- over periods

with_around : (count : ℕ) (before : Option Numbers) (numbers : Numbers) → IsSomeAnd before (IsAround count) → IsSomeAnd (numbers_with before numbers) (IsAround count)
with_around count None numbers around = absurd around
with_around count (Some before) numbers around = record { least = let l = around.least in omega (arith, l); most = let m = around.most in omega (arith, m) }

with_itself : (count : ℕ) (before : Option Numbers) → IsSomeAnd (numbers_with before (record { least = count; most = count })) (IsAround count)
with_itself count None = record { least = omega arith; most = omega arith }
with_itself count (Some before) = record { least = omega arith; most = omega arith }

module _ (f g : ℤ → ℕ) where
  abbrev pub with_one_more : Option ℕ → Option Numbers → ℤ → Option Numbers
  with_one_more lost before period = numbers_with before (numbers_for lost (f period) (g period))

  over_around : (count : ℕ) (before : Option Numbers) (periods : List ℤ) → IsSomeAnd before (IsAround count) → IsSomeAnd (fold (with_one_more None) before periods) (IsAround count)
  over_around count before [] around = around
  over_around count before (period ∷ periods) around =
      over_around count (with_one_more None before period) periods (with_around count before (numbers_for None (f period) (g period)) around)

  over_listed : (before : Option Numbers) (periods : List ℤ) (period : ℤ) → list_any (int_eq period) periods ≡ true → IsSomeAnd (fold (with_one_more None) before periods) (IsAround (f period))
  over_listed before [] period listed = absurd (true≢false (sym listed))
  over_listed before (other ∷ periods) period listed = by_test (int_eq period other) refl listed (over_listed (with_one_more None before other) periods period)
    where
      by_test : (test : Bool) → int_eq period other ≡ test → (test || list_any (int_eq period) periods) ≡ true →
          (list_any (int_eq period) periods ≡ true → IsSomeAnd (fold (with_one_more None) (with_one_more None before other) periods) (IsAround (f period))) →
          IsSomeAnd (fold (with_one_more None) (with_one_more None before other) periods) (IsAround (f period))
      by_test true e listed later =
          let same : period ≡ other = (Decides-int_eq period other).0 e in
          over_around (f period) (with_one_more None before other) periods (subst (λ p. IsSomeAnd (with_one_more None before other) (IsAround (f p))) (sym same) (with_itself (f other) before))
      by_test false e listed later = later listed

  pub over_known : (lost : Option ℕ) (periods : List ℤ) (period : ℤ) → lost ≡ None → list_any (int_eq period) periods ≡ true → IsSomeAnd (fold (with_one_more lost) None periods) (IsAround (f period))
  over_known lost periods period none listed =
      subst (λ l. IsSomeAnd (fold (with_one_more l) None periods) (IsAround (f period))) (sym none) (over_listed None periods period listed)

-- ---- numbers made from these

some_around : (count : ℕ) (numbers : Option Numbers) → IsSomeAnd numbers (IsAround count) → IsAround count (or_none numbers)
some_around count None around = absurd around
some_around count (Some numbers) around = around

from_none_around : (count : ℕ) (gapped : Bool) (numbers : Numbers) → IsAround count numbers → IsAround count (from_none gapped numbers)
from_none_around count true numbers around = record { least = omega arith; most = around.most }
from_none_around count false numbers around = around

none_around : (gapped : Bool) (numbers : Numbers) → gapped ≡ true → IsAround 0 (from_none gapped numbers)
none_around true numbers e = record { least = omega arith; most = omega arith }
none_around false numbers e = absurd (true≢false (sym e))

zero_around : (gapped : Bool) → IsAround 0 (from_none gapped (or_none None))
zero_around true = record { least = omega arith; most = omega arith }
zero_around false = record { least = omega arith; most = omega arith }

widened_around : (percent count : ℕ) (numbers : Numbers) → count ≤ frequency_limit → IsAround count numbers → IsAround count (widened_numbers percent numbers)
widened_around percent count numbers few around = record { least = let l = around.least in omega (arith, l); most = let m = around.most in omega (arith, m, few) }

-- ---- periods without rows

module _ (column : ℕ) (period : ℤ) where
  wide_from : (extent : Extent) (rows : List Row) → All (λ row. IsInside (number_at row column) extent) rows → IsBetween column rows period →
      list_any (int_eq period) (periods_of (Some column) rows) ≡ false → is_wider (length (periods_of (Some column) rows)) (Some extent) ≡ true
  wide_from extent rows inside between unlisted =
      let first = Any-from_list_any (λ (row : Row). int_le (number_at row column) period) rows between.first in
      let last = Any-from_list_any (λ (row : Row). int_le period (number_at row column)) rows between.last in
      let before = subst (λ (row : Row). IsInside (number_at row column) extent) first.3 (inside first.0 first.1 first.2) in
      let after = subst (λ (row : Row). IsInside (number_at row column) extent) last.3 (inside last.0 last.1 last.2) in
      let from_first = le_from_test (number_at first.1 column) period first.4 in
      let to_last = le_from_test period (number_at last.1 column) last.4 in
      let low = before.low in
      let high = after.high in
      let each = all_periods (Some column) (λ p. (extent.low ≤ℤ p) × (p ≤ℤ extent.high)) rows (λ k d there. let held = inside k d there in (held.low, held.high)) in
      test_from_le (pos (length (periods_of (Some column) rows))) (extent.high -ℤ extent.low)
      (fewer_than_wide extent.low extent.high period (periods_of (Some column) rows) (periods_distinct (Some column) rows) each (omega (arith, ints, low, from_first)) (omega (arith, ints, high, to_last)) unlisted)

  wide_between : (rows : List Row) → IsBetween column rows period → list_any (int_eq period) (periods_of (Some column) rows) ≡ false →
      is_wider (length (periods_of (Some column) rows)) (extent_of column rows) ≡ true
  wide_between [] between unlisted = absurd (true≢false (sym between.first))
  wide_between (row ∷ rows) between unlisted = by_extent (extent_of column (row ∷ rows)) (λ e. cc) (extent_holds column (row ∷ rows))
    where
      by_extent : (extent : Option Extent) → (extent ≡ None → ⊥) → All (λ other. IfSome extent (IsInside (number_at other column))) (row ∷ rows) →
          is_wider (length (periods_of (Some column) (row ∷ rows))) extent ≡ true
      by_extent None some inside = absurd (some refl)
      by_extent (Some extent) some inside = wide_from extent (row ∷ rows) inside between unlisted

  gap_for : (rows : List Row) (kind : Kind) → IsPeriodFor column rows period kind → list_any (int_eq period) (periods_of (Some column) rows) ≡ false → has_gap column rows kind ≡ true
  gap_for rows (Int low high) between unlisted = wide_between rows between unlisted
  gap_for rows (Dec scale low high) between unlisted = wide_between rows between unlisted
  gap_for rows (Cat names) some unlisted = absurd (true≢false (sym (is_listed_of (Some column) rows period some) ∙ unlisted))

  gap_in : (rows : List Row) (named : Option Column) → IsPeriodOf column rows period named → list_any (int_eq period) (periods_of (Some column) rows) ≡ false → has_gap_in column rows named ≡ true
  gap_in rows None none unlisted = absurd none
  gap_in rows (Some c) is unlisted = gap_for rows c.kind is unlisted

one_period : (rows : List Row) → list_any (int_eq (pos 0)) (periods_of None rows) ≡ false → rows ≡ []
one_period [] unlisted = refl
one_period (row ∷ rows) unlisted = absurd (true≢false (sym (is_listed_of None (row ∷ rows) (pos 0) refl) ∙ unlisted))

-- a period that no row has is a gap, or there are no rows
unlisted_gap : (schema : Schema) (per : Option ℕ) (rows : List Row) (period : ℤ) → IsPeriod schema per rows period → list_any (int_eq period) (periods_of per rows) ≡ false →
    (is_gapped schema per rows ≡ true) ⊎ (rows ≡ [])
unlisted_gap schema None rows period is unlisted = inr (one_period rows (subst (λ p. list_any (int_eq p) (periods_of None rows) ≡ false) is unlisted))
unlisted_gap schema (Some column) rows period is unlisted = inl (gap_in column period rows (slice_get schema.columns column) is unlisted)

-- ---- the numbers of a cell

module _ (schema : Schema) (wish : Wish) (chosen inside : List Row) (period : ℤ) (known : wish.lost ≡ None) where
  abbrev before_widening : List Row → Numbers
  before_widening rows = from_none (counts_gaps schema wish rows) (or_none (numbers_over wish rows inside (periods_of wish.per rows)))

  unlisted_around : ((is_gapped schema wish.per chosen ≡ true) ⊎ (chosen ≡ [])) → IsAround 0 (before_widening chosen)
  unlisted_around (inl gapped) =
      none_around (counts_gaps schema wish chosen) (or_none (numbers_over wish chosen inside (periods_of wish.per chosen))) (rw (known, gapped) refl)
  unlisted_around (inr none) = subst (λ rows. IsAround 0 (before_widening rows)) (sym none) (zero_around (counts_gaps schema wish []))

  -- a period that no chosen row has has none of the cell
  pub numbers_around : IsPeriod schema wish.per chosen period → count_in wish.per inside period ≤ frequency_limit →
      (list_any (is_of wish.per period) chosen ≡ false → count_in wish.per inside period ≡ 0) →
      IsAround (count_in wish.per inside period) (numbers_of schema wish chosen inside)
  numbers_around is few none =
      widened_around wish.widen (count_in wish.per inside period) (before_widening chosen) few (by_test (list_any (int_eq period) (periods_of wish.per chosen)) refl)
    where
      by_test : (test : Bool) → list_any (int_eq period) (periods_of wish.per chosen) ≡ test → IsAround (count_in wish.per inside period) (before_widening chosen)
      by_test true e =
          from_none_around (count_in wish.per inside period) (counts_gaps schema wish chosen) (or_none (numbers_over wish chosen inside (periods_of wish.per chosen)))
          (some_around (count_in wish.per inside period) (numbers_over wish chosen inside (periods_of wish.per chosen))
          (over_known (count_in wish.per inside) (count_in wish.per chosen) wish.lost (periods_of wish.per chosen) period known e))
      by_test false e =
          subst (λ (count : ℕ). IsAround count (before_widening chosen)) (sym (none (is_unlisted_of wish.per chosen period e)))
          (unlisted_around (unlisted_gap schema wish.per chosen period is e))
