-- Where there is a gap, some period has no row; and what each row has is a period.
use Rattle.std.proofs.Common.{◌≡◌, ◌∙◌, ℕ, zero, suc, ◌+◌, ◌<◌, ◌||◌, ◌⊎◌, inl, inr, Bool, true, false, ℤ, pos, nat_abs, ◌≤ℤ◌, ◌+ℤ◌, ◌-ℤ◌, int_le, List, [], ◌∷◌, All, map, length, get_or, Option, Some, None, IfSome, slice_get, refl, sym, ap, arith, eqb, true≢false}
use Rattle.std.specs.Ordering.{int_eq}
use Rattle.std.specs.List.{list_any}
use Rattle.std.proofs.lemmas.Bool.{cases_order, eq-eqb, or_left, or_right}
use Rattle.std.proofs.lemmas.Bool.Decides.{Decides-int_eq}
use Rattle.std.proofs.lemmas.Int.{ints}
use Rattle.std.proofs.lemmas.List.{length-map}
use Rattle.std.proofs.lemmas.List.Folds.{list_any_at}
use Rattle.std.proofs.lemmas.Map.Steps.{le-length_from_below}
use Rattle.pc_model.specs.declared.row.Row.{Row}
use Rattle.pc_model.specs.declared.schema.Kind.{Kind}
use Rattle.pc_model.specs.declared.schema.Kind.TheVariants.{Int, Dec, Cat}
use Rattle.pc_model.specs.declared.schema.Column.{Column}
use Rattle.pc_model.specs.declared.schema.Schema.{Schema}
use Rattle.pc_model.specs.Aggregate.{number_at}
use Rattle.pc_model.proofs.Between.{le_from_test, test_from_le}
use Rattle.pc_desk_history.specs.declared.extent.Extent.{Extent}
use Rattle.pc_desk_history.specs.Draft.{IsColumnIn}
use Rattle.pc_desk_history.specs.Periods.{IsBetween, IsPeriod, IsPeriodFor, IsPeriodOf, extent_of, has_gap, has_gap_in, is_gapped, is_of, is_wider, period_of, periods_of}
use Rattle.pc_desk_history.proofs.Extents.{IsInside, between_rows}

-- ---- a number that is not listed

-- a test passes at each number below a limit, or not at one
passes_or_not : (test : ℕ → Bool) (limit : ℕ) → ((n : ℕ) → n < limit → test n ≡ true) ⊎ ((n : ℕ) × (n < limit) × (test n ≡ false))
passes_or_not test zero = inl (λ n below. absurd (omega (arith, below)))
passes_or_not test (suc limit) = by_last (test limit) refl (passes_or_not test limit)
  where
    by_last : (last : Bool) → test limit ≡ last → ((n : ℕ) → n < limit → test n ≡ true) ⊎ ((n : ℕ) × (n < limit) × (test n ≡ false)) →
        ((n : ℕ) → n < suc limit → test n ≡ true) ⊎ ((n : ℕ) × (n < suc limit) × (test n ≡ false))
    by_last last e (inr found) = let below = found.1 in inr (found.0, omega (arith, below), found.2)
    by_last false e (inl each) = inr (limit, omega arith, e)
    by_last true e (inl each) = inl (λ n below. by_order n below (cases_order n limit))
      where
        by_order : (n : ℕ) → n < suc limit → (n ≡ limit) ⊎ ((n < limit) ⊎ (limit < n)) → test n ≡ true
        by_order n below (inl same) = ap test same ∙ e
        by_order n below (inr (inl less)) = each n less
        by_order n below (inr (inr more)) = absurd (omega (arith, below, more))

module _ (low : ℤ) where
  listed_offset : (periods : List ℤ) (n : ℕ) → list_any (int_eq (low +ℤ pos n)) periods ≡ true → list_any (eqb n) (map (λ period. nat_abs (period -ℤ low)) periods) ≡ true
  listed_offset [] n listed = listed
  listed_offset (period ∷ periods) n listed = by_test (int_eq (low +ℤ pos n) period) refl listed (listed_offset periods n)
    where
      rest : Bool
      rest = list_any (eqb n) (map (λ p. nat_abs (p -ℤ low)) periods)

      by_test : (test : Bool) → int_eq (low +ℤ pos n) period ≡ test → (test || list_any (int_eq (low +ℤ pos n)) periods) ≡ true →
          (list_any (int_eq (low +ℤ pos n)) periods ≡ true → rest ≡ true) → (eqb n (nat_abs (period -ℤ low)) || rest) ≡ true
      by_test true e listed later =
          let same : low +ℤ pos n ≡ period = (Decides-int_eq (low +ℤ pos n) period).0 e in
          let is : n ≡ nat_abs (period -ℤ low) = omega (arith, ints, same) in
          or_left (eqb n (nat_abs (period -ℤ low))) rest (eq-eqb n (nat_abs (period -ℤ low)) is)
      by_test false e listed later = or_right (eqb n (nat_abs (period -ℤ low))) rest (later listed)

  -- fewer than there are numbers from low to high leave one out
  one_left_out : (high : ℤ) (periods : List ℤ) → pos (length periods) ≤ℤ (high -ℤ low) → (period : ℤ) × (low ≤ℤ period) × (period ≤ℤ high) × (list_any (int_eq period) periods ≡ false)
  one_left_out high periods fewer = by_numbers (passes_or_not (λ n. list_any (int_eq (low +ℤ pos n)) periods) (nat_abs (high -ℤ low) + 1))
    where
      by_numbers : ((n : ℕ) → n < nat_abs (high -ℤ low) + 1 → list_any (int_eq (low +ℤ pos n)) periods ≡ true) ⊎ ((n : ℕ) × (n < nat_abs (high -ℤ low) + 1) × (list_any (int_eq (low +ℤ pos n)) periods ≡ false)) →
          (period : ℤ) × (low ≤ℤ period) × (period ≤ℤ high) × (list_any (int_eq period) periods ≡ false)
      by_numbers (inl each) =
          let enough = le-length_from_below (map (λ p. nat_abs (p -ℤ low)) periods) (nat_abs (high -ℤ low) + 1) (λ n below. listed_offset periods n (each n below)) in
          let long = length-map periods (λ p. nat_abs (p -ℤ low)) in
          absurd (omega (arith, ints, enough, long, fewer))
      by_numbers (inr found) = let below = found.1 in (low +ℤ pos found.0, omega (arith, ints), omega (arith, ints, below, fewer), found.2)

-- ---- a period that is not listed

abbrev HasUnlisted : Schema → Option ℕ → List Row → Type 0
HasUnlisted schema per rows = (period : ℤ) × IsPeriod schema per rows period × (list_any (int_eq period) (periods_of per rows) ≡ false)

module _ (column : ℕ) (rows : List Row) where
  between_unlisted : is_wider (length (periods_of (Some column) rows)) (extent_of column rows) ≡ true → (period : ℤ) × IsBetween column rows period × (list_any (int_eq period) (periods_of (Some column) rows) ≡ false)
  between_unlisted wider = by_extent (extent_of column rows) wider (between_rows column rows)
    where
      by_extent : (extent : Option Extent) → is_wider (length (periods_of (Some column) rows)) extent ≡ true → ((number : ℤ) → IfSome extent (λ ends. IsInside number ends → IsBetween column rows number)) →
          (period : ℤ) × IsBetween column rows period × (list_any (int_eq period) (periods_of (Some column) rows) ≡ false)
      by_extent None wider between = absurd (true≢false (sym wider))
      by_extent (Some extent) wider between =
          let out = one_left_out extent.low extent.high (periods_of (Some column) rows) (le_from_test (pos (length (periods_of (Some column) rows))) (extent.high -ℤ extent.low) wider) in
          (out.0, between out.0 (record { low = out.1; high = out.2 }), out.3)

  unlisted_for : (kind : Kind) → has_gap column rows kind ≡ true → (period : ℤ) × IsPeriodFor column rows period kind × (list_any (int_eq period) (periods_of (Some column) rows) ≡ false)
  unlisted_for (Int low high) gap = between_unlisted gap
  unlisted_for (Dec scale low high) gap = between_unlisted gap
  unlisted_for (Cat names) gap = absurd (true≢false (sym gap))

  unlisted_in : (named : Option Column) → has_gap_in column rows named ≡ true → (period : ℤ) × IsPeriodOf column rows period named × (list_any (int_eq period) (periods_of (Some column) rows) ≡ false)
  unlisted_in None gap = absurd (true≢false (sym gap))
  unlisted_in (Some c) gap = unlisted_for c.kind gap

pub has_unlisted : (schema : Schema) (per : Option ℕ) (rows : List Row) → is_gapped schema per rows ≡ true → HasUnlisted schema per rows
has_unlisted schema None rows gap = absurd (true≢false (sym gap))
has_unlisted schema (Some column) rows gap = unlisted_in column rows (slice_get schema.columns column) gap

-- ---- what rows have

module _ (column : ℕ) (rows : List Row) where
  between_itself : All (λ row. IsBetween column rows (number_at row column)) rows
  between_itself k d there =
      let number = number_at (get_or rows k d) column in
      let same = test_from_le number number (omega (arith, ints)) in
      record {
        first = list_any_at (λ (row : Row). int_le (number_at row column) number) rows k d there same;
        last = list_any_at (λ (row : Row). int_le number (number_at row column)) rows k d there same;
      }

  each_for : (kind : Kind) → All (λ row. IsPeriodFor column rows (number_at row column) kind) rows
  each_for (Int low high) = between_itself
  each_for (Dec scale low high) = between_itself
  each_for (Cat names) = λ k d there.
      let number = number_at (get_or rows k d) column in
      list_any_at (is_of (Some column) number) rows k d there ((Decides-int_eq number number).1 refl)

is_there : {X : Type 0} (xs : List X) (place : ℕ) → place < length xs → slice_get xs place ≡ None → ⊥
is_there [] place inside none = omega (arith, inside)
is_there (x ∷ xs) zero inside none = cc
is_there (x ∷ xs) (suc place) inside none = is_there xs place (omega (arith, inside)) none

-- the period of each row is one
pub each_is_period : (schema : Schema) (per : Option ℕ) (rows : List Row) → IsColumnIn schema per → All (λ row. IsPeriod schema per rows (period_of per row)) rows
each_is_period schema None rows there = λ k d inside. refl
each_is_period schema (Some column) rows there = by_named (slice_get schema.columns column) (is_there schema.columns column there)
  where
    by_named : (named : Option Column) → (named ≡ None → ⊥) → All (λ row. IsPeriodOf column rows (number_at row column) named) rows
    by_named None present = absurd (present refl)
    by_named (Some c) present = each_for column rows c.kind
