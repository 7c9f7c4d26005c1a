-- The sizes of what short rows spell: each number of a step over them fits.
use Rattle.std.proofs.Common.{◌≡◌, ℕ, zero, suc, ◌*◌, ◌^◌, ◌<◌, ◌≤◌, Bool, true, false, cond, ◌&&◌, ◌||◌, List, [], ◌∷◌, length, All, refl, arith, slice_index_or, Option, Some, None}
use Rattle.std.specs.Prelude.{ℤ, pos, ◌+ℤ◌, ◌-ℤ◌, ◌*ℤ◌, nat_abs, int_lt}
use Rattle.std.specs.List.{list_all}
use Rattle.std.proofs.lemmas.Int.{ints}
use Rattle.std.proofs.lemmas.Bool.{lt-ltb}
use Rattle.std.proofs.lemmas.Nat.{mul-le}
use Rattle.std.proofs.lemmas.List.Elements.{All-map, All-push, All-weaker}
use Rattle.pc_program_bound.specs.Sums.{int_at}
use Rattle.pc_program_bound.specs.Bound.{IsFit}
use Rattle.pc_simplex_tableau.specs.Numbers.{table, is_zero, does_fit, does_combined_fit}
use Rattle.pc_simplex_tableau.specs.Tableau.{TableauRow, Tableau, Columns, range_of, value_of, no_row, row_at, does_turned_fit, does_freed_aim_fit, does_freed_row_fit, do_freed_rows_fit, does_pivoted_fit, does_limit_fit}
use Rattle.pc_simplex_tableau.specs.Conditions.{IsSizedRow, IsSized, IsFitRow, AreFitNumbers, does_turned_row_fit}
use Rattle.pc_simplex_tableau.proofs.Tables.{All-table}
use Rattle.pc_simplex_short.specs.Short.{ShortSetting, mix, places_of, entry, spelled_numbers, spelled_row, aim_entry, spelled_aim, spelled}
use Rattle.pc_simplex_short.specs.Kept.{IsWithin, IsSetting, IsShortRow, IsShortAim, IsShort}
use Rattle.pc_simplex_short.proofs.Mixing.{size_of_signed}
use Rattle.pc_simplex_short.proofs.Sizes.{size_of_product-le, size_of_sum}
use Rattle.pc_simplex_short.proofs.Spelled.{length-spelled, length-aim, row_at-spelled}

-- ---- the sum at some places

-- also at a place past the end, where 0 is read
pub at_small : (b : ℕ) (numbers : List ℤ) → All (IsWithin b) numbers → (j : ℕ) → nat_abs (int_at numbers j) ≤ 2 ^ b
at_small b [] small j = omega arith
at_small b (x ∷ numbers) small zero = small 0 (pos 0) (omega arith)
at_small b (x ∷ numbers) small (suc j) = at_small b numbers (λ i d lt. small (suc i) d (omega (arith, lt))) j

mix_size : (m : ℕ) (places : List ℕ) (numbers : List ℤ) → ((j : ℕ) → nat_abs (int_at numbers j) ≤ m)
    → nat_abs (mix places numbers) ≤ length places * m
unfolding mix
mix_size m [] numbers each = omega arith
mix_size m (j ∷ places) numbers each =
    let rest = mix_size m places numbers each in
    let first = each j in
    omega (arith, ints, rest, first)

few_at : (f : ShortSetting) (k : ℕ) → IsSetting f → k < f.columns.count → length (places_of f k) ≤ 32
few_at f k h lt = (h.places k [] (omega (arith, h.listed, lt))).few

pub entry_small : (f : ShortSetting) (turned : List Bool) (numbers : List ℤ) (k : ℕ) → IsSetting f → k < f.columns.count → All (IsWithin 50) numbers
    → IsWithin 55 (entry f turned numbers k)
entry_small f turned numbers k h lt small =
    let sum = mix_size (2 ^ 50) (places_of f k) numbers (at_small 50 numbers small) in
    let few = few_at f k h lt in
    let size = size_of_signed (slice_index_or turned k false) (mix (places_of f k) numbers) in
    rw size (omega (arith, sum, few))

pub aim_entry_small : (f : ShortSetting) (turned : List Bool) (weight : ℤ) (aim : List ℤ) (k : ℕ) → IsSetting f → k < f.columns.count
    → IsShortAim f weight aim → IsWithin 70 (aim_entry f turned weight aim k)
aim_entry_small f turned weight aim k h lt a =
    let sum = mix_size (2 ^ 64) (places_of f k) aim (at_small 64 aim a.small) in
    let few = few_at f k h lt in
    let gain : nat_abs (int_at f.gains k) ≤ f.top = h.top k (pos 0) (omega (arith, h.gains, lt)) in
    let weighed = size_of_product-le weight (int_at f.gains k) (nat_abs weight) f.top (omega arith) gain in
    let light = a.light in
    let whole = size_of_sum (weight *ℤ int_at f.gains k) (mix (places_of f k) aim) in
    let size = size_of_signed (slice_index_or turned k false) (weight *ℤ int_at f.gains k +ℤ mix (places_of f k) aim) in
    rw size (omega (arith, sum, few, weighed, light, whole))

-- ---- the tableau that is spelled

wider : (a b : ℕ) → 2 ^ a ≤ 2 ^ b → (x : ℤ) → IsWithin a x → IsWithin b x
wider a b more x small = omega (arith, more, small)

pub spelled_small : (f : ShortSetting) (turned : List Bool) (numbers : List ℤ) → IsSetting f → All (IsWithin 50) numbers
    → All (IsWithin 55) (spelled_numbers f turned numbers)
spelled_small f turned numbers h small =
    All-push (IsWithin 55) (table f.columns.count (entry f turned numbers)) (int_at numbers f.constraints)
    (All-table (IsWithin 55) f.columns.count (entry f turned numbers) (λ k lt. entry_small f turned numbers k h lt small))
    (wider 50 55 (omega arith) (int_at numbers f.constraints) (at_small 50 numbers small f.constraints))

pub aim_small : (f : ShortSetting) (turned : List Bool) (weight : ℤ) (aim : List ℤ) → IsSetting f → IsShortAim f weight aim
    → All (IsWithin 70) (spelled_aim f turned weight aim)
aim_small f turned weight aim h a =
    All-table (IsWithin 70) f.columns.count (aim_entry f turned weight aim) (λ k lt. aim_entry_small f turned weight aim k h lt a)

pub weight_small : (f : ShortSetting) (weight : ℤ) (aim : List ℤ) → IsSetting f → IsShortAim f weight aim → IsWithin 69 weight
weight_small f weight aim h a =
    let more = mul-le (nat_abs weight) 1 (nat_abs weight) f.top (omega arith) h.some in
    omega (arith, more, a.light)

within_fits : (b : ℕ) → 2 ^ b < 2 ^ 127 → (x : ℤ) → IsWithin b x → IsFit x
within_fits b less x small = omega (arith, less, small)

module _ (f : ShortSetting) (t : Tableau) (h : IsSetting f) (short : IsShort f t) where
  pub spelled_sized : IsSized f.columns (spelled f t)
  spelled_sized = record {
    ranges = h.ranges;
    rows = All-map (IsSizedRow f.columns) (spelled_row f t.turned) t.rows
        (All-weaker (IsShortRow f) (λ row. IsSizedRow f.columns (spelled_row f t.turned row))
        (λ row k. record { numbers = length-spelled f t.turned row.numbers; basic = k.basic }) t.rows short.rows);
    turned = short.turned;
    aim = length-aim f t.turned t.weight t.aim;
  }

  pub spelled_fits : AreFitNumbers (spelled f t)
  spelled_fits = record {
    rows = All-map IsFitRow (spelled_row f t.turned) t.rows
        (All-weaker (IsShortRow f) (λ row. IsFitRow (spelled_row f t.turned row))
        (λ row k. All-weaker (IsWithin 55) IsFit (within_fits 55 (omega arith)) (spelled_numbers f t.turned row.numbers)
        (spelled_small f t.turned row.numbers h k.small))
        t.rows short.rows);
    aim = All-weaker (IsWithin 70) IsFit (within_fits 70 (omega arith)) (spelled_aim f t.turned t.weight t.aim)
        (aim_small f t.turned t.weight t.aim h short.aim);
    weight = within_fits 69 (omega arith) t.weight (weight_small f t.weight t.aim h short.aim);
  }

-- ---- tests of a step

-- a number of at most 126 bits passes
passes : (z : ℤ) → nat_abs z ≤ 2 ^ 126 → does_fit z ≡ true
passes z small = lt-ltb (nat_abs z) (2 ^ 127) (omega (arith, small))

product_passes : (a b : ℤ) → IsWithin 55 a → nat_abs b ≤ 2 ^ 70 → nat_abs (a *ℤ b) ≤ 2 ^ 125
product_passes a b small also = let size = size_of_product-le a b (2 ^ 55) (2 ^ 70) small also in omega (arith, size)

both : {a b : Bool} → a ≡ true → b ≡ true → (a && b) ≡ true
both first second = rw first second

or_true : (a b : Bool) → b ≡ true → (a || b) ≡ true
or_true true b e = refl
or_true false b e = e

all_pass : {X : Type 0} (test : X → Bool) (xs : List X) → All (λ x. test x ≡ true) xs → list_all test xs ≡ true
all_pass test [] each = refl
all_pass test (x ∷ xs) each = both (each 0 x (omega arith)) (all_pass test xs (λ i d lt. each (suc i) d (omega (arith, lt))))

pub combined_fits : (p t : ℤ) (row other : List ℤ) → IsWithin 55 p → IsWithin 70 t → All (IsWithin 70) row → All (IsWithin 55) other
    → does_combined_fit p row t other ≡ true
unfolding does_combined_fit
combined_fits p t [] other p_small t_small small other_small = refl
combined_fits p t (a ∷ row) [] p_small t_small small other_small = refl
combined_fits p t (a ∷ row) (b ∷ other) p_small t_small small other_small =
    let first = product_passes p a p_small (small 0 (pos 0) (omega arith)) in
    let second = size_of_product-le t b (2 ^ 70) (2 ^ 55) t_small (other_small 0 (pos 0) (omega arith)) in
    let rest = combined_fits p t row other p_small t_small (λ i d lt. small (suc i) d (omega (arith, lt)))
    (λ i d lt. other_small (suc i) d (omega (arith, lt))) in
    both (both (both (passes (p *ℤ a) (omega (arith, first))) (passes (t *ℤ b) (omega (arith, second))))
    (passes (p *ℤ a -ℤ t *ℤ b) (omega (arith, ints, first, second)))) rest

pub freed_row_fits : (c : ℕ) (other : List ℤ) (row : TableauRow) → All (IsWithin 55) other → All (IsWithin 55) row.numbers
    → does_freed_row_fit c other row ≡ true
freed_row_fits c other row other_small small =
    or_true (is_zero (int_at row.numbers c)) (does_combined_fit (int_at other c) row.numbers (int_at row.numbers c) other)
    (combined_fits (int_at other c) (int_at row.numbers c) row.numbers other (at_small 55 other other_small c)
    (wider 55 70 (omega arith) (int_at row.numbers c) (at_small 55 row.numbers small c))
    (All-weaker (IsWithin 55) (IsWithin 70) (wider 55 70 (omega arith)) row.numbers small) other_small)

pub freed_rows_fit : (c : ℕ) (other : List ℤ) (r : ℕ) (rows : List TableauRow) → All (λ row. does_freed_row_fit c other row ≡ true) rows
    → do_freed_rows_fit c other r rows ≡ true
unfolding do_freed_rows_fit
freed_rows_fit c other r [] each = refl
freed_rows_fit c other zero (row ∷ rows) each = all_pass (does_freed_row_fit c other) rows (λ i d lt. each (suc i) d (omega (arith, lt)))
freed_rows_fit c other (suc r) (row ∷ rows) each =
    both (each 0 row (omega arith)) (freed_rows_fit c other r rows (λ i d lt. each (suc i) d (omega (arith, lt))))

-- ---- what turns and limits ask of one row

value_fits : (e v : ℤ) (u : ℕ) → IsWithin 55 e → IsWithin 55 v → u < 2 ^ 64
    → (does_fit (e *ℤ pos u) ≡ true) × (does_fit (e *ℤ pos u -ℤ v) ≡ true) × (does_fit (v -ℤ e *ℤ pos u) ≡ true)
value_fits e v u small also less =
    let size = product_passes e (pos u) small (omega (arith, ints, less)) in
    let low = passes (v -ℤ e *ℤ pos u) (omega (arith, ints, size, also)) in
    (passes (e *ℤ pos u) (omega (arith, size)), passes (e *ℤ pos u -ℤ v) (omega (arith, ints, size, also)), low)

limit_fits : (f : Columns) (c : ℕ) (row : TableauRow) → ((u : ℕ) → range_of f row.basic ≡ Some u → u < 2 ^ 64) → All (IsWithin 55) row.numbers
    → does_limit_fit f c row ≡ true
limit_fits f c row ends small = by (int_lt (int_at row.numbers c) (pos 0)) (range_of f row.basic) ends
  where
    by : (test : Bool) (o : Option ℕ) → ((u : ℕ) → o ≡ Some u → u < 2 ^ 64) → cond test (elim o [
      | Some u ↦ does_fit (int_at row.numbers row.basic *ℤ pos u) && does_fit (int_at row.numbers row.basic *ℤ pos u -ℤ value_of f row)
      | None ↦ true
    ]) true ≡ true
    by false o less = refl
    by true None less = refl
    by true (Some u) less =
        let basic = at_small 55 row.numbers small row.basic in
        let value = at_small 55 row.numbers small f.count in
        let found = value_fits (int_at row.numbers row.basic) (value_of f row) u basic value (less u refl) in
        both found.0 found.1

turned_row_fits : (f : Columns) (c u : ℕ) (row : TableauRow) → u < 2 ^ 64 → All (IsWithin 55) row.numbers → does_turned_row_fit f c u row ≡ true
turned_row_fits f c u row less small =
    let entry = at_small 55 row.numbers small c in
    let value = at_small 55 row.numbers small f.count in
    let found = value_fits (int_at row.numbers c) (int_at row.numbers f.count) u entry value less in
    both found.0 found.2

-- ---- the steps over the tableau that is spelled

module _ (f : ShortSetting) (t : Tableau) (h : IsSetting f) (short : IsShort f t) where
  -- what holds of all rows of small numbers holds of those that are spelled
  each_row : (P : TableauRow → Type 0) → ((row : TableauRow) → All (IsWithin 55) row.numbers → P row) → All P (spelled f t).rows
  each_row P each =
      All-map P (spelled_row f t.turned) t.rows
      (All-weaker (IsShortRow f) (λ row. P (spelled_row f t.turned row))
      (λ row k. each (spelled_row f t.turned row) (spelled_small f t.turned row.numbers h k.small)) t.rows short.rows)

  pub row_small : (r : ℕ) → r < length t.rows → All (IsWithin 55) (row_at (spelled f t) r).numbers
  row_small r lt = rw (row_at-spelled f t r lt) (spelled_small f t.turned (row_at t r).numbers h (short.rows r no_row lt).small)

  pub limits_fit : (c : ℕ) → list_all (does_limit_fit f.columns c) (spelled f t).rows ≡ true
  limits_fit c = all_pass (does_limit_fit f.columns c) (spelled f t).rows
      (each_row (λ row. does_limit_fit f.columns c row ≡ true) (λ row small. limit_fits f.columns c row (h.ends row.basic) small))

  pub limit_fits_at : (c r : ℕ) → r < length t.rows → does_limit_fit f.columns c (row_at (spelled f t) r) ≡ true
  limit_fits_at c r lt = limit_fits f.columns c (row_at (spelled f t) r) (h.ends (row_at (spelled f t) r).basic) (row_small r lt)

  pub turned_fits : (c u : ℕ) → u < 2 ^ 64 → does_turned_fit f.columns c u (spelled f t) ≡ true
  turned_fits c u less =
      all_pass (does_turned_row_fit f.columns c u) (spelled f t).rows
      (each_row (λ row. does_turned_row_fit f.columns c u row ≡ true) (λ row small. turned_row_fits f.columns c u row less small))

  pub freed_aim_fits : (c r : ℕ) → r < length t.rows → does_freed_aim_fit c (row_at (spelled f t) r).numbers (spelled f t) ≡ true
  freed_aim_fits c r lt =
      let other = (row_at (spelled f t) r).numbers in
      let aim = (spelled f t).aim in
      let other_small = row_small r lt in
      let small = aim_small f t.turned t.weight t.aim h short.aim in
      let p_small = at_small 55 other other_small c in
      let weight = weight_small f t.weight t.aim h short.aim in
      let product = product_passes (int_at other c) t.weight p_small (omega (arith, weight)) in
      or_true (is_zero (int_at aim c)) (does_combined_fit (int_at other c) aim (int_at aim c) other && does_fit (int_at other c *ℤ t.weight))
      (both (combined_fits (int_at other c) (int_at aim c) aim other p_small (at_small 70 aim small c) small other_small)
      (passes (int_at other c *ℤ t.weight) (omega (arith, product))))

  pub pivoted_fits : (c r : ℕ) → r < length t.rows → does_pivoted_fit c r (spelled f t) ≡ true
  pivoted_fits c r lt =
      let other = (row_at (spelled f t) r).numbers in
      both (freed_rows_fit c other r (spelled f t).rows
      (each_row (λ row. does_freed_row_fit c other row ≡ true) (λ row small. freed_row_fits c other row (row_small r lt) small)))
      (freed_aim_fits c r lt)
