-- The rows of a relaxation, and its steps.
use Rattle.std.specs.Prelude.{ℕ, zero, suc, ◌==◌, ◌&&◌, ◌||◌, not, nat_lt, nat_le, int_lt, ℤ, pos, neg_ℤ, ◌-ℤ◌, ◌*ℤ◌, Bool, true, false, cond, List, [], ◌∷◌, ◌++◌, map, length, slice_index_or, slice_set, Option, Some, None}
use Rattle.std.specs.Int.{int_div_euclid}
use Rattle.std.specs.List.{list_all}
use Rattle.pc_program_bound.specs.Sums.{nat_at, int_at}
use Rattle.pc_simplex_tableau.specs.declared.step.Step.{Step}
use Rattle.pc_simplex_tableau.specs.Numbers.{first_below, common, primitive, combined, is_zero, does_fit, does_combined_fit}

-- an entry per column and then the row's value; the entry at the basic column is positive
pub record TableauRow : Type 0 where
  pub numbers : List ℤ
  pub basic : ℕ

-- the rows, which columns are turned, and the objective row: an entry per column, and its weight
pub record Tableau : Type 0 where
  pub rows : List TableauRow
  pub turned : List Bool
  pub aim : List ℤ
  pub weight : ℤ

-- the columns of a phase: the ranges of those that are no helpers, the number of all, and the range of a helper, if it has an end
pub record Columns : Type 0 where
  pub ranges : List ℕ
  pub count : ℕ
  pub helper : Option ℕ

abbrev pub is_helper : Columns → ℕ → Bool
is_helper f k = nat_le (length f.ranges) k

abbrev pub range_of : Columns → ℕ → Option ℕ
range_of f k = cond (is_helper f k) f.helper (Some (nat_at f.ranges k))

abbrev pub value_of : Columns → TableauRow → ℤ
value_of f row = int_at row.numbers f.count

abbrev pub no_row : TableauRow
no_row = record { numbers = []; basic = 0 }

abbrev pub row_at : Tableau → ℕ → TableauRow
row_at t r = slice_index_or t.rows r no_row

abbrev pub is_turned : Tableau → ℕ → Bool
is_turned t k = slice_index_or t.turned k false

-- ---- to turn a column of range u

-- the value loses the entry times u, and the entry changes its sign
abbrev pub turned_numbers : Columns → ℕ → ℕ → List ℤ → List ℤ
turned_numbers f c u row = slice_set (slice_set row f.count (int_at row f.count -ℤ int_at row c *ℤ pos u)) c (neg_ℤ (int_at row c))

-- the row whose basic column it is changes all signs after that
abbrev pub turned_row : Columns → ℕ → ℕ → TableauRow → TableauRow
turned_row f c u row = record row {
  numbers = cond (row.basic == c) (map neg_ℤ (turned_numbers f c u row.numbers)) (turned_numbers f c u row.numbers);
}

abbrev pub turned : Columns → ℕ → ℕ → Tableau → Tableau
turned f c u t = record {
  rows = map (turned_row f c u) t.rows;
  turned = slice_set t.turned c (not (is_turned t c));
  aim = slice_set t.aim c (neg_ℤ (int_at t.aim c));
  weight = t.weight;
}

abbrev pub does_turned_fit : Columns → ℕ → ℕ → Tableau → Bool
does_turned_fit f c u t =
    list_all (λ row. does_fit (int_at row.numbers c *ℤ pos u) && does_fit (int_at row.numbers f.count -ℤ int_at row.numbers c *ℤ pos u)) t.rows

-- ---- to pivot at column c in row r

-- p times the row minus t times the other, where p and t are the entries at the column, made primitive; a row whose entry is
-- 0 stays as it is
abbrev pub freed_row : ℕ → List ℤ → TableauRow → TableauRow
freed_row c other row =
    cond (is_zero (int_at row.numbers c)) row (record row { numbers = primitive (combined (int_at other c) row.numbers (int_at row.numbers c) other) })

-- the same of the objective row, whose weight takes part in the division but has nothing taken away
abbrev pub combined_aim : ℕ → List ℤ → Tableau → Tableau
combined_aim c other t =
    let entries = combined (int_at other c) t.aim (int_at t.aim c) other in
    let weight = int_at other c *ℤ t.weight in
    let g = pos (common (weight ∷ entries)) in
    record t { aim = map (λ a. int_div_euclid a g) entries; weight = int_div_euclid weight g }

abbrev pub freed_aim : ℕ → List ℤ → Tableau → Tableau
freed_aim c other t = cond (is_zero (int_at t.aim c)) t (combined_aim c other t)

abbrev pub pivoted : ℕ → ℕ → Tableau → Tableau
pivoted c r t =
    let other = (row_at t r).numbers in
    record (freed_aim c other t) { rows = slice_set (map (freed_row c other) t.rows) r (record { numbers = other; basic = c }) }

abbrev pub does_freed_aim_fit : ℕ → List ℤ → Tableau → Bool
does_freed_aim_fit c other t =
    is_zero (int_at t.aim c) || (does_combined_fit (int_at other c) t.aim (int_at t.aim c) other && does_fit (int_at other c *ℤ t.weight))

abbrev pub does_freed_row_fit : ℕ → List ℤ → TableauRow → Bool
does_freed_row_fit c other row =
    is_zero (int_at row.numbers c) || does_combined_fit (int_at other c) row.numbers (int_at row.numbers c) other

-- of every row but row r
unfoldable pub do_freed_rows_fit : ℕ → List ℤ → ℕ → List TableauRow → Bool
do_freed_rows_fit c other r [] = true
do_freed_rows_fit c other zero (row ∷ rows) = list_all (does_freed_row_fit c other) rows
do_freed_rows_fit c other (suc r) (row ∷ rows) = does_freed_row_fit c other row && do_freed_rows_fit c other r rows

abbrev pub does_pivoted_fit : ℕ → ℕ → Tableau → Bool
does_pivoted_fit c r t =
    do_freed_rows_fit c (row_at t r).numbers r t.rows && does_freed_aim_fit c (row_at t r).numbers t

-- ---- the column that enters, and the limit that decides

abbrev pub is_basic : Tableau → ℕ → Bool
is_basic t k = not (list_all (λ row. not (row.basic == k)) t.rows)

-- the least column that is not basic, is no helper and has a positive entry in the objective row
abbrev pub entering : Columns → Tableau → Option ℕ
entering f t = first_below (length f.ranges) (λ k. not (is_basic t k) && int_lt (pos 0) (int_at t.aim k))

-- what a step does: it turns the entering column, or pivots in a row, or turns the row's basic column and then pivots there
pub data Way : Type 0 where
  turning : Way
  pivoting : ℕ → Way
  turning_and_pivoting : ℕ → Way

-- a limit of the entering column: the column that it belongs to, and a fraction
pub record Limit : Type 0 where
  pub column : ℕ
  pub over : ℤ
  pub under : ℤ
  pub way : Way

-- a is the greater one, or equal and of the greater column
abbrev pub is_after : Limit → Limit → Bool
is_after a b =
    int_lt (b.over *ℤ a.under) (a.over *ℤ b.under)
    || not (int_lt (a.over *ℤ b.under) (b.over *ℤ a.under)) && nat_lt b.column a.column

abbrev pub lesser : Limit → Limit → Limit
lesser a b = cond (is_after a b) b a

-- where the row's basic column comes down to 0, and where it comes up to the end of its range
abbrev pub lower_limit : Columns → ℕ → ℕ → TableauRow → Limit
lower_limit f c r row = record { column = row.basic; over = value_of f row; under = int_at row.numbers c; way = pivoting r }

abbrev pub upper_limit : Columns → ℕ → ℕ → ℕ → TableauRow → Limit
upper_limit f c u r row = record {
  column = row.basic;
  over = int_at row.numbers row.basic *ℤ pos u -ℤ value_of f row;
  under = neg_ℤ (int_at row.numbers c);
  way = turning_and_pivoting r;
}

-- a limit, or that of the row where it has one that is less
abbrev pub with_row : Columns → ℕ → ℕ → TableauRow → Limit → Limit
with_row f c r row best =
    cond (int_lt (pos 0) (int_at row.numbers c)) (lesser best (lower_limit f c r row))
    (cond (int_lt (int_at row.numbers c) (pos 0))
    (elim (range_of f row.basic) [ Some u ↦ lesser best (upper_limit f c u r row) | None ↦ best ])
    best)

-- the least limit among the column's own range and the first n rows
unfoldable pub least_limit : Columns → ℕ → Tableau → ℕ → Limit
least_limit f c t zero = record { column = c; over = pos (nat_at f.ranges c); under = pos 1; way = turning }
least_limit f c t (suc n) = with_row f c n (row_at t n) (least_limit f c t n)

abbrev pub deciding : Columns → ℕ → Tableau → Limit
deciding f c t = least_limit f c t (length t.rows)

-- a limit is made of numbers that fit
abbrev pub does_limit_fit : Columns → ℕ → TableauRow → Bool
does_limit_fit f c row =
    cond (int_lt (int_at row.numbers c) (pos 0))
    (elim (range_of f row.basic) [
      | Some u ↦ does_fit (int_at row.numbers row.basic *ℤ pos u) && does_fit (int_at row.numbers row.basic *ℤ pos u -ℤ value_of f row)
      | None ↦ true
    ])
    true

-- ---- a step

-- the range of a column that is turned, which has an end
abbrev pub end_of : Columns → ℕ → ℕ
end_of f k = elim (range_of f k) [ Some u ↦ u | None ↦ 0 ]

unfoldable pub after_step : Columns → ℕ → ℕ → Way → Tableau → Tableau
after_step f c b turning t = turned f c (end_of f c) t
after_step f c b (pivoting r) t = pivoted c r t
after_step f c b (turning_and_pivoting r) t = pivoted c r (turned f b (end_of f b) t)

unfoldable pub does_way_fit : Columns → ℕ → ℕ → Way → Tableau → Bool
does_way_fit f c b turning t = does_turned_fit f c (end_of f c) t
does_way_fit f c b (pivoting r) t = does_pivoted_fit c r t
does_way_fit f c b (turning_and_pivoting r) t =
    does_turned_fit f b (end_of f b) t && does_pivoted_fit c r (turned f b (end_of f b) t)

-- every product, sum and difference of the step fits
abbrev pub does_step_fit : Columns → ℕ → Limit → Tableau → Bool
does_step_fit f c limit t = list_all (does_limit_fit f c) t.rows && does_way_fit f c limit.column limit.way t

-- how the steps of a phase end: no column enters, or the next step is wide, or no further step may be taken
pub data WholeRun : Type 0 where
  ended : (left : ℕ) → List Step → Tableau → WholeRun
  wide : List Step → WholeRun
  stalled : List Step → WholeRun

-- the steps from here, of which that many may be taken, after those that were taken
unfoldable pub run : Columns → ℕ → List Step → Tableau → WholeRun
run f zero steps t = elim (entering f t) [ None ↦ ended zero steps t | Some c ↦ stalled steps ]
run f (suc left) steps t = elim (entering f t) [
  | None ↦ ended (suc left) steps t
  | Some c ↦ elim (does_step_fit f c (deciding f c t) t) [
    | false ↦ wide steps
    | true ↦ run f left (steps ++ record { enters = c; leaves = (deciding f c t).column } ∷ [])
        (after_step f c (deciding f c t).column (deciding f c t).way t)
  ]
]
