-- The column that enters and the limit that decides, read off short rows.
use Rattle.std.proofs.Common.{◌≡◌, ℕ, ◌==◌, ◌&&◌, not, Bool, true, false, List, [], ◌∷◌, map, Some, None, refl, ap, ap₂, sym, ◌∙◌}
use Rattle.std.specs.List.{list_all}
use Rattle.std.specs.Prelude.{ℤ, pos, neg_ℤ, ◌-ℤ◌, ◌*ℤ◌, int_lt}
use Rattle.pc_program_bound.specs.Sums.{int_at}
use Rattle.pc_simplex_tableau.specs.Tableau.{TableauRow, Tableau, Columns, Limit, is_basic, range_of, value_of, lesser, pivoting, turning_and_pivoting, upper_limit, with_row}
use Rattle.pc_simplex_tableau.specs.Limits.{with_upper_limit}
use Rattle.pc_simplex_short.specs.Short.{ShortSetting, spelled_row, spelled}

-- ---- the column

same_basics : (f : ShortSetting) (turned : List Bool) (k : ℕ) (rows : List TableauRow)
    → list_all (λ (row : TableauRow). not (row.basic == k)) (map (spelled_row f turned) rows) ≡ list_all (λ (row : TableauRow). not (row.basic == k)) rows
same_basics f turned k [] = refl
same_basics f turned k (row ∷ rows) = ap (λ b. not (row.basic == k) && b) (same_basics f turned k rows)

pub is_basic-spelled : (f : ShortSetting) (t : Tableau) (k : ℕ) → is_basic (spelled f t) k ≡ is_basic t k
is_basic-spelled f t k = ap not (same_basics f t.turned k t.rows)

pub enters : (basic gains : Bool) → true ≡ gains → basic ≡ (basic && gains)
enters true gains e = e
enters false gains e = refl

pub enters_not : (basic gains : Bool) → false ≡ gains → false ≡ (basic && gains)
enters_not true gains e = e
enters_not false gains e = refl

-- ---- the limit of a row, by its number at the entering column

module _ (f : Columns) (c r : ℕ) (row : TableauRow) (best : Limit) (own : ℤ) (own_is : int_at row.numbers c ≡ own) where
  pub with_row_lower : (value : ℤ) → value_of f row ≡ value → int_lt (pos 0) own ≡ true
      → lesser best (record { column = row.basic; over = value; under = own; way = pivoting r }) ≡ with_row f c r row best
  with_row_lower value is above = rw (own_is, is, above) refl

  pub with_row_upper : int_lt (pos 0) own ≡ false → int_lt own (pos 0) ≡ true → with_upper_limit f c r row best ≡ with_row f c r row best
  with_row_upper below under = rw (own_is, below, under) refl

  pub with_row_none : int_lt (pos 0) own ≡ false → int_lt own (pos 0) ≡ false → best ≡ with_row f c r row best
  with_row_none below under = rw (own_is, below, under) refl

  pub with_upper_some : (u : ℕ) (basic value : ℤ) → range_of f row.basic ≡ Some u → int_at row.numbers row.basic ≡ basic → value_of f row ≡ value
      → lesser best (record { column = row.basic; over = basic *ℤ pos u -ℤ value; under = neg_ℤ own; way = turning_and_pivoting r }) ≡ with_upper_limit f c r row best
  with_upper_some u basic value range is value_is =
      let over : basic *ℤ pos u -ℤ value ≡ int_at row.numbers row.basic *ℤ pos u -ℤ value_of f row = ap₂ (λ e v. e *ℤ pos u -ℤ v) (sym is) (sym value_is) in
      let under : neg_ℤ own ≡ neg_ℤ (int_at row.numbers c) = ap neg_ℤ (sym own_is) in
      ap₂ (λ o n. lesser best (record { column = row.basic; over = o; under = n; way = turning_and_pivoting r })) over under
      ∙ ap (λ o. elim o [ Some u ↦ lesser best (upper_limit f c u r row) | None ↦ best ]) (sym range)
