-- A row that is freed of a column keeps its length.
use Rattle.std.proofs.Common.{◌≡◌, ◌+◌, ℕ, ℤ, Bool, true, false, cond, List, length, refl, sym, ◌∙◌, arith}
use Rattle.pc_program_bound.specs.Sums.{int_at}
use Rattle.pc_simplex_tableau.specs.Numbers.{primitive, combined, is_zero}
use Rattle.pc_simplex_tableau.specs.Tableau.{TableauRow, Columns, freed_row}
use Rattle.pc_simplex_tableau.specs.Conditions.{IsSizedRow}
use Rattle.pc_simplex_tableau.proofs.Places.{length-combined, length-primitive}

chosen-length : (kept : Bool) (n : ℕ) (row : TableauRow) (numbers : List ℤ) → length row.numbers ≡ n → length numbers ≡ n →
    length (cond kept row (record row { numbers = numbers })).numbers ≡ n
chosen-length true n row numbers e f = e
chosen-length false n row numbers e f = f

pub freed_row-length : (c : ℕ) (other : List ℤ) (row : TableauRow) → length row.numbers ≡ length other → length (freed_row c other row).numbers ≡ length other
freed_row-length c other row e =
    chosen-length (is_zero (int_at row.numbers c)) (length other) row _ e
    (length-primitive (combined (int_at other c) row.numbers (int_at row.numbers c) other) ∙ length-combined (int_at other c) (int_at row.numbers c) row.numbers other (omega arith) ∙ e)

chosen-basic : (kept : Bool) (row : TableauRow) (numbers : List ℤ) → (cond kept row (record row { numbers = numbers })).basic ≡ row.basic
chosen-basic true row numbers = refl
chosen-basic false row numbers = refl

pub freed_row-sized : (f : Columns) (c : ℕ) (other : List ℤ) → length other ≡ f.count + 1 → (row : TableauRow) → IsSizedRow f row → IsSizedRow f (freed_row c other row)
freed_row-sized f c other long row h = record {
  numbers = freed_row-length c other row (h.numbers ∙ sym long) ∙ long;
  basic = rw (chosen-basic (is_zero (int_at row.numbers c)) row (primitive (combined (int_at other c) row.numbers (int_at row.numbers c) other))) h.basic;
}
