-- A row in which a column is turned.
use Rattle.std.proofs.Common.{◌≡◌, ℕ, ℤ, neg_ℤ, List, length, set, map, All, Bool, true, false, cond, ◌==◌, refl, ◌∙◌, length-set}
use Rattle.std.proofs.lemmas.List.{length-map}
use Rattle.pc_num.proofs.Signed.{as_passed}
use Rattle.pc_program_bound.specs.Bound.{IsFit}
use Rattle.pc_simplex_tableau.proofs.InPlace.{one_set_fit}
use Rattle.pc_simplex_tableau.specs.Tableau.{TableauRow, Columns, turned_numbers, turned_row}
use Rattle.pc_simplex_tableau.specs.Conditions.{IsSizedRow}

pub two_set_fit : (numbers : List ℤ) (i j : ℕ) (value entry x : ℤ) → IsFit x → value ≡ x → IsFit entry → All IsFit numbers →
    All IsFit (set (set numbers i (as_passed value)) j (as_passed entry))
two_set_fit numbers i j value entry x x_fits e fits all =
    let value_fits : IsFit value = rw e x_fits in
    one_set_fit (set numbers i (as_passed value)) j entry fits (one_set_fit numbers i value value_fits all)

-- a row keeps its length
turned_numbers-length : (f : Columns) (c u : ℕ) (numbers : List ℤ) → length (turned_numbers f c u numbers) ≡ length numbers
turned_numbers-length f c u numbers = simp length-set

signed_length : (same : Bool) (numbers : List ℤ) → length (cond same (map neg_ℤ numbers) numbers) ≡ length numbers
signed_length true numbers = length-map numbers neg_ℤ
signed_length false numbers = refl

pub turned_row-sized : (f : Columns) (c u : ℕ) (row : TableauRow) → IsSizedRow f row → IsSizedRow f (turned_row f c u row)
turned_row-sized f c u row h = record {
  numbers = signed_length (row.basic == c) (turned_numbers f c u row.numbers) ∙ turned_numbers-length f c u row.numbers ∙ h.numbers;
  basic = h.basic;
}
