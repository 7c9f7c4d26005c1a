-- The lengths that a pivot keeps.
use Rattle.std.proofs.Common.{◌≡◌, ◌<◌, ℕ, ℤ, ◌*ℤ◌, Bool, true, false, cond, List, ◌∷◌, length, map, arith, refl, ap, sym, ◌∙◌}
use Rattle.std.proofs.lemmas.List.{length-map}
use Rattle.std.proofs.lemmas.List.Elements.{All-set, All-map, All-weaker}
use Rattle.pc_program_bound.specs.Sums.{int_at}
use Rattle.pc_simplex_tableau.specs.Numbers.{common, combined, is_zero}
use Rattle.pc_simplex_tableau.specs.Tableau.{TableauRow, Tableau, Columns, no_row, row_at, freed_row, combined_aim, pivoted, turned_row, turned}
use Rattle.pc_simplex_tableau.specs.Conditions.{IsSizedRow, IsSized, AreAsLong, divided}
use Rattle.pc_simplex_tableau.proofs.Freeing.{freed_row-sized}
use Rattle.pc_simplex_tableau.proofs.Places.{length-combined}

module _ (f : Columns) (t : Tableau) (r : ℕ) (h : IsSized f t) (within : r < length t.rows) where
  own : IsSizedRow f (row_at t r)
  own = h.rows r no_row within

  pub as_long : AreAsLong (row_at t r).numbers t.rows
  as_long = All-weaker (IsSizedRow f) (λ (row : TableauRow). length row.numbers ≡ length (row_at t r).numbers) (λ row k. k.numbers ∙ sym own.numbers) t.rows h.rows

  pub own_longer : length t.aim < length (row_at t r).numbers
  own_longer = omega (arith, own.numbers, h.aim)

  module _ (c : ℕ) (column : c < f.count) where
    abbrev other : List ℤ
    other = (row_at t r).numbers

    freed_turned : (zero : Bool) (combined : Tableau) → combined.turned ≡ t.turned → (cond zero t combined).turned ≡ t.turned
    freed_turned true combined e = refl
    freed_turned false combined e = e

    freed_length : (zero : Bool) (combined : Tableau) → length combined.aim ≡ length t.aim → length (cond zero t combined).aim ≡ length t.aim
    freed_length true combined e = refl
    freed_length false combined e = e

    combined_long : length (combined_aim c other t).aim ≡ length t.aim
    combined_long =
        length-map (combined (int_at other c) t.aim (int_at t.aim c) other) (divided (common ((int_at other c *ℤ t.weight) ∷ combined (int_at other c) t.aim (int_at t.aim c) other)))
        ∙ length-combined (int_at other c) (int_at t.aim c) t.aim other (omega (arith, own_longer))

    pub pivoted_sized : IsSized f (pivoted c r t)
    pivoted_sized = record {
      ranges = h.ranges;
      rows =
          All-set (IsSizedRow f) (map (freed_row c other) t.rows) r (record { numbers = other; basic = c }) (record { numbers = own.numbers; basic = column })
          (All-map (IsSizedRow f) (freed_row c other) t.rows
          (All-weaker (IsSizedRow f) (λ (row : TableauRow). IsSizedRow f (freed_row c other row)) (freed_row-sized f c other own.numbers) t.rows h.rows));
      turned = ap length (freed_turned (is_zero (int_at t.aim c)) (combined_aim c other t) refl) ∙ h.turned;
      aim = freed_length (is_zero (int_at t.aim c)) (combined_aim c other t) combined_long ∙ h.aim;
    }

pub turned_rows : (f : Columns) (c u : ℕ) (t after : Tableau) → after ≡ turned f c u t → length after.rows ≡ length t.rows
turned_rows f c u t after e = ap (λ (s : Tableau). length s.rows) e ∙ length-map t.rows (turned_row f c u)
