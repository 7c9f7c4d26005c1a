-- The first rows as the code makes them, and that they have their lengths and small numbers.
use Rattle.std.proofs.Common.{◌≡◌, ℕ, ◌+◌, ◌-◌, ◌<◌, ◌==◌, ◌&&◌, ◌||◌, nat_lt, nat_le, Bool, true, false, cond, List, [], All, length, refl, ap, sym, subst, ◌∙◌, arith}
use Rattle.std.specs.Prelude.{ℤ, pos, negsuc, neg_ℤ, int_lt, ◌-ℤ◌, ◌*ℤ◌, slice_set}
use Rattle.std.proofs.lemmas.Int.{ints}
use Rattle.std.proofs.lemmas.List.{length-set}
use Rattle.std.proofs.lemmas.Bool.{cond-true, cond-false}
use Rattle.std.proofs.lemmas.List.Elements.{All-set}
use Rattle.pc_model.specs.Places.{has_bit}
use Rattle.pc_program_bound.specs.declared.program.Program.{Program}
use Rattle.pc_program_bound.specs.Sums.{nat_at, int_at}
use Rattle.pc_program_bound.specs.Allocation.{IsProgram, cells_of, constraints_of}
use Rattle.pc_program_bound.specs.Bound.{IsFit}
use Rattle.pc_simplex_tableau.specs.Numbers.{table}
use Rattle.pc_simplex_tableau.specs.Tableau.{TableauRow, Tableau}
use Rattle.pc_simplex_tableau.specs.Relaxation.{columns_of, slack_of, helper_of, slack_range, coefficient, left_of, is_short, phase_one, first_row, first_tableau}
use Rattle.pc_simplex_tableau.specs.Standing.{gain_one}
use Rattle.pc_simplex_tableau.specs.Conditions.{IsSizedRow, IsSized, IsFitRow, AreFitNumbers}
use Rattle.pc_simplex_tableau.proofs.Listed.{length-table, at-table}
use Rattle.pc_simplex_tableau.proofs.StartRows.{coefficient-slack, coefficient-value}
use Rattle.pc_simplex_tableau.proofs.StartMeant.{length-ranges, by_short}
use Rattle.pc_simplex.specs.Floors.{AreFloors, number_at, short_row, does_start_turned}
use Rattle.pc_simplex.proofs.Floors.{left_fits, left_less_fits}
use Rattle.pc_simplex_tableau.proofs.Tables.{All-table}

-- ---- the row of a short constraint
set_both : (row : List ℤ) (value slack u : ℕ) (left : ℤ) → int_at row value ≡ left → int_at row slack ≡ pos 1
    → slice_set (slice_set row value (int_at row value -ℤ int_at row slack *ℤ pos u)) slack (neg_ℤ (int_at row slack)) ≡ slice_set (slice_set row value (left -ℤ pos u)) slack (negsuc 0)
set_both row value slack u left e d =
    let less : left -ℤ pos 1 *ℤ pos u ≡ left -ℤ pos u = omega (arith, ints) in
    rw (e, d) (ap (λ x. slice_set (slice_set row value x) slack (negsuc 0)) less)

pub one_fits : IsFit (pos 1)
one_fits = omega arith

minus_one_fits : IsFit (negsuc 0)
minus_one_fits = omega arith

pub none_fits : IsFit (pos 0)
none_fits = omega arith

pub either_fits : (test : Bool) (x y : ℤ) → IsFit x → IsFit y → IsFit (cond test x y)
either_fits true x y h k = h
either_fits false x y h k = k

module _ (p : Program) (floors : List ℕ) (j : ℕ) (own : j < constraints_of p) where
  abbrev base : List ℤ
  base = table (columns_of p + 1) (coefficient p floors j)

  at_base : (k : ℕ) → k < columns_of p + 1 → int_at base k ≡ coefficient p floors j k
  at_base k lt = at-table (columns_of p + 1) (coefficient p floors j) k (pos 0) lt

  -- ---- rows as they are made
  pub first_row-short : (left : ℤ) (numbers : List ℤ) → left ≡ left_of p floors j → numbers ≡ table (columns_of p + 1) (number_at p j left)
      → int_lt (pos (slack_range p j)) left ≡ true → short_row p j left numbers ≡ first_row p floors [] j
  first_row-short left numbers e made short =
      let clean : numbers ≡ base = made ∙ ap (λ x. table (columns_of p + 1) (number_at p j x)) e in
      let is : is_short p floors j ≡ true = ap (int_lt (pos (slack_range p j))) (sym e) ∙ short in
      rw (clean, e)
      (ap (λ l. record { numbers = l; basic = helper_of p j })
      (sym (set_both base (columns_of p) (slack_of p j) (slack_range p j) (left_of p floors j)
      (at_base (columns_of p) (omega arith) ∙ coefficient-value p floors j own) (at_base (slack_of p j) (omega (arith, own)) ∙ coefficient-slack p floors j own)))
      ∙ sym (cond-true (is_short p floors j) _ _ is))

  row_by : (P : TableauRow → Type 0) → P (short_row p j (left_of p floors j) base) → P (record { numbers = base; basic = slack_of p j }) → P (first_row p floors [] j)
  row_by P short plenty = by_short p floors [] j
      (λ e. subst P (first_row-short (left_of p floors j) base refl refl e) short)
      (λ e. subst P (sym (cond-false (is_short p floors j) _ (record { numbers = base; basic = slack_of p j }) e)) plenty)

  long : length base ≡ columns_of p + 1
  long = length-table (columns_of p + 1) (coefficient p floors j)

  -- ---- lengths and sizes
  sized : (caps : List ℕ) → IsSizedRow (phase_one p floors caps) (first_row p floors [] j)
  sized caps = row_by (IsSizedRow (phase_one p floors caps))
      (record { numbers = length-set _ (slack_of p j) (negsuc 0) ∙ length-set base (columns_of p) _ ∙ long; basic = omega (arith, own) })
      (record { numbers = long; basic = omega (arith, own) })

  module _ (program : IsProgram p) (h : AreFloors p floors) where
    coefficient_fits : (k : ℕ) → IsFit (coefficient p floors j k)
    coefficient_fits k = either_fits (nat_lt k (cells_of p)) _ _ (either_fits (has_bit (nat_at p.masks k) j) _ _ one_fits none_fits)
        (either_fits (k == slack_of p j || k == helper_of p j) _ _ one_fits (either_fits (k == columns_of p) _ _ (left_fits p floors j h program own) none_fits))

    base_fits : All IsFit base
    base_fits = All-table IsFit (columns_of p + 1) (coefficient p floors j) (λ k lt. coefficient_fits k)

    short_fits : IsFit (left_of p floors j -ℤ pos (slack_range p j))
    short_fits = left_less_fits p floors j h program own (slack_range p j) (let most = program.small_most j own in omega (arith, most))

    fits : IsFitRow (first_row p floors [] j)
    fits = row_by IsFitRow
        (All-set IsFit _ (slack_of p j) (negsuc 0) minus_one_fits (All-set IsFit base (columns_of p) _ short_fits base_fits))
        base_fits

-- ---- the first tableau
pub first_is : (p : Program) (floors : List ℕ) (rows : List TableauRow) (turned : List Bool) (aim : List ℤ) → rows ≡ table (constraints_of p) (first_row p floors [])
    → turned ≡ table (columns_of p) (does_start_turned p floors) → aim ≡ table (columns_of p) (gain_one p floors)
    → record { rows = rows; turned = turned; aim = aim; weight = pos 1 } ≡ first_tableau p floors []
first_is p floors rows turned aim e d g = rw (e, d, g) refl

pub first_sized : (p : Program) (floors : List ℕ) (t : Tableau) → t ≡ first_tableau p floors [] → (caps : List ℕ) → IsSized (phase_one p floors caps) t
first_sized p floors t e caps = rw e (record {
  ranges = omega (arith, length-ranges p floors caps);
  rows = All-table (IsSizedRow (phase_one p floors caps)) (constraints_of p) (first_row p floors []) (λ j lt. sized p floors j lt caps);
  turned = length-table (columns_of p) (does_start_turned p floors);
  aim = length-table (columns_of p) (gain_one p floors);
})

pub first_fits : (p : Program) (floors : List ℕ) (t : Tableau) → IsProgram p → AreFloors p floors → t ≡ first_tableau p floors [] → AreFitNumbers t
first_fits p floors t program h e = rw e (record {
  rows = All-table IsFitRow (constraints_of p) (first_row p floors []) (λ j lt. fits p floors j lt program h);
  aim = All-table IsFit (columns_of p) (gain_one p floors)
      (λ k lt. either_fits (nat_le (helper_of p 0) k && is_short p floors (k - helper_of p 0)) (negsuc 0) (pos 0) minus_one_fits none_fits);
  weight = one_fits;
})
