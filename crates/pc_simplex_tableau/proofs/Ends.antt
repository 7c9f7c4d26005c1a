-- Where no column enters, the objective row says what each column has of the bound, and each column reaches that.
use Rattle.std.proofs.Common.{◌≡◌, ℕ, ◌-◌, ◌<◌, ◌==◌, ◌&&◌, not, Bool, true, false, cond, List, length, ap, sym, subst, ◌∙◌, arith, None, Some}
use Rattle.std.specs.Prelude.{ℤ, pos, int_lt, ◌+ℤ◌, ◌-ℤ◌, ◌*ℤ◌, ◌≤ℤ◌}
use Rattle.std.specs.Int.{int_max}
use Rattle.std.proofs.lemmas.Int.{ints}
use Rattle.std.proofs.lemmas.Bool.{ne_eqb}
use Rattle.std.proofs.lemmas.List.{get_or_default}
use Rattle.std.proofs.lemmas.List.Sums.{list_all-from_AllPass}
use Rattle.pc_program_bound.specs.declared.program.Program.{Program}
use Rattle.pc_program_bound.specs.Sums.{nat_at, int_at}
use Rattle.pc_program_bound.specs.Allocation.{cells_of, constraints_of, IsBox, IsProgram}
use Rattle.pc_simplex_tableau.specs.Tableau.{TableauRow, Tableau, Columns, row_at, no_row, is_turned, end_of, is_basic, entering, range_of}
use Rattle.pc_simplex_tableau.specs.Relaxation.{slack_of, multiplier, IsFrame}
use Rattle.pc_simplex_tableau.specs.Conditions.{IsSized}
use Rattle.pc_simplex_tableau.specs.Standing.{basic_at, IsSolved, IsFeasible, plain, place}
use Rattle.pc_simplex_tableau.proofs.Products.{mul-zero, zero-mul}
use Rattle.pc_simplex_tableau.proofs.Entering.{range_is}
use Rattle.pc_simplex_tableau.proofs.Turned.{end_is}
use Rattle.pc_simplex_tableau.proofs.Points.{IsPoint, first_below-none, by_row, number-low, number-high}
use Rattle.pc_simplex_tableau.proofs.Shares.{placed-low, placed-high, cell-reached, constraint-reached}

-- ---- the objective row

not_less : (free : Bool) (z : ℤ) → free ≡ false → (not free && int_lt (pos 0) z) ≡ false → z ≤ℤ pos 0
not_less true z e h = absurd cc
not_less false z e h = omega (arith, ints, h)

module _ (t : Tableau) (k : ℕ) (free : (r : ℕ) → r < length t.rows → basic_at t r ≡ k → ⊥) where
  other_row : (r : ℕ) (d : TableauRow) → r < length t.rows → not ((row_at t r).basic == k) ≡ true
  other_row r d lt = ap not (ne_eqb (basic_at t r) k (free r lt))

  not_basic : is_basic t k ≡ false
  not_basic = ap not (list_all-from_AllPass (λ (row : TableauRow). not (row.basic == k)) t.rows
      (λ r d lt. ap (λ (row : TableauRow). not (row.basic == k)) (get_or_default t.rows r d no_row lt) ∙ other_row r d lt))

module _ (f : Columns) (t : Tableau) (solved : IsSolved t) where
  pub aim-low : entering f t ≡ None → (k : ℕ) → k < length f.ranges → int_at t.aim k ≤ℤ pos 0
  aim-low over k lt = by_row t k
      (λ r h same. let none : int_at t.aim k ≡ pos 0 = ap (int_at t.aim) (sym same) ∙ solved.aimed r h in omega (arith, ints, none))
      (λ free. not_less (is_basic t k) (int_at t.aim k) (not_basic t k free)
      (first_below-none (length f.ranges) (λ n. not (is_basic t n) && int_lt (pos 0) (int_at t.aim n)) k over lt))

  -- a column that is not at 0 has the entry 0
  pub aim-none : (d : ℕ) (z : ℕ → ℤ) → IsPoint f t d z → (k : ℕ) → k < f.count → int_at t.aim k *ℤ z k ≡ pos 0
  aim-none d z point k lt = by_row t k
      (λ r h same. ap (λ m. m *ℤ z k) (ap (int_at t.aim) (sym same) ∙ solved.aimed r h) ∙ zero-mul (z k))
      (λ free. ap (λ m. int_at t.aim k *ℤ m) (point.others k lt free) ∙ mul-zero (int_at t.aim k))

-- ---- the columns of a program

module _ (p : Program) (floors caps : List ℕ) (f : Columns) (t : Tableau) (program : IsProgram p) (box : IsBox p floors caps)
    (frame : IsFrame p floors caps f) (sized : IsSized f t) (solved : IsSolved t) (d : ℕ) (z : ℕ → ℤ) (point : IsPoint f t d z) where
  -- where a column stands, counted from 0
  abbrev at : ℕ → ℤ
  at = place f t z

  ranged : (i : ℕ) → i < cells_of p → i < length f.ranges
  ranged i lt = let long = frame.ranges in omega (arith, lt, long)

  ranged_slack : (j : ℕ) → j < constraints_of p → slack_of p j < length f.ranges
  ranged_slack j lt = let long = frame.ranges in omega (arith, lt, long)

  counted : (k : ℕ) → k < length f.ranges → k < f.count
  counted k lt = let long = sized.ranges in omega (arith, lt, long)

  end_at : (k : ℕ) → k < length f.ranges → end_of f k ≡ nat_at f.ranges k
  end_at k lt = end_is f k (nat_at f.ranges k) (range_is f k lt)

  module _ (feasible : IsFeasible f t) where
    pub at-low : (k u : ℕ) → k < f.count → range_of f k ≡ Some u → pos 0 ≤ℤ at k
    at-low k u lt range = placed-low (is_turned t k) (z k) (z f.count) d (end_of f k) point.whole (number-low f t d z solved feasible point k lt)
        (subst (λ n. z k ≤ℤ (pos d *ℤ pos n)) (sym (end_is f k u range)) (number-high f t d z solved feasible point k u lt range))

    pub at-high : (k u : ℕ) → k < f.count → range_of f k ≡ Some u → at k ≤ℤ (pos d *ℤ pos u)
    at-high k u lt range = subst (λ n. at k ≤ℤ (pos d *ℤ pos n)) (end_is f k u range)
        (placed-high (is_turned t k) (z k) (z f.count) d (end_of f k) point.whole (number-low f t d z solved feasible point k lt)
        (subst (λ n. z k ≤ℤ (pos d *ℤ pos n)) (sym (end_is f k u range)) (number-high f t d z solved feasible point k u lt range)))

    pub cell-end : (i : ℕ) → i < cells_of p → end_of f i ≡ nat_at caps i - nat_at floors i
    cell-end i lt = end_at i (ranged i lt) ∙ frame.cells i lt

    cell_range : (i : ℕ) → i < cells_of p → range_of f i ≡ Some (nat_at caps i - nat_at floors i)
    cell_range i lt = range_is f i (ranged i lt) ∙ ap Some (frame.cells i lt)

    slack_end : (j : ℕ) → j < constraints_of p → range_of f (slack_of p j) ≡ Some (nat_at p.most j - nat_at p.least j)
    slack_end j lt = range_is f (slack_of p j) (ranged_slack j lt) ∙ ap Some (frame.slacks j lt)

    pub cell-low : (i : ℕ) → i < cells_of p → pos 0 ≤ℤ at i
    cell-low i lt = at-low i (nat_at caps i - nat_at floors i) (counted i (ranged i lt)) (cell_range i lt)

    pub cell-high : (i : ℕ) → i < cells_of p → at i ≤ℤ (pos d *ℤ pos (nat_at caps i - nat_at floors i))
    cell-high i lt = at-high i (nat_at caps i - nat_at floors i) (counted i (ranged i lt)) (cell_range i lt)

    pub slack-low : (j : ℕ) → j < constraints_of p → pos 0 ≤ℤ at (slack_of p j)
    slack-low j lt = at-low (slack_of p j) (nat_at p.most j - nat_at p.least j) (counted (slack_of p j) (ranged_slack j lt)) (slack_end j lt)

    pub slack-high : (j : ℕ) → j < constraints_of p → at (slack_of p j) ≤ℤ (pos d *ℤ pos (nat_at p.most j - nat_at p.least j))
    slack-high j lt = at-high (slack_of p j) (nat_at p.most j - nat_at p.least j) (counted (slack_of p j) (ranged_slack j lt)) (slack_end j lt)

  module _ (over : entering f t ≡ None) where
    -- a cell's share of the bound
    pub cell_at-end : (i : ℕ) → i < cells_of p → plain t t.aim i *ℤ (pos d *ℤ pos (nat_at floors i) +ℤ at i)
        ≡ pos d *ℤ int_max (plain t t.aim i *ℤ pos (nat_at floors i)) (plain t t.aim i *ℤ pos (nat_at caps i))
    cell_at-end i lt =
        cell-reached (is_turned t i) (int_at t.aim i) (z i) (z f.count) d (nat_at floors i) (nat_at caps i) (end_of f i)
        (aim-low f t solved over i (ranged i lt)) (aim-none f t solved d z point i (counted i (ranged i lt)))
        (box.inside i lt).1 point.whole (end_at i (ranged i lt) ∙ frame.cells i lt)

    -- and a constraint's
    pub constraint_at-end : (j : ℕ) → j < constraints_of p → multiplier p t j *ℤ (pos d *ℤ pos (nat_at p.most j) -ℤ at (slack_of p j))
        ≡ pos d *ℤ (multiplier p t j *ℤ pos (cond (int_lt (pos 0) (multiplier p t j)) (nat_at p.most j) (nat_at p.least j)))
    constraint_at-end j lt =
        let k = slack_of p j in
        constraint-reached (is_turned t k) (int_at t.aim k) (z k) (z f.count) d (nat_at p.least j) (nat_at p.most j) (end_of f k)
        (aim-low f t solved over k (ranged_slack j lt)) (aim-none f t solved d z point k (counted k (ranged_slack j lt)))
        (program.ordered j lt) point.whole (end_at k (ranged_slack j lt) ∙ frame.slacks j lt)
