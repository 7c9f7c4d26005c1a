-- The first rows are sized and solved, and mixed of the constraints.
use Rattle.std.proofs.Common.{◌≡◌, ℕ, ◌+◌, ◌-◌, ◌<◌, ◌≤◌, Bool, true, false, cond, ◌&&◌, nat_le, length, refl, ap, ap₂, sym, subst, ◌∙◌, arith, Option, Some, None, true≢false}
use Rattle.std.specs.Prelude.{ℤ, pos, negsuc, ◌+ℤ◌, ◌*ℤ◌, List}
use Rattle.std.proofs.lemmas.Int.{ints, by_lt_z}
use Rattle.std.proofs.lemmas.Bool.{cond-true, cond-false, and_from, and_left, leb-true, le-leb, lt-leb}
use Rattle.pc_model.specs.Places.{has_bit}
use Rattle.pc_program_bound.specs.declared.program.Program.{Program}
use Rattle.pc_program_bound.specs.Sums.{sum_below, nat_at}
use Rattle.pc_program_bound.specs.Allocation.{cells_of, constraints_of}
use Rattle.pc_program_bound.proofs.SumBelow.{none_chosen, sum_below-one}
use Rattle.pc_simplex_tableau.specs.Tableau.{Tableau, row_at, is_turned, is_helper, range_of}
use Rattle.pc_simplex_tableau.specs.Relaxation.{slack_of, helper_of, columns_of, ranges_of, is_short}
use Rattle.pc_simplex_tableau.specs.Conditions.{IsSized}
use Rattle.pc_simplex_tableau.specs.Standing.{entry_at, basic_at, plain, IsMixed, gain_one}
use Rattle.pc_simplex_tableau.specs.Freed.{IsSolvedRows}
use Rattle.pc_simplex_tableau.proofs.Sized.{sized_rows}
use Rattle.pc_simplex_tableau.proofs.Pivots.{by_same}
use Rattle.pc_simplex_tableau.proofs.Entering.{plain_column}
use Rattle.pc_simplex_tableau.proofs.Frames.{IsFrame-ranges}
use Rattle.pc_simplex_tableau.proofs.Turns.{signed, signed_none}
use Rattle.pc_simplex_tableau.proofs.StartTables.{IsMixed-gain}
use Rattle.pc_simplex_tableau.proofs.Listed.{length-table, at-table}
use Rattle.pc_simplex_tableau.proofs.StartRows.{start, frame, rows-start, coefficient-cell, coefficient-helper, coefficient-other_slack, coefficient-other_helper, length-start, basic-short, basic-long, entry-start, slack-start, turned-cell, turned-slack, turned-helper}

-- a sum of which all numbers but one are 0
both_signs : (test : Bool) → signed test (cond test (negsuc 0) (pos 1)) ≡ pos 1
both_signs true = refl
both_signs false = refl

module _ (p : Program) (floors caps : List ℕ) where
  pub length-ranges : length (ranges_of p floors caps) ≡ cells_of p + constraints_of p
  length-ranges = (IsFrame-ranges p floors caps None).ranges

  abbrev t : Tableau
  t = start p floors caps

  -- a place of one of the rows is a place of one of the constraints
  pub below : (r : ℕ) → r < length t.rows → r < constraints_of p
  below r h = omega (arith, h, rows-start p floors caps)

  -- ---- rows
  helper_column : (i j : ℕ) → i < constraints_of p → j < constraints_of p → (helper_of p i < columns_of p) × (helper_of p i ≡ slack_of p j → ⊥)
  helper_column i j lt own = (omega (arith, lt), λ e. omega (arith, e, own))

  pub helper-start : (j : ℕ) → j < constraints_of p → entry_at t j (helper_of p j) ≡ pos 1
  helper-start j own =
      let column = helper_column j j own own in
      entry-start p floors caps j own (helper_of p j) column.0 column.1 ∙ coefficient-helper p floors j own

  pub other_helper-start : (i j : ℕ) → i < constraints_of p → j < constraints_of p → (i ≡ j → ⊥) → entry_at t j (helper_of p i) ≡ pos 0
  other_helper-start i j lt own ne =
      let column = helper_column i j lt own in
      entry-start p floors caps j own (helper_of p i) column.0 column.1 ∙ coefficient-other_helper p floors j own i lt ne

  pub other_slack-start : (i j : ℕ) → i < constraints_of p → j < constraints_of p → (i ≡ j → ⊥) → entry_at t j (slack_of p i) ≡ pos 0
  other_slack-start i j lt own ne =
      entry-start p floors caps j own (slack_of p i) (omega (arith, lt)) (λ e. ne (omega (arith, e))) ∙ coefficient-other_slack p floors j own i lt ne

  pub cell-start : (i j : ℕ) → i < cells_of p → j < constraints_of p → entry_at t j i ≡ cond (has_bit (nat_at p.masks i) j) (pos 1) (pos 0)
  cell-start i j lt own = entry-start p floors caps j own i (omega (arith, lt)) (λ e. omega (arith, e, lt)) ∙ coefficient-cell p floors j own i lt

  -- a constraint is short or not
  pub by_short : {P : Type 0} (j : ℕ) → (is_short p floors j ≡ true → P) → (is_short p floors j ≡ false → P) → P
  by_short {P} j short plenty = by (is_short p floors j) refl
    where
      by : (test : Bool) → is_short p floors j ≡ test → P
      by true e = short e
      by false e = plenty e

  pub own-start : (j : ℕ) → j < constraints_of p → entry_at t j (basic_at t j) ≡ pos 1
  own-start j own = by_short j
      (λ e. ap (entry_at t j) (basic-short p floors caps j own e) ∙ helper-start j own)
      (λ e. ap (entry_at t j) (basic-long p floors caps j own e) ∙ slack-start p floors caps j own ∙ cond-false (is_short p floors j) (negsuc 0) (pos 1) e)

  alone-start : (i j : ℕ) → i < constraints_of p → j < constraints_of p → (i ≡ j → ⊥) → entry_at t i (basic_at t j) ≡ pos 0
  alone-start i j lt own ne = by_short j
      (λ e. ap (entry_at t i) (basic-short p floors caps j own e) ∙ other_helper-start j i own lt (λ d. ne (sym d)))
      (λ e. ap (entry_at t i) (basic-long p floors caps j own e) ∙ other_slack-start j i own lt (λ d. ne (sym d)))

  pub IsSolvedRows-start : IsSolvedRows t
  IsSolvedRows-start = record {
    positive = λ r h. (let one = own-start r (below r h) in omega (arith, ints, one));
    alone = λ i r h j ne. alone-start i r (below i h) (below r j) ne;
    weighed = omega (arith, ints);
  }

  basic_below : (j : ℕ) → j < constraints_of p → basic_at t j < columns_of p
  basic_below j own = by_short j
      (λ e. subst (λ k. k < columns_of p) (sym (basic-short p floors caps j own e)) (omega (arith, own)))
      (λ e. subst (λ k. k < columns_of p) (sym (basic-long p floors caps j own e)) (omega (arith, own)))

  pub IsSized-start : IsSized (frame p floors caps) t
  IsSized-start = record {
    ranges = omega (arith, length-ranges);
    rows = sized_rows (frame p floors caps) t (λ r h. length-start p floors caps r (below r h)) (λ r h. basic_below r (below r h));
    turned = length-table (columns_of p) _;
    aim = length-table (columns_of p) (gain_one p floors);
  }

  -- ---- each row is mixed of its own constraint
  module _ (r : ℕ) (own : r < constraints_of p) where
    x : ℕ → ℤ
    x = plain t (row_at t r).numbers

    x_cell : (i : ℕ) → i < cells_of p → x i ≡ cond (has_bit (nat_at p.masks i) r) (pos 1) (pos 0)
    unfolding x
    x_cell i lt = ap (λ test. signed test (entry_at t r i)) (turned-cell p floors caps i lt) ∙ cell-start i r lt own

    x_slack : x (slack_of p r) ≡ pos 1
    unfolding x
    x_slack = ap₂ signed (turned-slack p floors caps r own) (slack-start p floors caps r own) ∙ both_signs (is_short p floors r)

    x_other_slack : (i : ℕ) → i < constraints_of p → (i ≡ r → ⊥) → x (slack_of p i) ≡ pos 0
    unfolding x
    x_other_slack i lt ne = signed_none (is_turned t (slack_of p i)) (entry_at t r (slack_of p i)) (other_slack-start i r lt own ne)

    x_helper : x (helper_of p r) ≡ pos 1
    unfolding x
    x_helper = ap (λ test. signed test (entry_at t r (helper_of p r))) (turned-helper p floors caps (helper_of p r) (omega arith)) ∙ helper-start r own

    x_other_helper : (i : ℕ) → i < constraints_of p → (i ≡ r → ⊥) → x (helper_of p i) ≡ pos 0
    unfolding x
    x_other_helper i lt ne = signed_none (is_turned t (helper_of p i)) (entry_at t r (helper_of p i)) (other_helper-start i r lt own ne)

    x_sum : (i : ℕ) → sum_below (constraints_of p) (λ j. cond (has_bit (nat_at p.masks i) j) (x (slack_of p j)) (pos 0))
        ≡ cond (has_bit (nat_at p.masks i) r) (pos 1) (pos 0)
    x_sum i =
        sum_below-one (constraints_of p) r (λ j. cond (has_bit (nat_at p.masks i) j) (x (slack_of p j)) (pos 0)) own
        (λ j lt ne. none_chosen (has_bit (nat_at p.masks i) j) (x (slack_of p j)) (x_other_slack j lt ne))
        ∙ ap (λ z. cond (has_bit (nat_at p.masks i) r) z (pos 0)) x_slack

    pub IsMixed-start : (gain : ℕ → ℤ) → IsMixed p (pos 0) gain (plain t (row_at t r).numbers)
    unfolding x
    IsMixed-start gain = record {
      cells = λ i lt. (let cell = x_cell i lt in let sum = x_sum i in omega (arith, ints, cell, sum));
      helpers = λ j lt. by_same j r
          (λ e. subst (λ k. x (helper_of p k) ≡ x (slack_of p k) +ℤ pos 0 *ℤ gain (helper_of p k)) (sym e) (omega (arith, ints, x_helper, x_slack)))
          (λ ne. let helper = x_other_helper j lt ne in let slack = x_other_slack j lt ne in omega (arith, ints, helper, slack));
    }

  -- ---- the objective row
  gain-low : (k : ℕ) → k < helper_of p 0 → gain_one p floors k ≡ pos 0
  gain-low k lt =
      cond-false (nat_le (helper_of p 0) k && is_short p floors (k - helper_of p 0)) (negsuc 0) (pos 0)
      (and_left (nat_le (helper_of p 0) k) (is_short p floors (k - helper_of p 0)) (lt-leb (helper_of p 0) k lt))

  gain-helper : (j : ℕ) → is_short p floors j ≡ true → gain_one p floors (helper_of p j) ≡ negsuc 0
  gain-helper j e =
      let k = helper_of p j in
      let place : k - helper_of p 0 ≡ j = omega arith in
      cond-true (nat_le (helper_of p 0) k && is_short p floors (k - helper_of p 0)) (negsuc 0) (pos 0)
      (and_from (nat_le (helper_of p 0) k) (is_short p floors (k - helper_of p 0)) (le-leb (helper_of p 0) k (omega arith)) (ap (is_short p floors) place ∙ e))

  aim_place : (k : ℕ) → k < columns_of p → plain t t.aim k ≡ gain_one p floors k
  aim_place k lt =
      ap (signed (is_turned t k)) (at-table (columns_of p) (gain_one p floors) k (pos 0) lt)
      ∙ by_lt_z (pos k) (pos (helper_of p 0))
      (λ less. let none = gain-low k (omega (arith, ints, less)) in signed_none (is_turned t k) (gain_one p floors k) none ∙ sym none)
      (λ past. ap (λ test. signed test (gain_one p floors k)) (turned-helper p floors caps k (omega (arith, ints, past))))

  pub aim_mixed-start : IsMixed p (pos 1) (gain_one p floors) (plain t t.aim)
  aim_mixed-start = IsMixed-gain p (gain_one p floors) (plain t t.aim) aim_place (λ j lt. gain-low (slack_of p j) (omega (arith, lt)))

  -- ---- columns without end
  pub endless-start : (k : ℕ) → range_of (frame p floors caps) k ≡ None → is_turned t k ≡ false
  endless-start k none = turned-helper p floors caps k (by (is_helper (frame p floors caps) k) refl none)
    where
      by : (test : Bool) → is_helper (frame p floors caps) k ≡ test → cond {A = Option ℕ} test None (Some (nat_at (ranges_of p floors caps) k)) ≡ None → helper_of p 0 ≤ k
      by true e h = let past = leb-true (length (ranges_of p floors caps)) k e in omega (arith, past, length-ranges)
      by false e h = absurd cc

  pub helpers-start : (j : ℕ) → j < constraints_of p → is_helper (frame p floors caps) (basic_at t j) ≡ true → gain_one p floors (basic_at t j) ≡ negsuc 0
  helpers-start j own helper = by_short j
      (λ e. ap (gain_one p floors) (basic-short p floors caps j own e) ∙ gain-helper j e)
      (λ e. absurd (true≢false (sym helper ∙ ap (is_helper (frame p floors caps)) (basic-long p floors caps j own e)
      ∙ plain_column (frame p floors caps) (slack_of p j) (omega (arith, own, length-ranges)))))
