-- The first rows of a program, place by place.
use Rattle.std.proofs.Common.{◌≡◌, ℕ, ◌+◌, ◌-◌, ◌==◌, ◌<◌, ◌≤◌, Bool, true, false, cond, ◌&&◌, ◌||◌, nat_lt, nat_le, length, refl, ap, ap₂, ◌∙◌, arith}
use Rattle.std.specs.Prelude.{ℤ, pos, negsuc, neg_ℤ, ◌-ℤ◌, ◌*ℤ◌, List}
use Rattle.std.proofs.lemmas.Int.{ints, by_lt_z}
use Rattle.std.proofs.lemmas.Bool.{cond-true, cond-false, lt-ltb, le-ltb, le-leb, lt-leb, eq-eqb, ne_eqb}
use Rattle.std.proofs.lemmas.List.{get_or_past}
use Rattle.pc_model.specs.Places.{has_bit}
use Rattle.pc_program_bound.specs.declared.program.Program.{Program}
use Rattle.pc_program_bound.specs.Sums.{nat_at, int_at}
use Rattle.pc_program_bound.specs.Allocation.{cells_of, constraints_of}
use Rattle.pc_simplex_tableau.specs.Numbers.{table}
use Rattle.pc_simplex_tableau.specs.Tableau.{TableauRow, Tableau, Columns, row_at, no_row, is_turned, turned_numbers}
use Rattle.pc_simplex_tableau.specs.Relaxation.{slack_of, helper_of, columns_of, slack_range, phase_one, left_of, coefficient, is_short, first_row, first_tableau}
use Rattle.pc_simplex_tableau.specs.Standing.{entry_at, basic_at, value_at}
use Rattle.pc_simplex_tableau.proofs.Turns.{length-turned_numbers, at_column, at_value, at_other}
use Rattle.pc_simplex_tableau.proofs.Listed.{length-table, at-table}

-- ---- what a constraint has at a column

abbrev chosen : Bool → Bool → Bool → Bool → ℤ → ℤ → ℤ
chosen cell slack helper value bit left = cond cell bit (cond (slack || helper) (pos 1) (cond value left (pos 0)))

at_none : (a b c d : Bool) (x y : ℤ) → a ≡ false → b ≡ false → c ≡ false → d ≡ false → chosen a b c d x y ≡ pos 0
at_none a b c d x y cell slack helper value = rw (cell, slack, helper, value) refl

at_first : (a b c d : Bool) (x y : ℤ) → a ≡ false → b ≡ true → chosen a b c d x y ≡ pos 1
at_first a b c d x y cell slack = rw (cell, slack) refl

at_second : (a b c d : Bool) (x y : ℤ) → a ≡ false → b ≡ false → c ≡ true → chosen a b c d x y ≡ pos 1
at_second a b c d x y cell slack helper = rw (cell, slack, helper) refl

at_last : (a b c d : Bool) (x y : ℤ) → a ≡ false → b ≡ false → c ≡ false → d ≡ true → chosen a b c d x y ≡ y
at_last a b c d x y cell slack helper value = rw (cell, slack, helper, value) refl

module _ (p : Program) (floors : List ℕ) (j : ℕ) (own : j < constraints_of p) where
  no_cell : (k : ℕ) → cells_of p ≤ k → nat_lt k (cells_of p) ≡ false
  no_cell k le = le-ltb k (cells_of p) le

  abbrev bit : ℕ → ℤ
  bit k = cond (has_bit (nat_at p.masks k) j) (pos 1) (pos 0)

  pub coefficient-cell : (i : ℕ) → i < cells_of p → coefficient p floors j i ≡ cond (has_bit (nat_at p.masks i) j) (pos 1) (pos 0)
  coefficient-cell i lt = cond-true _ _ _ (lt-ltb i (cells_of p) lt)

  pub coefficient-slack : coefficient p floors j (slack_of p j) ≡ pos 1
  coefficient-slack =
      let k = slack_of p j in
      at_first (nat_lt k (cells_of p)) (k == slack_of p j) (k == helper_of p j) (k == columns_of p) (bit k) (left_of p floors j)
      (no_cell k (omega arith)) (eq-eqb k (slack_of p j) refl)

  pub coefficient-other_slack : (i : ℕ) → i < constraints_of p → (i ≡ j → ⊥) → coefficient p floors j (slack_of p i) ≡ pos 0
  coefficient-other_slack i lt ne =
      let k = slack_of p i in
      at_none (nat_lt k (cells_of p)) (k == slack_of p j) (k == helper_of p j) (k == columns_of p) (bit k) (left_of p floors j)
      (no_cell k (omega arith)) (ne_eqb k (slack_of p j) (λ e. ne (omega (arith, e)))) (ne_eqb k (helper_of p j) (λ e. omega (arith, e, lt)))
      (ne_eqb k (columns_of p) (λ e. omega (arith, e, lt)))

  pub coefficient-helper : coefficient p floors j (helper_of p j) ≡ pos 1
  coefficient-helper =
      let k = helper_of p j in
      at_second (nat_lt k (cells_of p)) (k == slack_of p j) (k == helper_of p j) (k == columns_of p) (bit k) (left_of p floors j)
      (no_cell k (omega arith)) (ne_eqb k (slack_of p j) (λ e. omega (arith, e, own))) (eq-eqb k (helper_of p j) refl)

  pub coefficient-other_helper : (i : ℕ) → i < constraints_of p → (i ≡ j → ⊥) → coefficient p floors j (helper_of p i) ≡ pos 0
  coefficient-other_helper i lt ne =
      let k = helper_of p i in
      at_none (nat_lt k (cells_of p)) (k == slack_of p j) (k == helper_of p j) (k == columns_of p) (bit k) (left_of p floors j)
      (no_cell k (omega arith)) (ne_eqb k (slack_of p j) (λ e. omega (arith, e, own))) (ne_eqb k (helper_of p j) (λ e. ne (omega (arith, e))))
      (ne_eqb k (columns_of p) (λ e. omega (arith, e, lt)))

  pub coefficient-value : coefficient p floors j (columns_of p) ≡ left_of p floors j
  coefficient-value =
      let k = columns_of p in
      at_last (nat_lt k (cells_of p)) (k == slack_of p j) (k == helper_of p j) (k == columns_of p) (bit k) (left_of p floors j)
      (no_cell k (omega arith)) (ne_eqb k (slack_of p j) (λ e. omega (arith, e, own))) (ne_eqb k (helper_of p j) (λ e. omega (arith, e, own)))
      (eq-eqb k (columns_of p) refl)

-- ---- a row

chosen_same : {X : Type 0} (test : Bool) (x y a : X) → x ≡ a → y ≡ a → cond test x y ≡ a
chosen_same true x y a e d = e
chosen_same false x y a e d = d

chosen_each : {X : Type 0} (test : Bool) (x y a b : X) → x ≡ a → y ≡ b → cond test x y ≡ cond test a b
chosen_each true x y a b e d = e
chosen_each false x y a b e d = d

module _ (p : Program) (floors caps : List ℕ) where
  abbrev pub start : Tableau
  start = first_tableau p floors caps

  abbrev pub frame : Columns
  frame = phase_one p floors caps

  pub rows-start : length start.rows ≡ constraints_of p
  rows-start = length-table (constraints_of p) (first_row p floors caps)

  module _ (j : ℕ) (own : j < constraints_of p) where
    base : List ℤ
    base = table (columns_of p + 1) (coefficient p floors j)

    with_slack_turned : List ℤ
    with_slack_turned = turned_numbers frame (slack_of p j) (slack_range p j) base

    row_is : row_at start j ≡ first_row p floors caps j
    row_is = at-table (constraints_of p) (first_row p floors caps) j no_row own

    slack_below : slack_of p j < columns_of p
    slack_below = omega (arith, own)

    long : length base ≡ columns_of p + 1
    unfolding base
    long = length-table (columns_of p + 1) (coefficient p floors j)

    at_base : (k : ℕ) → k < columns_of p + 1 → int_at base k ≡ coefficient p floors j k
    unfolding base
    at_base k lt = at-table (columns_of p + 1) (coefficient p floors j) k (pos 0) lt

    numbers_are : (row_at start j).numbers ≡ cond (is_short p floors j) with_slack_turned base
    unfolding base with_slack_turned
    numbers_are = ap (λ (row : TableauRow). row.numbers) row_is ∙ by (is_short p floors j)
      where
        by : (test : Bool)
            → (cond {A = TableauRow} test (record { numbers = with_slack_turned; basic = helper_of p j }) (record { numbers = base; basic = slack_of p j })).numbers
            ≡ cond test with_slack_turned base
        by true = refl
        by false = refl

    basic_is : basic_at start j ≡ cond (is_short p floors j) (helper_of p j) (slack_of p j)
    unfolding base with_slack_turned
    basic_is = ap (λ (row : TableauRow). row.basic) row_is ∙ by (is_short p floors j)
      where
        by : (test : Bool)
            → (cond {A = TableauRow} test (record { numbers = with_slack_turned; basic = helper_of p j }) (record { numbers = base; basic = slack_of p j })).basic
            ≡ cond test (helper_of p j) (slack_of p j)
        by true = refl
        by false = refl

    entry_is : (k : ℕ) → entry_at start j k ≡ cond (is_short p floors j) (int_at with_slack_turned k) (int_at base k)
    entry_is k = ap (λ numbers. int_at numbers k) numbers_are ∙ by (is_short p floors j)
      where
        by : (test : Bool) → int_at (cond test with_slack_turned base) k ≡ cond test (int_at with_slack_turned k) (int_at base k)
        by true = refl
        by false = refl

    pub length-start : length (row_at start j).numbers ≡ columns_of p + 1
    unfolding with_slack_turned
    length-start = ap length numbers_are ∙ by (is_short p floors j)
      where
        by : (test : Bool) → length (cond test with_slack_turned base) ≡ columns_of p + 1
        by true = length-turned_numbers frame (slack_of p j) (slack_range p j) slack_below base long
        by false = long

    pub basic-short : is_short p floors j ≡ true → basic_at start j ≡ helper_of p j
    basic-short e = basic_is ∙ cond-true (is_short p floors j) (helper_of p j) (slack_of p j) e

    pub basic-long : is_short p floors j ≡ false → basic_at start j ≡ slack_of p j
    basic-long e = basic_is ∙ cond-false (is_short p floors j) (helper_of p j) (slack_of p j) e

    pub entry-start : (k : ℕ) → k < columns_of p → (k ≡ slack_of p j → ⊥) → entry_at start j k ≡ coefficient p floors j k
    unfolding with_slack_turned
    entry-start k lt ne = entry_is k
        ∙ chosen_same (is_short p floors j) (int_at with_slack_turned k) (int_at base k) (coefficient p floors j k)
        (at_other frame (slack_of p j) (slack_range p j) slack_below base long k lt ne ∙ at_base k (omega (arith, lt))) (at_base k (omega (arith, lt)))

    slack_base : int_at base (slack_of p j) ≡ pos 1
    slack_base = at_base (slack_of p j) (omega (arith, own)) ∙ coefficient-slack p floors j own

    value_base : int_at base (columns_of p) ≡ left_of p floors j
    value_base = at_base (columns_of p) (omega arith) ∙ coefficient-value p floors j own

    pub slack-start : entry_at start j (slack_of p j) ≡ cond (is_short p floors j) (negsuc 0) (pos 1)
    unfolding with_slack_turned
    slack-start = entry_is (slack_of p j)
        ∙ chosen_each (is_short p floors j) (int_at with_slack_turned (slack_of p j)) (int_at base (slack_of p j)) (negsuc 0) (pos 1)
        (at_column frame (slack_of p j) (slack_range p j) slack_below base long ∙ ap neg_ℤ slack_base) slack_base

    pub value-start : value_at frame start j ≡ cond (is_short p floors j) (left_of p floors j -ℤ pos 1 *ℤ pos (slack_range p j)) (left_of p floors j)
    unfolding with_slack_turned
    value-start = entry_is (columns_of p)
        ∙ chosen_each (is_short p floors j) (int_at with_slack_turned (columns_of p)) (int_at base (columns_of p))
        (left_of p floors j -ℤ pos 1 *ℤ pos (slack_range p j)) (left_of p floors j)
        (at_value frame (slack_of p j) (slack_range p j) slack_below base long
        ∙ ap₂ (λ v a. v -ℤ a *ℤ pos (slack_range p j)) value_base slack_base) value_base

  -- ---- the turned columns

  not_first : (a b c : Bool) → a ≡ false → (a && b && c) ≡ false
  not_first a b c e = rw e refl

  not_second : (a b c : Bool) → b ≡ false → (a && b && c) ≡ false
  not_second true b c e = rw e refl
  not_second false b c e = refl

  third : (a b c : Bool) → a ≡ true → b ≡ true → (a && b && c) ≡ c
  third a b c e d = rw (e, d) refl

  is_slack_turned : ℕ → Bool
  is_slack_turned k = nat_le (cells_of p) k && nat_lt k (helper_of p 0) && is_short p floors (k - cells_of p)

  turned_is : (k : ℕ) → k < columns_of p → is_turned start k ≡ is_slack_turned k
  unfolding is_slack_turned
  turned_is k lt = at-table (columns_of p) is_slack_turned k false lt

  pub turned-cell : (i : ℕ) → i < cells_of p → is_turned start i ≡ false
  unfolding is_slack_turned
  turned-cell i lt = turned_is i (omega (arith, lt))
      ∙ not_first (nat_le (cells_of p) i) (nat_lt i (helper_of p 0)) (is_short p floors (i - cells_of p)) (lt-leb (cells_of p) i lt)

  pub turned-slack : (i : ℕ) → i < constraints_of p → is_turned start (slack_of p i) ≡ is_short p floors i
  unfolding is_slack_turned
  turned-slack i lt =
      let k = slack_of p i in
      let place : k - cells_of p ≡ i = omega arith in
      turned_is k (omega (arith, lt))
      ∙ third (nat_le (cells_of p) k) (nat_lt k (helper_of p 0)) (is_short p floors (k - cells_of p))
      (le-leb (cells_of p) k (omega arith)) (lt-ltb k (helper_of p 0) (omega (arith, lt)))
      ∙ ap (is_short p floors) place

  pub turned-helper : (k : ℕ) → helper_of p 0 ≤ k → is_turned start k ≡ false
  unfolding is_slack_turned
  turned-helper k le = by_lt_z (pos k) (pos (columns_of p))
      (λ less. turned_is k (omega (arith, ints, less))
      ∙ not_second (nat_le (cells_of p) k) (nat_lt k (helper_of p 0)) (is_short p floors (k - cells_of p)) (le-ltb k (helper_of p 0) le))
      (λ past. (let size = length-table (columns_of p) is_slack_turned in get_or_past start.turned k false (omega (arith, ints, size, past))))
