-- The relaxation of a program over a box: its first rows, its two phases, and what they end in.
use Rattle.std.specs.Prelude.{◌≡◌, ◌<◌, ℕ, zero, suc, ◌+◌, ◌-◌, ◌==◌, ◌&&◌, ◌||◌, not, nat_lt, nat_le, int_lt, ℤ, pos, negsuc, neg_ℤ, ◌+ℤ◌, ◌-ℤ◌, ◌*ℤ◌, Bool, true, false, cond, List, [], ◌++◌, length, Some, None}
use Rattle.std.specs.List.{list_all}
use Rattle.pc_program_bound.specs.declared.program.Program.{Program}
use Rattle.pc_model.specs.declared.tree.Mult.{Mult}
use Rattle.pc_model.specs.Places.{has_bit}
use Rattle.pc_program_bound.specs.Sums.{sum_below, nat_at, int_at}
use Rattle.pc_program_bound.specs.Allocation.{cells_of, constraints_of}
use Rattle.pc_simplex_tableau.specs.Numbers.{table, first_below}
use Rattle.pc_simplex_tableau.specs.declared.step.Step.{Step}
use Rattle.pc_simplex_tableau.specs.Tableau.{TableauRow, Tableau, Columns, ended, wide, stalled, run, row_at, value_of, is_helper, is_turned, turned_numbers, freed_aim, does_freed_aim_fit}

-- ---- the columns: the cells, then a slack and then a helper of each constraint; the place after them is that of the value

abbrev pub slack_of : Program → ℕ → ℕ
slack_of p j = cells_of p + j

abbrev pub helper_of : Program → ℕ → ℕ
helper_of p j = cells_of p + constraints_of p + j

abbrev pub columns_of : Program → ℕ
columns_of p = cells_of p + constraints_of p + constraints_of p

abbrev pub slack_range : Program → ℕ → ℕ
slack_range p j = nat_at p.most j - nat_at p.least j

abbrev pub ranges_of : Program → List ℕ → List ℕ → List ℕ
ranges_of p floors caps = table (cells_of p) (λ i. nat_at caps i - nat_at floors i) ++ table (constraints_of p) (slack_range p)

abbrev pub phase_one : Program → List ℕ → List ℕ → Columns
phase_one p floors caps = record { ranges = ranges_of p floors caps; count = columns_of p; helper = None }

abbrev pub phase_two : Program → List ℕ → List ℕ → Columns
phase_two p floors caps = record { ranges = ranges_of p floors caps; count = columns_of p; helper = Some 0 }

-- ---- the first rows

-- what is left of a constraint's `most` by the floors of its cells
abbrev pub left_of : Program → List ℕ → ℕ → ℤ
left_of p floors j = pos (nat_at p.most j) -ℤ sum_below (cells_of p) (λ i. cond (has_bit (nat_at p.masks i) j) (pos (nat_at floors i)) (pos 0))

-- the number of constraint j at a column, or at the place of the value
abbrev pub coefficient : Program → List ℕ → ℕ → ℕ → ℤ
coefficient p floors j k =
    cond (nat_lt k (cells_of p)) (cond (has_bit (nat_at p.masks k) j) (pos 1) (pos 0))
    (cond (k == slack_of p j || k == helper_of p j) (pos 1)
    (cond (k == columns_of p) (left_of p floors j) (pos 0)))

-- a constraint that its slack alone cannot meet: it starts with its slack turned and its helper basic
abbrev pub is_short : Program → List ℕ → ℕ → Bool
is_short p floors j = int_lt (pos (slack_range p j)) (left_of p floors j)

abbrev pub first_row : Program → List ℕ → List ℕ → ℕ → TableauRow
first_row p floors caps j = cond (is_short p floors j)
    (record {
      numbers = turned_numbers (phase_one p floors caps) (slack_of p j) (slack_range p j) (table (columns_of p + 1) (coefficient p floors j));
      basic = helper_of p j;
    })
    (record { numbers = table (columns_of p + 1) (coefficient p floors j); basic = slack_of p j })

-- the rows with the given objective row, before it is freed of basic columns
abbrev pub first_tableau : Program → List ℕ → List ℕ → Tableau
first_tableau p floors caps = record {
  rows = table (constraints_of p) (first_row p floors caps);
  turned = table (columns_of p) (λ k. nat_le (cells_of p) k && nat_lt k (helper_of p 0) && is_short p floors (k - cells_of p));
  aim = table (columns_of p) (λ k. cond (nat_le (helper_of p 0) k && is_short p floors (k - helper_of p 0)) (negsuc 0) (pos 0));
  weight = pos 1;
}

-- the gains as objective row
abbrev pub with_gains : Program → Tableau → Tableau
with_gains p t = record t {
  aim = table (columns_of p) (λ k. cond (nat_lt k (cells_of p)) (cond (is_turned t k) (neg_ℤ (int_at p.gain k)) (int_at p.gain k)) (pos 0));
  weight = pos 1;
}

-- the objective row freed of the basic column of row n
abbrev pub freed_by : ℕ → Tableau → Tableau
freed_by n t = freed_aim (row_at t n).basic (row_at t n).numbers t

abbrev pub does_freed_by_fit : ℕ → Tableau → Bool
does_freed_by_fit n t = does_freed_aim_fit (row_at t n).basic (row_at t n).numbers t

-- the objective row freed of the basic columns of the first n rows, in their order
unfoldable pub freed_below : ℕ → Tableau → Tableau
freed_below zero t = t
freed_below (suc n) t = freed_by n (freed_below n t)

unfoldable pub do_freed_below_fit : ℕ → Tableau → Bool
do_freed_below_fit zero t = true
do_freed_below_fit (suc n) t = do_freed_below_fit n t && does_freed_by_fit n (freed_below n t)

abbrev pub freed : Tableau → Tableau
freed t = freed_below (length t.rows) t

abbrev pub does_freed_fit : Tableau → Bool
does_freed_fit t = do_freed_below_fit (length t.rows) t

-- ---- the end

-- minus the slack's entry in the objective row, or plus it where the slack is turned
abbrev pub multiplier : Program → Tableau → ℕ → ℤ
multiplier p t j = cond (is_turned t (slack_of p j)) (int_at t.aim (slack_of p j)) (neg_ℤ (int_at t.aim (slack_of p j)))

abbrev pub multipliers : Program → Tableau → ℤ → Mult
multipliers p t den = record { by = table (constraints_of p) (multiplier p t); den = den }

-- 1 for the constraint j, and 0 elsewhere
abbrev pub one_at : Program → ℕ → Mult
one_at p j = record { by = table (constraints_of p) (λ k. cond (k == j) (pos 1) (pos 0)); den = pos 1 }

abbrev pub has_helper : Columns → Tableau → Bool
has_helper f t = not (list_all (λ row. not (is_helper f row.basic && int_lt (pos 0) (value_of f row))) t.rows)

-- what the steps end in, before the width of what they end in is asked
pub data Ending : Type 0 where
  at_vertex : List Step → Tableau → Ending
  at_void : List Step → Mult → Ending
  at_wide : List Step → Ending
  at_stall : List Step → Ending

abbrev pub phase_two_from : Program → List ℕ → List ℕ → ℕ → List Step → Tableau → Ending
phase_two_from p floors caps left steps t = elim (does_freed_fit (with_gains p t)) [
  | false ↦ at_wide steps
  | true ↦ elim (run (phase_two p floors caps) left steps (freed (with_gains p t))) [
    | ended left steps t ↦ at_vertex steps t
    | wide steps ↦ at_wide steps
    | stalled steps ↦ at_stall steps
  ]
]

abbrev pub phase_one_from : Program → List ℕ → List ℕ → Tableau → Ending
phase_one_from p floors caps t = elim (does_freed_fit t) [
  | false ↦ at_wide []
  | true ↦ elim (run (phase_one p floors caps) 20_000 [] (freed t)) [
    | ended left steps t ↦ elim (has_helper (phase_one p floors caps) t) [
      | true ↦ at_void steps (multipliers p t (pos 1))
      | false ↦ phase_two_from p floors caps left steps t
    ]
    | wide steps ↦ at_wide steps
    | stalled steps ↦ at_stall steps
  ]
]

abbrev pub ending : Program → List ℕ → List ℕ → Ending
ending p floors caps = elim (first_below (constraints_of p) (λ j. int_lt (left_of p floors j) (pos 0))) [
  | Some j ↦ at_void [] (one_at p j)
  | None ↦ phase_one_from p floors caps (first_tableau p floors caps)
]

-- the frame fits a program and a box: the ranges of its cells and slacks, and its number of columns
pub record IsFrame (p : Program) (floors caps : List ℕ) (f : Columns) : Type 0 where
  pub cells : (i : ℕ) → i < cells_of p → nat_at f.ranges i ≡ nat_at caps i - nat_at floors i
  pub slacks : (j : ℕ) → j < constraints_of p → nat_at f.ranges (slack_of p j) ≡ slack_range p j
  pub ranges : length f.ranges ≡ cells_of p + constraints_of p
  pub count : f.count ≡ columns_of p

-- numbers for the columns over a common denominator, which stands negated at the place of the value, solve the constraints
abbrev pub SolvesAll : Program → List ℕ → (ℕ → ℤ) → Type 0
SolvesAll p floors y = (j : ℕ) → j < constraints_of p →
    sum_below (cells_of p) (λ i. cond (has_bit (nat_at p.masks i) j) (y i) (pos 0)) +ℤ y (slack_of p j) +ℤ y (helper_of p j)
    +ℤ left_of p floors j *ℤ y (columns_of p) ≡ pos 0
