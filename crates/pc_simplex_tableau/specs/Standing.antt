-- What the rows of a relaxation keep, whatever steps were taken.
use Rattle.std.specs.Prelude.{◌≡◌, ℕ, ◌+◌, ◌-◌, ◌<◌, ◌&&◌, nat_le, nat_lt, true, false, ⊤, ℤ, pos, negsuc, neg_ℤ, ◌+ℤ◌, ◌-ℤ◌, ◌*ℤ◌, ◌<ℤ◌, ◌≤ℤ◌, cond, List, length, None, MatchOption}
use Rattle.pc_model.specs.Places.{has_bit}
use Rattle.pc_program_bound.specs.declared.program.Program.{Program}
use Rattle.pc_program_bound.specs.Sums.{sum_below, nat_at, int_at}
use Rattle.pc_program_bound.specs.Allocation.{cells_of, constraints_of}
use Rattle.pc_simplex_tableau.specs.Tableau.{Tableau, Columns, row_at, is_turned, is_helper, range_of, end_of}
use Rattle.pc_simplex_tableau.specs.Relaxation.{slack_of, helper_of, columns_of, is_short, SolvesAll}
use Rattle.pc_simplex_tableau.specs.Conditions.{IsSized}

-- the number of a row at a column, the column that is basic in it, and its value
abbrev pub entry_at : Tableau → ℕ → ℕ → ℤ
entry_at t r k = int_at (row_at t r).numbers k

abbrev pub basic_at : Tableau → ℕ → ℕ
basic_at t r = (row_at t r).basic

abbrev pub value_at : Columns → Tableau → ℕ → ℤ
value_at f t r = entry_at t r f.count

-- ---- where a tableau stands

-- a basic column has a positive entry in its own row and 0 in all others and in the objective row
pub record IsSolved (t : Tableau) : Type 0 where
  pub positive : (r : ℕ) → r < length t.rows → pos 0 <ℤ entry_at t r (basic_at t r)
  pub alone : (i r : ℕ) → i < length t.rows → r < length t.rows → (i ≡ r → ⊥) → entry_at t i (basic_at t r) ≡ pos 0
  pub aimed : (r : ℕ) → r < length t.rows → int_at t.aim (basic_at t r) ≡ pos 0
  pub weighed : pos 0 <ℤ t.weight

-- each basic column stands between 0 and the end of its range, if that has one
pub record IsFeasible (f : Columns) (t : Tableau) : Type 0 where
  pub low : (r : ℕ) → r < length t.rows → pos 0 ≤ℤ value_at f t r
  pub high : (r : ℕ) → r < length t.rows → MatchOption (range_of f (basic_at t r)) ⊤ (λ u. value_at f t r ≤ℤ (entry_at t r (basic_at t r) *ℤ pos u))

-- column c, if it is not basic, may come up to v over q: it then stands within its range, and so does each basic column
pub record HasRoom (f : Columns) (c : ℕ) (t : Tableau) (v q : ℤ) : Type 0 where
  pub positive : pos 0 <ℤ q
  pub risen : pos 0 ≤ℤ v
  pub own : MatchOption (range_of f c) ⊤ (λ u. v ≤ℤ (q *ℤ pos u))
  pub low : (r : ℕ) → r < length t.rows → (entry_at t r c *ℤ v) ≤ℤ (q *ℤ value_at f t r)
  pub high : (r : ℕ) → r < length t.rows → MatchOption (range_of f (basic_at t r)) ⊤
      (λ u. (neg_ℤ (entry_at t r c) *ℤ v) ≤ℤ (q *ℤ (entry_at t r (basic_at t r) *ℤ pos u -ℤ value_at f t r)))

-- ---- what the entries mean

-- the number of a row at a column, its sign changed back where the column is turned
abbrev pub plain : Tableau → List ℤ → ℕ → ℤ
plain t numbers k = cond (is_turned t k) (neg_ℤ (int_at numbers k)) (int_at numbers k)

-- numbers for the columns are a weighted sum of the constraints, whose weights stand at the slacks, and of that many times the gain
pub record IsMixed (p : Program) (weight : ℤ) (gain x : ℕ → ℤ) : Type 0 where
  pub cells : (i : ℕ) → i < cells_of p → x i ≡
      sum_below (constraints_of p) (λ j. cond (has_bit (nat_at p.masks i) j) (x (slack_of p j)) (pos 0)) +ℤ weight *ℤ gain i
  pub helpers : (j : ℕ) → j < constraints_of p → x (helper_of p j) ≡ x (slack_of p j) +ℤ weight *ℤ gain (helper_of p j)

-- ---- what the rows mean

-- numbers for the columns, each counted from its end where the column is turned; minus the denominator stands at the place of the value
abbrev pub place : Columns → Tableau → (ℕ → ℤ) → ℕ → ℤ
place f t y k = cond (is_turned t k) (neg_ℤ (y k) -ℤ pos (end_of f k) *ℤ y f.count) (y k)

-- by how much numbers for the columns fail a row
abbrev pub miss : ℕ → List ℤ → (ℕ → ℤ) → ℤ
miss n numbers z = sum_below (n + 1) (λ k. int_at numbers k *ℤ z k)

abbrev pub SolvesRows : Columns → Tableau → (ℕ → ℤ) → Type 0
SolvesRows f t y = (r : ℕ) → r < length t.rows → miss f.count (row_at t r).numbers (place f t y) ≡ pos 0

-- ---- all of it

-- the rows and the objective row mean what the first ones of a program do: their numbers are mixed of the constraints; a column
-- without end is not turned; a helper without end that is basic has the gain -1; and what solves the rows solves the constraints.
-- The first parameter says how far the rows are solved for their basic columns
pub record IsMeantAs (IsSolvedAs : Tableau → Type 0) (p : Program) (floors : List ℕ) (gain : ℕ → ℤ) (f : Columns) (t : Tableau) : Type 0 where
  pub sized : IsSized f t
  pub solved : IsSolvedAs t
  pub rows : length t.rows ≡ constraints_of p
  pub count : f.count ≡ columns_of p
  pub rows_mixed : (r : ℕ) → r < length t.rows → IsMixed p (pos 0) gain (plain t (row_at t r).numbers)
  pub aim_mixed : IsMixed p t.weight gain (plain t t.aim)
  pub endless : (k : ℕ) → range_of f k ≡ None → is_turned t k ≡ false
  pub helpers : (r : ℕ) → r < length t.rows → is_helper f (basic_at t r) ≡ true → f.helper ≡ None → gain (basic_at t r) ≡ negsuc 0
  pub back : (y : ℕ → ℤ) → SolvesRows f t y → SolvesAll p floors y

-- solved in the objective row too
abbrev pub IsMeant : Program → List ℕ → (ℕ → ℤ) → Columns → Tableau → Type 0
IsMeant = IsMeantAs IsSolved

-- the same, with each basic column within its range
pub record IsStanding (p : Program) (floors : List ℕ) (gain : ℕ → ℤ) (f : Columns) (t : Tableau) : Type 0 where
  pub meant : IsMeant p floors gain f t
  pub feasible : IsFeasible f t

-- ---- what the columns gain in each phase

-- a helper of a short constraint loses one
abbrev pub gain_one : Program → List ℕ → ℕ → ℤ
gain_one p floors k = cond (nat_le (helper_of p 0) k && is_short p floors (k - helper_of p 0)) (negsuc 0) (pos 0)

-- a cell has its gain
abbrev pub gain_two : Program → ℕ → ℤ
gain_two p k = cond (nat_lt k (cells_of p)) (int_at p.gain k) (pos 0)
