-- The counts at the end of the steps, their totals, and what they and the helpers say of the bound of the multipliers there.
use Rattle.std.proofs.Common.{◌≡◌, ℕ, ◌<◌, Bool, true, false, cond, List, length, refl, ap, sym, ◌∙◌, arith, None}
use Rattle.std.specs.Prelude.{ℤ, pos, negsuc, neg_ℤ, nat_abs, int_lt, ◌+ℤ◌, ◌-ℤ◌, ◌*ℤ◌, ◌≤ℤ◌}
use Rattle.std.specs.Int.{int_max}
use Rattle.std.proofs.lemmas.Int.{ints}
use Rattle.std.proofs.Math.IntN.{*ℤ_comm}
use Rattle.pc_model.specs.Places.{has_bit}
use Rattle.pc_program_bound.specs.declared.program.Program.{Program}
use Rattle.pc_program_bound.specs.Sums.{sum_below, nat_at, int_at}
use Rattle.pc_program_bound.specs.Allocation.{cells_of, constraints_of, count_for, total, worth, IsBox, IsProgram}
use Rattle.pc_program_bound.specs.Bound.{part_of, rest_of, constraint_share, cell_share, raw_bound}
use Rattle.pc_program_bound.proofs.Ring.{mul-add}
use Rattle.pc_program_bound.proofs.SumBelow.{sum_below-same, sum_below-add, sum_below-scale}
use Rattle.pc_program_bound.proofs.Duality.{worth-shared}
use Rattle.pc_simplex_tableau.specs.Numbers.{table}
use Rattle.pc_simplex_tableau.specs.Tableau.{Tableau, Columns, is_turned, entering}
use Rattle.pc_simplex_tableau.specs.Relaxation.{slack_of, helper_of, columns_of, left_of, multiplier, multipliers, IsFrame}
use Rattle.pc_simplex_tableau.specs.Standing.{plain, place, IsStanding}
use Rattle.pc_simplex_tableau.proofs.Products.{mul-zero, minus_one-mul, mul-neg, sub-mul, mul_not_negative}
use Rattle.pc_simplex_tableau.proofs.Listed.{length-table, at-table}
use Rattle.pc_simplex_tableau.proofs.Points.{IsPoint, place_value, SolvesRows-point}
use Rattle.pc_simplex_tableau.proofs.Ends.{cell-low, cell_at-end, constraint_at-end}

-- ---- pieces over plain numbers

natural : (x : ℤ) → pos 0 ≤ℤ x → pos (nat_abs x) ≡ x
natural x above = omega (arith, ints, above)

count_part : (test : Bool) (d floor count : ℕ) (y : ℤ) → pos count ≡ pos d *ℤ pos floor +ℤ y
    → cond test (pos count) (pos 0) ≡ pos d *ℤ cond test (pos floor) (pos 0) +ℤ cond test y (pos 0)
count_part true d floor count y e = e
count_part false d floor count y e = let none = mul-zero (pos d) in omega (arith, ints, none)

-- a constraint that is solved tells the total of its cells
total_from : (d : ℕ) (most floors left ys slack helper whole total : ℤ) → left ≡ most -ℤ floors → whole ≡ neg_ℤ (pos d)
    → total ≡ pos d *ℤ floors +ℤ ys → ys +ℤ slack +ℤ helper +ℤ left *ℤ whole ≡ pos 0 → total ≡ pos d *ℤ most -ℤ slack -ℤ helper
total_from d most floors left ys slack helper whole total lefts wholes totals solved =
    let product : left *ℤ whole ≡ (most -ℤ floors) *ℤ neg_ℤ (pos d) = ap (λ n. n *ℤ whole) lefts ∙ ap (λ n. (most -ℤ floors) *ℤ n) wholes in
    let turned = mul-neg (most -ℤ floors) (pos d) in
    let split = sub-mul most floors (pos d) in
    let first = *ℤ_comm most (pos d) in
    let second = *ℤ_comm floors (pos d) in
    omega (arith, ints, totals, solved, product, turned, split, first, second)

cell_moved : (x y c n : ℤ) (d floor ceiling : ℕ) → x ≡ y → c ≡ n
    → y *ℤ n ≡ pos d *ℤ int_max (y *ℤ pos floor) (y *ℤ pos ceiling) → x *ℤ c ≡ pos d *ℤ int_max (x *ℤ pos floor) (x *ℤ pos ceiling)
cell_moved x y c n d floor ceiling e h reached = rw (e, h) reached

constraint_moved : (x y total helper n : ℤ) (d least most : ℕ) → x ≡ y → total ≡ n -ℤ helper
    → y *ℤ n ≡ pos d *ℤ (y *ℤ pos (cond (int_lt (pos 0) y) most least))
    → x *ℤ total +ℤ x *ℤ helper ≡ pos d *ℤ (x *ℤ pos (cond (int_lt (pos 0) x) most least))
constraint_moved x y total helper n d least most e h reached =
    let whole : total +ℤ helper ≡ n = omega (arith, ints, h) in
    sym (mul-add x total helper) ∙ ap (λ m. x *ℤ m) whole ∙ rw e reached

signs : (test : Bool) (a : ℤ) → cond test a (neg_ℤ a) ≡ neg_ℤ (cond test (neg_ℤ a) a)
signs true a = omega (arith, ints)
signs false a = refl

given_part : (test : Bool) (by x : ℤ) → by ≡ neg_ℤ x → cond test by (pos 0) ≡ negsuc 0 *ℤ cond test x (pos 0)
given_part true by x e = e ∙ sym (minus_one-mul x)
given_part false by x e = sym (mul-zero (negsuc 0))

-- ---- the counts

module _ (p : Program) (floors caps : List ℕ) (gain : ℕ → ℤ) (f : Columns) (t : Tableau) (program : IsProgram p) (box : IsBox p floors caps)
    (frame : IsFrame p floors caps f) (standing : IsStanding p floors gain f t) (d : ℕ) (z : ℕ → ℤ) (point : IsPoint f t d z) where
  abbrev at : ℕ → ℤ
  at = place f t z

  abbrev number : ℕ → ℤ
  number i = pos d *ℤ pos (nat_at floors i) +ℤ at i

  number-low : (i : ℕ) → i < cells_of p → pos 0 ≤ℤ number i
  number-low i lt =
      let some : pos 0 ≤ℤ (pos d *ℤ pos (nat_at floors i)) = mul_not_negative (pos d) (pos (nat_at floors i)) (omega (arith, ints)) (omega (arith, ints)) in
      let low = cell-low p floors caps f t program box frame standing.meant.sized standing.meant.solved d z point standing.feasible i lt in
      omega (arith, ints, some, low)

  abbrev pub counts : List ℕ
  counts = table (cells_of p) (λ i. nat_abs (number i))

  pub length-counts : length counts ≡ cells_of p
  length-counts = length-table (cells_of p) (λ i. nat_abs (number i))

  pub count_is : (i : ℕ) → i < cells_of p → pos (nat_at counts i) ≡ number i
  count_is i lt = ap pos (at-table (cells_of p) (λ k. nat_abs (number k)) i 0 lt) ∙ natural (number i) (number-low i lt)

  module _ (j : ℕ) (lt : j < constraints_of p) where
    floor_at : ℕ → ℤ
    floor_at i = cond (has_bit (nat_at p.masks i) j) (pos (nat_at floors i)) (pos 0)

    part_at : ℕ → ℤ
    part_at i = cond (has_bit (nat_at p.masks i) j) (at i) (pos 0)

    total_split : total p counts j ≡ pos d *ℤ sum_below (cells_of p) floor_at +ℤ sum_below (cells_of p) part_at
    unfolding floor_at part_at
    total_split =
        sum_below-same (cells_of p) (count_for p counts j) (λ i. pos d *ℤ floor_at i +ℤ part_at i)
        (λ i h. count_part (has_bit (nat_at p.masks i) j) d (nat_at floors i) (nat_at counts i) (at i) (count_is i h))
        ∙ sum_below-add (cells_of p) (λ i. pos d *ℤ floor_at i) part_at
        ∙ ap (λ n. n +ℤ sum_below (cells_of p) part_at) (sum_below-scale (pos d) (cells_of p) floor_at)

    whole_at : at (columns_of p) ≡ neg_ℤ (pos d)
    whole_at = ap at (sym standing.meant.count) ∙ place_value f t d z standing.meant.sized standing.meant.solved point

    pub total_is : total p counts j ≡ pos d *ℤ pos (nat_at p.most j) -ℤ at (slack_of p j) -ℤ at (helper_of p j)
    unfolding floor_at part_at
    total_is =
        let solves = standing.meant.back at (SolvesRows-point f t d z standing.meant.sized standing.meant.solved point) in
        total_from d (pos (nat_at p.most j)) (sum_below (cells_of p) floor_at) (left_of p floors j) (sum_below (cells_of p) part_at)
        (at (slack_of p j)) (at (helper_of p j)) (at (columns_of p)) (total p counts j) refl whole_at total_split (solves j lt)

  -- ---- the bound, where the gains of the program are those of the objective row
  module _ (gains : List ℤ) (den : ℤ) (over : entering f t ≡ None)
      (same : (i : ℕ) → i < cells_of p → den *ℤ int_at gains i ≡ t.weight *ℤ gain i) where
    abbrev gaining : Program
    gaining = record p { gain = gains }

    abbrev by : ℕ → ℤ
    by = int_at (multipliers p t den).by

    pub by_is : (j : ℕ) → j < constraints_of p → by j ≡ multiplier p t j
    by_is j lt = at-table (constraints_of p) (multiplier p t) j (pos 0) lt

    pub by_slack : (j : ℕ) → j < constraints_of p → by j ≡ neg_ℤ (plain t t.aim (slack_of p j))
    by_slack j lt = by_is j lt ∙ signs (is_turned t (slack_of p j)) (int_at t.aim (slack_of p j))

    rest_is : (i : ℕ) → i < cells_of p → rest_of gaining (multipliers p t den) i ≡ plain t t.aim i
    rest_is i lt =
        let mixed = standing.meant.aim_mixed.cells i lt in
        let gained = same i lt in
        let given : sum_below (constraints_of p) (part_of gaining (multipliers p t den) i) ≡ negsuc 0 *ℤ sum_below (constraints_of p) taken =
        sum_below-same (constraints_of p) (part_of gaining (multipliers p t den) i) (λ j. negsuc 0 *ℤ taken j)
        (λ j h. given_part (has_bit (nat_at p.masks i) j) (by j) (plain t t.aim (slack_of p j)) (by_slack j h))
        ∙ sum_below-scale (negsuc 0) (constraints_of p) taken in
        let minus = minus_one-mul (sum_below (constraints_of p) taken) in
        omega (arith, ints, mixed, gained, given, minus)
      where
        taken : ℕ → ℤ
        taken j = cond (has_bit (nat_at p.masks i) j) (plain t t.aim (slack_of p j)) (pos 0)

    cells_reached : sum_below (cells_of p) (λ i. rest_of gaining (multipliers p t den) i *ℤ pos (nat_at counts i))
        ≡ pos d *ℤ sum_below (cells_of p) (cell_share gaining floors caps (multipliers p t den))
    cells_reached =
        sum_below-same (cells_of p) (λ i. rest_of gaining (multipliers p t den) i *ℤ pos (nat_at counts i))
        (λ i. pos d *ℤ cell_share gaining floors caps (multipliers p t den) i)
        (λ i h. cell_moved (rest_of gaining (multipliers p t den) i) (plain t t.aim i) (pos (nat_at counts i)) (number i) d (nat_at floors i) (nat_at caps i)
        (rest_is i h) (count_is i h)
        (cell_at-end p floors caps f t program box frame standing.meant.sized standing.meant.solved d z point over i h))
        ∙ sum_below-scale (pos d) (cells_of p) (cell_share gaining floors caps (multipliers p t den))

    constraints_reached : sum_below (constraints_of p) (λ j. by j *ℤ total p counts j) +ℤ sum_below (constraints_of p) (λ j. by j *ℤ at (helper_of p j))
        ≡ pos d *ℤ sum_below (constraints_of p) (constraint_share gaining (multipliers p t den))
    constraints_reached =
        sym (sum_below-add (constraints_of p) (λ j. by j *ℤ total p counts j) (λ j. by j *ℤ at (helper_of p j)))
        ∙ sum_below-same (constraints_of p) (λ j. by j *ℤ total p counts j +ℤ by j *ℤ at (helper_of p j))
        (λ j. pos d *ℤ constraint_share gaining (multipliers p t den) j)
        (λ j h. constraint_moved (by j) (multiplier p t j) (total p counts j) (at (helper_of p j)) (pos d *ℤ pos (nat_at p.most j) -ℤ at (slack_of p j)) d
        (nat_at p.least j) (nat_at p.most j) (by_is j h) (total_is j h)
        (constraint_at-end p floors caps f t program box frame standing.meant.sized standing.meant.solved d z point over j h))
        ∙ sum_below-scale (pos d) (constraints_of p) (constraint_share gaining (multipliers p t den))

    pub bound_at-end : pos d *ℤ raw_bound gaining floors caps (multipliers p t den)
        ≡ den *ℤ worth gaining counts +ℤ sum_below (constraints_of p) (λ j. by j *ℤ at (helper_of p j))
    bound_at-end =
        let split = mul-add (pos d) (sum_below (constraints_of p) (constraint_share gaining (multipliers p t den)))
        (sum_below (cells_of p) (cell_share gaining floors caps (multipliers p t den))) in
        let worths = worth-shared gaining counts (multipliers p t den) in
        let cells = cells_reached in
        let constraints = constraints_reached in
        omega (arith, ints, split, worths, cells, constraints)
