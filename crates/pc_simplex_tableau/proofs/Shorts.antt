-- A constraint whose cells have more at their floors than it allows shows by itself that the box has no allocation.
use Rattle.std.proofs.Common.{◌≡◌, ℕ, ◌<◌, ◌≤◌, ◌==◌, Bool, true, false, cond, List, refl, ap, ◌∙◌, arith, Some}
use Rattle.std.specs.Prelude.{ℤ, pos, negsuc, int_lt, ◌-ℤ◌, ◌*ℤ◌, ◌<ℤ◌}
use Rattle.std.specs.Int.{int_max}
use Rattle.std.proofs.lemmas.Int.{ints, clamps}
use Rattle.std.proofs.lemmas.Bool.{ne_eqb, eq-eqb}
use Rattle.std.proofs.lemmas.List.{get_or-replicate}
use Rattle.pc_model.specs.Places.{has_bit}
use Rattle.pc_program_bound.specs.declared.program.Program.{Program}
use Rattle.pc_program_bound.specs.Sums.{sum_below, nat_at, int_at}
use Rattle.pc_program_bound.specs.Allocation.{cells_of, constraints_of, IsBox}
use Rattle.pc_program_bound.specs.Bound.{part_of, rest_of, constraint_share, cell_share, raw_bound, without_gain}
use Rattle.pc_program_bound.proofs.SumBelow.{none_chosen, sum_below-one, sum_below-same, sum_below-scale}
use Rattle.pc_simplex_tableau.specs.Numbers.{first_below}
use Rattle.pc_simplex_tableau.specs.Relaxation.{left_of, one_at}
use Rattle.pc_simplex_tableau.proofs.Products.{zero-mul, one-mul}
use Rattle.pc_simplex_tableau.proofs.Entering.{first_below-some}
use Rattle.pc_simplex_tableau.proofs.Listed.{at-table}

one_share : (test : Bool) (by : ℤ) (most least : ℕ) → by ≡ cond test (pos 1) (pos 0)
    → by *ℤ pos (cond (int_lt (pos 0) by) most least) ≡ cond test (pos most) (pos 0)
one_share true by most least e = rw e (one-mul (pos most))
one_share false by most least e = rw e (zero-mul (pos least))

-- the share of a cell from which the constraint takes one, or nothing
floor_share : (test : Bool) (r : ℤ) (floor ceiling : ℕ) → floor ≤ ceiling → r ≡ pos 1 *ℤ pos 0 -ℤ cond test (pos 1) (pos 0)
    → int_max (r *ℤ pos floor) (r *ℤ pos ceiling) ≡ negsuc 0 *ℤ cond test (pos floor) (pos 0)
floor_share true r floor ceiling le e = let one : r ≡ negsuc 0 = omega (arith, ints, e) in rw one (omega (arith, ints, clamps, le))
floor_share false r floor ceiling le e = let none : r ≡ pos 0 = omega (arith, ints, e) in rw none (omega (arith, ints, clamps))

module _ (p : Program) (floors caps : List ℕ) (j : ℕ) (lt : j < constraints_of p) where
  by_at : (k : ℕ) → k < constraints_of p → int_at (one_at p j).by k ≡ cond (k == j) (pos 1) (pos 0)
  by_at k h = at-table (constraints_of p) (λ n. cond (n == j) (pos 1) (pos 0)) k (pos 0) h

  by_other : (k : ℕ) → k < constraints_of p → (k ≡ j → ⊥) → int_at (one_at p j).by k ≡ pos 0
  by_other k h ne = by_at k h ∙ ap (λ test. cond test (pos 1) (pos 0)) (ne_eqb k j ne)

  by_own : int_at (one_at p j).by j ≡ pos 1
  by_own = by_at j lt ∙ ap (λ test. cond test (pos 1) (pos 0)) (eq-eqb j j refl)

  constraint_shares : sum_below (constraints_of p) (constraint_share (without_gain p) (one_at p j)) ≡ pos (nat_at p.most j)
  constraint_shares =
      sum_below-one (constraints_of p) j (constraint_share (without_gain p) (one_at p j)) lt
      (λ k h ne. one_share false (int_at (one_at p j).by k) (nat_at p.most k) (nat_at p.least k) (by_other k h ne))
      ∙ one_share true (int_at (one_at p j).by j) (nat_at p.most j) (nat_at p.least j) by_own

  given : (i : ℕ) → sum_below (constraints_of p) (part_of (without_gain p) (one_at p j) i) ≡ cond (has_bit (nat_at p.masks i) j) (pos 1) (pos 0)
  given i =
      sum_below-one (constraints_of p) j (part_of (without_gain p) (one_at p j) i) lt
      (λ k h ne. none_chosen (has_bit (nat_at p.masks i) k) (int_at (one_at p j).by k) (by_other k h ne))
      ∙ ap (λ by. cond (has_bit (nat_at p.masks i) j) by (pos 0)) by_own

  rest_is : (i : ℕ) → i < cells_of p → rest_of (without_gain p) (one_at p j) i ≡ pos 1 *ℤ pos 0 -ℤ cond (has_bit (nat_at p.masks i) j) (pos 1) (pos 0)
  rest_is i h = rw (get_or-replicate (cells_of p) i (pos 0) (pos 0) h, given i) refl

  abbrev floor_at : ℕ → ℤ
  floor_at i = cond (has_bit (nat_at p.masks i) j) (pos (nat_at floors i)) (pos 0)

  cell_shares : IsBox p floors caps → sum_below (cells_of p) (cell_share (without_gain p) floors caps (one_at p j)) ≡ negsuc 0 *ℤ sum_below (cells_of p) floor_at
  cell_shares box =
      sum_below-same (cells_of p) (cell_share (without_gain p) floors caps (one_at p j)) (λ i. negsuc 0 *ℤ floor_at i)
      (λ i h. floor_share (has_bit (nat_at p.masks i) j) (rest_of (without_gain p) (one_at p j) i) (nat_at floors i) (nat_at caps i) (box.inside i h).1 (rest_is i h))
      ∙ sum_below-scale (negsuc 0) (cells_of p) floor_at

  pub below-short : IsBox p floors caps → int_lt (left_of p floors j) (pos 0) ≡ true → raw_bound (without_gain p) floors caps (one_at p j) <ℤ pos 0
  below-short box short =
      let constraints = constraint_shares in
      let cells = cell_shares box in
      omega (arith, ints, constraints, cells, short)

pub void_at_once : (p : Program) (floors caps : List ℕ) (j : ℕ) → IsBox p floors caps
    → first_below (constraints_of p) (λ k. int_lt (left_of p floors k) (pos 0)) ≡ Some j
    → raw_bound (without_gain p) floors caps (one_at p j) <ℤ pos 0
void_at_once p floors caps j box e =
    let found = first_below-some (constraints_of p) (λ k. int_lt (left_of p floors k) (pos 0)) j e in
    below-short p floors caps j found.0 box found.1
