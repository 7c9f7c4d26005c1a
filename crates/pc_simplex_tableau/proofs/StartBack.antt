-- Numbers that solve the first rows solve the constraints.
use Rattle.std.proofs.Common.{◌≡◌, ℕ, zero, suc, ◌+◌, ◌<◌, Bool, true, false, cond, ap, ap₂, sym, ◌∙◌, arith, Some, None}
use Rattle.std.specs.Prelude.{ℤ, pos, negsuc, neg_ℤ, ◌+ℤ◌, ◌-ℤ◌, ◌*ℤ◌, List}
use Rattle.std.proofs.lemmas.Int.{ints}
use Rattle.pc_model.specs.Places.{has_bit}
use Rattle.pc_program_bound.specs.declared.program.Program.{Program}
use Rattle.pc_program_bound.specs.Sums.{sum_below, nat_at}
use Rattle.pc_program_bound.specs.Allocation.{cells_of, constraints_of}
use Rattle.pc_program_bound.proofs.SumBelow.{sum_below-one, sum_below-zero, sum_below-suc, sum_below-more, sum_below-same}
use Rattle.pc_simplex_tableau.specs.Tableau.{is_turned, range_of, end_of}
use Rattle.pc_simplex_tableau.specs.Relaxation.{slack_of, helper_of, columns_of, slack_range, ranges_of, left_of, is_short, SolvesAll}
use Rattle.pc_simplex_tableau.specs.Standing.{entry_at, place, SolvesRows}
use Rattle.pc_simplex_tableau.proofs.Products.{zero-mul, one-mul, minus_one-mul, sub-mul}
use Rattle.pc_simplex_tableau.proofs.Entering.{range_is}
use Rattle.pc_simplex_tableau.proofs.Frames.{IsFrame-ranges}
use Rattle.pc_simplex_tableau.proofs.Turned.{end_is}
use Rattle.pc_simplex_tableau.proofs.StartRows.{start, frame, rows-start, slack-start, value-start, turned-cell, turned-slack, turned-helper}
use Rattle.pc_simplex_tableau.proofs.StartMeant.{length-ranges, helper-start, other_helper-start, other_slack-start, cell-start}

-- a sum in two parts
sum_below-parts : (n m : ℕ) (x : ℕ → ℤ) → sum_below (n + m) x ≡ sum_below n x +ℤ sum_below m (λ k. x (n + k))
sum_below-parts n zero x = let none = sum_below-zero (λ k. x (n + k)) in let same : n + 0 ≡ n = omega arith in rw (same, none) (omega (arith, ints))
sum_below-parts n (suc m) x =
    let before = sum_below-parts n m x in
    let last = sum_below-suc m (λ k. x (n + k)) in
    let more : n + suc m ≡ suc (n + m) = omega arith in
    rw more (let whole = sum_below-suc (n + m) x in omega (arith, ints, before, last, whole))

bit_product : (test : Bool) (y : ℤ) → cond test (pos 1) (pos 0) *ℤ y ≡ cond test y (pos 0)
bit_product true y = one-mul y
bit_product false y = zero-mul y

-- the slack and the value of a row, turned or not
turned_share : (test : Bool) (left y u z : ℤ)
    → cond test (negsuc 0) (pos 1) *ℤ cond test (neg_ℤ y -ℤ u *ℤ z) y +ℤ cond test (left -ℤ pos 1 *ℤ u) left *ℤ z ≡ y +ℤ left *ℤ z
turned_share true left y u z =
    let slack = minus_one-mul (neg_ℤ y -ℤ u *ℤ z) in
    let split = sub-mul left (pos 1 *ℤ u) z in
    let one = ap (λ n. n *ℤ z) (one-mul u) in
    omega (arith, ints, slack, split, one)
turned_share false left y u z = let slack = one-mul y in omega (arith, ints, slack)

module _ (p : Program) (floors caps : List ℕ) where
  -- the range of a slack
  slack_place_is : (j : ℕ) → j < constraints_of p → nat_at (ranges_of p floors caps) (slack_of p j) ≡ slack_range p j
  slack_place_is = (IsFrame-ranges p floors caps None).slacks

  pub range-slack : (j : ℕ) → j < constraints_of p → range_of (frame p floors caps) (slack_of p j) ≡ Some (slack_range p j)
  range-slack j own = range_is (frame p floors caps) (slack_of p j) (omega (arith, own, length-ranges p floors caps)) ∙ ap Some (slack_place_is j own)

  module _ (y : ℕ → ℤ) (j : ℕ) (own : j < constraints_of p) where
    abbrev z : ℕ → ℤ
    z = place (frame p floors caps) (start p floors caps) y

    abbrev x : ℕ → ℤ
    x k = entry_at (start p floors caps) j k *ℤ z k

    plain_place : (k : ℕ) → is_turned (start p floors caps) k ≡ false → z k ≡ y k
    plain_place k e = ap (λ test. cond test (neg_ℤ (y k) -ℤ pos (end_of (frame p floors caps) k) *ℤ y (columns_of p)) (y k)) e

    x_cell : (i : ℕ) → i < cells_of p → x i ≡ cond (has_bit (nat_at p.masks i) j) (y i) (pos 0)
    x_cell i lt =
        ap₂ (λ a b. a *ℤ b) (cell-start p floors caps i j lt own) (plain_place i (turned-cell p floors caps i lt))
        ∙ bit_product (has_bit (nat_at p.masks i) j) (y i)

    x_other_slack : (i : ℕ) → i < constraints_of p → (i ≡ j → ⊥) → x (slack_of p i) ≡ pos 0
    x_other_slack i lt ne = ap (λ a. a *ℤ z (slack_of p i)) (other_slack-start p floors caps i j lt own ne) ∙ zero-mul (z (slack_of p i))

    x_other_helper : (i : ℕ) → i < constraints_of p → (i ≡ j → ⊥) → x (helper_of p i) ≡ pos 0
    x_other_helper i lt ne = ap (λ a. a *ℤ z (helper_of p i)) (other_helper-start p floors caps i j lt own ne) ∙ zero-mul (z (helper_of p i))

    x_helper : x (helper_of p j) ≡ y (helper_of p j)
    x_helper =
        ap₂ (λ a b. a *ℤ b) (helper-start p floors caps j own) (plain_place (helper_of p j) (turned-helper p floors caps (helper_of p j) (omega arith)))
        ∙ one-mul (y (helper_of p j))

    slack_place : z (slack_of p j) ≡ cond (is_short p floors j) (neg_ℤ (y (slack_of p j)) -ℤ pos (slack_range p j) *ℤ y (columns_of p)) (y (slack_of p j))
    slack_place =
        let s = slack_of p j in
        ap₂ (λ test n. cond test (neg_ℤ (y s) -ℤ pos n *ℤ y (columns_of p)) (y s)) (turned-slack p floors caps j own)
        (end_is (frame p floors caps) s (slack_range p j) (range-slack j own))

    x_share : x (slack_of p j) +ℤ x (columns_of p) ≡ y (slack_of p j) +ℤ left_of p floors j *ℤ y (columns_of p)
    x_share =
        ap₂ (λ a b. a +ℤ b) (ap₂ (λ a b. a *ℤ b) (slack-start p floors caps j own) slack_place)
        (ap₂ (λ a b. a *ℤ b) (value-start p floors caps j own) (plain_place (columns_of p) (turned-helper p floors caps (columns_of p) (omega arith))))
        ∙ turned_share (is_short p floors j) (left_of p floors j) (y (slack_of p j)) (pos (slack_range p j)) (y (columns_of p))

    x_sum : sum_below (columns_of p + 1) x
        ≡ sum_below (cells_of p) (λ i. cond (has_bit (nat_at p.masks i) j) (y i) (pos 0)) +ℤ y (slack_of p j) +ℤ y (helper_of p j)
        +ℤ left_of p floors j *ℤ y (columns_of p)
    x_sum =
        let n = cells_of p in
        let m = constraints_of p in
        let whole = sum_below-more (columns_of p) x in
        let front = sum_below-parts (n + m) m x in
        let cells = sum_below-parts n m x in
        let each = sum_below-same n x (λ i. cond (has_bit (nat_at p.masks i) j) (y i) (pos 0)) x_cell in
        let slacks = sum_below-one m j (λ i. x (slack_of p i)) own x_other_slack in
        let helpers = sum_below-one m j (λ i. x (helper_of p i)) own x_other_helper in
        omega (arith, ints, whole, front, cells, each, slacks, helpers, x_helper, x_share)

  pub SolvesAll-start : (y : ℕ → ℤ) → SolvesRows (frame p floors caps) (start p floors caps) y → SolvesAll p floors y
  SolvesAll-start y solves j own = sym (x_sum y j own) ∙ solves j (omega (arith, own, rows-start p floors caps))
