-- Small multipliers and gains make a width that fits.
use Rattle.std.proofs.Common.{◌≡◌, ℕ, zero, suc, ◌+◌, ◌*◌, ◌<◌, ◌≤◌, ◌^◌, Bool, true, false, cond, arith, mul-le-mul}
use Rattle.std.specs.Prelude.{ℤ, pos, ◌+ℤ◌, ◌*ℤ◌, nat_abs}
use Rattle.std.proofs.lemmas.Int.{ints, unsigned_abs-mul}
use Rattle.pc_model.specs.declared.tree.Mult.{Mult}
use Rattle.pc_model.specs.Places.{has_bit}
use Rattle.pc_program_bound.specs.declared.program.Program.{Program}
use Rattle.pc_program_bound.specs.Sums.{sum_below, nat_at, int_at}
use Rattle.pc_program_bound.specs.Allocation.{cells_of, constraints_of, IsProgram}
use Rattle.pc_program_bound.specs.Bound.{part_of, rest_of, constraint_size, cell_size, given_up_to, constraint_sizes, cell_sizes, HasFitWidth}
use Rattle.pc_program_bound.proofs.SumBelow.{sum_below-zero, sum_below-suc}
use borrow.Author.Differences.{abs_is}

pub size_product : (a : ℤ) (c m n : ℕ) → nat_abs a ≤ m → c ≤ n → nat_abs (pos (nat_abs a) *ℤ pos c) ≤ m * n
size_product a c m n small few = rw (unsigned_abs-mul (pos (nat_abs a)) (pos c)) (mul-le-mul small few)

pub abs-add : (a b : ℤ) → nat_abs (a +ℤ b) ≤ nat_abs a + nat_abs b
abs-add a b = omega (arith, ints, abs_is a, abs_is b, abs_is (a +ℤ b))

-- a sum of numbers that are at most that far from 0
pub sum-size : (n : ℕ) (f : ℕ → ℤ) (m : ℕ) → ((i : ℕ) → i < n → nat_abs (f i) ≤ m) → nat_abs (sum_below n f) ≤ n * m
sum-size zero f m small = rw (sum_below-zero f) (omega arith)
sum-size (suc n) f m small =
    let before = sum-size n f m (λ i h. small i (omega arith)) in
    let last = small n (omega arith) in
    let whole : nat_abs (sum_below (suc n) f) ≤ nat_abs (sum_below n f) + nat_abs (f n) = rw (sum_below-suc n f) (abs-add (sum_below n f) (f n)) in
    let more : suc n * m ≡ n * m + m = omega arith in
    rw more (omega (arith, before, last, whole))

at_most : (k n m : ℕ) → k ≤ n → k * m ≤ n * m
at_most k n m le = mul-le-mul le (omega arith)

-- how far the multipliers are from 0
module _ (p : Program) (mult : Mult) (program : IsProgram p) (size : ℕ)
    (small : (j : ℕ) → j < constraints_of p → nat_abs (int_at mult.by j) ≤ size) where
  part : (i j : ℕ) → j < constraints_of p → nat_abs (part_of p mult i j) ≤ size
  part i j h = by_test (has_bit (nat_at p.masks i) j)
    where
      by_test : (test : Bool) → nat_abs (cond test (int_at mult.by j) (pos 0)) ≤ size
      by_test true = small j h
      by_test false = omega arith

  given : (i k : ℕ) → k ≤ constraints_of p → nat_abs (given_up_to p mult i k) ≤ 20 * size
  given i k le =
      let sum = sum-size k (part_of p mult i) size (λ j h. part i j (omega arith)) in
      let most = at_most k 20 size (omega (arith, program.few)) in
      omega (arith, sum, most)

  pub rest_within : (i scaled_size : ℕ) → nat_abs (mult.den *ℤ int_at p.gain i) ≤ scaled_size → nat_abs (rest_of p mult i) ≤ scaled_size + 20 * size
  rest_within i scaled_size scaled =
      let all = given i (constraints_of p) (omega arith) in
      omega (
        arith,
        ints,
        all,
        scaled,
        abs_is (mult.den *ℤ int_at p.gain i),
        abs_is (given_up_to p mult i (constraints_of p)),
        abs_is (rest_of p mult i),
      )

  constraint : (j : ℕ) → j < constraints_of p → nat_abs (constraint_size p mult j) ≤ size * 1_000_000_000
  constraint j h = size_product (int_at mult.by j) (nat_at p.most j) _ _ (small j h) (program.small_most j h)

  constraint_sum : (k : ℕ) → k ≤ constraints_of p → nat_abs (constraint_sizes p mult k) ≤ 20 * (size * 1_000_000_000)
  constraint_sum k le =
      let sum = sum-size k (constraint_size p mult) _ (λ j h. constraint j (omega arith)) in
      let most = at_most k 20 (size * 1_000_000_000) (omega (arith, program.few)) in
      omega (arith, sum, most)

  -- how far scaled gains and what is left of them are from 0, and of how many cells
  module _ (scaled_size rest_size cells : ℕ) (few : cells_of p ≤ cells)
      (scaled : (i : ℕ) → i < cells_of p → nat_abs (mult.den *ℤ int_at p.gain i) ≤ scaled_size)
      (rest : (i : ℕ) → i < cells_of p → nat_abs (rest_of p mult i) ≤ rest_size) where
    cell : (i : ℕ) → i < cells_of p → nat_abs (cell_size p mult i) ≤ rest_size * 1_000_000_000
    cell i h = size_product (rest_of p mult i) (nat_at p.cap i) _ _ (rest i h) (program.small_cap i h)

    abbrev all_sizes : ℕ
    all_sizes = 20 * (size * 1_000_000_000) + cells * (rest_size * 1_000_000_000)

    cell_sum : (k : ℕ) → k ≤ cells_of p → nat_abs (cell_sizes p mult k) ≤ all_sizes
    cell_sum k le =
        let first = constraint_sum (constraints_of p) (omega arith) in
        let after = sum-size k (cell_size p mult) (rest_size * 1_000_000_000) (λ i h. cell i (omega arith)) in
        let most = at_most k cells (rest_size * 1_000_000_000) (omega (arith, few)) in
        let both = abs-add (constraint_sizes p mult (constraints_of p)) (sum_below k (cell_size p mult)) in
        omega (arith, first, after, most, both)

    pub width_within : scaled_size + rest_size * 1_000_000_000 < 2 ^ 127 → all_sizes < 2 ^ 127 → HasFitWidth p mult
    width_within one all = record {
      cells = λ i h. record {
        rest = record {
          scaled = omega (arith, scaled i h, one);
          given = record { each = λ k le. omega (arith, given i k le, all) };
          rest = omega (arith, rest i h, one);
        };
        size = omega (arith, cell i h, one);
      };
      constraints = λ j h. omega (arith, constraint j h, all);
      constraint_sums = record { each = λ k le. omega (arith, constraint_sum k le, all) };
      cell_sums = record { each = λ k le. omega (arith, cell_sum k le, all) };
    }
