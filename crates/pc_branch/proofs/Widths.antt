-- The width of the multipliers that are 0, where gains are small.
use Rattle.std.proofs.Common.{◌≡◌, ℕ, zero, suc, ◌^◌, ◌<◌, ◌≤◌, ◌⊎◌, inl, inr, replicate, refl, ap, sym, subst, eq-or-lt_of_le, arith}
use Rattle.std.specs.Prelude.{ℤ, pos, nat_abs, ◌*ℤ◌, ◌≤ℤ◌}
use Rattle.std.proofs.lemmas.Int.{ints}
use Rattle.pc_model.specs.Places.{has_bit}
use Rattle.pc_program_bound.specs.declared.program.Program.{Program}
use Rattle.pc_program_bound.specs.Sums.{sum_below, nat_at, int_at}
use Rattle.pc_program_bound.specs.Allocation.{cells_of, constraints_of, IsProgram}
use Rattle.pc_program_bound.specs.Bound.{IsFit, part_of, rest_of, constraint_size, cell_size, given_up_to, constraint_sizes, cell_sizes, IsFitRest, HasFitWidth}
use Rattle.pc_program_bound.proofs.SumBelow.{sum_below-zero, sum_below-suc, sum_below-same, sum_below-none, none_chosen}
use Rattle.pc_branch.specs.Licence.{no_multipliers}
use Rattle.pc_branch.specs.Ends.{HasSmallGains}

-- ---- running sums of numbers that are not negative

sum-kept : (n m : ℕ) (f : ℕ → ℤ) → n ≤ m → ((i : ℕ) → i < m → pos 0 ≤ℤ f i) → (pos 0 ≤ℤ sum_below n f) × (sum_below n f ≤ℤ sum_below m f)
sum-kept zero zero f le each = rw (sum_below-zero f) (omega (arith, ints), omega (arith, ints))
sum-kept (suc n) zero f le each = absurd (omega arith)
sum-kept n (suc m) f le each = by (eq-or-lt_of_le le) (λ h. sum-kept n m f h (λ i lt. each i (omega arith))) (sum-kept m m f (omega arith) (λ i lt. each i (omega arith)))
  where
    by : (n ≡ suc m) ⊎ (n < suc m) → (n ≤ m → (pos 0 ≤ℤ sum_below n f) × (sum_below n f ≤ℤ sum_below m f))
        → (pos 0 ≤ℤ sum_below m f) × (sum_below m f ≤ℤ sum_below m f) → (pos 0 ≤ℤ sum_below n f) × (sum_below n f ≤ℤ sum_below (suc m) f)
    by (inl e) before whole =
        let last = each m (omega arith) in
        rw (e, sum_below-suc m f) (omega (arith, ints, whole, last), omega (arith, ints))
    by (inr lt) before whole =
        let last = each m (omega arith) in
        let here = before (omega arith) in
        rw (sum_below-suc m f) (here.0, omega (arith, ints, here, last))

-- each number is at most the sum
one-kept : (i m : ℕ) (f : ℕ → ℤ) → i < m → ((k : ℕ) → k < m → pos 0 ≤ℤ f k) → (pos 0 ≤ℤ f i) × (f i ≤ℤ sum_below m f)
one-kept i m f lt each =
    let before = sum-kept i m f (omega arith) each in
    let after = sum-kept (suc i) m f (omega arith) each in
    let here = each i lt in
    let step = sum_below-suc i f in
    (here, omega (arith, ints, before, after, step))

fit-between : (x : ℤ) → pos 0 ≤ℤ x → x ≤ℤ pos (10 ^ 37) → IsFit x
fit-between x positive small = omega (arith, ints, positive, small)

-- ---- multipliers of 0

pub no_number : (n i : ℕ) → int_at (replicate n (pos 0)) i ≡ pos 0
no_number zero i = refl
no_number (suc n) zero = refl
no_number (suc n) (suc i) = no_number n i

module _ (p : Program) where
  part-none : (i j : ℕ) → part_of p (no_multipliers p) i j ≡ pos 0
  part-none i j = none_chosen (has_bit (nat_at p.masks i) j) (int_at (no_multipliers p).by j) (no_number (constraints_of p) j)

  given-none : (i k : ℕ) → given_up_to p (no_multipliers p) i k ≡ pos 0
  given-none i k = sum_below-none k (part_of p (no_multipliers p) i) (λ j lt. part-none i j)

  rest-gain : (i : ℕ) → rest_of p (no_multipliers p) i ≡ int_at p.gain i
  rest-gain i = let none = given-none i (constraints_of p) in omega (arith, ints, none)

  constraint-none : (j : ℕ) → constraint_size p (no_multipliers p) j ≡ pos 0
  constraint-none j = rw (no_number (constraints_of p) j) (omega (arith, ints))

  constraints-none : (k : ℕ) → constraint_sizes p (no_multipliers p) k ≡ pos 0
  constraints-none k = sum_below-none k (constraint_size p (no_multipliers p)) (λ j lt. constraint-none j)

  -- the size of a gain times its cap
  abbrev gain_size : ℕ → ℤ
  gain_size i = pos (nat_abs (int_at p.gain i)) *ℤ pos (nat_at p.cap i)

  cell-gain : (i : ℕ) → cell_size p (no_multipliers p) i ≡ gain_size i
  cell-gain i = ap (λ x. pos (nat_abs x) *ℤ pos (nat_at p.cap i)) (rest-gain i)

  cells-gain : (k : ℕ) → cell_sizes p (no_multipliers p) k ≡ sum_below k gain_size
  cells-gain k =
      let none = constraints-none (constraints_of p) in
      let same = sum_below-same k (cell_size p (no_multipliers p)) gain_size (λ i lt. cell-gain i) in
      omega (arith, ints, none, same)

  gain_positive : (i : ℕ) → pos 0 ≤ℤ gain_size i
  gain_positive i = omega (arith, ints)

  none_fits : (x : ℤ) → x ≡ pos 0 → IsFit x
  none_fits x e = rw e (omega arith)

  module _ (small : HasSmallGains p) where
    sum-fits : (k : ℕ) → k ≤ cells_of p → IsFit (cell_sizes p (no_multipliers p) k)
    sum-fits k le =
        let kept = sum-kept k (cells_of p) gain_size le (λ i lt. gain_positive i) in
        let whole = small.sum in
        rw (cells-gain k) (fit-between (sum_below k gain_size) kept.0 (omega (arith, ints, kept, whole)))

    size-fits : (i : ℕ) → i < cells_of p → IsFit (cell_size p (no_multipliers p) i)
    size-fits i lt =
        let kept = one-kept i (cells_of p) gain_size lt (λ k h. gain_positive k) in
        let whole = small.sum in
        subst (λ (x : ℤ). IsFit x) (sym (cell-gain i)) (fit-between (gain_size i) kept.0 (omega (arith, ints, kept, whole)))

    gain-fits : (i : ℕ) → i < cells_of p → IsFit (int_at p.gain i)
    gain-fits i lt = let few = small.gains i lt in omega (arith, few)

    scaled-fits : (i : ℕ) → i < cells_of p → IsFit ((no_multipliers p).den *ℤ int_at p.gain i)
    scaled-fits i lt =
        let one : (no_multipliers p).den *ℤ int_at p.gain i ≡ int_at p.gain i = omega (arith, ints) in
        rw one (gain-fits i lt)

    rest-fits : (i : ℕ) → i < cells_of p → IsFitRest p (no_multipliers p) i
    rest-fits i lt = record {
      scaled = scaled-fits i lt;
      given = record { each = λ k le. none_fits (given_up_to p (no_multipliers p) i k) (given-none i k) };
      rest = rw (rest-gain i) (gain-fits i lt);
    }

    fit-width : HasFitWidth p (no_multipliers p)
    fit-width = record {
      cells = λ i lt. record { rest = rest-fits i lt; size = size-fits i lt };
      constraints = λ j lt. none_fits (constraint_size p (no_multipliers p) j) (constraint-none j);
      constraint_sums = record { each = λ k le. none_fits (constraint_sizes p (no_multipliers p) k) (constraints-none k) };
      cell_sums = record { each = sum-fits };
    }

pub HasFitWidth-small : (p : Program) → IsProgram p → HasSmallGains p → HasFitWidth p (no_multipliers p)
HasFitWidth-small p program small = fit-width p small
