-- The short way to the shares of cells: what it adds up, and that the width of small numbers fits.
use Rattle.std.proofs.Common.{◌≡◌, ℕ, ◌+◌, ◌*◌, ◌-◌, ◌<◌, ◌≤◌, ◌^◌, refl, sym, ap, arith, FitsSigned, mul-le-mul, negsuc, suc, inl, inr, ◌⊎◌, eq-or-lt_of_le}
use Rattle.std.specs.Prelude.{ℤ, pos, ◌+ℤ◌, ◌-ℤ◌, ◌*ℤ◌, ◌<ℤ◌, ◌≤ℤ◌, int_lt, cond, nat_abs, List, length, Bool, true, false}
use Rattle.std.specs.Int.{w128, int_max}
use Rattle.std.proofs.lemmas.Int.{ints, clamps, unsigned_abs-mul, fits_signed_from_abs}
use Rattle.std.proofs.lemmas.Nat.{mul-le}
use Rattle.pc_model.specs.declared.tree.Mult.{Mult}
use Rattle.pc_program_bound.specs.declared.program.Program.{Program}
use Rattle.pc_program_bound.specs.declared.running.Running.{Running}
use Rattle.pc_program_bound.specs.Sums.{sum_below, nat_at, int_at}
use Rattle.pc_program_bound.specs.Allocation.{cells_of, constraints_of, IsProgram}
use Rattle.pc_program_bound.specs.Bound.{rest_of, constraint_share, constraint_sizes, cell_share, HasFitWidth}
use Rattle.pc_program_bound.specs.Parts.{AreFitCells, taken}
use Rattle.pc_program_bound.specs.Short.{IsShort, IsShortGain}
use Rattle.pc_program_bound.proofs.SumBelow.{sum_below-zero, sum_below-more}
use Rattle.pc_program_bound.proofs.SmallWidths.{sum-size, abs-add, rest_within, width_within}

-- a number below 2^63 times at most a thousand million
pub product_small : (a : ℤ) (c : ℕ) → nat_abs a ≤ 2 ^ 63 - 1 → c ≤ 1_000_000_000 → nat_abs (a *ℤ pos c) ≤ 2 ^ 93
product_small a c small few =
    let product : nat_abs a * c ≤ (2 ^ 63 - 1) * 1_000_000_000 = mul-le-mul small few in
    rw (unsigned_abs-mul a (pos c)) (omega (arith, product))

multiplier_short : (p : Program) (mult : Mult) → length mult.by ≡ constraints_of p → IsShort p mult → (j : ℕ) → j < constraints_of p → nat_abs (int_at mult.by j) ≤ 2 ^ 57
multiplier_short p mult sized short j h = short.by j (pos 0) (omega (arith, sized, h))

-- the width of small numbers fits
pub short_fits : (p : Program) (mult : Mult) → IsProgram p → length mult.by ≡ constraints_of p → IsShort p mult → HasFitWidth p mult
short_fits p mult program sized short =
    let small = multiplier_short p mult sized short in
    width_within p mult program (2 ^ 57) small (2 ^ 62) (2 ^ 62 + 20 * 2 ^ 57) (2 ^ 30) short.few (λ i h. (short.gains i h).scaled)
    (λ i h. rest_within p mult program (2 ^ 57) small i (2 ^ 62) (short.gains i h).scaled) (omega arith) (omega arith)

pub short_cells_fit : (p : Program) (mult : Mult) (first : ℤ) → IsProgram p → length mult.by ≡ constraints_of p → IsShort p mult
    → first ≡ constraint_sizes p mult (constraints_of p) → AreFitCells p mult first (cells_of p)
short_cells_fit p mult first program sized short e =
    let fits = short_fits p mult program sized short in
    rw e (record { each = fits.cells; sums = fits.cell_sums })

-- the constraints' shares are not far from 0
pub first_share_small : (p : Program) (mult : Mult) → IsProgram p → length mult.by ≡ constraints_of p → IsShort p mult → nat_abs (sum_below (constraints_of p) (constraint_share p mult)) ≤ 2 ^ 92
first_share_small p mult program sized short =
    let sum = sum-size (constraints_of p) (constraint_share p mult) (2 ^ 57 * 1_000_000_000) each in
    omega (arith, sum, program.few)
  where
    chosen : (j : ℕ) (test : Bool) → j < constraints_of p → cond test (nat_at p.most j) (nat_at p.least j) ≤ 1_000_000_000
    chosen j true h = program.small_most j h
    chosen j false h = let a = program.small_most j h in let b = program.ordered j h in omega (arith, a, b)

    each : (j : ℕ) → j < constraints_of p → nat_abs (constraint_share p mult j) ≤ 2 ^ 57 * 1_000_000_000
    each j h =
        let count = cond (int_lt (pos 0) (int_at mult.by j)) (nat_at p.most j) (nat_at p.least j) in
        rw (unsigned_abs-mul (int_at mult.by j) (pos count))
        (mul-le-mul (multiplier_short p mult sized short j h) (chosen j (int_lt (pos 0) (int_at mult.by j)) h))

-- ---- the share of a cell

-- a rest above 0 makes the most of the cap, another one of the floor
pub best_above : (r : ℤ) (floor cap : ℕ) → floor ≤ cap → pos 0 <ℤ r → r *ℤ pos cap ≡ int_max (r *ℤ pos floor) (r *ℤ pos cap)
best_above (pos k) floor cap le above = let e = mul-le k floor k cap (omega arith) le in omega (arith, ints, clamps, e)
best_above (negsuc k) floor cap le above = absurd (omega (arith, ints, above))

pub best_below : (r : ℤ) (floor cap : ℕ) → floor ≤ cap → r ≤ℤ pos 0 → r *ℤ pos floor ≡ int_max (r *ℤ pos floor) (r *ℤ pos cap)
best_below (pos k) floor cap le below = let e : k ≡ 0 = omega (arith, ints, below) in let a : 0 * floor ≡ 0 = omega arith in let b : 0 * cap ≡ 0 = omega arith in rw (e, a, b) refl
best_below (negsuc k) floor cap le below = let e = mul-le (suc k) floor (suc k) cap (omega arith) le in omega (arith, ints, clamps, e)

-- ---- the sum, as far as a cell

pub record IsSummed (p : Program) (floors caps : List ℕ) (mult : Mult) (n : ℕ) (share : ℤ) : Type 0 where
  pub value : share ≡ sum_below n (cell_share p floors caps mult)
  pub small : nat_abs share ≤ n * 2 ^ 93
  pub gains : (i : ℕ) → i < n → IsShortGain mult.den (int_at p.gain i)

pub none_summed : (p : Program) (floors caps : List ℕ) (mult : Mult) → IsSummed p floors caps mult 0 (pos 0)
none_summed p floors caps mult =
    record { value = sym (sum_below-zero (cell_share p floors caps mult)); small = omega arith; gains = λ i lt. absurd (omega arith) }

-- what is left of a cell's gain, with the numbers as they were read
pub rest_same : (p : Program) (mult : Mult) (i : ℕ) (gain given : ℤ) (mask : ℕ) → gain ≡ int_at p.gain i → mask ≡ nat_at p.masks i
    → given ≡ sum_below (length mult.by) (taken mask mult.by) → length mult.by ≡ constraints_of p → mult.den *ℤ gain -ℤ given ≡ rest_of p mult i
rest_same p mult i gain given mask a b c d = rw (a, c, b, d) refl

pub one_summed : (p : Program) (floors caps : List ℕ) (mult : Mult) (n : ℕ) (share rest best : ℤ) → IsSummed p floors caps mult n share
    → rest ≡ rest_of p mult n → IsShortGain mult.den (int_at p.gain n)
    → best ≡ int_max (rest *ℤ pos (nat_at floors n)) (rest *ℤ pos (nat_at caps n)) → nat_abs best ≤ 2 ^ 93 → IsSummed p floors caps mult (n + 1) (share +ℤ best)
one_summed p floors caps mult n share rest best summed is short most small =
    let one = rw is at most in
    let more = sum_below-more n (cell_share p floors caps mult) in
    let size = abs-add share best in
    record {
      value = rw (more, one, summed.value) refl;
      small = omega (arith, size, small, summed.small);
      gains = each;
    }
  where
    at_last : (i : ℕ) → (i ≡ n) ⊎ (i < n) → IsShortGain mult.den (int_at p.gain i)
    at_last i (inl e) = rw e short
    at_last i (inr lt) = summed.gains i lt

    each : (i : ℕ) → i < n + 1 → IsShortGain mult.den (int_at p.gain i)
    each i lt = at_last i (eq-or-lt_of_le (omega arith))

pub sum_fits : (a b : ℤ) (n : ℕ) → n ≤ 2 ^ 30 → nat_abs a ≤ n * 2 ^ 93 → nat_abs b ≤ 2 ^ 93 → FitsSigned w128 (a +ℤ b)
sum_fits a b n few first last = let size = abs-add a b in fits_signed_from_abs w128 (a +ℤ b) (omega (arith, size, first, last, few))

-- the shares of the constraints and of the cells together
pub all_fit : (p : Program) (mult : Mult) (first : Running) (b : ℤ) → IsProgram p → length mult.by ≡ constraints_of p → IsShort p mult
    → first ≡ record { share = sum_below (constraints_of p) (constraint_share p mult); size = constraint_sizes p mult (constraints_of p) }
    → nat_abs b ≤ 2 ^ 123 → FitsSigned w128 (first.share +ℤ b)
all_fit p mult first b program sized short is last =
    let small : nat_abs first.share ≤ 2 ^ 92 = rw (ap (λ (r : Running). r.share) is) (first_share_small p mult program sized short) in
    let size = abs-add first.share b in
    fits_signed_from_abs w128 (first.share +ℤ b) (omega (arith, size, small, last))
