-- Sums and their widths, a step further.
use Rattle.std.proofs.Common.{◌≡◌, ℕ, ◌+◌, ◌<◌, ℤ, ◌+ℤ◌, ◌⊎◌, inl, inr, to_z, of_z, eq-or-lt_of_le, arith, refl}
use Rattle.std.specs.Int.{w128}
use Rattle.std.proofs.lemmas.Int.{ints, to_z-of_z, fits_signed_from_abs}
use Rattle.pc_program_bound.specs.Sums.{sum_below}
use Rattle.pc_program_bound.specs.Bound.{IsFit, AreFit}
use Rattle.pc_program_bound.specs.declared.running.Running.{Running}
use Rattle.pc_program_bound.proofs.SumBelow.{sum_below-zero, sum_below-more}

-- a number that fits, as it is passed
pub passed : (x : ℤ) → IsFit x → to_z w128 (of_z w128 x) ≡ x
passed x h = to_z-of_z w128 x (fits_signed_from_abs w128 x h)

pub running_is : (a b x y : ℤ) → a ≡ x → b ≡ y → ◌≡◌ {A = Running} (record { share = a; size = b }) (record { share = x; size = y })
running_is a b x y e f = rw (e, f) refl

-- the numbers up to a place fit, and the next one
pub none_fit : (number : ℕ → ℤ) → IsFit (number 0) → AreFit number 0
none_fit number h = record { each = λ k le. let e : k ≡ 0 = omega arith in rw e h }

at_most : (number : ℕ → ℤ) (n k : ℕ) → AreFit number n → IsFit (number (n + 1)) → (k ≡ n + 1) ⊎ (k < n + 1) → IsFit (number k)
at_most number n k h last (inr lt) = h.each k (omega arith)
at_most number n k h last (inl e) = rw e last

more_fit : (number : ℕ → ℤ) (n : ℕ) → AreFit number n → IsFit (number (n + 1)) → AreFit number (n + 1)
more_fit number n h last = record { each = λ k le. at_most number n k h last (eq-or-lt_of_le le) }

-- the same of running sums after a first number
abbrev pub after : ℤ → (ℕ → ℤ) → ℕ → ℤ
after first f k = first +ℤ sum_below k f

pub after_none : (first : ℤ) (f : ℕ → ℤ) → after first f 0 ≡ first
after_none first f = omega (arith, ints, sum_below-zero f)

pub after_more : (first : ℤ) (f : ℕ → ℤ) (n : ℕ) → after first f (n + 1) ≡ after first f n +ℤ f n
after_more first f n = omega (arith, ints, sum_below-more n f)

pub no_sums_fit : (f : ℕ → ℤ) → AreFit (λ k. sum_below k f) 0
no_sums_fit f = none_fit (λ k. sum_below k f) (rw (sum_below-zero f) (omega (arith, ints)))

pub more_sums_fit : (f : ℕ → ℤ) (n : ℕ) → AreFit (λ k. sum_below k f) n → IsFit (sum_below n f +ℤ f n) → AreFit (λ k. sum_below k f) (n + 1)
more_sums_fit f n h last = more_fit (λ k. sum_below k f) n h (rw (sum_below-more n f) last)

pub next_sum_fits : (f : ℕ → ℤ) (n m : ℕ) → n < m → AreFit (λ k. sum_below k f) m → IsFit (sum_below n f +ℤ f n)
next_sum_fits f n m lt h = let e = sum_below-more n f in let fits = h.each (n + 1) (omega arith) in rw e at fits

pub no_sums_after_fit : (first : ℤ) (f : ℕ → ℤ) → IsFit first → AreFit (after first f) 0
no_sums_after_fit first f h = none_fit (after first f) (rw (after_none first f) h)

pub more_sums_after_fit : (first : ℤ) (f : ℕ → ℤ) (n : ℕ) → AreFit (after first f) n → IsFit (after first f n +ℤ f n) → AreFit (after first f) (n + 1)
more_sums_after_fit first f n h last = more_fit (after first f) n h (rw (after_more first f n) last)

pub next_sum_after_fits : (first : ℤ) (f : ℕ → ℤ) (n m : ℕ) → n < m → AreFit (after first f) m → IsFit (after first f n +ℤ f n)
next_sum_after_fits first f n m lt h = let e = after_more first f n in let fits = h.each (n + 1) (omega arith) in rw e at fits
