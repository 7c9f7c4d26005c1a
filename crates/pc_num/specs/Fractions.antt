-- Reduced fractions of whole numbers.
use Rattle.std.specs.Prelude.{◌≡◌, ◌*◌, ◌<◌, ◌/◌, ℕ, ℤ, pos, ◌+ℤ◌, ◌-ℤ◌, ◌*ℤ◌, ◌<ℤ◌, unsigned_abs}
use Rattle.std.specs.Int.{IsGcd}
use Rattle.pc_num.specs.Signs.{Fits}
use Rattle.pc_num.specs.declared.fraction.Frac.{Frac}

-- top / bottom in lowest terms is num / den
pub record IsReducedOf (top bottom num den : ℕ) : Type 0 where
  pub above : 0 < den
  pub reduced : IsGcd num den 1
  pub equal : num * bottom ≡ top * den

-- a fraction in lowest terms, of numbers that fit
pub record IsFrac (f : Frac) : Type 0 where
  pub above : pos 0 <ℤ f.den
  pub reduced : IsGcd (unsigned_abs f.num) (unsigned_abs f.den) 1
  pub num_fits : Fits f.num
  pub den_fits : Fits f.den

-- the fraction is n / d
pub record IsQuotient (n d : ℤ) (f : Frac) : Type 0 where
  pub frac : IsFrac f
  pub equal : f.num *ℤ d ≡ n *ℤ f.den

-- The numbers that a sum of fractions names, where the first's denominator is own, and the second's others, times what
-- the two have in common.
abbrev pub left_of : Frac → Frac → ℕ → ℤ
left_of f h g = f.num *ℤ pos (unsigned_abs h.den / g)

abbrev pub right_of : Frac → Frac → ℕ → ℤ
right_of f h g = h.num *ℤ pos (unsigned_abs f.den / g)

abbrev pub den_of : Frac → Frac → ℕ → ℤ
den_of f h g = pos (unsigned_abs f.den / g) *ℤ h.den

pub record AllFit (left right total den : ℤ) : Type 0 where
  pub left_fits : Fits left
  pub right_fits : Fits right
  pub total_fits : Fits total
  pub den_fits : Fits den

-- each number that the sum names fits
abbrev pub SumFits : Frac → Frac → ℕ → Type 0
SumFits f h g = AllFit (left_of f h g) (right_of f h g) (left_of f h g +ℤ right_of f h g) (den_of f h g)

-- each number that the difference names fits
abbrev pub DifferenceFits : Frac → Frac → ℕ → Type 0
DifferenceFits f h g = AllFit (left_of f h g) (right_of f h g) (left_of f h g -ℤ right_of f h g) (den_of f h g)
