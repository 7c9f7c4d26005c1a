-- Rows of whole numbers.
use Rattle.std.specs.Prelude.{ℕ, zero, suc, ◌+◌, ◌%◌, ◌^◌, ◌==◌, ◌&&◌, nat_lt, nat_abs, ℤ, pos, ◌-ℤ◌, ◌*ℤ◌, Bool, true, cond, List, [], ◌∷◌, ◌++◌, map, Option, Some, None}
use Rattle.std.specs.Int.{int_div_euclid}

-- the numbers that a function gives below n
unfoldable pub table : {X : Type 0} → ℕ → (ℕ → X) → List X
table zero f = []
table (suc n) f = table n f ++ f n ∷ []

-- the least number below n that passes a test
unfoldable pub first_below : ℕ → (ℕ → Bool) → Option ℕ
first_below zero test = None
first_below (suc n) test = elim (first_below n test) [ Some k ↦ Some k | None ↦ cond (test n) (Some n) None ]

-- the greatest common divisor, by Euclid's rule in at most that many steps
unfoldable pub gcd_within : ℕ → ℕ → ℕ → ℕ
gcd_within zero a b = a
gcd_within (suc n) a b = elim b [ zero ↦ a | suc c ↦ gcd_within n (suc c) (a % suc c) ]

unfoldable pub gcd : ℕ → ℕ → ℕ
gcd a b = gcd_within (b + 1) a b

-- the greatest common divisor of all numbers of a row
unfoldable pub common : List ℤ → ℕ
common [] = 0
common (a ∷ row) = gcd (nat_abs a) (common row)

-- the row divided by that divisor, or as it is where all its numbers are 0
unfoldable pub primitive : List ℤ → List ℤ
primitive row = elim (common row) [ zero ↦ row | suc g ↦ map (λ a. int_div_euclid a (pos (suc g))) row ]

-- p times the first row minus t times the second
unfoldable pub combined : ℤ → List ℤ → ℤ → List ℤ → List ℤ
combined p [] t other = []
combined p (a ∷ row) t [] = []
combined p (a ∷ row) t (b ∷ other) = (p *ℤ a -ℤ t *ℤ b) ∷ combined p row t other

-- a number that is 0
abbrev pub is_zero : ℤ → Bool
is_zero z = nat_abs z == 0

-- a number that fits
abbrev pub does_fit : ℤ → Bool
does_fit z = nat_lt (nat_abs z) (2 ^ 127)

-- both products and the difference fit, at each place
unfoldable pub does_combined_fit : ℤ → List ℤ → ℤ → List ℤ → Bool
does_combined_fit p [] t other = true
does_combined_fit p (a ∷ row) t [] = true
does_combined_fit p (a ∷ row) t (b ∷ other) =
    does_fit (p *ℤ a) && does_fit (t *ℤ b) && does_fit (p *ℤ a -ℤ t *ℤ b) && does_combined_fit p row t other
