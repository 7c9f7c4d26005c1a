-- What the numbers of a row have in common.
use Rattle.std.specs.Prelude.{ℕ, ℤ, List, All, unsigned_abs}
use Rattle.std.specs.Int.{◌∣◌}

-- every number of the row is a multiple of d
abbrev pub DividesRow : ℕ → List ℤ → Type 0
DividesRow d row = All (λ x. d ∣ unsigned_abs x) row

-- g is the greatest common divisor of the row's numbers, which is 0 where all of them are 0
pub record IsRowGcd (row : List ℤ) (g : ℕ) : Type 0 where
  pub common : DividesRow g row
  pub greatest : (d : ℕ) → DividesRow d row → d ∣ g
