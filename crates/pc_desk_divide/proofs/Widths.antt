-- How many numbers a side has, in the types of the code.
use Rattle.std.proofs.Common.{◌≡◌, ℤ, pos, ◌+ℤ◌, ◌≤ℤ◌, arith}
use Rattle.std.proofs.lemmas.Int.{ints}
use Rattle.pc_desk_divide.specs.Pieces.{width}

-- the numbers from low on, as many, end at high
pub width_ends : (low high : ℤ) → low ≤ℤ high → low +ℤ pos (width low high) ≡ high +ℤ pos 1
width_ends low high ordered = omega (arith, ints)

pub ruleset width_fits = (width_ends)
