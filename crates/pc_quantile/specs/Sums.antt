-- The two sums that tell on which side of a number a quantile lies.
use Rattle.std.specs.Prelude.{ℕ, ◌^◌, ℤ, pos, ◌+ℤ◌, ◌-ℤ◌, ◌*ℤ◌, List, length}
use Rattle.pc_quantile.specs.Quantile.{at_most, below}

-- more than the number of any rows
abbrev pub weight : ℤ
weight = pos (2 ^ 36)

-- how far the numbers that are at most v fall short of the share: above 0 where too few are
abbrev pub first_of : ℕ → ℕ → ℤ → List ℤ → ℤ
first_of p q v numbers = (pos p *ℤ pos (length numbers)) -ℤ (pos q *ℤ pos (at_most v numbers))

-- how far the numbers below v pass the share, so weighed that it is above 0 where there is a number and enough are below v
abbrev pub second_of : ℕ → ℕ → ℤ → List ℤ → ℤ
second_of p q v numbers = (weight *ℤ ((pos q *ℤ pos (below v numbers)) -ℤ (pos p *ℤ pos (length numbers)))) +ℤ pos (length numbers)
