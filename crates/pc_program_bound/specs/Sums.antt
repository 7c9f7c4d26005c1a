-- Sums over the places of a list.
use Rattle.std.specs.Prelude.{ℕ, zero, suc, ℤ, pos, ◌+ℤ◌, List, slice_index_or}

-- the sum of what `f` gives for the numbers below n
unfoldable pub sum_below : ℕ → (ℕ → ℤ) → ℤ
sum_below zero f = pos 0
sum_below (suc n) f = sum_below n f +ℤ f n

-- the number at a place
abbrev pub nat_at : List ℕ → ℕ → ℕ
nat_at numbers place = slice_index_or numbers place 0

abbrev pub int_at : List ℤ → ℕ → ℤ
int_at numbers place = slice_index_or numbers place (pos 0)
