-- What is known of a list by as many of its first elements as the limit allows, and one more.
use Rattle.std.proofs.Common.{arith, ◌≡◌, ℕ, ◌+◌, ◌<◌, ◌≤◌, List, length, take}
use Rattle.std.proofs.lemmas.List.{length-take, take_all}

-- no more than the limit are all
pub short_is_whole : (limit : ℕ) (all : List ℕ) → length (take (limit + 1) all) ≤ limit → take (limit + 1) all ≡ all
short_is_whole limit all short = take_all (limit + 1) all (omega (arith, length-take (limit + 1) all, short))

-- and they are within it
pub short_fits : (limit : ℕ) (all : List ℕ) → length (take (limit + 1) all) ≤ limit → length all ≤ limit
short_fits limit all short = omega (arith, length-take (limit + 1) all, short)

-- one more is of a longer list
pub long_passes : (limit : ℕ) (all : List ℕ) → limit < length (take (limit + 1) all) → limit < length all
long_passes limit all long = omega (arith, length-take (limit + 1) all, long)
