-- Numbers of digits, read from the left and cut off at a cap.
use Rattle.std.proofs.Common.{◌≡◌, ◌≤◌, ◌<◌, inl, inr, ℕ, zero, suc, ◌+◌, ◌-◌, ◌*◌, List, [], ◌∷◌, ◌++◌, length, drop, get_or, min, arith, refl, add-one, drop-cons}
use Rattle.std.proofs.lemmas.Bool.{cases_lt}
use Rattle.pc_num.specs.Scaled.{number_after, padded, scaled_size}

pub number_after-least : (digits : List ℕ) (n : ℕ) → n ≤ number_after n digits
unfolding number_after
number_after-least [] n = omega arith
number_after-least (digit ∷ digits) n = omega (arith, number_after-least digits (10 * n + (digit - 48)))

-- past the cap the digits that follow do not matter
pub number_after-capped : (digits : List ℕ) (n cap : ℕ) → min (number_after (min n cap) digits) cap ≡ min (number_after n digits) cap
number_after-capped digits n cap =
    elim (cases_lt cap n) [
      | inl over ↦
          let e : min n cap ≡ cap = omega arith in
          rw e (omega (arith, number_after-least digits n, number_after-least digits cap))
      | inr within ↦ let e : min n cap ≡ n = omega arith in rw e refl
    ]

pub number_after-step : (digits : List ℕ) (i n cap : ℕ) → i < length digits → min (number_after n (drop i digits)) cap ≡ min (number_after (min (10 * n + (get_or digits i 0 - 48)) cap) (drop (i + 1) digits)) cap
unfolding number_after
number_after-step digits i n cap h = rw (number_after-capped, add-one, drop-cons digits i 0) refl

pub number_after-end : (digits : List ℕ) (i n : ℕ) → length digits ≤ i → number_after n (drop i digits) ≡ n
unfolding number_after
number_after-end [] zero n h = refl
number_after-end [] (suc i) n h = refl
number_after-end (digit ∷ digits) zero n h = grind arith
number_after-end (digit ∷ digits) (suc i) n h = number_after-end digits i n (omega arith)

pub number_after-append : (n : ℕ) (xs ys : List ℕ) → number_after n (xs ++ ys) ≡ number_after (number_after n xs) ys
unfolding number_after
number_after-append n [] ys = refl
number_after-append n (x ∷ xs) ys = number_after-append (10 * n + (x - 48)) xs ys

pub length-padded : (k : ℕ) (decimals : List ℕ) → length (padded k decimals) ≡ k
unfolding padded
length-padded zero decimals = refl
length-padded (suc k) [] = omega (arith, length-padded k [])
length-padded (suc k) (digit ∷ digits) = omega (arith, length-padded k digits)

pub get_or-padded : (k : ℕ) (decimals : List ℕ) (i : ℕ) → i < k → get_or (padded k decimals) i 0 ≡ get_or decimals i 48
unfolding padded
get_or-padded zero decimals i h = grind arith
get_or-padded (suc k) [] zero h = refl
get_or-padded (suc k) [] (suc i) h = get_or-padded k [] i (omega arith)
get_or-padded (suc k) (digit ∷ digits) zero h = refl
get_or-padded (suc k) (digit ∷ digits) (suc i) h = get_or-padded k digits i (omega arith)

-- the number before the decimals is the one of the whole part
pub scaled_size-start : (whole decimals : List ℕ) (scale cap : ℕ) → min (scaled_size whole decimals scale) cap ≡ min (number_after (min (number_after 0 whole) cap) (padded scale decimals)) cap
unfolding scaled_size
scaled_size-start whole decimals scale cap = rw (number_after-capped, number_after-append) refl

pub padded-step : (decimals : List ℕ) (scale i n cap : ℕ) → i < scale → min (number_after n (drop i (padded scale decimals))) cap ≡ min (number_after (min (10 * n + (get_or decimals i 48 - 48)) cap) (drop (i + 1) (padded scale decimals))) cap
padded-step decimals scale i n cap h =
    let short : i < length (padded scale decimals) = omega (arith, length-padded scale decimals) in
    rw (← get_or-padded scale decimals i h) (number_after-step (padded scale decimals) i n cap short)

pub padded-end : (decimals : List ℕ) (scale i n : ℕ) → scale ≤ i → number_after n (drop i (padded scale decimals)) ≡ n
padded-end decimals scale i n h = number_after-end (padded scale decimals) i n (omega (arith, length-padded scale decimals))

pub ruleset number_after_steps = (number_after-step, number_after-end)

pub ruleset scaled_size_steps = (scaled_size-start, padded-step, padded-end)
