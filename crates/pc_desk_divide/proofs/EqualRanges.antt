-- Ranges of one column have as many numbers each, but for one.
use Rattle.std.proofs.Common.{◌≡◌, ◌∙◌, ℕ, ◌+◌, ◌*◌, ◌/◌, ◌<◌, ◌≤◌, Bool, true, false, int_lt, ℤ, [], if◌then◌else◌, ap, subst, arith}
use Rattle.std.specs.Prelude.{min}
use Rattle.std.proofs.lemmas.Int.{ints}
use Rattle.std.proofs.lemmas.List.FromFn.{get_or-map-range_with_len, length-map-range_with_len}
use Rattle.std.proofs.lemmas.Nat.{le-div}
use Rattle.std.proofs.Math.Nat.{lt-mul-div-succ, lt_of_mul-lt-mul_left, mul-add, mul-div-le, mul-one, mul_comm}
use Rattle.pc_desk_divide.specs.Cells.{AreOfEqualWidth, breadth}
use Rattle.pc_desk_divide.specs.Pieces.{range_at, ranges_of, ranges_with, width}

one_more : (c s : ℕ) → c * (s + 1) ≡ c * s + c
one_more c s = mul-add c s 1 ∙ ap (λ n. c * s + n) (mul-one c)

-- from one start to the next there are a count's share of the numbers, or one more
pub grow : (k w c : ℕ) → 0 < c → (k * w / c + w / c ≤ (k + 1) * w / c) × ((k + 1) * w / c ≤ k * w / c + w / c + 1)
grow k w c some =
    let sum : (k + 1) * w ≡ k * w + w = mul_comm (k + 1) w ∙ one_more w k ∙ ap (λ n. n + w) (mul_comm w k) in
    let low_here : c * (k * w / c) ≤ k * w = mul-div-le (k * w) c in
    let low_share : c * (w / c) ≤ w = mul-div-le w c in
    let low_next : c * ((k + 1) * w / c) ≤ (k + 1) * w = mul-div-le ((k + 1) * w) c in
    let up_here : k * w < c * (k * w / c + 1) = lt-mul-div-succ (k * w) some in
    let up_share : w < c * (w / c + 1) = lt-mul-div-succ w some in
    let here = one_more c (k * w / c) in
    let share = one_more c (w / c) in
    let both = mul-add c (k * w / c) (w / c) in
    let after = one_more c (k * w / c + w / c) in
    let after_that = one_more c (k * w / c + w / c + 1) in
    let below : c * ((k + 1) * w / c) < c * (k * w / c + w / c + 1 + 1) =
    omega (arith, sum, low_next, up_here, up_share, here, share, both, after, after_that) in
    let fewer = lt_of_mul-lt-mul_left c below in
    let enough : c * (k * w / c + w / c) ≤ (k + 1) * w = omega (arith, sum, low_here, low_share, both) in (
      le-div (k * w / c + w / c) ((k + 1) * w) c some (subst (λ n. n ≤ (k + 1) * w) (mul_comm c (k * w / c + w / c)) enough),
      omega (arith, fewer),
    )

breadth_within : (low : ℤ) (w c k : ℕ) → 0 < c → c ≤ w → (w / c ≤ breadth (range_at low w c k)) × (breadth (range_at low w c k) ≤ w / c + 1)
breadth_within low w c k some few =
    let share : 1 ≤ w / c = le-div 1 w c some (omega (arith, few)) in
    let step = grow k w c some in
    (omega (arith, ints, share, step.0, step.1), omega (arith, ints, share, step.0, step.1))

equal_with : (low : ℤ) (w c : ℕ) → c ≤ w → AreOfEqualWidth (ranges_with low w c)
equal_with low w c few = λ i j d before inside.
    let count = length-map-range_with_len (range_at low w c) 0 c in
    let first = get_or-map-range_with_len (range_at low w c) 0 c i i d (omega (arith, before, inside, count)) (omega arith) in
    let second = get_or-map-range_with_len (range_at low w c) 0 c j j d (omega (arith, inside, count)) (omega arith) in
    let one = breadth_within low w c i (omega (arith, before, inside, count)) few in
    let other = breadth_within low w c j (omega (arith, before, inside, count)) few in
    rw (first, second) (omega (arith, one.0, one.1, other.0, other.1), omega (arith, one.0, one.1, other.0, other.1))

pub lesser : (a b : ℕ) → min a b ≤ b
lesser a b = grind arith

pub equal_ranges : (parts : ℕ) (low high : ℤ) → AreOfEqualWidth (ranges_of parts low high)
unfolding ranges_of
equal_ranges parts low high = by_test (int_lt high low)
  where
    by_test : (test : Bool) → AreOfEqualWidth (if test then [] else ranges_with low (width low high) (min parts (width low high)))
    by_test true = λ i j d before inside. absurd (omega (arith, inside))
    by_test false = equal_with low (width low high) (min parts (width low high)) (lesser parts (width low high))
