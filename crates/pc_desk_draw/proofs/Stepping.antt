-- The step of an axis: found by powers of ten, it is round, and four of it are as long as what is drawn.
use Rattle.std.proofs.Common.{◌≡◌, ℕ, zero, suc, ◌+◌, ◌-◌, ◌*◌, ◌^◌, ◌<◌, ◌≤◌, ◌⊎◌, inl, inr, false, refl, arith, leb, lit<}
use Rattle.std.proofs.Math.Nat.{one-le-pow, pow-le-pow_right}
use Rattle.std.proofs.lemmas.Bool.{le-leb}
use Rattle.std.proofs.lemmas.Bool.Decides.{leb_tells}
use Rattle.std.proofs.lemmas.Grind.{pow_more}
use Rattle.pc_desk_draw.specs.Axes.{IsStepFor, first_step, round_numbers, step_for}

pub le_or_lt : (a b : ℕ) → (a ≤ b) ⊎ (b < a)
le_or_lt a b = elim (leb_tells a b) [ inl h ↦ inl h.1 | inr h ↦ inr h.1 ]

not_reached : (a b : ℕ) → b < a → leb a b ≡ false
not_reached a b above = grind (arith, leb_tells)

pub small_power : (k : ℕ) → k < 38 → 10 ^ k ≤ 10 ^ 37
small_power k below = let within : k ≤ 37 = omega arith in pow-le-pow_right (lit< tt) within

left_over : (k : ℕ) → k < 38 → 38 - k ≡ suc (38 - (k + 1))
left_over k below = omega arith

module _ (length power k : ℕ) where
  pub at_one : k < 38 → length ≤ 4 * power → first_step length (round_numbers power (38 - k)) ≡ power
  unfolding first_step round_numbers
  at_one below reach = rw (left_over k below, le-leb length (4 * power) reach) refl

  pub at_two : k < 38 → 4 * power < length → length ≤ 8 * power → first_step length (round_numbers power (38 - k)) ≡ 2 * power
  unfolding first_step round_numbers
  at_two below past reach =
      let two : length ≤ 4 * (2 * power) = omega arith in
      rw (left_over k below, not_reached length (4 * power) past, le-leb length (4 * (2 * power)) two) refl

  pub at_five : k < 38 → 8 * power < length → length ≤ 20 * power → first_step length (round_numbers power (38 - k)) ≡ 5 * power
  unfolding first_step round_numbers
  at_five below past reach =
      let one : 4 * power < length = omega arith in
      let two : 4 * (2 * power) < length = omega arith in
      let five : length ≤ 4 * (5 * power) = omega arith in
      rw (left_over k below, not_reached length (4 * power) one, not_reached length (4 * (2 * power)) two, le-leb length (4 * (5 * power)) five) refl

  pub at_more : k < 38 → 20 * power < length → first_step length (round_numbers (power * 10) (38 - (k + 1))) ≡ first_step length (round_numbers power (38 - k))
  unfolding first_step round_numbers
  at_more below past =
      let one : 4 * power < length = omega arith in
      let two : 4 * (2 * power) < length = omega arith in
      let five : 4 * (5 * power) < length = omega arith in
      let ten : power * 10 ≡ 10 * power = omega arith in
      rw (left_over k below, not_reached length (4 * power) one, not_reached length (4 * (2 * power)) two, not_reached length (4 * (5 * power)) five, ten) refl

pub none_left : (length power : ℕ) → first_step length (round_numbers power 0) ≡ 0
unfolding first_step round_numbers
none_left length power = refl

pub from_one : (length : ℕ) → first_step length (round_numbers 1 38) ≡ step_for length
unfolding step_for
from_one length = refl

pub ruleset steps = (at_one, at_two, at_five, at_more, none_left, from_one, small_power)

-- ---- what the step is

some_power : (k : ℕ) → 0 < 10 ^ k
some_power k = one-le-pow k 10 (lit< tt)

module _ (length k : ℕ) (below : k < 38) where
  from_power : length ≤ 4 * 10 ^ k → IsStepFor length (10 ^ k)
  from_power reach =
      let small = small_power k below in
      record { round = record { power = k; digit = inl refl }; some = some_power k; small = omega (arith, small); reach = reach }

  from_two : length ≤ 8 * 10 ^ k → IsStepFor length (2 * 10 ^ k)
  from_two reach =
      let small = small_power k below in
      let some = some_power k in
      record { round = record { power = k; digit = inr (inl refl) }; some = omega (arith, some); small = omega (arith, small); reach = omega arith }

  from_five : length ≤ 20 * 10 ^ k → IsStepFor length (5 * 10 ^ k)
  from_five reach =
      let small = small_power k below in
      let some = some_power k in
      record { round = record { power = k; digit = inr (inr refl) }; some = omega (arith, some); small = omega (arith, small); reach = omega arith }

-- the step from a power on
abbrev From : ℕ → ℕ → Type 0
From length k = IsStepFor length (first_step length (round_numbers (10 ^ k) (38 - k)))

by_cases : (length k : ℕ) → k < 38 → (20 * 10 ^ k < length → From length k) → From length k
by_cases length k below more =
    elim (le_or_lt length (4 * 10 ^ k)) [
      | inl one ↦ rw (at_one length (10 ^ k) k below one) (from_power length k below one)
      | inr past ↦ elim (le_or_lt length (8 * 10 ^ k)) [
        | inl two ↦ rw (at_two length (10 ^ k) k below past two) (from_two length k below two)
        | inr past2 ↦ elim (le_or_lt length (20 * 10 ^ k)) [
          | inl five ↦ rw (at_five length (10 ^ k) k below past2 five) (from_five length k below five)
          | inr past5 ↦ more past5
        ]
      ]
    ]

found : (left k length : ℕ) → k + left ≡ 37 → length ≤ 2 * 10 ^ 38 → From length k
found zero k length is small =
    let at : k ≡ 37 = omega arith in
    rw at (by_cases length 37 (lit< tt) (λ past. absurd (let top : 20 * 10 ^ 37 ≡ 2 * 10 ^ 38 = refl in let no : ⊥ = omega (arith, past, top, small) in no)))
found (suc left) k length is small =
    by_cases length k (omega arith)
    (λ past.
    let next = found left (k + 1) length (omega arith) small in
    let ten : 10 ^ (k + 1) ≡ 10 ^ k * 10 = pow_more 10 k in
    rw (← at_more length (10 ^ k) k (omega arith) past, ← ten) next)

pub step_is : (length : ℕ) → length ≤ 2 * 10 ^ 38 → IsStepFor length (step_for length)
unfolding step_for
step_is length small = found 37 0 length refl small
