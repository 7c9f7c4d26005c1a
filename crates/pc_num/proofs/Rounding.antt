-- Whole numbers next to a fraction.
use Rattle.std.proofs.Common.{◌≡◌, ◌<◌, ◌≤◌, ◌/◌, ℕ, zero, suc, ℤ, pos, negsuc, neg_ℤ, ◌+ℤ◌, ◌-ℤ◌, ◌*ℤ◌, ◌<ℤ◌, ◌≤ℤ◌, to_z, of_z, arith, refl, subst, ◌∙◌}
use Rattle.std.specs.Int.{int_div_euclid, w128}
use Rattle.std.proofs.lemmas.Int.{ints}
use Rattle.std.proofs.lemmas.Nat.{mod_below, div-add-mod'}
use Rattle.std.proofs.Math.Nat.{div-le_self}
use Rattle.pc_num.specs.Signs.{Fits}
use Rattle.pc_num.proofs.Quotients.{neg-*ℤ-pos, neg_times}
use Rattle.pc_num.proofs.Signed.{passed, negated, negated-is, negated_fits}

-- q is the whole part of n / d
pub record IsWholePart (n d q : ℤ) : Type 0 where
  pub not_above : (q *ℤ d) ≤ℤ n
  pub next_above : n <ℤ ((q +ℤ pos 1) *ℤ d)

next_of_negsuc : (q : ℕ) → (negsuc q +ℤ pos 1) ≡ neg_ℤ (pos q)
next_of_negsuc q = omega (arith, ints)

pub is_whole_part : (n d : ℤ) → pos 0 <ℤ d → IsWholePart n d (int_div_euclid n d)
is_whole_part n (negsuc d) h = absurd (omega (arith, ints))
is_whole_part (pos n) (pos d) h =
    let some : zero < d = omega (arith, ints) in
    let split = div-add-mod' n d in
    let rest = mod_below n d some in
    record { not_above = omega (arith, ints); next_above = omega (arith, ints) }
is_whole_part (negsuc n) (pos d) h =
    let some : zero < d = omega (arith, ints) in
    let split = div-add-mod' n d in
    let rest = mod_below n d some in
    record {
      not_above = omega (arith, ints);
      next_above = rw (next_of_negsuc (n / d), neg-*ℤ-pos (n / d) d) (omega (arith, ints));
    }

whole_part_fits : (n d : ℤ) → pos 0 <ℤ d → Fits n → Fits (int_div_euclid n d)
whole_part_fits n (negsuc d) h fits = absurd (omega (arith, ints))
whole_part_fits (pos n) (pos (suc d)) h fits = let e : n / suc d ≤ n = omega (arith, div-le_self n (suc d)) in omega arith
whole_part_fits (negsuc n) (pos (suc d)) h fits = let e : n / suc d ≤ n = omega (arith, div-le_self n (suc d)) in omega arith
whole_part_fits n (pos zero) h fits = absurd (omega (arith, ints))

pub floored : (n d q : ℤ) → pos 0 <ℤ d → Fits n → Fits d → q ≡ int_div_euclid (to_z w128 (of_z w128 n)) (to_z w128 (of_z w128 d)) → IsWholePart n d q × Fits q
floored n d q above n_fits d_fits e =
    let whole : q ≡ int_div_euclid n d = e ∙ rw (passed n n_fits, passed d d_fits) refl in
    (rw whole (is_whole_part n d above), rw whole (whole_part_fits n d above n_fits))

-- the negated whole part of -n / d
pub record IsCeiling (n d q : ℤ) : Type 0 where
  pub not_below : n ≤ℤ (q *ℤ d)
  pub one_before_below : ((q -ℤ pos 1) *ℤ d) <ℤ n

pub is_ceiling : (n d q r : ℤ) → pos 0 <ℤ d → IsWholePart (neg_ℤ n) d q → r ≡ neg_ℤ q → IsCeiling n d r
is_ceiling n (negsuc d) q r above h e = absurd (omega (arith, ints))
is_ceiling n (pos d) q r above h e =
    let before : (r -ℤ pos 1) ≡ neg_ℤ (q +ℤ pos 1) = omega (arith, ints) in
    let at = neg_times q d in
    let next = neg_times (q +ℤ pos 1) d in
    record {
      not_below = rw (e, at) (let l = h.not_above in omega (arith, ints));
      one_before_below = rw (before, next) (let l = h.next_above in omega (arith, ints));
    }

pub ceiled : (n d q : ℤ) → pos 0 <ℤ d → Fits n → Fits d → q ≡ int_div_euclid (to_z w128 (of_z w128 (negated n))) (to_z w128 (of_z w128 d)) → IsCeiling n d (to_z w128 (of_z w128 (negated q)))
ceiled n d q above n_fits d_fits e =
    let h = floored (negated n) d q above (negated_fits n n_fits) d_fits e in
    let whole : IsWholePart (neg_ℤ n) d q = subst (λ (z : ℤ). IsWholePart z d q) (negated-is n n_fits) h.0 in
    is_ceiling n d q (to_z w128 (of_z w128 (negated q))) above whole (passed (negated q) (negated_fits q h.1) ∙ negated-is q h.1)
