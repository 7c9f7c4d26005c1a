-- Where a number stands to a fraction, by the whole part of the fraction and what is left of it.
use Rattle.std.proofs.Common.{◌≡◌, ◌∙◌, ◌<◌, zero, ℤ, pos, negsuc, ◌+ℤ◌, ◌*ℤ◌, ◌<ℤ◌, ◌≤ℤ◌, int_lt, Bool, true, false, true≢false, cond, refl, ap, sym, arith, to_z, of_z}
use Rattle.std.specs.Int.{int_div_euclid, int_rem_euclid, w128}
use Rattle.std.proofs.lemmas.Int.{ints, to_z-of_z}
use Rattle.std.proofs.lemmas.Nat.{mod_below, div-add-mod'}
use mir.Val.{SFits}
use lib.IntN.{*ℤ_comm}
use Rattle.pc_num.specs.declared.fraction.Frac.{Frac}
use Rattle.pc_num.proofs.Rounding.{is_whole_part}
use Rattle.pc_program_bound.proofs.Ring.{mul-add, mul_mono}
use Rattle.pc_desk_parts.specs.declared.stands.Stand.TheVariants.{Below, At, Above}
use Rattle.pc_desk_parts.specs.Stands.{is_at, stand_to}

less_is : (a b : ℤ) → a <ℤ b → int_lt a b ≡ true
less_is a b less = grind (arith, ints)

not_less : (a b : ℤ) → b ≤ℤ a → int_lt a b ≡ false
not_less a b most = grind (arith, ints)

-- a product of a factor that is not below another
grown : (a b d : ℤ) → pos 0 <ℤ d → a ≤ℤ b → (a *ℤ d) ≤ℤ (b *ℤ d)
grown a b d above most = rw (*ℤ_comm a d, *ℤ_comm b d) (mul_mono d a b (omega (arith, ints, above)) most)

-- the whole part and what is left make up the number
made_up : (n d : ℤ) → pos 0 <ℤ d → int_div_euclid n d *ℤ d +ℤ int_rem_euclid n d ≡ n
made_up n (negsuc d) above = absurd (omega (arith, ints, above))
made_up (pos n) (pos d) above = ap pos (omega (arith, div-add-mod' n d))
made_up (negsuc n) (pos d) above =
    let some : zero < d = omega (arith, ints, above) in
    let split = div-add-mod' n d in
    let rest = mod_below n d some in
    omega (arith, ints, split, rest)

pub times_one : (d : ℤ) → d *ℤ pos 1 ≡ d
times_one (pos n) = ap pos (omega arith)
times_one (negsuc n) = omega (arith, ints)

pub next_times : (a d : ℤ) → (a +ℤ pos 1) *ℤ d ≡ a *ℤ d +ℤ d
next_times a d = *ℤ_comm (a +ℤ pos 1) d ∙ mul-add d a (pos 1) ∙ rw (*ℤ_comm d a, times_one d) refl

-- numbers as they are passed
pub whole_of : (n d q : ℤ) → SFits w128 n → SFits w128 d → q ≡ int_div_euclid (to_z w128 (of_z w128 n)) (to_z w128 (of_z w128 d)) → q ≡ int_div_euclid n d
whole_of n d q n_fits d_fits is = is ∙ rw (to_z-of_z w128 n n_fits, to_z-of_z w128 d d_fits) refl

pub rest_of : (n d r : ℤ) → SFits w128 n → SFits w128 d → r ≡ int_rem_euclid (to_z w128 (of_z w128 n)) (to_z w128 (of_z w128 d)) → int_rem_euclid n d ≡ r
rest_of n d r n_fits d_fits is = sym (is ∙ rw (to_z-of_z w128 n n_fits, to_z-of_z w128 d d_fits) refl)

module _ (value : Frac) (number : ℤ) where
  below_is : (number *ℤ value.den) <ℤ value.num → stand_to value number ≡ Below
  unfolding stand_to
  below_is less = rw (less_is (number *ℤ value.den) value.num less) refl

  above_is : value.num <ℤ (number *ℤ value.den) → stand_to value number ≡ Above
  unfolding stand_to
  above_is more = rw (not_less (number *ℤ value.den) value.num (omega (arith, ints, more)), less_is value.num (number *ℤ value.den) more) refl

  pub at_is : number *ℤ value.den ≡ value.num → stand_to value number ≡ At
  unfolding stand_to
  at_is same = rw (not_less (number *ℤ value.den) value.num (omega (arith, ints, same)), not_less value.num (number *ℤ value.den) (omega (arith, ints, same))) refl

  -- and the other way round
  pub is_of_at : is_at (stand_to value number) ≡ true → number *ℤ value.den ≡ value.num
  unfolding stand_to
  is_of_at at = by_tests (int_lt (number *ℤ value.den) value.num) (int_lt value.num (number *ℤ value.den)) refl refl at
    where
      by_tests : (less more : Bool) → int_lt (number *ℤ value.den) value.num ≡ less → int_lt value.num (number *ℤ value.den) ≡ more
          → is_at (cond less Below (cond more Above At)) ≡ true → number *ℤ value.den ≡ value.num
      by_tests true more below above at = absurd (true≢false (sym at))
      by_tests false true below above at = absurd (true≢false (sym at))
      by_tests false false below above at = grind (arith, ints, below, above)

module _ (value : Frac) (number : ℤ) (above : pos 0 <ℤ value.den) where
  abbrev whole : ℤ
  whole = int_div_euclid value.num value.den

  pub stands_below : number <ℤ whole → stand_to value number ≡ Below
  stands_below less =
      let part = is_whole_part value.num value.den above in
      let more = grown (number +ℤ pos 1) whole value.den above (omega (arith, ints, less)) in
      let next = next_times number value.den in
      below_is value number (omega (arith, ints, part.not_above, more, next, above))

  pub stands_above : whole <ℤ number → stand_to value number ≡ Above
  stands_above more =
      let part = is_whole_part value.num value.den above in
      let most = grown (whole +ℤ pos 1) number value.den above (omega (arith, ints, more)) in
      above_is value number (omega (arith, ints, part.next_above, most))

  pub stands_at : number ≡ whole → int_rem_euclid value.num value.den ≡ pos 0 → stand_to value number ≡ At
  stands_at same none =
      let up = made_up value.num value.den above in
      at_is value number (ap (λ (z : ℤ). z *ℤ value.den) same ∙ omega (arith, ints, up, none))

  pub stands_just_below : number ≡ whole → pos 0 <ℤ int_rem_euclid value.num value.den → stand_to value number ≡ Below
  stands_just_below same some =
      let up = made_up value.num value.den above in
      let product = ap (λ (z : ℤ). z *ℤ value.den) same in
      below_is value number (omega (arith, ints, up, some, product))
