-- Sums of fractions over a common denominator.
use Rattle.std.proofs.Common.{◌≡◌, ◌<◌, ◌*◌, ◌/◌, ◌↔◌, ℕ, zero, suc, ℤ, pos, negsuc, neg_ℤ, ◌+ℤ◌, ◌-ℤ◌, ◌*ℤ◌, ◌<ℤ◌, unsigned_abs, Option, Some, None, IfSome, IsSome, arith, refl, to_z, of_z, ◌≢◌, ap, sym, subst, rules, ◌∙◌}
use Rattle.std.specs.Int.{◌∣◌, IsGcd, w128}
use Rattle.std.proofs.lemmas.Int.{ints}
use Rattle.std.proofs.lemmas.Nat.Gcd.{same_from_IsGcd}
use Rattle.std.proofs.Math.IntN.{*ℤ_comm, suc_ℤ-*ℤ, zero-*ℤ}
use Rattle.std.proofs.Math.Nat.{div-mul_cancel, div-le_self, mul-lt-mul_of_pos_right}
use Rattle.pc_num.specs.declared.fraction.Frac.{Frac}
use Rattle.pc_num.specs.Fractions.{AllFit, IsFrac, IsQuotient, SumFits, DifferenceFits, left_of, right_of, den_of}
use Rattle.pc_num.specs.Signs.{Fits}
use Rattle.pc_num.proofs.Divisors.{gcd_above, share_above}
use Rattle.pc_num.proofs.Signed.{as_passed, gcd_of_sizes, negated, negated-is, negated_fits, passed, unsigned_abs-neg}
use Rattle.pc_num.proofs.Quotients.{neg-*ℤ-pos, neg_times}

times_pos : (x : ℤ) (m n : ℕ) → x *ℤ pos (m * n) ≡ (x *ℤ pos m) *ℤ pos n
times_pos (pos a) m n = ap pos (omega arith)
times_pos (negsuc a) m n =
    let e : suc a * (m * n) ≡ suc a * m * n = omega arith in
    rw neg-*ℤ-pos (ap (λ (k : ℕ). neg_ℤ (pos k)) e)

pos-*ℤ-sum : (n : ℕ) (x y : ℤ) → pos n *ℤ (x +ℤ y) ≡ (pos n *ℤ x) +ℤ (pos n *ℤ y)
pos-*ℤ-sum zero x y = rw (zero-*ℤ (x +ℤ y), zero-*ℤ x, zero-*ℤ y) refl
pos-*ℤ-sum (suc n) x y =
    let all = suc_ℤ-*ℤ (pos n) (x +ℤ y) in
    let left = suc_ℤ-*ℤ (pos n) x in
    let right = suc_ℤ-*ℤ (pos n) y in
    let before = pos-*ℤ-sum n x y in
    omega (arith, ints)

sum-*ℤ-pos : (x y : ℤ) (n : ℕ) → (x +ℤ y) *ℤ pos n ≡ (x *ℤ pos n) +ℤ (y *ℤ pos n)
sum-*ℤ-pos x y n = rw (*ℤ_comm (x +ℤ y) (pos n), *ℤ_comm x (pos n), *ℤ_comm y (pos n)) (pos-*ℤ-sum n x y)

-- both sides times g
scaled_up : (n a c : ℤ) (u v g k : ℕ) → n *ℤ pos (u * (v * g)) ≡ ((a *ℤ pos v) +ℤ (c *ℤ pos u)) *ℤ pos k → n *ℤ pos ((u * g) * (v * g)) ≡ ((a *ℤ pos (v * g)) +ℤ (c *ℤ pos (u * g))) *ℤ pos k
scaled_up n a c u v g k e =
    let total = (a *ℤ pos v) +ℤ (c *ℤ pos u) in
    let order : (u * g) * (v * g) ≡ (u * (v * g)) * g = omega arith in
    let turn : k * g ≡ g * k = omega arith in
    ap (λ (m : ℕ). n *ℤ pos m) order ∙ times_pos n (u * (v * g)) g ∙ ap (λ (z : ℤ). z *ℤ pos g) e
    ∙ sym (times_pos total k g) ∙ ap (λ (m : ℕ). total *ℤ pos m) turn ∙ times_pos total g k
    ∙ ap (λ (z : ℤ). z *ℤ pos k) (sum-*ℤ-pos (a *ℤ pos v) (c *ℤ pos u) g ∙ rw (times_pos a v g, times_pos c u g) refl)

sum_equal : (n a c b d r : ℤ) (u v g k : ℕ) → b ≡ pos (u * g) → d ≡ pos (v * g) → r ≡ pos k → n *ℤ (pos u *ℤ d) ≡ ((a *ℤ pos v) +ℤ (c *ℤ pos u)) *ℤ r → n *ℤ (b *ℤ d) ≡ ((a *ℤ d) +ℤ (c *ℤ b)) *ℤ r
sum_equal n a c b d r u v g k eb ed er e = rw (eb, ed, er) (scaled_up n a c u v g k (rw (ed, er) at e))

pub pos_of_abs : (z : ℤ) → pos 0 <ℤ z → z ≡ pos (unsigned_abs z)
pos_of_abs (pos n) h = refl
pos_of_abs (negsuc n) h = absurd (omega (arith, ints))

pos_of_shares : (z : ℤ) (g : ℕ) → pos 0 <ℤ z → g ∣ unsigned_abs z → z ≡ pos (unsigned_abs z / g * g)
pos_of_shares z g h k = pos_of_abs z h ∙ ap pos (sym (div-mul_cancel g k))

abbrev pub IsSum : Frac → Frac → Frac → Type 0
IsSum f h r = IsQuotient ((f.num *ℤ h.den) +ℤ (h.num *ℤ f.den)) (f.den *ℤ h.den) r

is_sum : (f h r : Frac) (g : ℕ) → IsFrac f → IsFrac h → IsGcd (unsigned_abs f.den) (unsigned_abs h.den) g → IsQuotient (left_of f h g +ℤ right_of f h g) (den_of f h g) r → IsSum f h r
is_sum f h r g own others common q = record {
  frac = q.frac;
  equal = sum_equal r.num f.num h.num f.den h.den r.den (unsigned_abs f.den / g) (unsigned_abs h.den / g) g (unsigned_abs r.den)
      (pos_of_shares f.den g own.above common.0) (pos_of_shares h.den g others.above common.1) (pos_of_abs r.den q.frac.above) q.equal;
}

abbrev pub EachFits : Frac → Frac → Type 0
EachFits f h = (g : ℕ) → IsGcd (unsigned_abs f.den) (unsigned_abs h.den) g → SumFits f h g

pub record AnswersSum (f h : Frac) (answer : Option Frac) : Type 0 where
  pub some : IfSome answer (IsSum f h)
  pub exact : IsSome answer ↔ EachFits f h

sum_fits : (f h : Frac) (g k : ℕ) → IsGcd (unsigned_abs f.den) (unsigned_abs h.den) g → IsGcd (unsigned_abs f.den) (unsigned_abs h.den) k → SumFits f h g → SumFits f h k
sum_fits f h g k p q fits = subst (SumFits f h) (same_from_IsGcd _ _ g k p q) fits

pub sum_refused : (f h : Frac) (g : ℕ) → IsGcd (unsigned_abs f.den) (unsigned_abs h.den) g → (SumFits f h g → ⊥) → AnswersSum f h None
sum_refused f h g common not_fit = record { some = tt; exact = (λ e. absurd (search rules), λ each. absurd (not_fit (each g common))) }

pub sum_found : (f h : Frac) (g : ℕ) (answer : Option Frac) → IsFrac f → IsFrac h → IsGcd (unsigned_abs f.den) (unsigned_abs h.den) g → SumFits f h g → IfSome answer (IsQuotient (left_of f h g +ℤ right_of f h g) (den_of f h g)) → IsSome answer → AnswersSum f h answer
sum_found f h g None own others common fits q is_some = absurd (search rules)
sum_found f h g (Some r) own others common fits q is_some = record {
  some = is_sum f h r g own others common q;
  exact = (λ e k p. sum_fits f h g k common p fits, λ each. is_some);
}

-- The arguments of the sum: numbers a and c of two fractions, and what their denominators do not have in common.
pub record AreParts (f h : Frac) (g : ℕ) (a c u v d : ℤ) : Type 0 where
  pub own : IsFrac f
  pub others : IsFrac h
  pub common : IsGcd (unsigned_abs f.den) (unsigned_abs h.den) g
  pub a_is : a ≡ f.num
  pub c_is : c ≡ h.num
  pub u_is : u ≡ pos (unsigned_abs f.den / g)
  pub v_is : v ≡ pos (unsigned_abs h.den / g)
  pub d_is : d ≡ h.den

abbrev pub PartsFit : ℤ → ℤ → ℤ → ℤ → ℤ → Type 0
PartsFit a c u v d = AllFit (a *ℤ v) (c *ℤ u) ((a *ℤ v) +ℤ (c *ℤ u)) (u *ℤ d)

pub refused : (f h : Frac) (g : ℕ) (a c u v d : ℤ) → AreParts f h g a c u v d → (PartsFit a c u v d → ⊥) → AnswersSum f h None
refused f h g a c u v d p not_fit =
    sum_refused f h g p.common (λ fits. not_fit (rw (p.a_is, p.c_is, p.u_is, p.v_is, p.d_is) fits))

den_of_above : (f h : Frac) (g : ℕ) → IsFrac f → IsFrac h → IsGcd (unsigned_abs f.den) (unsigned_abs h.den) g → pos 0 <ℤ den_of f h g
den_of_above f h g own others common =
    let share : zero < unsigned_abs f.den / g = share_above (unsigned_abs f.den) g (let l = own.above in omega (arith, ints)) common.0 in
    let size : zero < unsigned_abs h.den = let l = others.above in omega (arith, ints) in
    let whole : pos 0 <ℤ pos (unsigned_abs f.den / g * unsigned_abs h.den) =
    let some : zero * unsigned_abs h.den < unsigned_abs f.den / g * unsigned_abs h.den = mul-lt-mul_of_pos_right share size in
    omega (arith, ints) in
    rw (pos_of_abs h.den others.above) whole

-- the total and its denominator as they are passed on
pub record AreTotals (f h : Frac) (g : ℕ) (total den : ℤ) : Type 0 where
  pub fit : SumFits f h g
  pub total_is : to_z w128 (of_z w128 total) ≡ left_of f h g +ℤ right_of f h g
  pub den_is : to_z w128 (of_z w128 den) ≡ den_of f h g
  pub above : pos 0 <ℤ den_of f h g

pub are_totals : (f h : Frac) (g : ℕ) (a c u v d total den : ℤ) → AreParts f h g a c u v d → PartsFit a c u v d → total ≡ (a *ℤ v) +ℤ (c *ℤ u) → den ≡ u *ℤ d → AreTotals f h g total den
are_totals f h g a c u v d total den p fits et ed =
    let fit : SumFits f h g = rw (p.a_is, p.c_is, p.u_is, p.v_is, p.d_is) at fits in
    let total_is : total ≡ left_of f h g +ℤ right_of f h g = rw (p.a_is, p.c_is, p.u_is, p.v_is) at et in
    let den_is : den ≡ den_of f h g = rw (p.u_is, p.d_is) at ed in
    record {
      fit = fit;
      total_is = passed total (rw total_is fit.total_fits) ∙ total_is;
      den_is = passed den (rw den_is fit.den_fits) ∙ den_is;
      above = den_of_above f h g p.own p.others p.common;
    }

pub not_zero : (f h : Frac) (g : ℕ) (total den : ℤ) → AreTotals f h g total den → to_z w128 (of_z w128 den) ≢ pos 0
not_zero f h g total den t e =
    let zero_den : den_of f h g ≡ pos 0 = sym t.den_is ∙ e in
    let above : pos 0 <ℤ pos 0 = rw zero_den at t.above in
    omega (arith, ints)

pub found : (f h : Frac) (g : ℕ) (a c u v d total den : ℤ) (answer : Option Frac) → AreParts f h g a c u v d → AreTotals f h g total den → IfSome answer (IsQuotient (to_z w128 (of_z w128 total)) (to_z w128 (of_z w128 den))) → (Fits (to_z w128 (of_z w128 total)) → Fits (to_z w128 (of_z w128 den)) → IsSome answer) → AnswersSum f h answer
found f h g a c u v d total den answer p t some fits =
    let quotient : IfSome answer (IsQuotient (left_of f h g +ℤ right_of f h g) (den_of f h g)) = rw (t.total_is, t.den_is) at some in
    let is_some : IsSome answer = fits (rw t.total_is t.fit.total_fits) (rw t.den_is t.fit.den_fits) in
    sum_found f h g answer p.own p.others p.common t.fit quotient is_some

-- a share as it is passed
pub share_passed : (den share : ℤ) (g : ℕ) → Fits den → share ≡ pos (unsigned_abs (to_z w128 (of_z w128 den)) / g) → to_z w128 (of_z w128 share) ≡ pos (unsigned_abs den / g)
share_passed den share g fits e =
    let is : share ≡ pos (unsigned_abs den / g) = e ∙ rw (passed den fits) refl in
    passed share (rw is (let l = div-le_self (unsigned_abs den) g in omega arith)) ∙ is

pub divisor_above : (f h : Frac) (m n g : ℕ) → IsFrac f → IsFrac h → m ≡ unsigned_abs (to_z w128 (of_z w128 f.den)) → n ≡ unsigned_abs (to_z w128 (of_z w128 h.den)) → IsGcd m n g → zero < g
divisor_above f h m n g own others em en common =
    let size : zero < unsigned_abs h.den = let l = others.above in omega (arith, ints) in
    gcd_above _ _ g (gcd_of_sizes f.den h.den m n g em en own.den_fits others.den_fits common) size

pub are_parts : (f h : Frac) (m n g : ℕ) (own_share others_share : ℤ) → IsFrac f → IsFrac h → m ≡ unsigned_abs (to_z w128 (of_z w128 f.den)) → n ≡ unsigned_abs (to_z w128 (of_z w128 h.den)) → IsGcd m n g → own_share ≡ pos (unsigned_abs (to_z w128 (of_z w128 f.den)) / g) → others_share ≡ pos (unsigned_abs (to_z w128 (of_z w128 h.den)) / g) → AreParts f h g (to_z w128 (of_z w128 f.num)) (to_z w128 (of_z w128 h.num)) (to_z w128 (of_z w128 own_share)) (to_z w128 (of_z w128 others_share)) (to_z w128 (of_z w128 h.den))
are_parts f h m n g own_share others_share own_frac others_frac em en divisor eu ev = record {
  own = own_frac;
  others = others_frac;
  common = gcd_of_sizes f.den h.den m n g em en own_frac.den_fits others_frac.den_fits divisor;
  a_is = passed f.num own_frac.num_fits;
  c_is = passed h.num others_frac.num_fits;
  u_is = share_passed f.den own_share g own_frac.den_fits eu;
  v_is = share_passed h.den others_share g others_frac.den_fits ev;
  d_is = passed h.den others_frac.den_fits;
}

abbrev pub flipped : Frac → Frac
flipped h = record { num = neg_ℤ h.num; den = h.den }

abbrev pub flipped_as_passed : Frac → Frac
flipped_as_passed h = record { num = as_passed (negated h.num); den = as_passed h.den }

pub is_flipped : (h : Frac) → IsFrac h → flipped_as_passed h ≡ flipped h
is_flipped h others = rw (passed h.den others.den_fits, passed (negated h.num) (negated_fits h.num others.num_fits), negated-is h.num others.num_fits) refl

pub flipped_is_frac : (h : Frac) → IsFrac h → IsFrac (flipped h)
flipped_is_frac h others = record {
  above = others.above;
  reduced = rw (unsigned_abs-neg h.num) others.reduced;
  num_fits = rw (unsigned_abs-neg h.num) others.num_fits;
  den_fits = others.den_fits;
}

pub record AnswersDifference (f h : Frac) (answer : Option Frac) : Type 0 where
  pub some : IfSome answer (IsQuotient ((f.num *ℤ h.den) -ℤ (h.num *ℤ f.den)) (f.den *ℤ h.den))
  pub exact : IsSome answer ↔ ((g : ℕ) → IsGcd (unsigned_abs f.den) (unsigned_abs h.den) g → DifferenceFits f h g)

right_of_flipped : (f h : Frac) (g : ℕ) → right_of f (flipped h) g ≡ neg_ℤ (right_of f h g)
right_of_flipped f h g = neg_times h.num (unsigned_abs f.den / g)

difference_fits : (f h : Frac) (g : ℕ) → SumFits f (flipped h) g → DifferenceFits f h g
difference_fits f h g s = record {
  left_fits = s.left_fits;
  right_fits = rw (unsigned_abs-neg (right_of f h g)) at (rw (right_of_flipped f h g) at s.right_fits);
  total_fits = rw (right_of_flipped f h g) at s.total_fits;
  den_fits = s.den_fits;
}

flipped_fits : (f h : Frac) (g : ℕ) → DifferenceFits f h g → SumFits f (flipped h) g
flipped_fits f h g s = record {
  left_fits = s.left_fits;
  right_fits = rw (right_of_flipped f h g, unsigned_abs-neg (right_of f h g)) s.right_fits;
  total_fits = rw (right_of_flipped f h g) s.total_fits;
  den_fits = s.den_fits;
}

flipped_times : (x d : ℤ) → pos 0 <ℤ d → neg_ℤ x *ℤ d ≡ neg_ℤ (x *ℤ d)
flipped_times x (pos d) h = neg_times x d
flipped_times x (negsuc d) h = absurd (omega (arith, ints))

some_difference : (f h : Frac) (answer : Option Frac) → IsFrac f → IfSome answer (IsSum f (flipped h)) → IfSome answer (IsQuotient ((f.num *ℤ h.den) -ℤ (h.num *ℤ f.den)) (f.den *ℤ h.den))
some_difference f h None own s = tt
some_difference f h (Some r) own s = record { frac = s.frac; equal = rw (flipped_times h.num f.den own.above) at s.equal }

is_difference : (f h : Frac) (answer : Option Frac) → IsFrac f → AnswersSum f (flipped h) answer → AnswersDifference f h answer
is_difference f h answer own s = record {
  some = some_difference f h answer own s.some;
  exact = (λ e g common. difference_fits f h g (s.exact.0 e g common), λ each. s.exact.1 (λ g common. flipped_fits f h g (each g common)));
}

pub difference : (f h : Frac) (answer : Option Frac) → IsFrac f → IsFrac h → AnswersSum f (flipped_as_passed h) answer → AnswersDifference f h answer
difference f h answer own others s = is_difference f h answer own (subst (λ (k : Frac). AnswersSum f k answer) (is_flipped h others) s)
