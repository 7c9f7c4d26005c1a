-- Fractions made of sizes and a sign.
use Rattle.std.proofs.Common.{◌≡◌, ◌≢◌, ◌<◌, ◌^◌, ◌*◌, ℕ, zero, suc, ℤ, pos, negsuc, neg_ℤ, ◌*ℤ◌, ◌<ℤ◌, unsigned_abs, Bool, Option, Some, None, IfSome, SomeIff, arith, refl, ap}
use Rattle.std.proofs.lemmas.Int.{ints, unsigned_abs-mul}
use Rattle.std.proofs.Math.Nat.{mul-lt-mul_of_pos_right}
use Rattle.pc_num.specs.declared.fraction.Frac.{Frac}
use Rattle.pc_num.specs.Fractions.{IsFrac, IsQuotient, IsReducedOf}
use Rattle.pc_num.specs.Scaled.{signed}
use Rattle.pc_num.specs.Signs.{differ}
use Rattle.pc_num.proofs.Divisors.{reduced_is_one, product_reduced}
use Rattle.pc_num.proofs.Signed.{unsigned_abs-signed}

pub neg-*ℤ-pos : (m n : ℕ) → neg_ℤ (pos m) *ℤ pos n ≡ neg_ℤ (pos (m * n))
neg-*ℤ-pos zero n = let e : 0 * n ≡ 0 = omega arith in rw e refl
neg-*ℤ-pos (suc m) n = refl

neg-*ℤ-negsuc : (m n : ℕ) → neg_ℤ (pos m) *ℤ negsuc n ≡ pos (m * suc n)
neg-*ℤ-negsuc zero n = let e : 0 * suc n ≡ 0 = omega arith in rw e refl
neg-*ℤ-negsuc (suc m) n = refl

pub neg_times : (x : ℤ) (n : ℕ) → neg_ℤ x *ℤ pos n ≡ neg_ℤ (x *ℤ pos n)
neg_times (pos x) n = neg-*ℤ-pos x n
neg_times (negsuc x) n = omega (arith, ints)

-- an equation of sizes with its signs
pub crossed : (n d : ℤ) (num den : ℕ) → num * unsigned_abs d ≡ unsigned_abs n * den → signed (differ n d) num *ℤ d ≡ n *ℤ pos den
crossed (pos n) (pos d) num den e = ap pos e
crossed (pos n) (negsuc d) num den e = rw neg-*ℤ-negsuc (ap pos e)
crossed (negsuc n) (pos d) num den e = rw neg-*ℤ-pos (ap (λ (k : ℕ). neg_ℤ (pos k)) e)
crossed (negsuc n) (negsuc d) num den e = ap (λ (k : ℕ). neg_ℤ (pos k)) e

-- the same for a product of fractions whose denominators are b and d
pub crossed_product : (a b c d : ℤ) (num den : ℕ) → pos 0 <ℤ b → pos 0 <ℤ d → num * (unsigned_abs b * unsigned_abs d) ≡ (unsigned_abs a * unsigned_abs c) * den → signed (differ a c) num *ℤ (b *ℤ d) ≡ (a *ℤ c) *ℤ pos den
crossed_product a (negsuc b) c d num den p q e = absurd (omega (arith, ints))
crossed_product a (pos b) c (negsuc d) num den p q e = absurd (omega (arith, ints))
crossed_product (pos a) (pos b) (pos c) (pos d) num den p q e = ap pos e
crossed_product (pos a) (pos b) (negsuc c) (pos d) num den p q e = rw (neg-*ℤ-pos, neg-*ℤ-pos) (ap (λ (k : ℕ). neg_ℤ (pos k)) e)
crossed_product (negsuc a) (pos b) (pos c) (pos d) num den p q e = rw (neg-*ℤ-pos, neg-*ℤ-pos) (ap (λ (k : ℕ). neg_ℤ (pos k)) e)
crossed_product (negsuc a) (pos b) (negsuc c) (pos d) num den p q e = ap pos e

abbrev pub made : Bool → ℕ → ℕ → Frac
made minus num den = record { num = signed minus num; den = pos den }

is_quotient : (n d : ℤ) (minus : Bool) (num den : ℕ) → IsReducedOf (unsigned_abs n) (unsigned_abs d) num den → signed minus num *ℤ d ≡ n *ℤ pos den → num < 2 ^ 127 → den < 2 ^ 127 → IsQuotient n d (made minus num den)
is_quotient n d minus num den h e num_fits den_fits = record {
  frac = record {
    above = let some = h.above in omega (arith, ints);
    reduced = rw unsigned_abs-signed h.reduced;
    num_fits = rw unsigned_abs-signed num_fits;
    den_fits = den_fits;
  };
  equal = e;
}

abs_of_pos : (z : ℤ) → pos 0 <ℤ z → zero < unsigned_abs z
abs_of_pos z h = omega (arith, ints)

product_some : (b d : ℤ) → pos 0 <ℤ b → pos 0 <ℤ d → zero < unsigned_abs b * unsigned_abs d
product_some b d p q =
    let some : zero * unsigned_abs d < unsigned_abs b * unsigned_abs d = mul-lt-mul_of_pos_right (abs_of_pos b p) (abs_of_pos d q) in
    omega arith

-- sizes of equal products
sizes_equal : (a b c d : ℤ) → a *ℤ b ≡ c *ℤ d → unsigned_abs a * unsigned_abs b ≡ unsigned_abs c * unsigned_abs d
sizes_equal a b c d e = rw (← unsigned_abs-mul a b, ← unsigned_abs-mul c d) (ap unsigned_abs e)

no_quotient : (n d : ℤ) (num den : ℕ) → zero < unsigned_abs d → IsReducedOf (unsigned_abs n) (unsigned_abs d) num den → (num < 2 ^ 127 × den < 2 ^ 127 → ⊥) → (f : Frac) → IsQuotient n d f → ⊥
no_quotient n d num den some h too_large f q =
    let other : IsReducedOf (unsigned_abs n) (unsigned_abs d) (unsigned_abs f.num) (unsigned_abs f.den) = record {
      above = abs_of_pos f.den q.frac.above;
      reduced = q.frac.reduced;
      equal = sizes_equal f.num d n f.den q.equal;
    } in
    let same = reduced_is_one _ _ _ _ _ _ some h other in
    too_large (rw same.0 q.frac.num_fits, rw same.1 q.frac.den_fits)

not_zero : (d : ℤ) → d ≢ pos 0 → zero < unsigned_abs d
not_zero (pos zero) h = absurd (h refl)
not_zero (pos (suc d)) h = omega arith
not_zero (negsuc d) h = omega arith

pub record AnswersQuotient (n d : ℤ) (answer : Option Frac) : Type 0 where
  pub some : IfSome answer (IsQuotient n d)
  pub none : answer ≡ None → (f : Frac) → IsQuotient n d f → ⊥

pub answers_quotient : (n d : ℤ) (minus : Bool) (num den : ℕ) (answer : Option Frac) → zero < unsigned_abs d → IsReducedOf (unsigned_abs n) (unsigned_abs d) num den → signed minus num *ℤ d ≡ n *ℤ pos den → SomeIff answer ((num < 2 ^ 127) × (den < 2 ^ 127)) (made minus num den) → AnswersQuotient n d answer
answers_quotient n d minus num den None some h e s = record { some = tt; none = λ _. no_quotient n d num den some h s }
answers_quotient n d minus num den (Some f) some h e s = record {
  some = rw s.1 (is_quotient n d minus num den h e s.0.0 s.0.1);
  none = λ w. cc;
}

pub new_answers : (n d n' d' : ℤ) (minus : Bool) (top bottom num den : ℕ) (answer : Option Frac) → n' ≡ n → d' ≡ d → d ≢ pos 0 → top ≡ unsigned_abs n' → bottom ≡ unsigned_abs d' → IsReducedOf top bottom num den → minus ≡ differ n' d' → SomeIff answer ((num < 2 ^ 127) × (den < 2 ^ 127)) (made minus num den) → AnswersQuotient n d answer
new_answers n d n' d' minus top bottom num den answer en ed some et eb h em s =
    let reduced : IsReducedOf (unsigned_abs n) (unsigned_abs d) num den = rw (← en, ← ed, ← et, ← eb) h in
    let sign : minus ≡ differ n d = rw (← en, ← ed) em in
    let e : signed minus num *ℤ d ≡ n *ℤ pos den = rw sign (crossed n d num den reduced.equal) in
    answers_quotient n d minus num den answer (not_zero d some) reduced e s

pub mul_answers : (f h : Frac) (a c : ℤ) (minus : Bool) (ma mb mc md x y z w : ℕ) (answer : Option Frac) → IsFrac f → IsFrac h → a ≡ f.num → c ≡ h.num → ma ≡ unsigned_abs f.num → mb ≡ unsigned_abs f.den → mc ≡ unsigned_abs h.num → md ≡ unsigned_abs h.den → IsReducedOf ma md x w → IsReducedOf mc mb z y → minus ≡ differ a c → SomeIff answer ((x * z < 2 ^ 127) × (y * w < 2 ^ 127)) (made minus (x * z) (y * w)) → AnswersQuotient (f.num *ℤ h.num) (f.den *ℤ h.den) answer
mul_answers f h a c minus ma mb mc md x y z w answer own others ea ec ema emb emc emd left right em s =
    let sizes : IsReducedOf (unsigned_abs f.num * unsigned_abs h.num) (unsigned_abs f.den * unsigned_abs h.den) (x * z) (y * w) =
    product_reduced _ _ _ _ x y z w own.reduced others.reduced (rw (← ema, ← emd) left) (rw (← emc, ← emb) right) in
    let reduced : IsReducedOf (unsigned_abs (f.num *ℤ h.num)) (unsigned_abs (f.den *ℤ h.den)) (x * z) (y * w) =
    rw (unsigned_abs-mul f.num h.num, unsigned_abs-mul f.den h.den) sizes in
    let sign : minus ≡ differ f.num h.num = rw (← ea, ← ec) em in
    let e : signed minus (x * z) *ℤ (f.den *ℤ h.den) ≡ (f.num *ℤ h.num) *ℤ pos (y * w) =
    rw sign (crossed_product f.num f.den h.num h.den (x * z) (y * w) own.above others.above sizes.equal) in
    let some : zero < unsigned_abs (f.den *ℤ h.den) = rw (unsigned_abs-mul f.den h.den) (product_some f.den h.den own.above others.above) in
    answers_quotient (f.num *ℤ h.num) (f.den *ℤ h.den) minus (x * z) (y * w) answer some reduced e s
