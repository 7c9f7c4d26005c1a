-- What a row is made of, where each of its numbers is made of two others by the same factors.
use Rattle.std.proofs.Common.{◌≡◌, ℕ, zero, suc, ◌<◌, Bool, true, false, cond, refl, ap, sym, ◌∙◌, arith}
use Rattle.std.specs.Prelude.{ℤ, pos, negsuc, neg_ℤ, ◌+ℤ◌, ◌-ℤ◌, ◌*ℤ◌, ◌<ℤ◌}
use Rattle.std.proofs.lemmas.Int.{ints}
use Rattle.pc_model.specs.Places.{has_bit}
use Rattle.pc_program_bound.specs.declared.program.Program.{Program}
use Rattle.pc_program_bound.specs.Sums.{sum_below, nat_at}
use Rattle.pc_program_bound.specs.Allocation.{constraints_of}
use Rattle.pc_program_bound.proofs.Ring.{mul-add, mul_assoc}
use Rattle.pc_program_bound.proofs.SumBelow.{sum_below-zero, sum_below-suc, sum_below-same, sum_below-zeros}
use Rattle.pc_simplex_tableau.specs.Relaxation.{slack_of, helper_of, columns_of}
use Rattle.pc_simplex_tableau.specs.Standing.{IsMixed}
use Rattle.pc_simplex_tableau.proofs.Products.{mul-zero, mul-neg, minus_one-mul, cancel}

-- a sum of such numbers
pub sum_below-combined : (n : ℕ) (g a b : ℤ) (new old other : ℕ → ℤ) → ((i : ℕ) → i < n → g *ℤ new i ≡ a *ℤ old i -ℤ b *ℤ other i)
    → g *ℤ sum_below n new ≡ a *ℤ sum_below n old -ℤ b *ℤ sum_below n other
sum_below-combined zero g a b new old other each =
    rw (sum_below-zero new, sum_below-zero old, sum_below-zero other, mul-zero g, mul-zero a, mul-zero b) (omega (arith, ints))
sum_below-combined (suc n) g a b new old other each =
    let before = sum_below-combined n g a b new old other (λ i lt. each i (omega (arith, lt))) in
    let last = each n (omega arith) in
    let first = mul-add g (sum_below n new) (new n) in
    let second = mul-add a (sum_below n old) (old n) in
    let third = mul-add b (sum_below n other) (other n) in
    rw (sum_below-suc n new, sum_below-suc n old, sum_below-suc n other) (omega (arith, ints, before, last, first, second, third))

-- one place: what the constraints give there, and that many times a gain
mixed_place : (g a b w v gain x y z xs ys zs : ℤ) → pos 0 <ℤ g → g *ℤ z ≡ a *ℤ x -ℤ b *ℤ y → g *ℤ zs ≡ a *ℤ xs -ℤ b *ℤ ys → g *ℤ v ≡ a *ℤ w
    → x ≡ xs +ℤ w *ℤ gain → y ≡ ys +ℤ pos 0 *ℤ gain → z ≡ zs +ℤ v *ℤ gain
mixed_place g a b w v gain x y z xs ys zs positive whole sums weights old other = cancel g z (zs +ℤ v *ℤ gain) positive same
  where
    same : g *ℤ z ≡ g *ℤ (zs +ℤ v *ℤ gain)
    same =
        let left : a *ℤ x ≡ a *ℤ xs +ℤ a *ℤ (w *ℤ gain) = ap (λ n. a *ℤ n) old ∙ mul-add a xs (w *ℤ gain) in
        let plain : y ≡ ys = omega (arith, ints, other) in
        let right : b *ℤ y ≡ b *ℤ ys = ap (λ n. b *ℤ n) plain in
        let split = mul-add g zs (v *ℤ gain) in
        let weighed : g *ℤ (v *ℤ gain) ≡ a *ℤ (w *ℤ gain) = sym (mul_assoc g v gain) ∙ ap (λ n. n *ℤ gain) weights ∙ mul_assoc a w gain in
        omega (arith, ints, whole, sums, left, right, split, weighed)

bit_place : (test : Bool) (g a b x y z : ℤ) → g *ℤ z ≡ a *ℤ x -ℤ b *ℤ y
    → g *ℤ cond test z (pos 0) ≡ a *ℤ cond test x (pos 0) -ℤ b *ℤ cond test y (pos 0)
bit_place true g a b x y z e = e
bit_place false g a b x y z e = rw (mul-zero g, mul-zero a, mul-zero b) (omega (arith, ints))

slack_is_column : (p : Program) (j : ℕ) → j < constraints_of p → slack_of p j < columns_of p
slack_is_column p j lt = omega (arith, lt)

helper_is_column : (p : Program) (j : ℕ) → j < constraints_of p → helper_of p j < columns_of p
helper_is_column p j lt = omega (arith, lt)

pub IsMixed-combined : (p : Program) (gain : ℕ → ℤ) (g a b w v : ℤ) (old other new : ℕ → ℤ) → pos 0 <ℤ g
    → ((k : ℕ) → k < columns_of p → g *ℤ new k ≡ a *ℤ old k -ℤ b *ℤ other k) → g *ℤ v ≡ a *ℤ w
    → IsMixed p w gain old → IsMixed p (pos 0) gain other → IsMixed p v gain new
IsMixed-combined p gain g a b w v old other new positive each weights mixed also = record {
  cells = λ i lt. mixed_place g a b w v (gain i) (old i) (other i) (new i) (given old i) (given other i) (given new i) positive
      (each i (omega (arith, lt))) (sums i) weights (mixed.cells i lt) (also.cells i lt);
  helpers = λ j lt. mixed_place g a b w v (gain (helper_of p j)) (old (helper_of p j)) (other (helper_of p j)) (new (helper_of p j))
      (old (slack_of p j)) (other (slack_of p j)) (new (slack_of p j)) positive
      (each (helper_of p j) (helper_is_column p j lt)) (each (slack_of p j) (slack_is_column p j lt)) weights (mixed.helpers j lt) (also.helpers j lt);
}
  where
    part : (ℕ → ℤ) → ℕ → ℕ → ℤ
    part x i j = cond (has_bit (nat_at p.masks i) j) (x (slack_of p j)) (pos 0)

    given : (ℕ → ℤ) → ℕ → ℤ
    given x i = sum_below (constraints_of p) (part x i)

    sums : (i : ℕ) → g *ℤ given new i ≡ a *ℤ given old i -ℤ b *ℤ given other i
    sums i = sum_below-combined (constraints_of p) g a b (part new i) (part old i) (part other i)
        (λ j lt. bit_place (has_bit (nat_at p.masks i) j) g a b (old (slack_of p j)) (other (slack_of p j)) (new (slack_of p j)) (each (slack_of p j) (slack_is_column p j lt)))

-- the same with signs changed in a column
pub turned_place : (test : Bool) (g a b x y z : ℤ) → g *ℤ z ≡ a *ℤ x -ℤ b *ℤ y
    → g *ℤ cond test (neg_ℤ z) z ≡ a *ℤ cond test (neg_ℤ x) x -ℤ b *ℤ cond test (neg_ℤ y) y
turned_place true g a b x y z e = rw (mul-neg g z, mul-neg a x, mul-neg b y) (omega (arith, ints, e))
turned_place false g a b x y z e = e

-- ---- the same numbers, or all with the other sign

pub IsMixed-none : (p : Program) (gain : ℕ → ℤ) → IsMixed p (pos 0) gain (λ k. pos 0)
IsMixed-none p gain = record {
  cells = λ i lt. (let sum = nothing i in omega (arith, ints, sum));
  helpers = λ j lt. omega (arith, ints);
}
  where
    either : (test : Bool) → cond test (pos 0) (pos 0) ≡ pos 0
    either true = refl
    either false = refl

    nothing : (i : ℕ) → sum_below (constraints_of p) (λ j. cond (has_bit (nat_at p.masks i) j) (pos 0) (pos 0)) ≡ pos 0
    nothing i =
        sum_below-same (constraints_of p) (λ j. cond (has_bit (nat_at p.masks i) j) (pos 0) (pos 0)) (λ j. pos 0) (λ j lt. either (has_bit (nat_at p.masks i) j))
        ∙ sum_below-zeros (constraints_of p)

sign_of : Bool → ℤ
sign_of true = negsuc 0
sign_of false = pos 1

signed_place : (test : Bool) (x z : ℤ) → z ≡ cond test (neg_ℤ x) x → pos 1 *ℤ z ≡ sign_of test *ℤ x -ℤ pos 0 *ℤ pos 0
unfolding sign_of
signed_place true x z e = rw (minus_one-mul x) (omega (arith, ints, e))
signed_place false x z e = omega (arith, ints, e)

signed_weight : (test : Bool) (w v : ℤ) → v ≡ cond test (neg_ℤ w) w → pos 1 *ℤ v ≡ sign_of test *ℤ w
unfolding sign_of
signed_weight true w v e = rw (minus_one-mul w) (omega (arith, ints, e))
signed_weight false w v e = omega (arith, ints, e)

pub IsMixed-signed : (p : Program) (gain : ℕ → ℤ) (test : Bool) (w v : ℤ) (old new : ℕ → ℤ)
    → ((k : ℕ) → k < columns_of p → new k ≡ cond test (neg_ℤ (old k)) (old k)) → v ≡ cond test (neg_ℤ w) w → IsMixed p w gain old → IsMixed p v gain new
IsMixed-signed p gain test w v old new each weights mixed =
    IsMixed-combined p gain (pos 1) (sign_of test) (pos 0) w v old (λ k. pos 0) new (omega (arith, ints))
    (λ k lt. signed_place test (old k) (new k) (each k lt)) (signed_weight test w v weights) mixed (IsMixed-none p gain)
