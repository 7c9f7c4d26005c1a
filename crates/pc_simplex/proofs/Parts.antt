-- A count is an end and a reduced part above or below it.
use Rattle.std.proofs.Common.{◌≡◌, ℕ, ◌+◌, ◌-◌, ◌*◌, ◌≤◌, Bool, true, false, cond, List, refl, ap, sym, subst, ◌∙◌, arith, Option, Some, None, true≢false}
use Rattle.std.specs.Prelude.{ℤ, pos, nat_abs, ◌+ℤ◌, ◌-ℤ◌, ◌*ℤ◌, ◌<ℤ◌, ◌≤ℤ◌, IsTrue, SomeIff, IfSome}
use Rattle.std.specs.Int.{IsGcd}
use Rattle.std.proofs.lemmas.Int.{ints}
use Rattle.std.proofs.Math.Nat.{one-dvd, dvd-mul_left_of_dvd, dvd-add_iff_right, dvd-sub_iff_right}
use Rattle.std.proofs.Math.IntN.{*ℤ_comm}
use Rattle.pc_num.specs.declared.Frac.{Frac}
use Rattle.pc_num.specs.Fractions.{IsQuotient}
use Rattle.pc_program_bound.specs.declared.program.Program.{Program}
use Rattle.pc_program_bound.specs.Sums.{nat_at}
use Rattle.pc_program_bound.specs.Bound.{IsFit}
use Rattle.pc_program_bound.proofs.Ring.{mul_mono}
use Rattle.pc_simplex_tableau.specs.Tableau.{Tableau, is_turned}
use Rattle.pc_simplex_tableau.specs.Point.{over_at, under_at, IsCount, IsFitCount}
use Rattle.pc_simplex_tableau.proofs.Products.{mul-zero, mul_not_negative, le_cancel, mul_swap}
use Rattle.pc_simplex_tableau.proofs.Counted.{scaled_sum, scaled_rest}
use Rattle.pc_simplex.proofs.Counts.{one_count}
use Rattle.pc_simplex.proofs.Standings.{IsPlaced}
use Rattle.pc_simplex.specs.Counts.{numerator, counted}

-- ---- reduced fractions

reduced_above : (top bottom end : ℕ) → IsGcd top bottom 1 → IsGcd (end * bottom + top) bottom 1
reduced_above top bottom end h = (one-dvd _, one-dvd _, λ d p q. h.2 d ((dvd-add_iff_right d (dvd-mul_left_of_dvd d q end)).1 p) q)

reduced_below : (top bottom end : ℕ) → top ≤ end * bottom → IsGcd top bottom 1 → IsGcd (end * bottom - top) bottom 1
reduced_below top bottom end le h = (one-dvd _, one-dvd _, λ d p q. h.2 d ((dvd-sub_iff_right d le (dvd-mul_left_of_dvd d q end)).0 p) q)

reduced_sum : (n d : ℤ) (end : ℕ) → pos 0 ≤ℤ n → pos 0 <ℤ d → IsGcd (nat_abs n) (nat_abs d) 1 → IsGcd (nat_abs (pos end *ℤ d +ℤ n)) (nat_abs d) 1
reduced_sum n d end low above h =
    let bottom : pos (nat_abs d) ≡ d = omega (arith, ints, above) in
    let product : pos (end * nat_abs d) ≡ pos end *ℤ d = ap (λ x. pos end *ℤ x) bottom in
    let sum : end * nat_abs d + nat_abs n ≡ nat_abs (pos end *ℤ d +ℤ n) = omega (arith, ints, low, product) in
    subst (λ m. IsGcd m (nat_abs d) 1) sum (reduced_above (nat_abs n) (nat_abs d) end h)

reduced_rest : (n d : ℤ) (end : ℕ) → pos 0 ≤ℤ n → pos 0 <ℤ d → n ≤ℤ (pos end *ℤ d) → IsGcd (nat_abs n) (nat_abs d) 1 → IsGcd (nat_abs (pos end *ℤ d -ℤ n)) (nat_abs d) 1
reduced_rest n d end low above high h =
    let bottom : pos (nat_abs d) ≡ d = omega (arith, ints, above) in
    let product : pos (end * nat_abs d) ≡ pos end *ℤ d = ap (λ x. pos end *ℤ x) bottom in
    let le : nat_abs n ≤ end * nat_abs d = omega (arith, ints, low, high, product) in
    let rest : end * nat_abs d - nat_abs n ≡ nat_abs (pos end *ℤ d -ℤ n) = omega (arith, ints, low, high, product) in
    subst (λ m. IsGcd m (nat_abs d) 1) rest (reduced_below (nat_abs n) (nat_abs d) end le h)

-- ---- the part, reduced, stays within the end

part_low : (over under n d : ℤ) → pos 0 <ℤ under → pos 0 <ℤ d → n *ℤ under ≡ over *ℤ d → pos 0 ≤ℤ over → pos 0 ≤ℤ n
part_low over under n d above positive same low =
    let some = mul_not_negative over d low (omega (arith, ints, positive)) in
    let none = mul-zero under in
    let turned = *ℤ_comm under n in
    le_cancel under (pos 0) n above (omega (arith, ints, some, none, turned, same))

part_high : (over under n d : ℤ) (end : ℕ) → pos 0 <ℤ under → pos 0 <ℤ d → n *ℤ under ≡ over *ℤ d → over ≤ℤ (under *ℤ pos end) → n ≤ℤ (pos end *ℤ d)
part_high over under n d end above positive same high =
    let most : (d *ℤ over) ≤ℤ (d *ℤ (under *ℤ pos end)) = mul_mono d over (under *ℤ pos end) (omega (arith, ints, positive)) high in
    let turned = *ℤ_comm under n in
    let others = *ℤ_comm over d in
    let swapped : d *ℤ (under *ℤ pos end) ≡ under *ℤ (pos end *ℤ d) = mul_swap d under (pos end) ∙ ap (λ x. under *ℤ x) (*ℤ_comm d (pos end)) in
    le_cancel under n (pos end *ℤ d) above (omega (arith, ints, most, turned, others, swapped, same))

-- ---- the count

same_above : (over under n d : ℤ) (end : ℕ) → pos 0 <ℤ d → n *ℤ under ≡ over *ℤ d → (pos end *ℤ d +ℤ n) *ℤ under ≡ (pos end *ℤ under +ℤ over) *ℤ d
same_above over under n d end above same =
    let bottom : pos (nat_abs d) ≡ d = omega (arith, ints, above) in
    let known : under *ℤ n ≡ pos (nat_abs d) *ℤ over = *ℤ_comm under n ∙ same ∙ *ℤ_comm over d ∙ ap (λ x. x *ℤ over) (sym bottom) in
    let whole = scaled_sum (pos end) n under over (nat_abs d) known in
    ap (λ x. (x +ℤ n) *ℤ under) (*ℤ_comm (pos end) d ∙ ap (λ x. x *ℤ pos end) (sym bottom)) ∙ whole ∙ ap (λ x. (pos end *ℤ under +ℤ over) *ℤ x) bottom

same_below : (over under n d : ℤ) (end : ℕ) → pos 0 <ℤ d → n *ℤ under ≡ over *ℤ d → (pos end *ℤ d -ℤ n) *ℤ under ≡ (pos end *ℤ under -ℤ over) *ℤ d
same_below over under n d end above same =
    let bottom : pos (nat_abs d) ≡ d = omega (arith, ints, above) in
    let known : under *ℤ n ≡ pos (nat_abs d) *ℤ over = *ℤ_comm under n ∙ same ∙ *ℤ_comm over d ∙ ap (λ x. x *ℤ over) (sym bottom) in
    let whole = scaled_rest (pos end) n under over (nat_abs d) known in
    ap (λ x. (x -ℤ n) *ℤ under) (*ℤ_comm (pos end) d ∙ ap (λ x. x *ℤ pos end) (sym bottom)) ∙ whole ∙ ap (λ x. (pos end *ℤ under -ℤ over) *ℤ x) bottom

module _ (p : Program) (floors caps : List ℕ) (t : Tableau) (i : ℕ) (part : Frac) (above : pos 0 <ℤ under_at t i) (low : pos 0 ≤ℤ over_at p t i)
    (of : IsQuotient (over_at p t i) (under_at t i) part) where
  pub part-low : pos 0 ≤ℤ part.num
  part-low = part_low (over_at p t i) (under_at t i) part.num part.den above of.frac.above of.equal low

  pub part-high : (end : ℕ) → over_at p t i ≤ℤ (under_at t i *ℤ pos end) → part.num ≤ℤ (pos end *ℤ part.den)
  part-high end high = part_high (over_at p t i) (under_at t i) part.num part.den end above of.frac.above of.equal high

  pub IsCount-counted : (turned : Bool) → is_turned t i ≡ turned → (turned ≡ true → over_at p t i ≤ℤ (under_at t i *ℤ pos (nat_at caps i)))
      → IsCount p floors caps t i (counted (cond turned (nat_at caps i) (nat_at floors i)) turned part)
  IsCount-counted true e high = record {
    positive = let some = of.frac.above in omega (arith, ints, some);
    reduced = reduced_rest part.num part.den (nat_at caps i) part-low of.frac.above (part-high (nat_at caps i) (high refl)) of.frac.reduced;
    same = rw e (same_below (over_at p t i) (under_at t i) part.num part.den (nat_at caps i) of.frac.above of.equal);
  }
  IsCount-counted false e high = record {
    positive = let some = of.frac.above in omega (arith, ints, some);
    reduced = reduced_sum part.num part.den (nat_at floors i) part-low of.frac.above of.frac.reduced;
    same = rw e (same_above (over_at p t i) (under_at t i) part.num part.den (nat_at floors i) of.frac.above of.equal);
  }

-- ---- the count that is found, or none

module _ (p : Program) (floors caps : List ℕ) (t : Tableau) (i : ℕ) (part : Frac) (end : ℕ) (turned : Bool) (above : pos 0 <ℤ under_at t i) (fits : IsFit part.den)
    (is : IsCount p floors caps t i (counted end turned part)) where
  pub count-some : (found : Option Frac) → SomeIff found (IsFit (numerator end turned part)) (counted end turned part) → IfSome found (λ count. IsCount p floors caps t i count × IsFitCount count)
  count-some None h = tt
  count-some (Some count) h = subst (λ c. IsCount p floors caps t i c × IsFitCount c) (sym h.1) (is, (h.0, fits))

  pub count-none : (found : Option Frac) → SomeIff found (IsFit (numerator end turned part)) (counted end turned part) → found ≡ None
      → (count : Frac) → IsCount p floors caps t i count → IsFitCount count → ⊥
  count-none None h e count other fit = h (subst IsFitCount (one_count p floors caps t i count (counted end turned part) above other is) fit).0
  count-none (Some found) h e count other fit = absurd cc

-- what is known of the part of a cell that is placed
pub record IsPart (p : Program) (floors caps : List ℕ) (t : Tableau) (i : ℕ) (part : Frac) : Type 0 where
  pub low : pos 0 ≤ℤ part.num
  pub high : (turned : Bool) (end : ℕ) → end ≡ cond turned (nat_at caps i) (nat_at floors i) → IsTrue turned → part.num ≤ℤ (pos end *ℤ part.den)
  pub some : (turned : Bool) (end : ℕ) → turned ≡ is_turned t i → end ≡ cond turned (nat_at caps i) (nat_at floors i) → (found : Option Frac)
      → SomeIff found (IsFit (numerator end turned part)) (counted end turned part) → IfSome found (λ count. IsCount p floors caps t i count × IsFitCount count)
  pub none : (turned : Bool) (end : ℕ) → turned ≡ is_turned t i → end ≡ cond turned (nat_at caps i) (nat_at floors i) → (found : Option Frac)
      → SomeIff found (IsFit (numerator end turned part)) (counted end turned part) → found ≡ None
      → (count : Frac) → IsCount p floors caps t i count → IsFitCount count → ⊥

pub IsPart-placed : (p : Program) (floors caps : List ℕ) (t : Tableau) (i : ℕ) (part : Frac) {over under : ℤ} → IsPlaced p caps t i
    → over ≡ over_at p t i → under ≡ under_at t i → IsQuotient over under part → IsPart p floors caps t i part
IsPart-placed p floors caps t i part placed over_is under_is quotient = record {
  low = part-low p floors caps t i part placed.above placed.low of;
  high = λ turned end is below. high turned end is below;
  some = λ turned end same is. count-some p floors caps t i part end turned placed.above of.frac.den_fits (count turned end same is);
  none = λ turned end same is. count-none p floors caps t i part end turned placed.above of.frac.den_fits (count turned end same is);
}
  where
    of : IsQuotient (over_at p t i) (under_at t i) part
    of = rw (over_is, under_is) at quotient

    high : (turned : Bool) (end : ℕ) → end ≡ cond turned (nat_at caps i) (nat_at floors i) → IsTrue turned → part.num ≤ℤ (pos end *ℤ part.den)
    high true end is below = rw is (part-high p floors caps t i part placed.above placed.low of (nat_at caps i) placed.high)
    high false end is below = absurd (true≢false (sym below))

    count : (turned : Bool) (end : ℕ) → turned ≡ is_turned t i → end ≡ cond turned (nat_at caps i) (nat_at floors i) → IsCount p floors caps t i (counted end turned part)
    count turned end same is = rw is (IsCount-counted p floors caps t i part placed.above placed.low of turned (sym same) (λ below. placed.high))
