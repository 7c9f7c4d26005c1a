-- One column at the end of the steps: its share of the bound is what it adds there.
use Rattle.std.proofs.Common.{◌≡◌, ℕ, ◌-◌, ◌≤◌, Bool, true, false, cond, refl, ap, sym, ◌∙◌, arith}
use Rattle.std.specs.Prelude.{ℤ, pos, neg_ℤ, int_lt, ◌+ℤ◌, ◌-ℤ◌, ◌*ℤ◌, ◌≤ℤ◌}
use Rattle.std.specs.Int.{int_max}
use Rattle.std.proofs.lemmas.Int.{ints, clamps}
use Rattle.std.proofs.Math.IntN.{*ℤ_comm}
use Rattle.pc_program_bound.proofs.Ring.{mul-add, mul_mono, mul_anti}
use Rattle.pc_simplex_tableau.proofs.Products.{zero-mul, mul-neg, neg-mul, mul-sub, mul_swap}

-- ---- where a column stands that is counted from its end

pub from_end : (z w : ℤ) (d e : ℕ) → w ≡ neg_ℤ (pos d) → neg_ℤ z -ℤ pos e *ℤ w ≡ pos d *ℤ pos e -ℤ z
from_end z w d e whole =
    let turned = mul-neg (pos e) (pos d) in
    let swapped = *ℤ_comm (pos e) (pos d) in
    rw whole (omega (arith, ints, turned, swapped))

-- it stays within its range
pub placed-low : (test : Bool) (z w : ℤ) (d e : ℕ) → w ≡ neg_ℤ (pos d) → pos 0 ≤ℤ z → z ≤ℤ (pos d *ℤ pos e) → pos 0 ≤ℤ cond test (neg_ℤ z -ℤ pos e *ℤ w) z
placed-low true z w d e whole low high = let same = from_end z w d e whole in omega (arith, ints, same, high)
placed-low false z w d e whole low high = low

pub placed-high : (test : Bool) (z w : ℤ) (d e : ℕ) → w ≡ neg_ℤ (pos d) → pos 0 ≤ℤ z → z ≤ℤ (pos d *ℤ pos e) → cond test (neg_ℤ z -ℤ pos e *ℤ w) z ≤ℤ (pos d *ℤ pos e)
placed-high true z w d e whole low high = let same = from_end z w d e whole in omega (arith, ints, same, low)
placed-high false z w d e whole low high = high

-- ---- a factor that takes nothing of what stands there

times_above : (x z : ℤ) (n d : ℕ) → x *ℤ z ≡ pos 0 → x *ℤ (pos d *ℤ pos n +ℤ z) ≡ pos d *ℤ (x *ℤ pos n)
times_above x z n d none = let split = mul-add x (pos d *ℤ pos n) z in let swapped = mul_swap x (pos d) (pos n) in omega (arith, ints, split, swapped, none)

times_under : (x z : ℤ) (n d : ℕ) → x *ℤ z ≡ pos 0 → x *ℤ (pos d *ℤ pos n -ℤ z) ≡ pos d *ℤ (x *ℤ pos n)
times_under x z n d none = let split = mul-sub x (pos d *ℤ pos n) z in let swapped = mul_swap x (pos d) (pos n) in omega (arith, ints, split, swapped, none)

neg_none : (a z : ℤ) → a *ℤ z ≡ pos 0 → neg_ℤ a *ℤ z ≡ pos 0
neg_none a z none = let turned = neg-mul a z in omega (arith, ints, turned, none)

pub spread : (d least most : ℕ) → least ≤ most → pos d *ℤ pos (most - least) ≡ pos d *ℤ pos most -ℤ pos d *ℤ pos least
spread d least most le =
    let apart : pos (most - least) ≡ pos most -ℤ pos least = omega (arith, ints, le) in
    ap (λ n. pos d *ℤ n) apart ∙ mul-sub (pos d) (pos most) (pos least)

-- ---- a cell

falling : (x : ℤ) (floor ceiling : ℕ) → x ≤ℤ pos 0 → floor ≤ ceiling → int_max (x *ℤ pos floor) (x *ℤ pos ceiling) ≡ x *ℤ pos floor
falling x floor ceiling falls le =
    let less : (x *ℤ pos ceiling) ≤ℤ (x *ℤ pos floor) = mul_anti x (pos floor) (pos ceiling) falls (omega (arith, ints, le)) in
    omega (arith, ints, clamps, less)

rising : (x : ℤ) (floor ceiling : ℕ) → pos 0 ≤ℤ x → floor ≤ ceiling → int_max (x *ℤ pos floor) (x *ℤ pos ceiling) ≡ x *ℤ pos ceiling
rising x floor ceiling rises le =
    let less : (x *ℤ pos floor) ≤ℤ (x *ℤ pos ceiling) = mul_mono x (pos floor) (pos ceiling) rises (omega (arith, ints, le)) in
    omega (arith, ints, clamps, less)

-- a cell's number, above its floor, times its entry
pub cell-reached : (test : Bool) (a z w : ℤ) (d floor ceiling e : ℕ) → a ≤ℤ pos 0 → a *ℤ z ≡ pos 0 → floor ≤ ceiling → w ≡ neg_ℤ (pos d) → e ≡ ceiling - floor
    → cond test (neg_ℤ a) a *ℤ (pos d *ℤ pos floor +ℤ cond test (neg_ℤ z -ℤ pos e *ℤ w) z)
    ≡ pos d *ℤ int_max (cond test (neg_ℤ a) a *ℤ pos floor) (cond test (neg_ℤ a) a *ℤ pos ceiling)
cell-reached true a z w d floor ceiling e falls none le whole range =
    let stands = from_end z w d e whole in
    let wide = spread d floor ceiling le in
    let same : pos d *ℤ pos e ≡ pos d *ℤ pos (ceiling - floor) = ap (λ n. pos d *ℤ pos n) range in
    let there : pos d *ℤ pos floor +ℤ (neg_ℤ z -ℤ pos e *ℤ w) ≡ pos d *ℤ pos ceiling -ℤ z = omega (arith, ints, stands, wide, same) in
    ap (λ n. neg_ℤ a *ℤ n) there ∙ times_under (neg_ℤ a) z ceiling d (neg_none a z none)
    ∙ ap (λ n. pos d *ℤ n) (sym (rising (neg_ℤ a) floor ceiling (omega (arith, ints, falls)) le))
cell-reached false a z w d floor ceiling e falls none le whole range =
    times_above a z floor d none ∙ ap (λ n. pos d *ℤ n) (sym (falling a floor ceiling falls le))

-- ---- a constraint

taking : (m : ℤ) (least most : ℕ) → pos 0 ≤ℤ m → m *ℤ pos (cond (int_lt (pos 0) m) most least) ≡ m *ℤ pos most
taking m least most rises = by (int_lt (pos 0) m) refl
  where
    by : (test : Bool) → int_lt (pos 0) m ≡ test → m *ℤ pos (cond test most least) ≡ m *ℤ pos most
    by true e = refl
    by false e = let none : m ≡ pos 0 = omega (arith, ints, e, rises) in rw none (zero-mul (pos least) ∙ sym (zero-mul (pos most)))

giving : (m : ℤ) (least most : ℕ) → m ≤ℤ pos 0 → m *ℤ pos (cond (int_lt (pos 0) m) most least) ≡ m *ℤ pos least
giving m least most falls = by (int_lt (pos 0) m) refl
  where
    by : (test : Bool) → int_lt (pos 0) m ≡ test → m *ℤ pos (cond test most least) ≡ m *ℤ pos least
    by true e = absurd (omega (arith, ints, e, falls))
    by false e = refl

-- a constraint's slack, below its most, times its multiplier
pub constraint-reached : (test : Bool) (a z w : ℤ) (d least most e : ℕ) → a ≤ℤ pos 0 → a *ℤ z ≡ pos 0 → least ≤ most → w ≡ neg_ℤ (pos d) → e ≡ most - least
    → cond test a (neg_ℤ a) *ℤ (pos d *ℤ pos most -ℤ cond test (neg_ℤ z -ℤ pos e *ℤ w) z)
    ≡ pos d *ℤ (cond test a (neg_ℤ a) *ℤ pos (cond (int_lt (pos 0) (cond test a (neg_ℤ a))) most least))
constraint-reached true a z w d least most e falls none le whole range =
    let there = slack_there z w d least most e le whole range in
    ap (λ n. a *ℤ n) there ∙ times_above a z least d none ∙ ap (λ n. pos d *ℤ n) (sym (giving a least most falls))
  where
    slack_there : (z w : ℤ) (d least most e : ℕ) → least ≤ most → w ≡ neg_ℤ (pos d) → e ≡ most - least
        → pos d *ℤ pos most -ℤ (neg_ℤ z -ℤ pos e *ℤ w) ≡ pos d *ℤ pos least +ℤ z
    slack_there z w d least most e le whole range =
        let stands = from_end z w d e whole in
        let wide = spread d least most le in
        let same : pos d *ℤ pos e ≡ pos d *ℤ pos (most - least) = ap (λ n. pos d *ℤ pos n) range in
        omega (arith, ints, stands, wide, same)
constraint-reached false a z w d least most e falls none le whole range =
    times_under (neg_ℤ a) z most d (neg_none a z none) ∙ ap (λ n. pos d *ℤ n) (sym (taking (neg_ℤ a) least most (omega (arith, ints, falls))))
