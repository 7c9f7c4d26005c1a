-- By how much numbers fail a row.
use Rattle.std.proofs.Common.{◌≡◌, ℕ, zero, suc, ◌+◌, ◌<◌, Bool, true, false, cond, List, ap, sym, ◌∙◌, arith}
use Rattle.std.specs.Prelude.{ℤ, pos, negsuc, neg_ℤ, ◌+ℤ◌, ◌-ℤ◌, ◌*ℤ◌, ◌<ℤ◌}
use Rattle.std.proofs.lemmas.Int.{ints}
use Rattle.pc_program_bound.specs.Sums.{sum_below, int_at}
use Rattle.pc_program_bound.proofs.Ring.{mul_assoc}
use Rattle.pc_program_bound.proofs.SumBelow.{sum_below-same, sum_below-suc, sum_below-scale}
use Rattle.pc_simplex_tableau.specs.Standing.{miss}
use Rattle.pc_simplex_tableau.proofs.Products.{mul-zero, minus_one-mul, neg-mul, none_cancel, sub-mul}
use Rattle.pc_simplex_tableau.proofs.Mixes.{sum_below-combined}
use Rattle.pc_simplex_tableau.proofs.Pivots.{by_same}

times_place : (g a b x y z n : ℤ) → g *ℤ z ≡ a *ℤ x -ℤ b *ℤ y → g *ℤ (z *ℤ n) ≡ a *ℤ (x *ℤ n) -ℤ b *ℤ (y *ℤ n)
times_place g a b x y z n e =
    let left = mul_assoc g z n in
    let split = sub-mul (a *ℤ x) (b *ℤ y) n in
    let first = mul_assoc a x n in
    let second = mul_assoc b y n in
    let whole : (g *ℤ z) *ℤ n ≡ (a *ℤ x -ℤ b *ℤ y) *ℤ n = ap (λ m. m *ℤ n) e in
    omega (arith, ints, left, split, first, second, whole)

pub miss-combined : (n : ℕ) (g a b : ℤ) (row other new : List ℤ) (z : ℕ → ℤ)
    → ((k : ℕ) → k < n + 1 → g *ℤ int_at new k ≡ a *ℤ int_at row k -ℤ b *ℤ int_at other k)
    → g *ℤ miss n new z ≡ a *ℤ miss n row z -ℤ b *ℤ miss n other z
miss-combined n g a b row other new z each =
    sum_below-combined (n + 1) g a b (λ k. int_at new k *ℤ z k) (λ k. int_at row k *ℤ z k) (λ k. int_at other k *ℤ z k)
    (λ k lt. times_place g a b (int_at row k) (int_at other k) (int_at new k) (z k) (each k lt))

-- a row is met where the one made of it and another one are
pub miss-back : (n : ℕ) (g a b : ℤ) (row other new : List ℤ) (z : ℕ → ℤ) → pos 0 <ℤ a
    → ((k : ℕ) → k < n + 1 → g *ℤ int_at new k ≡ a *ℤ int_at row k -ℤ b *ℤ int_at other k)
    → miss n new z ≡ pos 0 → miss n other z ≡ pos 0 → miss n row z ≡ pos 0
miss-back n g a b row other new z positive each none also =
    none_cancel a (miss n row z) positive
    (let whole = rw (none, also, mul-zero g, mul-zero b) at (miss-combined n g a b row other new z each) in omega (arith, ints, whole))

pub miss-same : (n : ℕ) (row : List ℤ) (y z : ℕ → ℤ) → ((k : ℕ) → y k ≡ z k) → miss n row y ≡ miss n row z
miss-same n row y z same = sum_below-same (n + 1) (λ k. int_at row k *ℤ y k) (λ k. int_at row k *ℤ z k) (λ k lt. ap (λ m. int_at row k *ℤ m) (same k))

-- a row whose signs are all changed is met where the row is
pub miss-signed : (n : ℕ) (test : Bool) (row new : List ℤ) (z : ℕ → ℤ) → ((k : ℕ) → int_at new k ≡ cond test (neg_ℤ (int_at row k)) (int_at row k))
    → miss n new z ≡ pos 0 → miss n row z ≡ pos 0
miss-signed n false row new z each none =
    sum_below-same (n + 1) (λ k. int_at row k *ℤ z k) (λ k. int_at new k *ℤ z k) (λ k lt. ap (λ m. m *ℤ z k) (sym (each k))) ∙ none
miss-signed n true row new z each none =
    let scaled = sum_below-scale (negsuc 0) (n + 1) (λ k. int_at new k *ℤ z k) in
    let nothing = mul-zero (negsuc 0) in
    sum_below-same (n + 1) (λ k. int_at row k *ℤ z k) (λ k. negsuc 0 *ℤ (int_at new k *ℤ z k)) (λ k lt. back (int_at row k) (int_at new k) (z k) (each k))
    ∙ scaled ∙ ap (λ m. negsuc 0 *ℤ m) none ∙ nothing
  where
    back : (x y m : ℤ) → y ≡ neg_ℤ x → x *ℤ m ≡ negsuc 0 *ℤ (y *ℤ m)
    back x y m e = let turned = neg-mul x m in rw (e, minus_one-mul (neg_ℤ x *ℤ m)) (omega (arith, ints, turned))

-- ---- two sums that differ at one place, and in what stands after it

-- the sums below n differ by what the numbers at that place do
pub sum_below-but_one : (n c : ℕ) (x y : ℕ → ℤ) → c < n → ((k : ℕ) → k < n → (k ≡ c → ⊥) → x k ≡ y k) → sum_below n x +ℤ y c ≡ sum_below n y +ℤ x c
sum_below-but_one zero c x y lt same = absurd (omega (arith, lt))
sum_below-but_one (suc n) c x y lt same = by_same c n here (before (λ less. sum_below-but_one n c x y less (λ k below. same k (omega (arith, below)))))
  where
    here : c ≡ n → sum_below (suc n) x +ℤ y c ≡ sum_below (suc n) y +ℤ x c
    here e =
        let rest = sum_below-same n x y (λ k less. same k (omega (arith, less)) (λ d. omega (arith, less, d, e))) in
        rw (sum_below-suc n x, sum_below-suc n y, e, rest) (omega (arith, ints))

    before : (c < n → sum_below n x +ℤ y c ≡ sum_below n y +ℤ x c) → (c ≡ n → ⊥) → sum_below (suc n) x +ℤ y c ≡ sum_below (suc n) y +ℤ x c
    before again other =
        let rest = again (omega (arith, lt, other)) in
        let last = same n (omega arith) (λ e. other (sym e)) in
        rw (sum_below-suc n x, sum_below-suc n y) (omega (arith, ints, rest, last))
