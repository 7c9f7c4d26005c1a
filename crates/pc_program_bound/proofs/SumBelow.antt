-- Sums over the numbers below one.
use Rattle.std.proofs.Common.{◌≡◌, ◌≢◌, ℕ, zero, suc, ◌+◌, ◌<◌, Bool, true, false, cond, inl, inr, refl, ap, sym, ◌∙◌, arith, add-one}
use Rattle.std.specs.Prelude.{ℤ, pos, ◌+ℤ◌, ◌*ℤ◌, ◌≤ℤ◌}
use Rattle.std.proofs.lemmas.Int.{ints}
use Rattle.std.proofs.lemmas.Bool.{cases_eq}
use Rattle.pc_program_bound.specs.Sums.{sum_below}
use Rattle.pc_program_bound.proofs.Ring.{mul-add}

pub sum_below-zero : (f : ℕ → ℤ) → sum_below 0 f ≡ pos 0
unfolding sum_below
sum_below-zero f = refl

pub sum_below-suc : (n : ℕ) (f : ℕ → ℤ) → sum_below (suc n) f ≡ sum_below n f +ℤ f n
unfolding sum_below
sum_below-suc n f = refl

-- the step of a loop
pub sum_below-more : (n : ℕ) (f : ℕ → ℤ) → sum_below (n + 1) f ≡ sum_below n f +ℤ f n
sum_below-more n f = rw add-one (sum_below-suc n f)

pub sum_below-same : (n : ℕ) (f g : ℕ → ℤ) → ((i : ℕ) → i < n → f i ≡ g i) → sum_below n f ≡ sum_below n g
sum_below-same zero f g same = rw (sum_below-zero f, sum_below-zero g) refl
sum_below-same (suc n) f g same =
    let before = sum_below-same n f g (λ i h. same i (omega arith)) in
    rw (sum_below-suc n f, sum_below-suc n g, before, same n (omega arith)) refl

pub sum_below-add : (n : ℕ) (f g : ℕ → ℤ) → sum_below n (λ i. f i +ℤ g i) ≡ sum_below n f +ℤ sum_below n g
sum_below-add zero f g = rw (sum_below-zero f, sum_below-zero g, sum_below-zero (λ i. f i +ℤ g i)) refl
sum_below-add (suc n) f g =
    let before = sum_below-add n f g in
    omega (arith, ints, before, sum_below-suc n f, sum_below-suc n g, sum_below-suc n (λ i. f i +ℤ g i))

pub sum_below-scale : (a : ℤ) (n : ℕ) (f : ℕ → ℤ) → sum_below n (λ i. a *ℤ f i) ≡ a *ℤ sum_below n f
sum_below-scale a zero f = rw (sum_below-zero f, sum_below-zero (λ i. a *ℤ f i)) (omega (arith, ints))
sum_below-scale a (suc n) f =
    sum_below-suc n (λ i. a *ℤ f i) ∙ ap (λ x. x +ℤ a *ℤ f n) (sum_below-scale a n f) ∙ sym (mul-add a (sum_below n f) (f n))
    ∙ ap (λ x. a *ℤ x) (sym (sum_below-suc n f))

pub sum_below-zeros : (n : ℕ) → sum_below n (λ i. pos 0) ≡ pos 0
sum_below-zeros zero = sum_below-zero (λ i. pos 0)
sum_below-zeros (suc n) = sum_below-suc n (λ i. pos 0) ∙ ap (λ x. x +ℤ pos 0) (sum_below-zeros n)

-- a sum of which no number counts
pub sum_below-none : (n : ℕ) (f : ℕ → ℤ) → ((i : ℕ) → i < n → f i ≡ pos 0) → sum_below n f ≡ pos 0
sum_below-none n f none = sum_below-same n f (λ i. pos 0) none ∙ sum_below-zeros n

-- a sum of which one number alone counts
pub sum_below-one : (n a : ℕ) (f : ℕ → ℤ) → a < n → ((i : ℕ) → i < n → i ≢ a → f i ≡ pos 0) → sum_below n f ≡ f a
sum_below-one zero a f below none = absurd (omega arith)
sum_below-one (suc n) a f below none = elim (cases_eq n a) [
  | inl e ↦
      let before = sum_below-none n f (λ i h. none i (omega arith) (λ same. omega arith)) in
      let last : f n ≡ f a = ap f e in
      omega (arith, ints, sum_below-suc n f, before, last)
  | inr other ↦
      let before = sum_below-one n a f (omega arith) (λ i h apart. none i (omega arith) apart) in
      let last = none n (omega arith) other in
      omega (arith, ints, sum_below-suc n f, before, last)
]

-- a number that does not count, whether it is chosen or not
pub none_chosen : (test : Bool) (x : ℤ) → x ≡ pos 0 → cond test x (pos 0) ≡ pos 0
none_chosen true x e = e
none_chosen false x e = refl

-- two sums exchanged
pub sum_below-swap : (n m : ℕ) (f : ℕ → ℕ → ℤ) → sum_below n (λ i. sum_below m (f i)) ≡ sum_below m (λ j. sum_below n (λ i. f i j))
sum_below-swap zero m f =
    sum_below-zero (λ i. sum_below m (f i)) ∙ sym (sum_below-zeros m)
    ∙ sum_below-same m (λ j. pos 0) (λ j. sum_below 0 (λ i. f i j)) (λ j h. sym (sum_below-zero (λ i. f i j)))
sum_below-swap (suc n) m f =
    sum_below-suc n (λ i. sum_below m (f i)) ∙ ap (λ x. x +ℤ sum_below m (f n)) (sum_below-swap n m f)
    ∙ sym (sum_below-add m (λ j. sum_below n (λ i. f i j)) (f n))
    ∙ sum_below-same m (λ j. sum_below n (λ i. f i j) +ℤ f n j) (λ j. sum_below (suc n) (λ i. f i j)) (λ j h. sym (sum_below-suc n (λ i. f i j)))

pub sum_below_mono : (n : ℕ) (f g : ℕ → ℤ) → ((i : ℕ) → i < n → f i ≤ℤ g i) → sum_below n f ≤ℤ sum_below n g
sum_below_mono zero f g below = rw (sum_below-zero f, sum_below-zero g) (omega (arith, ints))
sum_below_mono (suc n) f g below =
    let before = sum_below_mono n f g (λ i h. below i (omega arith)) in
    let last = below n (omega arith) in
    omega (arith, ints, before, last, sum_below-suc n f, sum_below-suc n g)

-- the first number apart from those after it
pub sum_below-front : (n : ℕ) (f : ℕ → ℤ) → sum_below (suc n) f ≡ f 0 +ℤ sum_below n (λ i. f (suc i))
unfolding sum_below
sum_below-front zero f = omega (arith, ints)
sum_below-front (suc n) f = omega (arith, ints, sum_below-front n f)
