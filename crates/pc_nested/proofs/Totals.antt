-- The totals of a constraint by counts that agree on its cells, or are at most those of others.
use Rattle.std.proofs.Common.{◌≡◌, ◌≢◌, ℕ, zero, suc, ◌+◌, ◌<◌, ◌≤◌, Bool, true, false, cond, inl, inr, List, length, set, ap, refl, ◌∙◌, arith, get_or-set_same, get_or-set_other}
use Rattle.std.specs.Prelude.{ℤ, pos, ◌+ℤ◌, ◌-ℤ◌, ◌≤ℤ◌}
use Rattle.std.proofs.lemmas.Int.{ints}
use Rattle.std.proofs.lemmas.Bool.{cases_eq}
use Rattle.pc_program_bound.specs.declared.program.Program.{Program}
use Rattle.pc_program_bound.specs.Sums.{sum_below, nat_at}
use Rattle.pc_program_bound.specs.Allocation.{cells_of, count_for, total}
use Rattle.pc_program_bound.proofs.SumBelow.{sum_below-suc, sum_below-same, sum_below_mono}
use Rattle.pc_program.specs.Settled.{is_in}

-- two sums that differ at one place
pub sum_below-but_one : (n a : ℕ) (f g : ℕ → ℤ) → a < n → ((i : ℕ) → i < n → i ≢ a → g i ≡ f i)
    → sum_below n g ≡ sum_below n f +ℤ (g a -ℤ f a)
sum_below-but_one zero a f g there same = absurd (omega arith)
sum_below-but_one (suc n) a f g there same = elim (cases_eq n a) [
  | inl e ↦
      let before = sum_below-same n g f (λ i h. same i (omega arith) (λ d. omega arith)) in
      let last : g n ≡ g a = ap g e in
      let old : f n ≡ f a = ap f e in
      omega (arith, ints, sum_below-suc n f, sum_below-suc n g, before, last, old)
  | inr other ↦
      let before = sum_below-but_one n a f g (omega arith) (λ i h apart. same i (omega arith) apart) in
      let last = same n (omega arith) other in
      omega (arith, ints, sum_below-suc n f, sum_below-suc n g, before, last)
]

-- what a count adds, where it is counted
pub total_same : (p : Program) (counts others : List ℕ) (k : ℕ) → ((i : ℕ) → i < cells_of p → is_in p i k ≡ true → nat_at counts i ≡ nat_at others i)
    → total p counts k ≡ total p others k
total_same p counts others k same = sum_below-same (cells_of p) (count_for p counts k) (count_for p others k) (λ i h. one i h (is_in p i k) (λ e. e))
  where
    one : (i : ℕ) → i < cells_of p → (test : Bool) → (test ≡ true → is_in p i k ≡ true) → cond test (pos (nat_at counts i)) (pos 0) ≡ cond test (pos (nat_at others i)) (pos 0)
    one i h true member = ap (λ n. pos n) (same i h (member refl))
    one i h false member = refl

pub total_mono : (p : Program) (counts highs : List ℕ) (k : ℕ) → ((i : ℕ) → i < cells_of p → is_in p i k ≡ true → nat_at counts i ≤ nat_at highs i)
    → total p counts k ≤ℤ total p highs k
total_mono p counts highs k below = sum_below_mono (cells_of p) (count_for p counts k) (count_for p highs k) (λ i h. one i h (is_in p i k) (λ e. e))
  where
    one : (i : ℕ) → i < cells_of p → (test : Bool) → (test ≡ true → is_in p i k ≡ true) → cond test (pos (nat_at counts i)) (pos 0) ≤ℤ cond test (pos (nat_at highs i)) (pos 0)
    one i h true member = let le = below i h (member refl) in omega (arith, ints, le)
    one i h false member = omega (arith, ints)

-- rows added to a cell of the constraint
pub total_added : (p : Program) (counts : List ℕ) (k cell count share : ℕ) → length counts ≡ cells_of p → cell < cells_of p → is_in p cell k ≡ true
    → count ≡ nat_at counts cell + share → total p (set counts cell count) k ≡ total p counts k +ℤ pos share
total_added p counts k cell count share sized there member is =
    let more = set counts cell count in
    let here : nat_at more cell ≡ count = get_or-set_same counts cell count 0 (omega (arith, sized, there)) in
    let new : count_for p more k cell ≡ pos count = ap (λ t. cond t (pos (nat_at more cell)) (pos 0)) member ∙ ap (λ n. pos n) here in
    let old : count_for p counts k cell ≡ pos (nat_at counts cell) = ap (λ t. cond t (pos (nat_at counts cell)) (pos 0)) member in
    let whole = sum_below-but_one (cells_of p) cell (count_for p counts k) (count_for p more k) there
    (λ i h apart. ap (λ n. cond (is_in p i k) (pos n) (pos 0)) (get_or-set_other counts cell i count 0 apart)) in
    omega (arith, ints, whole, new, old, is)
