-- Sums of which all items but two are 0, and the totals of constraints with so few cells.
use Rattle.std.proofs.Common.{◌≡◌, ◌≢◌, ℕ, zero, suc, ◌+◌, ◌<◌, inl, inr, true, false, cond, List, ap, ◌∙◌, arith}
use Rattle.std.specs.Prelude.{ℤ, pos, ◌+ℤ◌}
use Rattle.std.proofs.lemmas.Int.{ints}
use Rattle.std.proofs.lemmas.Bool.{cases_eq}
use Rattle.pc_program_bound.specs.declared.program.Program.{Program}
use Rattle.pc_program_bound.specs.Sums.{sum_below, nat_at}
use Rattle.pc_program_bound.specs.Allocation.{cells_of, count_for, total}
use Rattle.pc_program_bound.proofs.SumBelow.{sum_below-none, sum_below-one, sum_below-suc}
use Rattle.pc_program.specs.Settled.{is_in}

pub sum_below-two : (n : ℕ) (f : ℕ → ℤ) (a b : ℕ) → a < b → b < n → ((i : ℕ) → i < n → i ≢ a → i ≢ b → f i ≡ pos 0) → sum_below n f ≡ f a +ℤ f b
sum_below-two zero f a b order below zeros = absurd (omega arith)
sum_below-two (suc n) f a b order below zeros = elim (cases_eq n b) [
  | inl e ↦
      let one = sum_below-one n a f (omega arith) (λ i h apart. zeros i (omega arith) apart (λ same. omega arith)) in
      let last : f n ≡ f b = ap f e in
      omega (arith, ints, sum_below-suc n f, one, last)
  | inr other ↦
      let before = sum_below-two n f a b order (omega arith) (λ i h apart afar. zeros i (omega arith) apart afar) in
      let last = zeros n (omega arith) (λ same. omega arith) other in
      omega (arith, ints, sum_below-suc n f, before, last)
]

count-in : (p : Program) (counts : List ℕ) (k i : ℕ) → is_in p i k ≡ true → count_for p counts k i ≡ pos (nat_at counts i)
count-in p counts k i e = ap (λ t. cond t (pos (nat_at counts i)) (pos 0)) e

count-out : (p : Program) (counts : List ℕ) (k i : ℕ) → is_in p i k ≡ false → count_for p counts k i ≡ pos 0
count-out p counts k i e = ap (λ t. cond t (pos (nat_at counts i)) (pos 0)) e

-- the total of a constraint with no cell, with one and with two
pub total-none : (p : Program) (counts : List ℕ) (k : ℕ) → ((i : ℕ) → i < cells_of p → is_in p i k ≡ false) → total p counts k ≡ pos 0
total-none p counts k out = sum_below-none (cells_of p) (count_for p counts k) (λ i h. count-out p counts k i (out i h))

pub total-one : (p : Program) (counts : List ℕ) (k a : ℕ) → a < cells_of p → is_in p a k ≡ true
    → ((i : ℕ) → i < cells_of p → i ≢ a → is_in p i k ≡ false) → total p counts k ≡ pos (nat_at counts a)
total-one p counts k a there member out =
    sum_below-one (cells_of p) a (count_for p counts k) there (λ i h apart. count-out p counts k i (out i h apart)) ∙ count-in p counts k a member

pub total-two : (p : Program) (counts : List ℕ) (k a b : ℕ) → a < b → b < cells_of p → is_in p a k ≡ true → is_in p b k ≡ true
    → ((i : ℕ) → i < cells_of p → i ≢ a → i ≢ b → is_in p i k ≡ false) → total p counts k ≡ pos (nat_at counts a + nat_at counts b)
total-two p counts k a b order there first second out =
    let both = sum_below-two (cells_of p) (count_for p counts k) a b order there (λ i h apart afar. count-out p counts k i (out i h apart afar)) in
    omega (arith, ints, both, count-in p counts k a first, count-in p counts k b second)
