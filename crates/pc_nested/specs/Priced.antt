-- The multipliers as the steps are undone, the last one first.
use Rattle.std.specs.Prelude.{◌≡◌, ℕ, ◌<◌, ◌≤◌, ◌^◌, ℤ, pos, nat_abs, true, false, cond, List, length, All, ◌⊎◌}
use Rattle.pc_model.specs.declared.tree.Mult.{Mult}
use Rattle.pc_program_bound.specs.declared.program.Program.{Program}
use Rattle.pc_program_bound.specs.Sums.{sum_below, int_at}
use Rattle.pc_program_bound.specs.Allocation.{cells_of, constraints_of}
use Rattle.pc_program_bound.specs.Bound.{part_of}
use Rattle.pc_program.specs.Settled.{is_in}
use Rattle.pc_nested.specs.declared.narrowing.Step.{Step}
use Rattle.pc_nested.specs.Narrowed.{Shows, IsTight, AreInOrder}

abbrev pub mult_of : List ℤ → Mult
mult_of by = record { by = by; den = pos 1 }

-- a constraint whose step is still to be undone: it has no multiplier, its cells have one price, and it is not the one apart
pub record IsLeft (p : Program) (k : ℕ) (by prices : List ℤ) (j : ℕ) : Type 0 where
  pub other : j ≡ k → ⊥
  pub none : int_at by j ≡ pos 0
  pub even : (h i : ℕ) → h < cells_of p → i < cells_of p → is_in p h j ≡ true → is_in p i j ≡ true → int_at prices h ≡ int_at prices i

-- with these steps left; the constraint k is apart from them all, and its multiplier is m
pub record AreUndone (p : Program) (counts : List ℕ) (k : ℕ) (m : ℤ) (steps : List Step) (by prices : List ℤ) : Type 0 where
  pub long : length by ≡ constraints_of p
  pub wide : length prices ≡ cells_of p
  pub shows : Shows p steps (int_at prices) counts
  pub priced : (i : ℕ) → i < cells_of p → int_at prices i ≡ sum_below (constraints_of p) (part_of p (mult_of by) i)
  pub tight : (j : ℕ) → j < constraints_of p → (j ≡ k → ⊥) → IsTight p j counts (int_at by j)
  pub kept : int_at by k ≡ m
  pub left : All (λ (step : Step). IsLeft p k by prices step.place) steps
  pub in_order : AreInOrder p steps
  pub small_by : (j : ℕ) → j < constraints_of p → nat_abs (int_at by j) ≤ 2 ^ 88
  pub small_prices : (i : ℕ) → i < cells_of p → nat_abs (int_at prices i) ≤ 2 ^ 87

-- lists of the right length, of small prices
pub record ArePriced (p : Program) (by prices : List ℤ) : Type 0 where
  pub long : length by ≡ constraints_of p
  pub wide : length prices ≡ cells_of p
  pub small : (i : ℕ) → i < cells_of p → nat_abs (int_at prices i) ≤ 2 ^ 87

-- the price of some cell of the constraint, or 0 where it has none
abbrev pub HasPriceOf : Program → ℕ → List ℤ → ℤ → Type 0
HasPriceOf p k prices price =
    ((i : ℕ) × (i < cells_of p) × (is_in p i k ≡ true) × (price ≡ int_at prices i)) ⊎ (((i : ℕ) → i < cells_of p → is_in p i k ≡ false) × (price ≡ pos 0))

-- the constraint's cells below a place have that price, and the others keep theirs
pub record IsRepriced (p : Program) (k : ℕ) (before : List ℤ) (price : ℤ) (to : ℕ) (after : List ℤ) : Type 0 where
  pub long : length after ≡ length before
  pub changed : (i : ℕ) → i < to → int_at after i ≡ cond (is_in p i k) price (int_at before i)
  pub kept : (i : ℕ) → to ≤ i → int_at after i ≡ int_at before i
