-- How constraints narrow the ends of their cells, and the prices that undo it.
use Rattle.std.specs.Prelude.{◌≡◌, ℕ, ◌<◌, ◌≤◌, ◌^◌, ℤ, pos, ◌-ℤ◌, ◌<ℤ◌, ◌≤ℤ◌, nat_abs, true, false, cond, List, [], ◌∷◌, length, map, Option, Some, None, MatchOption, All, ◌⊎◌, ⊤}
use Rattle.std.specs.Int.{int_max, int_min}
use Rattle.pc_program_bound.specs.declared.program.Program.{Program}
use Rattle.pc_program_bound.specs.Sums.{nat_at, int_at}
use Rattle.pc_program_bound.specs.Allocation.{cells_of, constraints_of, total}
use Rattle.pc_program_bound.specs.Bound.{without_gain}
use Rattle.pc_program.specs.Settled.{is_in}
use Rattle.pc_nested.specs.declared.narrowing.Step.{Step}
use Rattle.pc_nested.specs.Nested.{AreApart, IsInside}
use Rattle.pc_nested.specs.Filled.{IsChosen, IsFilled}

-- ---- prices

-- a price is at least that of the rows that were barred, and at most that of the rows that were forced
abbrev pub at_least : Option ℤ → ℤ → ℤ
at_least None price = price
at_least (Some bound) price = int_max bound price

abbrev pub at_most : Option ℤ → ℤ → ℤ
at_most None price = price
at_most (Some bound) price = int_min bound price

abbrev pub price_at : Step → ℤ → ℤ
price_at step price = at_most step.raised (at_least step.lowered price)

-- the prices once the step is undone: those of the constraint's cells change, and the others stay
abbrev pub Undoes : Program → Step → (ℕ → ℤ) → (ℕ → ℤ) → Type 0
Undoes p step before after =
    (i : ℕ) → i < cells_of p → after i ≡ cond (is_in p i step.place) (price_at step (before i)) (before i)

-- each cell has what its price chooses between its ends
pub record AreChosen (p : Program) (lows highs : List ℕ) (prices : ℕ → ℤ) (counts : List ℕ) : Type 0 where
  pub sized : length counts ≡ cells_of p
  pub each : (i : ℕ) → i < cells_of p → IsChosen (int_at p.gain i) (nat_at lows i) (nat_at highs i) (prices i) (nat_at counts i)

-- a multiplier above 0 wants the most, and one below 0 the least
pub record IsTight (p : Program) (k : ℕ) (counts : List ℕ) (by : ℤ) : Type 0 where
  pub up : pos 0 <ℤ by → total p counts k ≡ pos (nat_at p.most k)
  pub down : by <ℤ pos 0 → total p counts k ≡ pos (nat_at p.least k)

-- the constraint's cells all have that price
abbrev pub HavePrice : Program → ℕ → (ℕ → ℤ) → ℤ → Type 0
HavePrice p k prices price = (i : ℕ) → i < cells_of p → is_in p i k ≡ true → prices i ≡ price

-- the counts are what the prices choose, and stay so as the steps are undone, each by a multiplier that is tight
abbrev pub Shows : Program → List Step → (ℕ → ℤ) → List ℕ → Type 0
Shows p [] prices counts = AreChosen p p.floor p.cap prices counts
Shows p (step ∷ before) prices counts =
    ((price : ℤ) → HavePrice p step.place prices price → IsTight p step.place counts (price_at step price -ℤ price))
    × ((undone : ℕ → ℤ) → Undoes p step prices undone → Shows p before undone counts)

-- ---- one step

-- the low ends are raised where they are too few, by the dearest rows
abbrev pub IsRaised : Program → ℕ → List ℕ → List ℕ → List ℕ → Option ℤ → Type 0
IsRaised p k lows highs raised price =
    MatchOption price ((raised ≡ lows) × (pos (nat_at p.least k) ≤ℤ total p lows k)) (λ a. IsFilled p k lows highs raised a (nat_at p.least k))

-- and the high ends lowered where they are too many, but for the dearest rows
pub record IsBarred (p : Program) (k : ℕ) (lows highs lowered : List ℕ) (price : ℤ) : Type 0 where
  pub long : length lowered ≡ length highs
  pub others : (i : ℕ) → i < cells_of p → is_in p i k ≡ false → nat_at lowered i ≡ nat_at highs i
  pub chosen : (i : ℕ) → i < cells_of p → is_in p i k ≡ true → IsChosen (int_at p.gain i) (nat_at lows i) (nat_at highs i) price (nat_at lowered i)
  pub total : total p lowered k ≡ pos (nat_at p.most k)
  pub small : nat_abs price ≤ 2 ^ 87

abbrev pub IsLowered : Program → ℕ → List ℕ → List ℕ → List ℕ → Option ℤ → Type 0
IsLowered p k lows highs lowered price =
    MatchOption price ((lowered ≡ highs) × (total p highs k ≤ℤ pos (nat_at p.most k))) (λ b. IsBarred p k lows highs lowered b)

-- the low ends of the constraint's cells, and the high ends of the others
pub record IsEmptied (p : Program) (k : ℕ) (lows highs : List ℕ) (to : ℕ) (ends : List ℕ) : Type 0 where
  pub sized : length ends ≡ to
  pub each : (i : ℕ) → i < to → nat_at ends i ≡ cond (is_in p i k) (nat_at lows i) (nat_at highs i)

pub record IsStep (p : Program) (step : Step) (lows highs raised lowered : List ℕ) : Type 0 where
  pub up : IsRaised p step.place lows highs raised step.raised
  pub down : IsLowered p step.place raised highs lowered step.lowered

-- ---- all steps so far

-- one constraint comes before another: it is apart from it, or inside it
pub record ComesBefore (p : Program) (j k : ℕ) : Type 0 where
  pub apart : j ≡ k → ⊥
  pub nested : AreApart p j k ⊎ IsInside p j k

-- the prices of a step are small, and its constraint is there
pub record IsSmallStep (p : Program) (step : Step) : Type 0 where
  pub there : step.place < constraints_of p
  pub raised : MatchOption step.raised ⊤ (λ price. nat_abs price ≤ 2 ^ 87)
  pub lowered : MatchOption step.lowered ⊤ (λ price. nat_abs price ≤ 2 ^ 87)

-- the last step first: its constraint is inside none of the others, unless it is as great
abbrev pub AreInOrder : Program → List Step → Type 0
AreInOrder p [] = ⊤
AreInOrder p (step ∷ before) = IsSmallStep p step × (All (λ (other : Step). ComesBefore p other.place step.place) before × AreInOrder p before)

-- from the least of the low ends to the most of the high ones
abbrev pub IsMetBetween : Program → List ℕ → List ℕ → ℕ → Type 0
IsMetBetween p lows highs k = (pos (nat_at p.least k) ≤ℤ total p lows k) × (total p highs k ≤ℤ pos (nat_at p.most k))

-- the ends after some steps, of which the last one stands first
pub record AreNarrowed (p : Program) (steps : List Step) (lows highs : List ℕ) : Type 0 where
  pub sized_lows : length lows ≡ cells_of p
  pub sized_highs : length highs ≡ cells_of p
  pub ordered : (i : ℕ) → i < cells_of p → (nat_at p.floor i ≤ nat_at lows i) × (nat_at lows i ≤ nat_at highs i) × (nat_at highs i ≤ nat_at p.cap i)
  pub met : All (λ (step : Step). IsMetBetween p lows highs step.place) steps
  pub in_order : AreInOrder p steps
  pub shown : (prices : ℕ → ℤ) (counts : List ℕ) → AreChosen p lows highs prices counts → Shows p steps prices counts

-- ---- the same where no row is worth anything

abbrev pub flat_price : Option ℤ → Option ℤ
flat_price None = None
flat_price (Some price) = Some (pos 0)

abbrev pub flat : Step → Step
flat step = record { place = step.place; raised = flat_price step.raised; lowered = flat_price step.lowered }

abbrev pub places_of : List Step → List ℕ
places_of steps = map (λ (step : Step). step.place) steps

-- the ends after some steps, also where no row is worth anything
pub record IsNarrowing (p : Program) (steps : List Step) (lows highs : List ℕ) : Type 0 where
  pub with_gains : AreNarrowed p steps lows highs
  pub without_gains : AreNarrowed (without_gain p) (map flat steps) lows highs
