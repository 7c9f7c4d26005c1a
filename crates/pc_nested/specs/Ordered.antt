-- The ends that all constraints leave, or those before a constraint that cannot be met.
use Rattle.std.specs.Prelude.{ℕ, ◌<◌, pos, ◌≤ℤ◌, ◌<ℤ◌, List, All, ◌⊎◌}
use Rattle.pc_program_bound.specs.declared.program.Program.{Program}
use Rattle.pc_program_bound.specs.Sums.{nat_at}
use Rattle.pc_program_bound.specs.Allocation.{constraints_of, total}
use Rattle.pc_nested.specs.declared.narrowing.Step.{Step}
use Rattle.pc_nested.specs.declared.ordering.Narrowed.{Narrowed}
use Rattle.pc_nested.specs.declared.ordering.Narrowed.TheVariants.{Whole, Stopped}
use Rattle.pc_nested.specs.Narrowed.{ComesBefore, IsNarrowing, places_of}
use Rattle.pc_nested.specs.Sized.{ArePast}

-- some total between the constraint's ends is between those of its cells
abbrev pub CanBeMet : Program → ℕ → List ℕ → List ℕ → Type 0
CanBeMet p k lows highs = (pos (nat_at p.least k) ≤ℤ total p highs k) × (total p lows k ≤ℤ pos (nat_at p.most k))

-- even full, the constraint's cells have too few, or even at their low ends too many
abbrev pub IsStopped : Program → ℕ → List ℕ → List ℕ → Type 0
IsStopped p k lows highs = (total p highs k <ℤ pos (nat_at p.least k)) ⊎ (pos (nat_at p.most k) <ℤ total p lows k)

abbrev pub IsNarrowedTo : Program → ℕ → ℕ → Narrowed → Type 0
IsNarrowedTo p size place (Whole n) = IsNarrowing p n.steps n.lows n.highs × ArePast p (places_of n.steps) size place
IsNarrowedTo p size place (Stopped n k) =
    IsNarrowing p n.steps n.lows n.highs × (k < constraints_of p) × All (λ (step : Step). ComesBefore p step.place k) n.steps × IsStopped p k n.lows n.highs
