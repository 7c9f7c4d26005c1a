-- The steps towards the greatest ratio: the best counts of the program at a ratio give the next one, with fewer rows.
use Rattle.std.specs.Prelude.{◌≡◌, ℕ, ◌≤◌, pos, nat_abs, ◌≤ℤ◌, ◌<ℤ◌, List}
use Rattle.pc_num.specs.Fractions.{IsFrac}
use Rattle.pc_model.specs.Aggregate.{Ratio}
use Rattle.pc_program_bound.specs.declared.program.Program.{Program}
use Rattle.pc_program_bound.specs.Allocation.{IsProgram, worth}
use Rattle.pc_branch.specs.Ends.{HasSmallGains}
use Rattle.pc_proof.specs.Table.{ratio_of}
use Rattle.pc_avg_ratio.specs.declared.fractional.Fractional.{Fractional}
use Rattle.pc_avg_ratio.specs.declared.standing.Standing.{Standing}
use Rattle.pc_avg_ratio.specs.Fractional.{IsLawful, HasRatio, excess, program_at, rows_with, most_rows, most_sum}

-- the program at a ratio, which can be searched
pub record IsProgramAt (f : Fractional) (r : Ratio) (p : Program) : Type 0 where
  pub same : p ≡ program_at f r
  pub program : IsProgram p
  pub small : HasSmallGains p

-- counts that are best at the ratio
pub record AreBest (f : Fractional) (r : Ratio) (counts : List ℕ) : Type 0 where
  pub lawful : IsLawful f counts
  pub best : (other : List ℕ) → IsLawful f other → worth (program_at f r) other ≤ℤ worth (program_at f r) counts

-- whatever has a greater ratio has fewer rows than this
abbrev pub HasLimit : Fractional → Ratio → ℕ → Type 0
HasLimit f r limit = (counts : List ℕ) → IsLawful f counts → pos 0 <ℤ excess f r counts → rows_with f counts <ℤ pos limit

-- a ratio in lowest terms that its counts have, whose numbers are small
pub record IsRatioOf (f : Fractional) (r : Ratio) (counts : List ℕ) : Type 0 where
  pub has : HasRatio f r counts
  pub positive : pos 0 <ℤ r.den
  pub small_den : r.den ≤ℤ pos most_rows
  pub small_num : nat_abs r.num ≤ most_sum

-- where the steps stand
pub record IsStanding (f : Fractional) (standing : Standing) : Type 0 where
  pub lowest : IsFrac standing.ratio
  pub ratio : IsRatioOf f (ratio_of standing.ratio) standing.counts
  pub limit : HasLimit f (ratio_of standing.ratio) standing.limit
