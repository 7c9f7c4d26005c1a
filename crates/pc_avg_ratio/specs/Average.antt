-- What an average is asked over, and a step towards its greatest ratio.
use Rattle.std.specs.Prelude.{◌≤◌}
use Rattle.pc_branch.specs.declared.outcome.Outcome.{Outcome}
use Rattle.pc_branch.specs.declared.outcome.Outcome.TheVariants.{Spent}
use Rattle.pc_avg_ratio.specs.declared.average.Average.{Average}
use Rattle.pc_avg_ratio.specs.declared.standing.Standing.{Standing}
use Rattle.pc_avg_ratio.specs.declared.steps.SpentSearch.{SpentSearch}
use Rattle.pc_avg_ratio.specs.declared.steps.Step.{Step}
use Rattle.pc_avg_ratio.specs.Fractional.{IsFractional, IsOutermost}
use Rattle.pc_avg_ratio.specs.Highest.{IsStep}

pub record IsAsked (average : Average) : Type 0 where
  pub fractional : IsFractional average.fraction.now
  pub outermost : IsOutermost average.fraction.now average.outermost
  pub nodes : (1 ≤ average.nodes) × (average.nodes ≤ 100_000)

abbrev pub IsStepOver : Average → Standing → Step → Type 0
IsStepOver average standing step = IsStep average.fraction.now average.outermost average.nodes standing step

abbrev pub outcome_of : SpentSearch → Outcome
outcome_of spent = Spent spent.bound spent.found spent.tree
