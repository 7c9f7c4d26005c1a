-- What the steps end in: a ratio that none passes, or one above the ratio where they stopped.
use Rattle.std.specs.Prelude.{◌≡◌, ℕ, ◌+◌, ◌<◌, ◌≤◌, ◌^◌, ◌⊎◌, ⊤, ℤ, pos, nat_abs, ◌+ℤ◌, ◌*ℤ◌, ◌≤ℤ◌, ◌<ℤ◌, List, Option, Some, None, MatchOption}
use Rattle.std.specs.Int.{int_max}
use Rattle.pc_num.specs.declared.fraction.Frac.{Frac}
use Rattle.pc_num.specs.Fractions.{IsFrac}
use Rattle.pc_model.specs.declared.tree.Tree.{Tree}
use Rattle.pc_model.specs.Aggregate.{Ratio, whole, IsAtMost, IsSame}
use Rattle.pc_program_bound.specs.declared.program.Program.{Program}
use Rattle.pc_program_bound.specs.SplitTrees.{Proves, IsInPreorder, bound_by, tree_of}
use Rattle.pc_branch.specs.Licence.{IsSearchTree, IsLicence}
use Rattle.pc_branch.specs.Outcome.{splits_of, AreFitLeaves, IsOutcome}
use Rattle.pc_branch.specs.declared.outcome.Outcome.TheVariants.{Spent}
use Rattle.pc_proof.specs.Table.{ratio_of}
use Rattle.pc_avg_ratio.specs.declared.fractional.Fractional.{Fractional}
use Rattle.pc_avg_ratio.specs.declared.highest.Highest.{Highest}
use Rattle.pc_avg_ratio.specs.declared.highest.Highest.TheVariants.{Reached, Above}
use Rattle.pc_avg_ratio.specs.declared.standing.Standing.{Standing}
use Rattle.pc_avg_ratio.specs.declared.steps.Step.{Step}
use Rattle.pc_avg_ratio.specs.declared.steps.Step.TheVariants.{Better, End}
use Rattle.pc_avg_ratio.specs.Fractional.{over_before, program_at}
use Rattle.pc_avg_ratio.specs.Steps.{IsRatioOf, IsStanding}

-- a search tree of the program, whose bound is within a number
pub record IsTreeWithin (p : Program) (budget : ℕ) (tree : Tree) (most : ℤ) : Type 0 where
  pub preorder : IsInPreorder tree.nodes
  pub proves : Proves p p.floor p.cap (tree_of tree.nodes)
  pub within : MatchOption (bound_by p p.floor p.cap (tree_of tree.nodes)) ⊤ (λ k. k ≤ℤ most)
  pub search : IsSearchTree p budget None (splits_of (tree_of tree.nodes))
  pub fits : AreFitLeaves (tree_of tree.nodes)

-- with what is there before, no counts are above the ratio; or no number is, and the tree shows that none gains
abbrev pub IsShown : Fractional → ℤ → ℕ → Ratio → Tree → Type 0
IsShown f outermost budget r tree =
    ((most : ℤ) × IsTreeWithin (program_at f r) budget tree most × ((over_before f r +ℤ most) ≤ℤ pos 0))
    ⊎ (((outermost *ℤ r.den) ≤ℤ r.num) × IsTreeWithin (program_at f r) budget tree (pos 0))

-- counts reach a ratio that none passes
pub record IsReached (f : Fractional) (outermost : ℤ) (budget : ℕ) (first : Ratio) (ratio : Frac) (counts : List ℕ) (tree : Tree) : Type 0 where
  pub lowest : IsFrac ratio
  pub ratio_is : IsRatioOf f (ratio_of ratio) counts
  pub from : IsAtMost first (ratio_of ratio)
  pub shown : IsShown f outermost budget (ratio_of ratio) tree

-- the least number of rows that a ratio is of
abbrev pub fewest_rows : Fractional → ℤ
fewest_rows f = int_max (pos f.count) (pos 1)

-- what is left over, spread over the fewest rows, above the ratio
abbrev pub raised : Fractional → Ratio → ℤ → Ratio
raised f r left = record { num = r.num *ℤ fewest_rows f +ℤ left; den = r.den *ℤ fewest_rows f }

abbrev pub IsLesser : Ratio → Ratio → Ratio → Type 0
IsLesser v a b = (IsSame v a × IsAtMost a b) ⊎ (IsSame v b × IsAtMost b a)

-- the fraction is the ratio, or the outermost number where that is less
abbrev pub IsCapped : Frac → Ratio → ℤ → Type 0
IsCapped value r outermost = IsLesser (ratio_of value) r (whole outermost)

-- the budget is spent at a ratio that counts have: what is left over there is spread over the fewest rows
pub record IsAbove (f : Fractional) (outermost : ℤ) (budget : ℕ) (first : Ratio) (ratio : Frac) (counts : List ℕ) (tree : Tree) (value : Frac) : Type 0 where
  pub lowest : IsFrac ratio
  pub ratio_is : IsRatioOf f (ratio_of ratio) counts
  pub from : IsAtMost first (ratio_of ratio)
  pub most : ℤ
  pub small : nat_abs most ≤ 10 ^ 37
  pub spent : IsLicence (program_at f (ratio_of ratio)) budget most (splits_of (tree_of tree.nodes))
  pub tree_within : IsTreeWithin (program_at f (ratio_of ratio)) budget tree most
  pub bound : ℤ
  pub bound_is : bound_by (program_at f (ratio_of ratio)) (program_at f (ratio_of ratio)).floor (program_at f (ratio_of ratio)).cap (tree_of tree.nodes) ≡ Some bound
  pub small_bound : nat_abs bound ≤ 10 ^ 37
  pub over : pos 0 <ℤ (over_before f (ratio_of ratio) +ℤ bound)
  pub under : ratio.num <ℤ (outermost *ℤ ratio.den)
  pub value_lowest : IsFrac value
  pub value_small : value.den ≤ℤ pos 30_000_000_000_000_000
  pub value_is : IsLesser (ratio_of value) (raised f (ratio_of ratio) (over_before f (ratio_of ratio) +ℤ bound)) (whole outermost)

abbrev pub IsHighest : Fractional → ℤ → ℕ → Ratio → Highest → Type 0
IsHighest f outermost budget first (Reached ratio counts tree) = IsReached f outermost budget first ratio counts tree
IsHighest f outermost budget first (Above ratio counts tree value) = IsAbove f outermost budget first ratio counts tree value

-- no search was cut short
abbrev pub IsSurely : Highest → Type 0
IsSurely (Reached ratio counts tree) = ⊤
IsSurely (Above ratio counts tree value) = ⊥

-- ---- one step

-- what a spent search leaves, whatever it found
abbrev pub IsSpent : Program → ℕ → ℤ → Tree → Type 0
IsSpent p budget most tree = (found : Option (List ℕ)) × IsOutcome p budget (Spent most found tree)

-- a greater ratio, with a lower limit or one try less; or the end
abbrev pub IsStep : Fractional → ℤ → ℕ → Standing → Step → Type 0
IsStep f outermost budget standing (Better next) =
    IsStanding f next × (next.limit + next.tries < standing.limit + standing.tries) × IsAtMost (ratio_of standing.ratio) (ratio_of next.ratio)
IsStep f outermost budget standing (End highest) = IsHighest f outermost budget (ratio_of standing.ratio) highest

-- the step, whatever the outermost number and the budget, if the tree is within the worth at the ratio
abbrev pub IsStepWithin : Fractional → Standing → Tree → ℤ → Step → Type 0
IsStepWithin f standing tree most step =
    (outermost : ℤ) (budget : ℕ) → IsTreeWithin (program_at f (ratio_of standing.ratio)) budget tree most → IsStep f outermost budget standing step

abbrev pub IsStepSurely : Step → Type 0
IsStepSurely (Better next) = ⊤
IsStepSurely (End highest) = IsSurely highest
