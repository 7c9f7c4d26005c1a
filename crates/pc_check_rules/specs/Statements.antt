-- Findings of the statements that are no ends.
use Rattle.std.specs.Prelude.{◌≡◌, ℕ, ◌+◌, pos, neg_ℤ, ◌<ℤ◌, true, Bool, ⊤, ◌⊎◌, ℤ, Option, Some, None, Result}
use Rattle.pc_model.specs.declared.query.Agg.{Agg}
use Rattle.pc_model.specs.declared.tree.Tree.{Tree}
use Rattle.pc_model.specs.Right.{always_has_value}
use Rattle.pc_proof.specs.declared.answer.Bounded.{Bounded}
use Rattle.pc_proof.specs.declared.answer.Why.{Why}
use Rattle.pc_proof.specs.declared.answer.Why.TheVariants as whys
use Rattle.pc_proof.specs.declared.answer.NeverBy.{NeverBy}
use Rattle.pc_proof.specs.declared.answer.NeverBy.TheVariants as nevers
use Rattle.pc_proof.specs.declared.answer.AlwaysBy.{AlwaysBy}
use Rattle.pc_proof.specs.declared.answer.AlwaysBy.TheVariants as alwayses
use Rattle.pc_proof.specs.Setting.{Setting, program_for}
use Rattle.pc_proof.specs.Table.{minus_one, bound_for, IsSound, Cross, EndsCross, ShowsImpossible, ShowsNever, ShowsAlways}
use Rattle.pc_proof.specs.Demands.{proof_lines, tree_demands, crossing_trees, why_trees, never_trees, always_trees}
use Rattle.pc_check_rules.specs.declared.halt.Halt.{Halt}
use Rattle.pc_check_rules.specs.Shown.{IsSmall}
use Rattle.pc_check_rules.specs.Findings.{IsShown}

-- ---- what is found of each

-- the lines of two ends, with that before them
abbrev pub crossing_lines : Bounded → Bounded → ℕ
crossing_lines low high = 3 + proof_lines low.proof + proof_lines high.proof

-- two ends that cross, the line before that of the low one
abbrev pub IsCrossing : Setting → ℕ → Bounded → Bounded → Result Bool Halt → Type 0
IsCrossing s line low high result = IsShown s (crossing_trees s line low high) (EndsCross s low high) result

abbrev pub IsWhyFinding : Setting → ℕ → Why → Result Bool Halt → Type 0
IsWhyFinding s line why result = IsShown s (why_trees s line why) (ShowsImpossible s why) result

abbrev pub IsNeverFinding : Setting → ℕ → NeverBy → Result Bool Halt → Type 0
IsNeverFinding s line by' result = IsShown s (never_trees s line by') (ShowsNever s by') result

abbrev pub IsAlwaysFinding : Setting → ℕ → AlwaysBy → Result Bool Halt → Type 0
IsAlwaysFinding s line by' result = IsShown s (always_trees s line by') (ShowsAlways s by') result

-- ---- .. by its kind

abbrev pub IsVoidWhy : Setting → ℕ → Tree → Result Bool Halt → Type 0
IsVoidWhy s line t result = IsWhyFinding s line (whys.Void t) result

abbrev pub IsCrossWhy : Setting → ℕ → Tree → Tree → Result Bool Halt → Type 0
IsCrossWhy s line t u result = IsWhyFinding s line (whys.Cross t u) result

abbrev pub IsEndsWhy : Setting → ℕ → Bounded → Bounded → Result Bool Halt → Type 0
IsEndsWhy s line low high result = IsWhyFinding s line (whys.Ends low high) result

abbrev pub IsTreeNever : Setting → ℕ → Tree → Result Bool Halt → Type 0
IsTreeNever s line t result = IsNeverFinding s line (nevers.Tree t) result

abbrev pub IsTreeAlways : Setting → ℕ → Tree → Result Bool Halt → Type 0
IsTreeAlways s line t result = IsAlwaysFinding s line (alwayses.Tree t) result

abbrev pub IsEndsAlways : Setting → ℕ → Bounded → Bounded → Result Bool Halt → Type 0
IsEndsAlways s line low high result = IsAlwaysFinding s line (alwayses.Ends low high) result

-- ---- parts

-- the fewest rows are more than the most, where that bound is known
pub record CrossesWith (s : Setting) (most : Option ℤ) (u : Tree) : Type 0 where
  pub small : IsSmall most
  pub sound : IsSound (program_for s minus_one) u
  pub cross : Cross most (bound_for (program_for s minus_one) u)

abbrev pub IsFewestTree : Setting → ℕ → Option ℤ → Tree → Result Bool Halt → Type 0
IsFewestTree s line most u result = IsShown s (tree_demands line (program_for s minus_one) u) (CrossesWith s most u) result

-- the first bound is below the negative of the second, or one is nothing
abbrev pub AreCrossed : Option ℤ → Option ℤ → Type 0
AreCrossed None b = ⊤
AreCrossed (Some x) None = ⊤
AreCrossed (Some x) (Some y) = x <ℤ neg_ℤ y

-- the aggregate always has a value, or a row was observed
abbrev pub GivesValue : Agg → ℕ → Type 0
GivesValue agg count = (always_has_value agg ≡ true) ⊎ (pos 0 <ℤ pos count)
