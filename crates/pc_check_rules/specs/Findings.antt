-- What is found of the proof of a statement.
use Rattle.std.specs.Prelude.{◌≡◌, ◌↔◌, IsTrue, ℕ, ℤ, Bool, List, Option, Result}
use Rattle.pc_num.specs.declared.Frac.{Frac}
use Rattle.pc_model.specs.declared.query.Agg.{Agg}
use Rattle.pc_model.specs.declared.query.Agg.TheVariants.{Avg}
use Rattle.pc_model.specs.declared.tree.Tree.{Tree}
use Rattle.pc_model.specs.Aggregate.{Ratio}
use Rattle.pc_program_bound.specs.declared.program.Program.{Program}
use Rattle.pc_program_bound.specs.SplitTrees.{tree_of, Proves}
use Rattle.pc_proof.specs.declared.answer.Proof.{Proof}
use Rattle.pc_proof.specs.declared.answer.Proof.TheVariants as proofs
use Rattle.pc_proof.specs.Setting.{Setting, program_for}
use Rattle.pc_proof.specs.Table.{ratio_of, none, bound_for, ShowsHigh, ShowsLow}
use Rattle.pc_proof.specs.Demands.{Placed, high_trees, low_trees, tree_demands}
use Rattle.pc_check_rules.specs.declared.extreme.Extreme.{Extreme}
use Rattle.pc_check_rules.specs.declared.extreme.Extreme.TheVariants.{Low, High}
use Rattle.pc_check_rules.specs.declared.halt.Halt.{Halt}
use Rattle.pc_check_rules.specs.declared.scene.Scene.{Scene}
use Rattle.pc_check_rules.specs.Halts.{Finds}
use Rattle.pc_check_rules.specs.Scene.{IsSceneOf}
use Rattle.pc_check_rules.specs.Programs.{table_program}

-- what is found of the lines of its trees, and whether it shows the statement
abbrev pub IsShown : Setting → List Placed → Type 0 → Result Bool Halt → Type 0
IsShown s lines P result = Finds s lines (λ shown. IsTrue shown ↔ P) result

-- the tree proves its bound
abbrev pub IsBoundOf : Program → Tree → Option ℤ → Type 0
IsBoundOf p t most = Proves p p.floor p.cap (tree_of t.nodes) × (most ≡ bound_for p t)

-- what is found of the lines of a tree of a program, and its bound
abbrev pub IsVerdict : Setting → ℕ → Program → Tree → Result (Option ℤ) Halt → Type 0
IsVerdict s line p t result = Finds s (tree_demands line p t) (IsBoundOf p t) result

-- .. of the program that each setting of a scene has
abbrev pub IsVerdictIn : Scene → ℕ → (Setting → Program) → Tree → Result (Option ℤ) Halt → Type 0
IsVerdictIn scene line program t result = (s : Setting) → IsSceneOf scene s → IsVerdict s line (program s) t result

-- ---- an end

abbrev pub IsHighFinding : Setting → ℕ → Frac → Proof → Result Bool Halt → Type 0
IsHighFinding s line value proof result =
    IsShown s (high_trees s line s.question.query.agg value proof) (ShowsHigh s s.question.query.agg (ratio_of value) proof) result

abbrev pub IsLowFinding : Setting → ℕ → Frac → Proof → Result Bool Halt → Type 0
IsLowFinding s line value proof result =
    IsShown s (low_trees s line s.question.query.agg value proof) (ShowsLow s s.question.query.agg (ratio_of value) proof) result

-- either of the two
abbrev pub end_trees : Extreme → Setting → ℕ → Agg → Frac → Proof → List Placed
end_trees High s line agg value proof = high_trees s line agg value proof
end_trees Low s line agg value proof = low_trees s line agg value proof

abbrev pub ShowsEnd : Extreme → Setting → Agg → Ratio → Proof → Type 0
ShowsEnd High s agg v proof = ShowsHigh s agg v proof
ShowsEnd Low s agg v proof = ShowsLow s agg v proof

abbrev pub IsEndFinding : Extreme → Setting → ℕ → Agg → Frac → Proof → Result Bool Halt → Type 0
IsEndFinding extreme s line agg value proof result = IsShown s (end_trees extreme s line agg value proof) (ShowsEnd extreme s agg (ratio_of value) proof) result

-- what is found of a tree that is to show an end
abbrev pub IsTreeShown : Extreme → Setting → ℕ → Agg → Ratio → Tree → Result Bool Halt → Type 0
IsTreeShown extreme s line agg v t result = IsShown s (tree_demands line (table_program extreme s agg v) t) (ShowsEnd extreme s agg v (proofs.Tree t)) result

-- what is found of a tree at a ratio
abbrev pub IsRatioShown : Extreme → Setting → ℕ → Ratio → Frac → Tree → Result Bool Halt → Type 0
IsRatioShown extreme s line v ratio t result =
    IsShown s (tree_demands line (table_program extreme s Avg (ratio_of ratio)) t) (ShowsEnd extreme s Avg v (proofs.At ratio t)) result

-- a tree that the rules do not name is tried with no gain, and shows nothing
abbrev pub IsUnnamed : Setting → ℕ → Tree → Result Bool Halt → Type 0
IsUnnamed s line t result = IsShown s (tree_demands line (program_for s none) t) ⊥ result

-- ---- .. in each setting of a scene

abbrev pub IsEndIn : Extreme → Scene → ℕ → Frac → Proof → Result Bool Halt → Type 0
IsEndIn extreme scene line value proof result = (s : Setting) → IsSceneOf scene s → IsEndFinding extreme s line scene.agg value proof result

abbrev pub IsTreeIn : Extreme → Scene → ℕ → Frac → Tree → Result Bool Halt → Type 0
IsTreeIn extreme scene line value t result = (s : Setting) → IsSceneOf scene s → IsTreeShown extreme s line scene.agg (ratio_of value) t result

abbrev pub IsRatioIn : Extreme → Scene → ℕ → Frac → Frac → Tree → Result Bool Halt → Type 0
IsRatioIn extreme scene line value ratio t result = (s : Setting) → IsSceneOf scene s → IsRatioShown extreme s line (ratio_of value) ratio t result
