-- What a search answers.
use Rattle.std.specs.Prelude.{◌≡◌, ℕ, ℤ, ◌≤ℤ◌, ◌<ℤ◌, List, Option, Some, None, MatchOption, ⊤}
use Rattle.pc_program_bound.specs.declared.program.Program.{Program}
use Rattle.pc_program_bound.specs.Allocation.{IsAllocation, worth}
use Rattle.pc_nested.specs.Nested.{IsNested}
use Rattle.pc_num.specs.declared.Frac.{Frac}
use Rattle.pc_model.specs.declared.tree.Mult.{Mult}
use Rattle.pc_simplex_tableau.specs.Point.{Relaxation, vertex, IsRelaxation}
use Rattle.pc_simplex.specs.Vertices.{IsFitMult}
use Rattle.pc_program_bound.specs.SplitTrees.{SplitTree, bound, void, less_caps, more_floors, bound_by, Proves, IsInPreorder, tree_of}
use Rattle.pc_program_bound.specs.SplitTrees as trees
use Rattle.pc_branch.specs.Licence.{Splits, leaf, split, IsStuck, no_multipliers, IsSearchTree, IsLicence, HoldsWholePoints}
use Rattle.pc_branch.specs.declared.outcome.Outcome.{Outcome}
use Rattle.pc_branch.specs.declared.outcome.Outcome.TheVariants.{Best, Nothing, Spent}

-- the splits of a tree with multipliers at its leaves
abbrev pub splits_of : SplitTree → Splits
splits_of (bound m) = leaf
splits_of (void m) = leaf
splits_of (trees.split cell at t u) = split cell at (splits_of t) (splits_of u)

-- the numbers of each leaf's multipliers and their denominator fit
abbrev pub AreFitLeaves : SplitTree → Type 0
AreFitLeaves (bound m) = IsFitMult m
AreFitLeaves (void m) = IsFitMult m
AreFitLeaves (trees.split cell at t u) = AreFitLeaves t × AreFitLeaves u

-- a leaf that is wide or stalled has its parent's multipliers
abbrev pub AreInherited : Program → Mult → List ℕ → List ℕ → SplitTree → Type 0
AreInherited p above floors caps (bound m) = (r : Relaxation) → IsRelaxation p floors caps r → IsStuck r → m ≡ above
AreInherited p above floors caps (void m) = (r : Relaxation) → IsRelaxation p floors caps r → IsStuck r → ⊥
AreInherited p above floors caps (trees.split cell at t u) =
    (point : List Frac) × (mult : Mult) × IsRelaxation p floors caps (vertex point mult)
    × AreInherited p mult floors (less_caps caps cell at) t × AreInherited p mult (more_floors floors cell at) caps u

-- a tree of a search: its leaves show what they say, and it is a search tree, for a value where one is named
pub record IsProofTree (p : Program) (budget : ℕ) (least : Option ℤ) (tree : SplitTree) : Type 0 where
  pub proves : Proves p p.floor p.cap tree
  pub fits : AreFitLeaves tree
  pub search : IsSearchTree p budget least (splits_of tree)

-- no allocation is worth more
abbrev pub IsMost : Program → ℤ → Type 0
IsMost p most = (counts : List ℕ) → IsAllocation p p.floor p.cap counts → worth p counts ≤ℤ most

-- an allocation of greatest worth, with a tree that proves it
pub record IsBest (p : Program) (budget : ℕ) (counts : List ℕ) (value : ℤ) (tree : SplitTree) : Type 0 where
  pub allowed : IsAllocation p p.floor p.cap counts
  pub is : worth p counts ≡ value
  pub greatest : IsMost p value
  pub shown : IsProofTree p budget (Some value) tree
  pub bounded : bound_by p p.floor p.cap tree ≡ Some value

-- no allocation, and each leaf of the tree is void
pub record IsNothing (p : Program) (budget : ℕ) (tree : SplitTree) : Type 0 where
  pub empty : (counts : List ℕ) → IsAllocation p p.floor p.cap counts → ⊥
  pub shown : IsProofTree p budget None tree
  pub none : bound_by p p.floor p.cap tree ≡ None

-- the tree's splits are a licence for the bound, which no leaf passes; what was found is below it
pub record IsSpent (p : Program) (budget : ℕ) (e : ℤ) (found : Option (List ℕ)) (tree : SplitTree) : Type 0 where
  pub most : IsMost p e
  pub shown : IsProofTree p budget (Some e) tree
  pub licence : IsLicence p budget e (splits_of tree)
  pub within : MatchOption (bound_by p p.floor p.cap tree) ⊤ (λ k. k ≤ℤ e)
  pub allowed : MatchOption found ⊤ (λ counts. IsAllocation p p.floor p.cap counts × (worth p counts <ℤ e))
  pub inherited : AreInherited p (no_multipliers p) p.floor p.cap tree
  pub whole : HoldsWholePoints p found p.floor p.cap (splits_of tree)

abbrev pub IsOutcome : Program → ℕ → Outcome → Type 0
IsOutcome p budget (Best counts value tree) = IsInPreorder tree.nodes × IsBest p budget counts value (tree_of tree.nodes)
IsOutcome p budget (Nothing tree) = IsInPreorder tree.nodes × IsNothing p budget (tree_of tree.nodes)
IsOutcome p budget (Spent e found tree) = IsInPreorder tree.nodes × IsSpent p budget e found (tree_of tree.nodes)

-- every search ends within its budget
abbrev pub IsEasyProgram : Program → Type 0
IsEasyProgram p = IsNested p

abbrev pub IsDecided : Outcome → Type 0
IsDecided (Best counts value tree) = ⊤
IsDecided (Nothing tree) = ⊤
IsDecided (Spent e found tree) = ⊥
