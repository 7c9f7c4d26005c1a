-- A walk over the lines of a tree of cuts, and the verdict on them.
use Rattle.std.specs.Prelude.{◌≡◌, ℕ, List, [], ◌∷◌, ◌++◌, Option, MatchOption, Result}
use Rattle.pc_model.specs.declared.schema.Schema.{Schema}
use Rattle.pc_model.specs.declared.region.Region.{Region}
use Rattle.pc_model.specs.declared.area.Area.{Area}
use Rattle.pc_model.specs.declared.constraint.Constraint.{Constraint}
use Rattle.pc_model.specs.declared.tree.Cut.{Cut}
use Rattle.pc_model.specs.declared.tree.LeafMark.{LeafMark}
use Rattle.pc_model.specs.declared.tree.Leaf.{Leaf}
use Rattle.pc_model.specs.declared.tree.CutNode.{CutNode}
use Rattle.pc_model.specs.declared.tree.CutNode.TheVariants as nodes
use Rattle.pc_model.specs.Regions.{whole_region}
use Rattle.pc_model.specs.CutTrees.{shape_of, first_part, second_part, IsProper}
use Rattle.pc_model.specs.Cells.{IsSettledAs, leaves_in}
use Rattle.pc_proof.specs.Setting.{Setting, area_of}
use Rattle.pc_proof.specs.Demands.{Placed, cut_demands}
use Rattle.pc_check_rules.specs.declared.cuts.CutWalk.{CutWalk}
use Rattle.pc_check_rules.specs.declared.halt.Halt.{Halt}
use Rattle.pc_check_rules.specs.Halts.{Finds}

-- ---- the whole tree

-- a question with these constraints, whose area is this one
pub record IsAsked (constraints : List Constraint) (area : Area) (s : Setting) : Type 0 where
  pub constraints_are : s.question.constraints ≡ constraints
  pub area_is : area_of s.question ≡ area

abbrev pub cut_lines : ℕ → Schema → List CutNode → List Placed
cut_lines line schema list = cut_demands line (whole_region schema) (shape_of list)

-- what is found of the lines of the tree, and its leaves
abbrev pub IsCutFinding : ℕ → Schema → List Constraint → Area → List CutNode → Result (List Leaf) Halt → Type 0
IsCutFinding line schema constraints area list result =
    (s : Setting) → IsAsked constraints area s → Finds s (cut_lines line schema list) (λ leaves. leaves ≡ leaves_in schema list) result

-- ---- one line

-- the number of the rule of a line
abbrev pub rule_of_cut : CutNode → ℕ
rule_of_cut (nodes.Inner cut first second) = 3
rule_of_cut (nodes.Leaf mark) = 4

-- what a line asks over the box of its node
abbrev pub IsKept : List Constraint → Area → Region → CutNode → Type 0
IsKept constraints area part (nodes.Inner cut first second) = IsProper part cut
IsKept constraints area part (nodes.Leaf mark) = IsSettledAs constraints area part mark

-- past a leaf
pub record IsGathered (part : Region) (mark : LeafMark) (before after : CutWalk) : Type 0 where
  pub parts : after.parts.items ≡ before.parts.items
  pub leaves : after.leaves ≡ before.leaves ++ record { region = part; mark = mark } ∷ []

-- before the two parts of a box, of which the first comes next
pub record IsCutInTwo (part : Region) (cut : Cut) (before after : CutWalk) : Type 0 where
  pub parts : after.parts.items ≡ (before.parts.items ++ second_part part cut ∷ []) ++ first_part part cut ∷ []
  pub leaves : after.leaves ≡ before.leaves

-- past a line
abbrev pub HasMoved : Region → CutNode → CutWalk → CutWalk → Type 0
HasMoved part (nodes.Inner cut first second) before after = IsCutInTwo part cut before after
HasMoved part (nodes.Leaf mark) before after = IsGathered part mark before after

-- past a line that keeps its rule, or at one that breaks it
abbrev pub IsCutStep : List Constraint → Area → Region → CutNode → CutWalk → Option CutWalk → Type 0
IsCutStep constraints area part node before after =
    MatchOption after (IsKept constraints area part node → ⊥) (λ (w : CutWalk). IsKept constraints area part node × HasMoved part node before w)
