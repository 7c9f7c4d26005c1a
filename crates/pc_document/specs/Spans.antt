-- How far the trees reach that nodes in preorder spell, by which of the nodes have two parts.
use Rattle.std.specs.Prelude.{◌≡◌, ⊤, ℕ, zero, suc, ◌+◌, ◌≤◌, ◌<◌, Bool, List, [], ◌∷◌, map, drop, length, get_or, if◌then◌else◌}
use Rattle.pc_model.specs.declared.tree.TreeNode.{TreeNode}
use Rattle.pc_model.specs.declared.tree.TreeNode.TheVariants as nodes
use Rattle.pc_model.specs.declared.tree.CutNode.{CutNode}
use Rattle.pc_model.specs.declared.tree.CutNode.TheVariants as cut_nodes
use Rattle.pc_document_format.specs.Formats.{AreTrees}
use Rattle.pc_document_lines.specs.NodeLines.{is_split}
use Rattle.pc_document_lines.specs.TokenLines.{is_inner}

-- how many trees are owed after a node, of so many and its own
abbrev pub owed : Bool → ℕ → ℕ
owed flag n = if flag then suc (suc n) else n

-- how many nodes the first so many trees have
unfoldable pub span : ℕ → List Bool → ℕ
span zero flags = 0
span (suc n) [] = 0
span (suc n) (flag ∷ flags) = 1 + span (owed flag n) flags

-- these are the nodes of so many trees
abbrev pub Trees : ℕ → List Bool → Type 0
Trees n flags = AreTrees (λ (flag : Bool). ⊤) (λ (flag : Bool). flag) n flags

-- from a place on, the numbers are the places after the trees that begin at each
pub record ArePast (flags : List Bool) (past : List ℕ) (from : ℕ) : Type 0 where
  pub as_many : length past ≡ length flags
  pub each : (k : ℕ) → from ≤ k → k < length flags → get_or past k 0 ≡ k + span 1 (drop k flags)

-- the nodes with the places of their parts: the first stands next, the second after all nodes of the first
abbrev pub placed_node : ℕ → ℕ → TreeNode → TreeNode
placed_node first second (nodes.Bound m) = nodes.Bound m
placed_node first second (nodes.Void m) = nodes.Void m
placed_node first second (nodes.Split cell at less more) = nodes.Split cell at first second

unfoldable pub placed_from : ℕ → List TreeNode → List TreeNode
placed_from k [] = []
placed_from k (node ∷ rest) = placed_node (k + 1) (k + 1 + span 1 (map is_split rest)) node ∷ placed_from (k + 1) rest

abbrev pub placed_cut : ℕ → ℕ → CutNode → CutNode
placed_cut first second (cut_nodes.Leaf mark) = cut_nodes.Leaf mark
placed_cut first second (cut_nodes.Inner cut one two) = cut_nodes.Inner cut first second

unfoldable pub placed_cuts_from : ℕ → List CutNode → List CutNode
placed_cuts_from k [] = []
placed_cuts_from k (node ∷ rest) = placed_cut (k + 1) (k + 1 + span 1 (map is_inner rest)) node ∷ placed_cuts_from (k + 1) rest
