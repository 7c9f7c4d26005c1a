-- The lines of search trees.
use Rattle.std.specs.Prelude.{◌≡◌, ℕ, ◌^◌, ◌&&◌, ◌==◌, ℤ, pos, Bool, true, false, List, [], ◌∷◌, ◌++◌, map, flat_map, codes, Option, Some, None, bytes_eq, nat_le, nat_lt, if◌then◌else◌}
use Rattle.std.specs.List.{list_all, slice_split}
use Rattle.std.specs.Ordering.{int_eq}
use Rattle.pc_model.specs.declared.tree.TreeNode.{TreeNode}
use Rattle.pc_model.specs.declared.tree.TreeNode.TheVariants as nodes
use Rattle.pc_document_format.specs.Formats.{read_spelled}
use Rattle.pc_proof.specs.Form.{IsFormedNode}
use Rattle.pc_document_lines.specs.Numbers.{whole_text, count_text, likely_number, likely_count, is_fit, is_positive}

-- each number after a space
unfoldable pub numbers_text : List ℤ → List ℕ
numbers_text numbers = flat_map (λ number. 32 ∷ whole_text number) numbers

unfoldable pub node_text : TreeNode → List ℕ
node_text (nodes.Split cell at less more) = codes "split " ++ count_text cell ++ 32 ∷ count_text at
node_text (nodes.Bound m) = codes "bound " ++ whole_text m.den ++ numbers_text m.by
node_text (nodes.Void m) = codes "void" ++ numbers_text m.by

-- ---- reading

-- what stands between the spaces of a line
abbrev pub pieces_of : List ℕ → List (List ℕ)
pieces_of line = slice_split (λ byte. byte == 32) line

-- the only node that pieces can be of
abbrev pub split_of : List (List ℕ) → Option TreeNode
split_of (cell ∷ at ∷ []) = Some (nodes.Split (likely_count cell) (likely_count at) 0 0)
split_of pieces = None

abbrev pub bound_of : List (List ℕ) → Option TreeNode
bound_of [] = None
bound_of (den ∷ by') = Some (nodes.Bound (record { by = map likely_number by'; den = likely_number den }))

abbrev pub void_of : List (List ℕ) → Option TreeNode
void_of by' = Some (nodes.Void (record { by = map likely_number by'; den = pos 1 }))

unfoldable pub node_of_pieces : List (List ℕ) → Option TreeNode
node_of_pieces [] = None
node_of_pieces (first ∷ rest) =
    if bytes_eq first (codes "split") then split_of rest
    else if bytes_eq first (codes "bound") then bound_of rest
    else if bytes_eq first (codes "void") then void_of rest
    else None

unfoldable pub likely_node : List ℕ → Option TreeNode
likely_node line = node_of_pieces (pieces_of line)

-- the sizes of the numbers of a node, whose places are not told
unfoldable pub is_node : TreeNode → Bool
is_node (nodes.Split cell at less more) = nat_lt cell (2 ^ 32) && nat_le at (10 ^ 18)
is_node (nodes.Bound m) = (is_positive m.den && is_fit m.den) && list_all is_fit m.by
is_node (nodes.Void m) = int_eq m.den (pos 1) && list_all is_fit m.by

unfoldable pub read_node : List ℕ → Option TreeNode
read_node line = read_spelled node_text is_node likely_node line

-- ---- nodes without places

-- a node without the places of its parts, which its line does not tell
abbrev pub bare : TreeNode → TreeNode
bare (nodes.Bound m) = nodes.Bound m
bare (nodes.Void m) = nodes.Void m
bare (nodes.Split cell at less more) = nodes.Split cell at 0 0

abbrev pub is_split : TreeNode → Bool
is_split (nodes.Bound m) = false
is_split (nodes.Void m) = false
is_split (nodes.Split cell at less more) = true

-- a node of a line
pub record IsBareNode (node : TreeNode) : Type 0 where
  pub placeless : bare node ≡ node
  pub good : IsFormedNode node
