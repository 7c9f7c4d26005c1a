-- The nodes of a search tree, line by line.
use Rattle.std.proofs.Common.{◌≡◌, ℕ, ◌+◌, ◌-◌, ◌<◌, ◌≤◌, List, [], ◌∷◌, ◌++◌, Ok, Err, if◌then◌else◌}
use Rattle.pc_model.specs.declared.tree.TreeNode.{TreeNode}
use Rattle.pc_document_format.specs.Formats.{Lines, AreTrees, after_items, read_line, read_nodes}
use Rattle.pc_document_format.proofs.Loops.{nodes_done, nodes_refused, nodes_more}
use Rattle.pc_document_lines.specs.NodeLines.{IsBareNode, is_split, read_node}
use Rattle.pc_document_lines.proofs.NodesBack.{node_line}
use Rattle.pc_document.proofs.TreeFormat.{tree_nodes}

pub split_more : (before : List TreeNode) (owed : ℕ) (lines rest : Lines) (node : TreeNode) → 0 < owed → read_line read_node lines ≡ Ok (node, rest)
    → after_items before (read_nodes is_split read_node owed lines) ≡ after_items (before ++ node ∷ []) (read_nodes is_split read_node (if is_split node then owed + 1 else owed - 1) rest)
split_more = nodes_more is_split read_node

pub split_refused : (before : List TreeNode) (owed : ℕ) (lines left : Lines) → 0 < owed → read_line read_node lines ≡ Err left → after_items before (read_nodes is_split read_node owed lines) ≡ Err left
split_refused = nodes_refused is_split read_node

pub splits_done : (before : List TreeNode) (owed : ℕ) (lines : Lines) → owed ≤ 0 → after_items before (read_nodes is_split read_node owed lines) ≡ Ok (before, lines)
splits_done = nodes_done is_split read_node

-- the nodes that are read are those of one tree
pub are_trees : (lines rest : Lines) (found : List TreeNode) → read_nodes is_split read_node 1 lines ≡ Ok (found, rest) → AreTrees IsBareNode is_split 1 found
are_trees lines rest found e = ((tree_nodes node_line).sound lines rest found e).0

pub ruleset steps = (split_more, split_refused, splits_done)
