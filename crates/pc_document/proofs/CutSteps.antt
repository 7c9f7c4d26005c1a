-- The nodes of a tree of cuts, line by line.
use Rattle.std.proofs.Common.{◌≡◌, ℕ, ◌+◌, ◌-◌, ◌<◌, ◌≤◌, List, [], ◌∷◌, ◌++◌, Result, Ok, Err, IfOk, refl, if◌then◌else◌}
use Rattle.pc_model.specs.declared.schema.Schema.{Schema}
use Rattle.pc_model.specs.declared.tree.LeafMark.TheVariants.{Barren}
use Rattle.pc_model.specs.declared.tree.CutNode.{CutNode}
use Rattle.pc_model.specs.declared.tree.CutNode.TheVariants as nodes
use Rattle.pc_model.specs.WellFormed.{IsWellFormed}
use Rattle.pc_document_format.specs.Formats.{AreTrees, Lines, after_items, read_line, read_nodes}
use Rattle.pc_document_format.proofs.Loops.{nodes_done, nodes_refused, nodes_more}
use Rattle.pc_document_format.proofs.Nodes.{nodes_format}
use Rattle.pc_document.specs.declared.halt.Halt.{Halt}
use Rattle.pc_document.specs.Places.{Reads, lines_at}
use Rattle.pc_document_lines.specs.TokenLines.{IsBareCut, is_inner, read_cut_node}
use Rattle.pc_document_lines.proofs.CutsBack.{cut_line}

-- a node more
pub cut_more : (schema : Schema) (before : List CutNode) (owed : ℕ) (lines rest : Lines) (node : CutNode) → 0 < owed → read_line (read_cut_node schema) lines ≡ Ok (node, rest)
    → after_items before (read_nodes is_inner (read_cut_node schema) owed lines) ≡ after_items (before ++ node ∷ []) (read_nodes is_inner (read_cut_node schema) (if is_inner node then owed + 1 else owed - 1) rest)
cut_more schema = nodes_more is_inner (read_cut_node schema)

-- a line that is none
pub cut_refused : (schema : Schema) (before : List CutNode) (owed : ℕ) (lines left : Lines) → 0 < owed → read_line (read_cut_node schema) lines ≡ Err left → after_items before (read_nodes is_inner (read_cut_node schema) owed lines) ≡ Err left
cut_refused schema = nodes_refused is_inner (read_cut_node schema)

-- no tree is owed
pub cuts_done : (schema : Schema) (before : List CutNode) (owed : ℕ) (lines : Lines) → owed ≤ 0 → after_items before (read_nodes is_inner (read_cut_node schema) owed lines) ≡ Ok (before, lines)
cuts_done schema = nodes_done is_inner (read_cut_node schema)

pub ruleset steps = (cut_more, cut_refused, cuts_done)

-- what is read are the nodes of one tree
read_trees : (schema : Schema) (lines rest : Lines) (list : List CutNode) → IsWellFormed schema → read_nodes is_inner (read_cut_node schema) 1 lines ≡ Ok (list, rest) → AreTrees (IsBareCut schema) is_inner 1 list
read_trees schema lines rest list formed e =
    ((nodes_format is_inner (cut_line schema formed) (nodes.Leaf Barren) (record { placeless = refl; good = tt }) refl 1).sound lines rest list e).0

-- what is read until no tree is owed are the nodes of one tree
pub nodes_are_trees : (schema : Schema) (bytes : List ℕ) (start : ℕ) (result : Result (List CutNode × ℕ) Halt) → IsWellFormed schema → Reads bytes result (read_nodes is_inner (read_cut_node schema) 1 (lines_at bytes start)) → IfOk result (λ found. AreTrees (IsBareCut schema) is_inner 1 found.0)
nodes_are_trees schema bytes start (Ok found) formed reads = read_trees schema (lines_at bytes start) (lines_at bytes found.1) found.0 formed reads.1
nodes_are_trees schema bytes start (Err halt) formed reads = tt
