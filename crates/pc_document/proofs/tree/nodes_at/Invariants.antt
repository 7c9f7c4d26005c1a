use Rattle.std.proofs.Common.{◌≡◌, ◌+◌, ◌-◌, ◌≤◌, length}
use Rattle.pc_document_format.specs.Formats.{after_items, read_nodes}
use Rattle.pc_document_lines.specs.NodeLines.{is_split, read_node}
use Rattle.pc_document.specs.Places.{IsLineStart, lines_at}
use Rattle.pc_document.proofs.tree.nodes_at.Given as goal

abbrev pub invariant-loop-owed : goal.invariant-loop-owed
invariant-loop-owed l =
    (after_items l.nodes (read_nodes is_split read_node l.owed (lines_at l.bytes l.at)) ≡ read_nodes is_split read_node 1 (lines_at l.bytes l.start))
    × IsLineStart l.bytes l.at × (l.owed ≤ l.at + 1)

abbrev pub decreases-loop-owed : goal.decreases-loop-owed
decreases-loop-owed l = length l.bytes - l.at
