use Rattle.std.proofs.Common.{◌≡◌, map, take}
use Rattle.pc_document_lines.specs.NodeLines.{is_split}
use Rattle.pc_document.proofs.placed.flags_of.Given as goal

abbrev pub invariant-loop-node : goal.invariant-loop-node
invariant-loop-node l = l.flags ≡ map is_split (take l.node-index l.nodes)
