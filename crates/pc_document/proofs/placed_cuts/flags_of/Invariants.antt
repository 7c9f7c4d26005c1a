use Rattle.std.proofs.Common.{◌≡◌, map, take}
use Rattle.pc_document_lines.specs.TokenLines.{is_inner}
use Rattle.pc_document.proofs.placed_cuts.flags_of.Given as goal

abbrev pub invariant-loop-node : goal.invariant-loop-node
invariant-loop-node l = l.flags ≡ map is_inner (take l.node-index l.nodes)
