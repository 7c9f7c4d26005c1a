use Rattle.std.proofs.Common.{◌≡◌, ◌++◌, take, drop, map}
use Rattle.pc_document_lines.specs.NodeLines.{is_split}
use Rattle.pc_document.specs.Spans.{placed_from}
use Rattle.pc_document.proofs.placed.with_places.Given as goal

abbrev pub invariant-loop-place : goal.invariant-loop-place
invariant-loop-place l =
    (map is_split l.list.items ≡ map is_split l.fn.nodes)
    × (take l.place l.list.items ++ placed_from l.place (drop l.place l.list.items) ≡ placed_from 0 l.fn.nodes)
