use Rattle.std.proofs.Common.{◌≡◌, ◌++◌, take, drop, map}
use Rattle.pc_document_lines.specs.TokenLines.{is_inner}
use Rattle.pc_document.specs.Spans.{placed_cuts_from}
use Rattle.pc_document.proofs.placed_cuts.with_places.Given as goal

abbrev pub invariant-loop-place : goal.invariant-loop-place
invariant-loop-place l =
    (map is_inner l.list.items ≡ map is_inner l.fn.nodes)
    × (take l.place l.list.items ++ placed_cuts_from l.place (drop l.place l.list.items) ≡ placed_cuts_from 0 l.fn.nodes)
