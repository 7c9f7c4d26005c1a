use Rattle.std.proofs.Common.{◌≡◌, ◌+◌, ◌*◌, ◌++◌, drop}
use Rattle.pc_document_lines.specs.TokenLines.{are_cells, fields_at}
use Rattle.pc_document_lines.proofs.run_lines.cells_of.Given as goal

-- what is read and what is left are the whole, and what is left decides
abbrev pub invariant-loop-place : goal.invariant-loop-place
invariant-loop-place l = record {
  cells : l.cells ++ fields_at (drop l.place l.columns) (2 * l.place + 3) l.list ≡ fields_at l.columns 3 l.list;
  kept : are_cells (drop l.place l.columns) (fields_at (drop l.place l.columns) (2 * l.place + 3) l.list) ≡ are_cells l.columns (fields_at l.columns 3 l.list);
}
