use Rattle.std.proofs.Common.{◌≡◌, drop}
use Rattle.std.specs.Cmp.Lexicographic.{pointwise}
use Rattle.pc_model.specs.declared.schema.Column.{Column}
use Rattle.pc_model.specs.Membership.{allows}
use Rattle.pc_model.proofs.schema.Schema.allows_row.Given as goal

abbrev pub invariant-loop-place : goal.invariant-loop-place
invariant-loop-place l = pointwise (λ (column : Column). allows column.kind) l.columns l.cells ≡ pointwise (λ (column : Column). allows column.kind) (drop l.place l.columns) (drop l.place l.cells)
