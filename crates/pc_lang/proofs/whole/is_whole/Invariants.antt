use Rattle.std.proofs.Common.{◌≡◌, drop}
use Rattle.std.specs.Cmp.Lexicographic.{pointwise}
use Rattle.pc_model.specs.declared.schema.Column.{Column}
use Rattle.pc_model.specs.Regions.{whole_side}
use Rattle.pc_lang.specs.Canonical.{same_side}
use Rattle.pc_lang.proofs.whole.is_whole.Given as goal

abbrev pub invariant-loop-place : goal.invariant-loop-place
invariant-loop-place l =
    pointwise (λ (column : Column) side. same_side side (whole_side column.kind)) l.columns l.sides
    ≡ pointwise (λ (column : Column) side. same_side side (whole_side column.kind)) (drop l.place l.columns) (drop l.place l.sides)
