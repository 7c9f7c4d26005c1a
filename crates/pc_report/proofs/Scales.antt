-- A well-formed schema has few decimals.
use Rattle.std.proofs.lemmas.List.Elements.{All-weaker}
use Rattle.pc_model.specs.declared.schema.Kind.{Kind}
use Rattle.pc_model.specs.declared.schema.Kind.TheVariants.{Int, Dec, Cat}
use Rattle.pc_model.specs.declared.schema.Column.{Column}
use Rattle.pc_model.specs.declared.schema.Schema.{Schema}
use Rattle.pc_model.specs.WellFormed.{IsKind, IsColumn, IsWellFormed}
use Rattle.pc_report.specs.RunLines.{HasScale, HaveScales}

HasScale-from_kind : (kind : Kind) → IsKind kind → HasScale kind
HasScale-from_kind (Int low high) h = tt
HasScale-from_kind (Dec scale low high) h = h.0
HasScale-from_kind (Cat names) h = tt

pub HaveScales-from_well_formed : (schema : Schema) → IsWellFormed schema → HaveScales schema.columns
HaveScales-from_well_formed schema h =
    All-weaker IsColumn (λ (column : Column). HasScale column.kind) (λ column is. HasScale-from_kind column.kind is.kind) schema.columns h.columns.all

pub ruleset scales = (HaveScales-from_well_formed)
