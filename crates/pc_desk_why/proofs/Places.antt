-- What is explained has few decimals.
use Rattle.std.proofs.Common.{◌≤◌, ℕ, zero, suc, List, [], ◌∷◌, All, Option, Some, None, subst, sym, arith}
use Rattle.std.specs.Prelude.{slice_get}
use Rattle.std.proofs.lemmas.List.Elements.{All-cons, All-head, All-nil, All-tail}
use Rattle.pc_model.specs.declared.schema.Column.{Column}
use Rattle.pc_model.specs.declared.schema.Kind.{Kind}
use Rattle.pc_model.specs.declared.schema.Kind.TheVariants.{Cat, Dec, Int}
use Rattle.pc_model.specs.declared.schema.Schema.{Schema}
use Rattle.pc_model.specs.WellFormed.{IsWellFormed}
use Rattle.pc_report.specs.Report.{scale_at, scale_for, scale_in}
use Rattle.pc_report.specs.RunLines.{HasScale, HaveScales}
use Rattle.pc_report.proofs.Scales.{HaveScales-from_well_formed}
use Rattle.pc_desk_answers.specs.Blocks.{Asked, Ground, block, quantile}
use Rattle.pc_desk_why.specs.declared.explained.Explained.{Explained}
use Rattle.pc_desk_why.specs.Explained.{AreExplained, Explains}

few_in : (kind : Kind) → HasScale kind → scale_in kind ≤ 6
few_in (Int low high) has = omega arith
few_in (Dec scale low high) has = has
few_in (Cat names) has = omega arith

few_at : (columns : List Column) (place : ℕ) → HaveScales columns → scale_at (slice_get columns place) ≤ 6
few_at [] place have = omega arith
few_at (column ∷ columns) zero have = few_in column.kind (All-head (λ (column : Column). HasScale column.kind) column columns have)
few_at (column ∷ columns) (suc place) have = few_at columns place (All-tail (λ (column : Column). HasScale column.kind) column columns have)

scale_few : (schema : Schema) (column : Option ℕ) → IsWellFormed schema → scale_for schema column ≤ 6
scale_few schema None formed = omega arith
scale_few schema (Some place) formed = few_at schema.columns place (HaveScales-from_well_formed schema formed)

abbrev HasFew : Explained → Type 0
HasFew told = told.places ≤ 6

module _ (ground : Ground) (formed : IsWellFormed ground.schema) where
  has_few : (asked : Asked) (told : Explained) → Explains ground asked told → HasFew told
  has_few (block w) told explains = subst (λ (n : ℕ). n ≤ 6) (sym explains.explains.places) (scale_few ground.schema w.query.column formed)
  has_few (quantile asked) told explains = subst (λ (n : ℕ). n ≤ 6) (sym explains.explains.places) (scale_few ground.schema (Some asked.column) formed)

  pub have_few : (wanted : List Asked) (all : List Explained) → AreExplained ground wanted all → All (λ (told : Explained). told.places ≤ 6) all
  have_few [] [] each = All-nil HasFew
  have_few [] (told ∷ all) each = absurd each
  have_few (asked ∷ wanted) [] each = absurd each
  have_few (asked ∷ wanted) (told ∷ all) each = All-cons HasFew told all (has_few asked told each.0) (have_few wanted all each.1)
