-- The rows of a possible list have numbers in the query's column that are far from the ends of what a cell holds.
use Rattle.std.proofs.Common.{◌≡◌, ℕ, zero, suc, ◌<◌, ◌≤◌, ℤ, true, true≢false, List, [], ◌∷◌, length, get_or, All, Option, Some, None, sym, ap, arith}
use Rattle.std.specs.Prelude.{Bool, IsSomeAnd, is_some, slice_get}
use Rattle.std.specs.Cmp.Lexicographic.{pointwise}
use Rattle.std.proofs.lemmas.Bool.{and_parts}
use Rattle.pc_model.specs.declared.schema.Column.{Column}
use Rattle.pc_model.specs.declared.schema.Schema.{Schema}
use Rattle.pc_model.specs.declared.row.Row.{Row}
use Rattle.pc_model.specs.declared.row.Run.{Run}
use Rattle.pc_model.specs.declared.query.Query.{Query}
use Rattle.pc_model.specs.declared.query.Agg.{Agg}
use Rattle.pc_model.specs.declared.query.Agg.TheVariants.{Count, Sum, Min, Max, Avg}
use Rattle.pc_model.specs.declared.constraint.Constraint.{Constraint}
use Rattle.pc_model.specs.Accepted.{IsColumnWhere, IsNumeric, Measures, frequency_limit}
use Rattle.pc_model.specs.Membership.{allows, in_domain}
use Rattle.pc_model.specs.Possible.{count_of}
use Rattle.pc_model.specs.Runs.{rows_of, AreRuns}
use Rattle.pc_model.specs.WellFormed.{IsWellFormed}
use Rattle.pc_witness.proofs.Repeats.{All-from_repeats}
use Rattle.pc_proof.proofs.RowNumbers.{asked_small}
use Rattle.pc_desk_parts.specs.declared.asked.Asked.{Asked}
use Rattle.pc_desk_parts.specs.declared.asked.Reached.{Reached}
use Rattle.pc_desk_parts.specs.Counts.{HasRoom, MayStep}
use Rattle.pc_desk_parts.specs.Parts.{IsReached}

abbrev all_allowed : List Column → List ℤ → Bool
all_allowed columns cells = pointwise (λ (column : Column). allows column.kind) columns cells

cell_there : (columns : List Column) (cells : List ℤ) (place : ℕ) → all_allowed columns cells ≡ true → IsSomeAnd (slice_get columns place) (λ (column : Column). IsNumeric column.kind) → place < length cells
cell_there [] cells place allowed there = absurd there
cell_there (column ∷ columns) [] place allowed there = absurd (true≢false (sym allowed))
cell_there (column ∷ columns) (n ∷ cells) zero allowed there = omega arith
cell_there (column ∷ columns) (n ∷ cells) (suc place) allowed there =
    let later = cell_there columns cells place (and_parts (allows column.kind n) (all_allowed columns cells) allowed).1 there in
    omega (arith, later)

has_room : (schema : Schema) (query : Query) (row : Row) (column : ℕ) → IsWellFormed schema → in_domain schema row ≡ true → IsColumnWhere IsNumeric schema column → HasRoom row column
unfolding in_domain
has_room schema query row column formed allowed there = record {
  inside = cell_there schema.columns row.cells column allowed there;
  small = asked_small schema (record query { column = Some column }) row formed allowed;
}

may_step : (schema : Schema) (query : Query) (row : Row) (agg : Agg) (column : Option ℕ) → IsWellFormed schema → in_domain schema row ≡ true → Measures schema agg column → MayStep column row
may_step schema query row agg None formed allowed measures = tt
may_step schema query row Count (Some column) formed allowed measures = absurd (some_is_none measures)
  where
    some_is_none : Some column ≡ None → ⊥
    some_is_none is = true≢false (ap is_some is)
may_step schema query row Sum (Some column) formed allowed measures = has_room schema query row column formed allowed measures
may_step schema query row Min (Some column) formed allowed measures = has_room schema query row column formed allowed measures
may_step schema query row Max (Some column) formed allowed measures = has_room schema query row column formed allowed measures
may_step schema query row Avg (Some column) formed allowed measures = has_room schema query row column formed allowed measures

from_rows_of : (P : Row → Type 0) (runs : List Run) → AreRuns runs → All P (rows_of runs) → All (λ (run : Run). P run.row) runs
unfolding rows_of
from_rows_of P runs stand each = All-from_repeats (λ (run : Run). run.times) (λ (run : Run). run.row) P runs stand each

module _ (ask : Asked) (reached : Reached) (is : IsReached ask reached) where
  pub runs_step : All (λ (run : Run). MayStep ask.query.now.column run.row) reached.runs.now
  runs_step place d here =
      let allowed = from_rows_of (λ row. in_domain ask.schema.now row ≡ true) reached.runs.now is.runs is.possible.allowed place d here in
      may_step ask.schema.now ask.query.now (get_or reached.runs.now place d).row ask.query.now.agg ask.query.now.column is.schema allowed is.query.measured

  pub few_counted : All (λ (c : Constraint). count_of ask.constraints.now c (rows_of reached.runs.now) ≤ frequency_limit) ask.constraints.now
  few_counted place d here =
      let meets = (is.possible.meets place d here).not_more in
      let small = is.constraints.small place d here in
      omega (arith, meets, small)

pub ruleset steps = (runs_step, few_counted)
