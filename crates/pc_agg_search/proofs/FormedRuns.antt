-- The runs of a possible list are in form.
use Rattle.std.proofs.Common.{◌≡◌, ℕ, ◌<◌, ◌≤◌, ℤ, true, true≢false, cond, List, [], ◌∷◌, length, get_or, All, sym, ap, subst, arith}
use Rattle.std.specs.Cmp.Lexicographic.{pointwise}
use Rattle.std.specs.List.{AllZip}
use Rattle.std.proofs.lemmas.Bool.{and_parts}
use Rattle.std.proofs.lemmas.List.Elements.{All-head, All-tail}
use Rattle.std.proofs.lemmas.List.Folds.{Any-from_list_any}
use Rattle.std.proofs.lemmas.List.Sums.{get_or-le-sum_by}
use Rattle.pc_model.specs.declared.schema.Kind.{Kind}
use Rattle.pc_model.specs.declared.schema.Kind.TheVariants.{Int, Dec, Cat}
use Rattle.pc_model.specs.declared.schema.Column.{Column}
use Rattle.pc_model.specs.declared.schema.Schema.{Schema}
use Rattle.pc_model.specs.declared.row.Row.{Row}
use Rattle.pc_model.specs.declared.row.Run.{Run}
use Rattle.pc_model.specs.declared.constraint.Constraint.{Constraint}
use Rattle.pc_model.specs.Accepted.{AreConstraints, frequency_limit}
use Rattle.pc_model.specs.Membership.{allows, in_domain, is_under}
use Rattle.pc_model.specs.Possible.{Meets, is_covered}
use Rattle.pc_model.specs.Right.{Question, ArePossible}
use Rattle.pc_model.specs.Runs.{rows_of, AreRuns}
use Rattle.pc_model.specs.WellFormed.{IsKind, IsColumn, IsWellFormed}
use Rattle.pc_model.proofs.Between.{between_parts}
use Rattle.pc_witness.specs.Checks.{rows_under}
use Rattle.pc_witness.proofs.Checks.{count-rows_of}
use Rattle.pc_witness.proofs.Repeats.{All-from_repeats}
use Rattle.pc_proof.specs.Form.{IsFormedCell, IsFormedCellOf, AreFormedRuns}
use Rattle.pc_proof.proofs.RowNumbers.{between_small}

-- ---- numbers

kind_formed : (kind : Kind) (n : ℤ) → IsKind kind → allows kind n ≡ true → IsFormedCell kind n
unfolding allows
kind_formed (Int low high) n is allowed = between_small low high n is (between_parts low high n allowed)
kind_formed (Dec scale low high) n is allowed = between_small low high n is.1 (between_parts low high n allowed)
kind_formed (Cat names) n is allowed = allowed

cells_formed : (columns : List Column) (cells : List ℤ) → All IsColumn columns → pointwise (λ (column : Column). allows column.kind) columns cells ≡ true → AllZip IsFormedCellOf columns cells
cells_formed [] [] are allowed = tt
cells_formed [] (n ∷ cells) are allowed = absurd (true≢false (sym allowed))
cells_formed (column ∷ columns) [] are allowed = absurd (true≢false (sym allowed))
cells_formed (column ∷ columns) (n ∷ cells) are allowed =
    let parts = and_parts (allows column.kind n) (pointwise (λ (column : Column). allows column.kind) columns cells) allowed in
    (kind_formed column.kind n (All-head IsColumn column columns are).kind parts.0, cells_formed columns cells (All-tail IsColumn column columns are) parts.1)

row_formed : (schema : Schema) (row : Row) → IsWellFormed schema → in_domain schema row ≡ true → AllZip IsFormedCellOf schema.columns row.cells
unfolding in_domain
row_formed schema row formed allowed = cells_formed schema.columns row.cells formed.columns.all allowed

-- ---- rows

from_rows_of : (P : Row → Type 0) (runs : List Run) → AreRuns runs → All P (rows_of runs) → All (λ (run : Run). P run.row) runs
unfolding rows_of
from_rows_of P runs stand each = All-from_repeats (λ (run : Run). run.times) (λ (run : Run). run.row) P runs stand each

-- a run has no more rows than a constraint allows that speaks of its row
run_few : (constraints : List Constraint) (c : Constraint) (runs : List Run) (place : ℕ) (d : Run) → place < length runs → is_under constraints c (get_or runs place d).row ≡ true → Meets constraints c (rows_of runs) → (get_or runs place d).times ≤ c.most
run_few constraints c runs place d inside under meets =
    let run = get_or runs place d in
    let own : cond (is_under constraints c run.row) run.times 0 ≤ rows_under constraints c runs = get_or-le-sum_by (λ (run : Run). cond (is_under constraints c run.row) run.times 0) runs place d inside in
    let times : cond (is_under constraints c run.row) run.times 0 ≡ run.times = ap (λ test. cond test run.times 0) under in
    let count = count-rows_of constraints c runs in
    let most = meets.not_more in
    omega (arith, own, times, count, most)

module _ (q : Question) (formed : IsWellFormed q.schema) (are : AreConstraints q.schema q.constraints) (runs : List Run) (possible : ArePossible q runs) where
  times_few : (place : ℕ) (d : Run) → place < length runs → (get_or runs place d).times ≤ frequency_limit
  times_few place d inside =
      let covered = from_rows_of (λ row. is_covered q.constraints row ≡ true) runs possible.each_stands possible.are_possible.covered place d inside in
      let found = Any-from_list_any (λ (c : Constraint). is_under q.constraints c (get_or runs place d).row) q.constraints covered in
      let meets = subst (λ (c : Constraint). Meets q.constraints c (rows_of runs)) found.3 (possible.are_possible.meets found.0 found.1 found.2) in
      let small = subst (λ (c : Constraint). c.most ≤ frequency_limit) found.3 (are.small found.0 found.1 found.2) in
      let few = run_few q.constraints found.1 runs place d inside found.4 meets in
      omega (arith, few, small)

  pub formed_runs : AreFormedRuns q.schema runs
  formed_runs place d inside =
      let allowed = from_rows_of (λ row. in_domain q.schema row ≡ true) runs possible.each_stands possible.are_possible.allowed place d inside in
      let few = times_few place d inside in
      record { times = omega (arith, few); cells = row_formed q.schema (get_or runs place d).row formed allowed }
