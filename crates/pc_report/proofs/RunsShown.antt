-- The runs of a possible list are read back from their lines.
use Rattle.std.proofs.Common.{◌≡◌, ℕ, zero, suc, ◌≤◌, ◌<◌, ◌^◌, ℤ, true, true≢false, List, [], ◌∷◌, ◌++◌, length, replicate, All, sym, arith}
use Rattle.std.specs.Cmp.Lexicographic.{pointwise}
use Rattle.std.specs.List.{AllPass, AllZip, flat_map}
use Rattle.std.proofs.lemmas.Bool.{and_parts}
use Rattle.std.proofs.lemmas.Int.{ints}
use Rattle.std.proofs.lemmas.List.{length-append, length-replicate}
use Rattle.std.proofs.lemmas.List.Elements.{All-nil, All-cons, All-head, All-tail}
use Rattle.pc_model.specs.declared.schema.Kind.{Kind}
use Rattle.pc_model.specs.declared.schema.Kind.TheVariants.{Int, Dec, Cat}
use Rattle.pc_model.specs.declared.schema.Column.{Column}
use Rattle.pc_model.specs.declared.schema.Schema.{Schema}
use Rattle.pc_model.specs.declared.row.Row.{Row}
use Rattle.pc_model.specs.declared.row.Run.{Run}
use Rattle.pc_model.specs.declared.constraint.Constraint.{Constraint}
use Rattle.pc_model.specs.Accepted.{constraint_limit, frequency_limit}
use Rattle.pc_model.specs.Membership.{allows, in_domain}
use Rattle.pc_model.specs.Possible.{IsPossible}
use Rattle.pc_model.specs.Runs.{AreRuns, rows_of}
use Rattle.pc_model.specs.WellFormed.{IsColumn, IsKind, IsWellFormed}
use Rattle.pc_model.proofs.Between.{between_parts}
use Rattle.pc_proof.proofs.FewRows.{possible_few}
use Rattle.pc_proof.proofs.RowNumbers.{between_small}
use Rattle.pc_report.specs.Shown.{AreShownRuns, IsCell, IsCellOf, IsShownRun}

-- ---- cells

shown_cell : (kind : Kind) (cell : ℤ) → IsKind kind → allows kind cell ≡ true → IsCell kind cell
unfolding allows
shown_cell (Int low high) cell is allowed = let small = between_small low high cell is (between_parts low high cell allowed) in omega (arith, ints, small)
shown_cell (Dec scale low high) cell is allowed = let small = between_small low high cell is.1 (between_parts low high cell allowed) in omega (arith, ints, small)
shown_cell (Cat names) cell is allowed = allowed

shown_cells : (columns : List Column) (cells : List ℤ) → All IsColumn columns → pointwise (λ (column : Column). allows column.kind) columns cells ≡ true → AllZip IsCellOf columns cells
shown_cells [] [] are allowed = tt
shown_cells [] (cell ∷ cells) are allowed = absurd (true≢false (sym allowed))
shown_cells (column ∷ columns) [] are allowed = absurd (true≢false (sym allowed))
shown_cells (column ∷ columns) (cell ∷ cells) are allowed =
    let parts = and_parts (allows column.kind cell) (pointwise (λ (column : Column). allows column.kind) columns cells) allowed in
    (shown_cell column.kind cell (All-head IsColumn column columns are).kind parts.0, shown_cells columns cells (All-tail IsColumn column columns are) parts.1)

shown_row : (schema : Schema) (row : Row) → IsWellFormed schema → in_domain schema row ≡ true → AllZip IsCellOf schema.columns row.cells
unfolding in_domain
shown_row schema row formed allowed = shown_cells schema.columns row.cells formed.columns.all allowed

-- ---- runs

-- what holds of the rows of a run and of those after it holds of the run's row, and of those after it
run_and_rest : (P : Row → Type 0) (times : ℕ) (row : Row) (rows : List Row) → 1 ≤ times → All P (replicate times row ++ rows) → P row × All P rows
run_and_rest P zero row rows stands each = absurd (omega arith)
run_and_rest P (suc zero) row rows stands each = (All-head P row rows each, All-tail P row rows each)
run_and_rest P (suc (suc times)) row rows stands each =
    run_and_rest P (suc times) row rows (omega arith) (All-tail P row (replicate (suc times) row ++ rows) each)

each_shown : (schema : Schema) (runs : List Run) → IsWellFormed schema → AreRuns runs → AllPass (in_domain schema) (rows_of runs) → length (rows_of runs) < 2 ^ 64 → AreShownRuns schema runs
unfolding rows_of
each_shown schema [] formed stand allowed few = All-nil (IsShownRun schema)
each_shown schema (run ∷ runs) formed stand allowed few =
    let rest : List Row = flat_map (λ (other : Run). replicate other.times other.row) runs in
    let parts = run_and_rest (λ row. in_domain schema row ≡ true) run.times run.row rest (All-head (λ (other : Run). 1 ≤ other.times) run runs stand) allowed in
    let whole = length-append (replicate run.times run.row) rest in
    let first = length-replicate run.times run.row in
    All-cons (IsShownRun schema) run runs
    (record { few = omega (arith, few, whole, first); cells = shown_row schema run.row formed parts.0 })
    (each_shown schema runs formed (All-tail (λ (other : Run). 1 ≤ other.times) run runs stand) parts.1 (omega (arith, few, whole, first)))

pub possible_runs_are_shown : (schema : Schema) (constraints : List Constraint) (runs : List Run) → IsWellFormed schema → length constraints ≤ constraint_limit → All (λ (c : Constraint). c.most ≤ frequency_limit) constraints
    → AreRuns runs → IsPossible schema constraints (rows_of runs) → AreShownRuns schema runs
possible_runs_are_shown schema constraints runs formed few small stand possible =
    let rows = possible_few schema constraints (rows_of runs) frequency_limit few small possible in
    each_shown schema runs formed stand possible.allowed (omega (arith, rows))
