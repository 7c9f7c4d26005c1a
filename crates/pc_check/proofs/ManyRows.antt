-- The runs of a possible list can be folded, since possible rows are few.
use Rattle.std.proofs.Common.{◌≡◌, ℕ, ◌*◌, ◌≤◌, ◌^◌, List, [], ◌∷◌, length, replicate, refl, arith}
use Rattle.std.specs.List.{sum_by, flat_map}
use Rattle.std.proofs.lemmas.List.{length-append, length-replicate}
use Rattle.std.proofs.lemmas.List.Sums.{sum_by-cons}
use Rattle.pc_model.specs.declared.schema.Schema.{Schema}
use Rattle.pc_model.specs.declared.row.Row.{Row}
use Rattle.pc_model.specs.declared.row.Run.{Run}
use Rattle.pc_model.specs.declared.constraint.Constraint.{Constraint}
use Rattle.pc_model.specs.Possible.{IsPossible}
use Rattle.pc_model.specs.Runs.{rows_of}
use Rattle.pc_proof.proofs.FewRows as few
use Rattle.pc_check_rules.specs.Scene.{AreLimited}

pub possible_few : (schema : Schema) (constraints : List Constraint) (rows : List Row) → AreLimited constraints → IsPossible schema constraints rows → length rows ≤ 20 * 1_000_000_000
possible_few schema constraints rows limited possible = few.possible_few schema constraints rows 1_000_000_000 limited.few limited.small possible

-- ---- rows of runs

pub rows_many : (runs : List Run) → length (rows_of runs) ≡ sum_by (λ (run : Run). run.times) runs
unfolding rows_of
rows_many [] = refl
rows_many (run ∷ runs) =
    let later = rows_many runs in
    omega (arith, length-append (replicate run.times run.row) (flat_map (λ (other : Run). replicate other.times other.row) runs), length-replicate run.times run.row, sum_by-cons (λ (other : Run). other.times) run runs, later)

-- so the runs of a possible list can be folded
pub runs_few : (schema : Schema) (constraints : List Constraint) (runs : List Run) → AreLimited constraints → IsPossible schema constraints (rows_of runs) → sum_by (λ (run : Run). run.times) runs ≤ 2 ^ 36
runs_few schema constraints runs limited possible = let few = possible_few schema constraints (rows_of runs) limited possible in omega (arith, few, rows_many runs)
