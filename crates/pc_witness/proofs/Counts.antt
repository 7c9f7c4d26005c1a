-- How many rows under a constraint are left, as far as a loop over the runs has come.
use Rattle.std.proofs.Common.{◌≡◌, ℕ, ◌+◌, ◌<◌, ◌≤◌, cond, List, length, get_or, drop, refl}
use Rattle.std.proofs.lemmas.List.{drop_all}
use Rattle.std.proofs.lemmas.List.Sums.{sum_by-drop_more}
use Rattle.pc_model.specs.declared.row.Run.{Run}
use Rattle.pc_model.specs.declared.constraint.Constraint.{Constraint}
use Rattle.pc_model.specs.Membership.{is_under}
use Rattle.pc_witness.specs.Checks.{rows_under}

-- the run at a place, and those after it
pub rows_under-drop : (constraints : List Constraint) (c : Constraint) (runs : List Run) (i : ℕ) (run : Run) → i < length runs → rows_under constraints c (drop i runs) ≡ cond (is_under constraints c (get_or runs i run).row) (get_or runs i run).times 0 + rows_under constraints c (drop (i + 1) runs)
rows_under-drop constraints c runs i run here = sum_by-drop_more (λ (run : Run). cond (is_under constraints c run.row) run.times 0) runs i run here

-- nothing is left
pub rows_under_end : (constraints : List Constraint) (c : Constraint) (runs : List Run) (i : ℕ) → length runs ≤ i → rows_under constraints c (drop i runs) ≡ 0
rows_under_end constraints c runs i past = rw (drop_all i runs past) refl

pub ruleset steps = (rows_under-drop, rows_under_end)
