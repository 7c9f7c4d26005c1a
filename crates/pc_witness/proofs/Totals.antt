-- How many rows the runs stand for, as far as a loop over them has come.
use Rattle.std.proofs.Common.{◌≡◌, ℕ, ◌+◌, ◌<◌, ◌≤◌, List, length, get_or, drop, refl}
use Rattle.std.specs.List.{sum_by}
use Rattle.std.proofs.lemmas.List.{drop_all}
use Rattle.std.proofs.lemmas.List.Sums.{sum_by-drop_more}
use Rattle.pc_model.specs.declared.row.Run.{Run}

-- the run at a place, and those after it
pub total-drop : (runs : List Run) (i : ℕ) (run : Run) → i < length runs → sum_by (λ (run : Run). run.times) (drop i runs) ≡ (get_or runs i run).times + sum_by (λ (run : Run). run.times) (drop (i + 1) runs)
total-drop runs i run here = sum_by-drop_more (λ (run : Run). run.times) runs i run here

-- nothing is left
pub total_end : (runs : List Run) (i : ℕ) → length runs ≤ i → sum_by (λ (run : Run). run.times) (drop i runs) ≡ 0
total_end runs i past = rw (drop_all i runs past) refl

pub ruleset steps = (total-drop, total_end)
