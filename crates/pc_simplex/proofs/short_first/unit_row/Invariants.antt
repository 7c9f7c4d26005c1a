use Rattle.std.proofs.Common.{◌≡◌, ◌==◌, pos, cond}
use Rattle.pc_simplex_tableau.specs.Numbers.{table}
use Rattle.pc_simplex.proofs.short_first.unit_row.Given as goal

abbrev pub invariant-loop-place : goal.invariant-loop-place
invariant-loop-place l = l.numbers.items ≡ table l.place (λ k. cond (k == l.constraint) (pos 1) (pos 0))
