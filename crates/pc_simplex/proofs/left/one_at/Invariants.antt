use Rattle.std.proofs.Common.{◌≡◌, ◌==◌, pos, cond}
use Rattle.pc_simplex_tableau.specs.Numbers.{table}
use Rattle.pc_simplex.proofs.left.one_at.Given as goal

abbrev pub invariant-loop-place : goal.invariant-loop-place
invariant-loop-place l = l.by ≡ table l.place (λ k. cond (k == l.constraint) (pos 1) (pos 0))
