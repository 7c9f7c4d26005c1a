use Rattle.std.proofs.Common.{◌≡◌, pos}
use Rattle.pc_simplex_tableau.specs.Numbers.{table}
use Rattle.pc_simplex.proofs.short_first.no_aim.Given as goal

abbrev pub invariant-loop-place : goal.invariant-loop-place
invariant-loop-place l = l.aim.items ≡ table l._place (λ j. pos 0)
