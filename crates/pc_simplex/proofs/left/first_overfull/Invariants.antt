use Rattle.std.proofs.Common.{◌≡◌, None}
use Rattle.pc_simplex_tableau.specs.Numbers.{first_below}
use Rattle.pc_simplex.specs.Floors.{is_overfull}
use Rattle.pc_simplex.proofs.left.first_overfull.Given as goal

abbrev pub invariant-loop-constraint : goal.invariant-loop-constraint
invariant-loop-constraint l = first_below l.constraint (is_overfull l.p l.floor) ≡ None
