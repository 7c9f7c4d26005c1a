use Rattle.std.proofs.Common.{◌≡◌, ◌-◌, ◌++◌}
use Rattle.pc_gen.specs.Generated.{drawn_constraints}
use Rattle.pc_gen.proofs.constraint.draw_constraints.Given as goal

abbrev pub invariant-loop-number : goal.invariant-loop-number
invariant-loop-number l = l.constraints ++ drawn_constraints l.hidden (8 - l.number) l.number l.draws.state ≡ drawn_constraints l.hidden 8 0 l.fn.draws.state
