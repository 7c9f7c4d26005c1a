use Rattle.std.proofs.Common.{◌≡◌}
use Rattle.pc_desk_draw.specs.Bars.{ruled}
use Rattle.pc_desk_draw.proofs.scale.ruled.Given as goal

abbrev pub invariant-loop-tick : goal.invariant-loop-tick
invariant-loop-tick l = l.line.items ≡ ruled l.axis l.tick
