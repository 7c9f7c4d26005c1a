use Rattle.std.proofs.Common.{◌≡◌, ◌≤◌, ◌^◌}
use Rattle.pc_desk_draw.specs.Bars.{label_end}
use Rattle.pc_desk_draw.proofs.size.label_end.Given as goal

abbrev pub invariant-loop-tick : goal.invariant-loop-tick
invariant-loop-tick l = record {
  end : l.end ≡ label_end l.axis l.tick;
  small : l.end ≤ 2 ^ 69;
}
