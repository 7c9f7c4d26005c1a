use Rattle.std.proofs.Common.{◌≡◌}
use Rattle.pc_desk_draw.specs.Bars.{label_end}
use Rattle.pc_desk_draw.specs.Shapes.{ticks_elements}
use Rattle.pc_desk_draw.proofs.grid.ticks_elements.Given as goal

abbrev pub invariant-loop-tick : goal.invariant-loop-tick
invariant-loop-tick l = record {
  text : l.text.items ≡ ticks_elements l.axis l.top l.left l.height l.tick;
  end : l.end ≡ label_end l.axis l.tick;
}
