use Rattle.std.proofs.Common.{◌≡◌}
use Rattle.pc_desk_draw.specs.Bars.{label_end, labelled}
use Rattle.pc_desk_draw.proofs.scale.labelled.Given as goal

abbrev pub invariant-loop-tick : goal.invariant-loop-tick
invariant-loop-tick l = record {
  line : l.line.items ≡ labelled l.axis l.tick;
  end : l.end ≡ label_end l.axis l.tick;
}
