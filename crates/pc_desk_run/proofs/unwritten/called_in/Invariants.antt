use Rattle.std.proofs.Common.{◌≡◌, map, take}
use Rattle.pc_desk_run.specs.Texts.{called_as}
use Rattle.pc_desk_run.proofs.unwritten.called_in.Given as goal

abbrev pub invariant-loop-constraint : goal.invariant-loop-constraint
invariant-loop-constraint l = l.names ≡ map called_as (take l.constraint-index l.constraints)
