use Rattle.std.proofs.Common.{◌≡◌, map, take}
use Rattle.pc_desk_try.specs.Trials.{tried_by}
use Rattle.pc_desk_try.proofs.tried.tried_each.Given as goal

abbrev pub invariant-loop-constraint : goal.invariant-loop-constraint
invariant-loop-constraint l = l.each ≡ map (tried_by l.scale l.constraints l.rows) (take l.constraint-index l.constraints)
