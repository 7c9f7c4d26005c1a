use Rattle.std.proofs.Common.{◌≡◌, map, take}
use Rattle.pc_model.specs.declared.constraint.Constraint.{Constraint}
use Rattle.pc_model.specs.Possible.{count_of}
use Rattle.pc_model.specs.Runs.{rows_of}
use Rattle.pc_desk_parts.proofs.lost.counts_of.Given as goal

abbrev pub invariant-loop-constraint : goal.invariant-loop-constraint
invariant-loop-constraint l = l.counts.items ≡ map (λ (c : Constraint). count_of l.constraints c (rows_of l.runs)) (take l.constraint-index l.constraints)
