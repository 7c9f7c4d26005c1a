use Rattle.std.proofs.Common.{◌≡◌, map, take}
use Rattle.pc_desk_answers.specs.Values.{repeated_of}
use Rattle.pc_desk_answers.proofs.repeated.repeated_rows.Given as goal

abbrev pub invariant-loop-run : goal.invariant-loop-run
invariant-loop-run l = l.rows ≡ map (repeated_of l.schema) (take l.run-index l.runs)
