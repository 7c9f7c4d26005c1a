use Rattle.std.proofs.Common.{◌≡◌, filter, map, take}
use Rattle.pc_model.specs.declared.row.Run.{Run}
use Rattle.pc_desk_parts.specs.Ends.{is_told}
use Rattle.pc_desk_parts.specs.Lost.{lost_part}
use Rattle.pc_desk_parts.proofs.lost.lost_parts.Given as goal

abbrev pub invariant-loop-run : goal.invariant-loop-run
invariant-loop-run l = l.parts.items ≡ map (lost_part l.ask l.reached) (filter (λ (run : Run). is_told l.ask l.reached run.row) (take l.run-index l.reached.runs.now))
