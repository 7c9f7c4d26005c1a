use Rattle.std.proofs.Common.{◌≡◌, ◌++◌, take}
use Rattle.pc_desk_parts.specs.Held.{of_each}
use Rattle.pc_desk_parts.specs.Steps.{step_block}
use Rattle.pc_desk_parts.proofs.holds.with_each_block.Given as goal

abbrev pub invariant-loop-place : goal.invariant-loop-place
invariant-loop-place l = l.held ≡ l.fn.held ++ of_each (step_block l.step) (take l.place l.step.constraints.now)
