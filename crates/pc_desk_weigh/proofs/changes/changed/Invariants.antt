use Rattle.std.proofs.Common.{◌≡◌, take}
use Rattle.pc_desk_weigh.specs.Changes.{changed}
use Rattle.pc_desk_weigh.proofs.changes.changed.Given as goal

abbrev pub invariant-loop-place : goal.invariant-loop-place
invariant-loop-place l = l.all ≡ changed l.fn.schema (take l.place l.fn.constraints) l.fn.change
