use Rattle.std.proofs.Common.{◌≡◌, take}
use Rattle.pc_desk_weigh.specs.Changes.{changes_of}
use Rattle.pc_desk_weigh.proofs.changes.changes_of.Given as goal

abbrev pub invariant-loop-place : goal.invariant-loop-place
invariant-loop-place l = l.changes ≡ changes_of l.fn.schema (take l.place l.fn.constraints) l.fn.asked
