use Rattle.std.proofs.Common.{◌≡◌, [], ◌++◌, drop}
use Rattle.pc_box.specs.Sides.{rest_after}
use Rattle.pc_desk_limit.proofs.rest.with_rest_after.Given as goal

abbrev pub invariant-loop-place : goal.invariant-loop-place
invariant-loop-place l = l.boxes ++ rest_after l.front.items (drop l.place l.sides) (drop l.place l.others) ≡ l.fn.boxes ++ rest_after [] l.sides l.others
