use Rattle.std.proofs.Common.{◌≡◌, take}
use Rattle.pc_conflict.specs.Deleting.{lower_than}
use Rattle.pc_conflict.proofs.places.lower_than.Given as goal

abbrev pub invariant-loop-member : goal.invariant-loop-member
invariant-loop-member l = l.lower ≡ lower_than l.place (take l.member-index l.members)
