use Rattle.std.proofs.Common.{◌≡◌, take}
use Rattle.pc_conflict.specs.Core.{other_than}
use Rattle.pc_conflict.proofs.places.others.Given as goal

abbrev pub invariant-loop-other : goal.invariant-loop-other
invariant-loop-other l = l.others ≡ other_than l.member (take l.other-index l.members)
