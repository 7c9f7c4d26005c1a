use Rattle.std.proofs.Common.{◌≡◌, take}
use Rattle.pc_desk_past.specs.Past.{columns_of}
use Rattle.pc_desk_past.proofs.past.columns_of.Given as goal

abbrev pub invariant-loop-division : goal.invariant-loop-division
invariant-loop-division l = l.columns ≡ columns_of (take l.division-index l.divisions)
