use Rattle.std.proofs.Common.{◌≡◌, map, take}
use Rattle.pc_desk_divide.specs.Cells.{parting_of}
use Rattle.pc_desk_divide.proofs.cells.partings_of.Given as goal

abbrev pub invariant-loop-division : goal.invariant-loop-division
invariant-loop-division l = l.partings ≡ map (parting_of l.boxes) (take l.division-index l.divisions)
