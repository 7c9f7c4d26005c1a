use Rattle.std.proofs.Common.{◌≡◌, ◌++◌, map, take}
use Rattle.pc_group.specs.Wanted.{area_of, wanted_of}
use Rattle.pc_group.proofs.wanted.with_names.Given as goal

abbrev pub invariant-loop-name : goal.invariant-loop-name
invariant-loop-name l = l.more ≡ l.fn.areas ++ map area_of (map (wanted_of l.query) (take l.name-index l.names))
