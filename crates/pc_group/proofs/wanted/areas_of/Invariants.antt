use Rattle.std.proofs.Common.{◌≡◌, map, take}
use Rattle.pc_group.specs.Wanted.{area_of, wanted}
use Rattle.pc_group.proofs.wanted.areas_of.Given as goal

abbrev pub invariant-loop-query : goal.invariant-loop-query
invariant-loop-query l = l.areas ≡ map area_of (wanted l.schema (take l.query-index l.queries))
