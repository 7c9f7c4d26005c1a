use Rattle.std.proofs.Common.{◌≡◌, ◌≤◌, ◌-◌, ◌++◌}
use Rattle.std.specs.List.{range_with_len}
use Rattle.pc_conflict.proofs.places.with_places_from.Given as goal

abbrev pub invariant-loop-later : goal.invariant-loop-later
invariant-loop-later l = (l.place ≤ l.later) × (l.later ≤ l.count) × (l.more ≡ l.fn.places ++ range_with_len l.place (l.later - l.place))
