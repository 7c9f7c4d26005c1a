use Rattle.std.proofs.Common.{◌≡◌, filter}
use Rattle.pc_group.specs.Wanted.{is_allowed, places_below}
use Rattle.pc_group.proofs.wanted.allowed_names.Given as goal

abbrev pub invariant-loop-place : goal.invariant-loop-place
invariant-loop-place l = l.names ≡ filter (is_allowed l.query.chosen l.column) (places_below l.place)
