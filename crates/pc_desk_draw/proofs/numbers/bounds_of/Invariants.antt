use Rattle.std.proofs.Common.{◌≡◌, drop}
use Rattle.pc_desk_draw.specs.Numbers.{bounds_of, hull}
use Rattle.pc_desk_draw.proofs.numbers.bounds_of.Given as goal

-- what is left decides
abbrev pub invariant-loop-entry : goal.invariant-loop-entry
invariant-loop-entry l = hull l.bounds (bounds_of (drop l.entry-index l.entries)) ≡ bounds_of l.entries
