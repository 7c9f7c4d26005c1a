use Rattle.std.proofs.Common.{◌≡◌, drop, max}
use Rattle.pc_desk_draw.specs.Names.{widest}
use Rattle.pc_desk_draw.proofs.names.widest.Given as goal

-- what is left decides
abbrev pub invariant-loop-entry : goal.invariant-loop-entry
invariant-loop-entry l = max l.width (widest (drop l.entry-index l.entries)) ≡ widest l.entries
