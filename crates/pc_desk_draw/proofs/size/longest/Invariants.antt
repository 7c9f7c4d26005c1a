use Rattle.std.proofs.Common.{◌≡◌, drop, max}
use Rattle.pc_desk_draw.specs.Sizes.{longest}
use Rattle.pc_desk_draw.proofs.size.longest.Given as goal

-- what is left decides
abbrev pub invariant-loop-entry : goal.invariant-loop-entry
invariant-loop-entry l = max l.columns (longest (drop l.entry-index l.entries)) ≡ longest l.entries
