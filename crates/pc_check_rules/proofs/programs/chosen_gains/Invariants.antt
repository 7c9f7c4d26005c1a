use Rattle.std.proofs.Common.{◌≡◌, ◌++◌, map, drop}
use Rattle.pc_check_rules.specs.Programs.{chosen_gain}
use Rattle.pc_check_rules.proofs.programs.chosen_gains.Given as goal

abbrev pub invariant-loop-cell : goal.invariant-loop-cell
invariant-loop-cell l = l.gains ++ map (chosen_gain l.fn.gain) (drop l.cell-index l.fn.cells) ≡ map (chosen_gain l.fn.gain) l.fn.cells
