use Rattle.std.proofs.Common.{◌≡◌, ◌++◌, map, drop}
use Rattle.pc_proof.specs.Table.{ratio_of}
use Rattle.pc_check_rules.specs.Programs.{gain_towards}
use Rattle.pc_check_rules.proofs.programs.gains_towards.Given as goal

abbrev pub invariant-loop-cell : goal.invariant-loop-cell
invariant-loop-cell l =
    l.gains ++ map (gain_towards l.fn.extreme l.fn.scene.agg (ratio_of l.fn.value)) (drop l.cell-index l.fn.scene.cells.now)
    ≡ map (gain_towards l.fn.extreme l.fn.scene.agg (ratio_of l.fn.value)) l.fn.scene.cells.now
