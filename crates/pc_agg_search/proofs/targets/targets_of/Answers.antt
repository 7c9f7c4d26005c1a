use Rattle.std.proofs.Common.{◌≡◌, ◌<◌, length, sym, to_z, of_z, arith}
use Rattle.std.specs.Int.{w128}
use Rattle.std.proofs.lemmas.Int.{ints}
use Rattle.pc_agg_search.proofs.CellTargets.{more_targets, numbers_at}
use Rattle.pc_agg_search.proofs.targets.targets_of.Goals as goal

pub target_of-requires-clause-numbers : goal.target_of-requires-clause-numbers
target_of-requires-clause-numbers c =
    let inside : c.loop-cell.cell < length c.args.cells.now.cells = rw (sym c.len-cell-end.ensures) c.loop-cell-test.true in
    numbers_at c.args.column c.args.cells.now.cells c.loop-cell.cell inside c.requires.numbers

pub loop-cell-preserved : goal.loop-cell-preserved
loop-cell-preserved c =
    let target = c.in_ok-target.target in
    let cells = c.args.cells.now.cells in
    let same : to_z w128 (of_z w128 target.gain) ≡ target.gain = omega (arith, ints) in
    let inside : c.loop-cell.cell < length cells = rw (sym c.len-cell-end.ensures) c.loop-cell-test.true in
    rw (c.in_ok-push.ensures.items, c.in_ok-push-2.ensures.items, same)
    (more_targets c.args.column c.args.extreme cells c.loop-cell.cell c.loop-cell.gains.items target.gain c.loop-cell.picks.items target.pick inside c.loop-cell.invariant c.in_ok-target.ensures)
