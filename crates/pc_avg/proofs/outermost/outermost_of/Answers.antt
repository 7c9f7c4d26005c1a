use Rattle.pc_avg.specs.Sides.{observed_key}
use Rattle.pc_avg.proofs.GreatestKeys.{outermost_is}
use Rattle.pc_avg.proofs.outermost.outermost_of.Goals as goal

pub returns : goal.returns
returns c =
    outermost_is c.args.problem.now.schema.now c.args.problem.now.constraints.now c.args.problem.now.query.now c.args.problem.now.cells.now.tree.nodes c.args.problem.now.cells.now.cells c.requires.posed.found.listed c.args.extreme c.args.keys.now c.requires.keyed c.requires.small
    (observed_key c.args.seen.now c.args.extreme) c.greatest_key.result (rw c.observed_key.ensures.key at c.observed_key.ensures.small) (rw (c.as_slice.ensures, c.observed_key.ensures.key) at c.greatest_key.ensures)
