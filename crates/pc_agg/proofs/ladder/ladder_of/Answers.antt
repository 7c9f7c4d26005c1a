use Rattle.std.proofs.Common.{subst}
use Rattle.pc_agg.specs.Falling.{IsFallingOf}
use Rattle.pc_agg.proofs.Ladders.{ladder_rungs}
use Rattle.pc_agg.proofs.ladder.ladder_of.Goals as goal

pub returns-clause-rungs : goal.returns-clause-rungs
returns-clause-rungs c =
    let falling = subst (λ numbers. IsFallingOf numbers c.in_ok-rungs.rungs) c.into_vec.ensures c.in_ok-rungs.ensures in
    ladder_rungs c.args.problem.now.schema.now c.args.problem.now.constraints.now c.args.problem.now.query.now c.args.problem.now.cells.now.tree.nodes c.args.problem.now.cells.now.cells c.requires.posed.found.listed c.args.extreme c.args.keys c.requires.keyed
    c.args.test c.args.seen c.in_ok-kept.kept (rw (c.as_slice.ensures, c.as_slice-2.ensures) at c.in_ok-kept.ensures) c.in_ok-numbers.numbers c.in_ok-rungs.rungs c.in_ok-numbers.ensures falling
