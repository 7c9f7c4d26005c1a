use Rattle.std.proofs.Common.{pos, neg_ℤ, refl}
use Rattle.pc_agg_search.specs.Problem.{setting_of}
use Rattle.pc_agg.proofs.Aiming.{even_program}
use Rattle.pc_agg.proofs.Totals.{open_totals}
use Rattle.pc_agg.proofs.settling.settle_open.Goals as goal

pub returns-then-are_open_totals-clause-settled : goal.returns-then-are_open_totals-clause-settled
returns-then-are_open_totals-clause-settled c =
    let program = even_program c.args.problem.now.schema.now c.args.problem.now.constraints.now c.args.problem.now.query.now c.args.problem.now.cells.now.tree.nodes c.requires.posed.limited in
    open_totals (setting_of c.args.problem.now) c.args.problem.now.nodes c.args.low.now c.args.high.now
    c.undecided.result (program (pos 1)) (program (neg_ℤ (pos 1))) c.requires.low c.requires.high (c.if-are_open_totals.ensures refl) c.undecided.ensures

pub returns-then-are_open_totals-clause-nested : goal.returns-then-are_open_totals-clause-nested
returns-then-are_open_totals-clause-nested c nested = absurd (c.requires.closed nested (c.if-are_open_totals.ensures refl).none_low)
