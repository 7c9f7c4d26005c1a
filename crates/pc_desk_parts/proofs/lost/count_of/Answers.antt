use Rattle.std.proofs.Common.{◌∙◌, sym, ap, arith}
use Rattle.pc_model.specs.declared.row.Run.{Run}
use Rattle.pc_model.specs.Membership.{is_under}
use Rattle.pc_desk_parts.proofs.Runs.{times_all, times_within}
use Rattle.pc_desk_parts.proofs.lost.count_of.Goals as goal

pub overflow_add-count : goal.overflow_add-count
overflow_add-count c =
    let constraint = c.args.constraint.now in
    let under = ap (λ (run : Run). is_under c.args.constraints.now constraint run.row) c.run-item.is in
    let within = times_within (is_under c.args.constraints.now constraint) c.args.runs.now c.loop-run.run-index c.run-item.result c.loop-run-test.true (sym under ∙ sym c.speaks_of.ensures ∙ c.if-speaks_of.true) in
    omega (arith, within, c.requires, c.loop-run.invariant, ap (λ (run : Run). run.times) c.run-item.is)

pub returns : goal.returns
returns c = c.loop-run.invariant ∙ times_all (is_under c.args.constraints.now c.args.constraint.now) c.args.runs.now c.loop-run.run-index (omega (arith, c.loop-run-test.false))
