use Rattle.std.proofs.Common.{◌∙◌, sym}
use Rattle.std.proofs.lemmas.Bool.{false≢true}
use Rattle.pc_model.specs.Cells.{IsRuledOut}
use Rattle.pc_box.proofs.Loops.{none-further, none-at_all}
use Rattle.pc_check_rules.proofs.settled.is_ruled_out_by_any.Goals as goal

pub loop-constraint-preserved : goal.loop-constraint-preserved
loop-constraint-preserved c =
    none-further (IsRuledOut c.args.constraints.now c.args.part.now) c.args.constraints.now c.loop-constraint.constraint-index c.constraint-item.result c.loop-constraint-test.true c.constraint-item.is
    c.loop-constraint.invariant (λ ruled. false≢true (sym c.if-is_ruled_out.false ∙ c.is_ruled_out.ensures.1 ruled))

pub returns : goal.returns
returns c = (λ e. absurd (false≢true e), none-at_all (IsRuledOut c.args.constraints.now c.args.part.now) c.args.constraints.now c.loop-constraint.constraint-index c.loop-constraint-test.false c.loop-constraint.invariant)
