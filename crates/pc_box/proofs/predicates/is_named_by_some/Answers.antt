use Rattle.std.proofs.Common.{◌∙◌, sym}
use Rattle.std.proofs.lemmas.Bool.{false≢true}
use Rattle.pc_model.specs.declared.constraint.Constraint.{Constraint}
use Rattle.pc_model.specs.Cells.{IsInsideNamed}
use Rattle.pc_box.proofs.Loops.{none-further, none-at_all}
use Rattle.pc_box.proofs.predicates.is_named_by_some.Goals as goal

pub loop-constraint-preserved : goal.loop-constraint-preserved
loop-constraint-preserved c =
    none-further (λ (d : Constraint). IsInsideNamed c.args.part.now d.when) c.args.constraints.now c.loop-constraint.constraint-index c.constraint-item.result c.loop-constraint-test.true c.constraint-item.is
    c.loop-constraint.invariant (λ found. false≢true (sym c.if-is_inside_named.false ∙ c.is_inside_named.ensures.1 found))

pub returns : goal.returns
returns c = (
  λ e. absurd (false≢true e),
  none-at_all (λ (d : Constraint). IsInsideNamed c.args.part.now d.when) c.args.constraints.now c.loop-constraint.constraint-index c.loop-constraint-test.false c.loop-constraint.invariant,
)
