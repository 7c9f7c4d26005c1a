use Rattle.std.proofs.Common.{◌∙◌, sym}
use Rattle.std.proofs.lemmas.Bool.{false≢true}
use Rattle.pc_model.specs.declared.region.Region.{Region}
use Rattle.pc_model.specs.CutTrees.{IsInside}
use Rattle.pc_box.proofs.Loops.{none-further, none-at_all}
use Rattle.pc_box.proofs.areas.inside_some.Goals as goal

pub loop-region-preserved : goal.loop-region-preserved
loop-region-preserved c =
    none-further (λ (box : Region). IsInside c.args.part.now box) c.args.boxes.now c.loop-region.region-index c.region-item.result c.loop-region-test.true c.region-item.is
    c.loop-region.invariant (λ found. false≢true (sym c.if-inside.false ∙ c.inside.ensures.1 found))

pub returns : goal.returns
returns c = (
  λ e. absurd (false≢true e),
  none-at_all (λ (box : Region). IsInside c.args.part.now box) c.args.boxes.now c.loop-region.region-index c.loop-region-test.false c.loop-region.invariant,
)
