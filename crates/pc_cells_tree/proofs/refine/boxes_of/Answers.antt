use Rattle.std.proofs.Common.{◌≡◌, length, subst, arith}
use Rattle.pc_model.specs.Regions.{whole_region}
use Rattle.pc_cells_tree.specs.Refining.{AreBoxesBelow}
use Rattle.pc_cells_tree.proofs.TreeBoxes.{root_found, more_found, is_cuttable, all_found, whole_filled}
use Rattle.pc_cells_tree.proofs.refine.boxes_of.Goals as goal

pub loop-place-init : goal.loop-place-init
loop-place-init c = root_found (whole_region c.args.schema.now) c.args.nodes.now c.in_ok-boxes.boxes c.in_ok-boxes.ensures.long c.in_ok-boxes.ensures.root

pub with_parts-requires-clause-cuttable : goal.with_parts-requires-clause-cuttable
with_parts-requires-clause-cuttable c =
    is_cuttable (whole_region c.args.schema.now) c.args.nodes.now c.loop-place.place c.loop-place.boxes c.loop-place.invariant c.loop-place-test.true c.requires.tree.0 c.requires.tree.1
    (whole_filled c.args.schema.now c.requires.well_formed) _

pub loop-place-preserved : goal.loop-place-preserved
loop-place-preserved c =
    more_found (whole_region c.args.schema.now) c.args.nodes.now c.loop-place.place c.loop-place.boxes c.loop-place.invariant c.loop-place-test.true c.in_ok-boxes-2.boxes _ c.in_ok-boxes-2.ensures

pub returns : goal.returns
returns c =
    let end : c.loop-place.place ≡ length c.args.nodes.now = omega (arith, c.loop-place-test.false, c.loop-place.auto.place-end) in
    all_found (whole_region c.args.schema.now) c.args.nodes.now c.loop-place.boxes c.requires.tree.0
    (subst (λ place. AreBoxesBelow (whole_region c.args.schema.now) c.args.nodes.now place c.loop-place.boxes) end c.loop-place.invariant) c.requires.tree.1
