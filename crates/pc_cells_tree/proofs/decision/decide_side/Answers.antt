use Rattle.std.proofs.Common.{subst}
use Rattle.pc_model.specs.declared.region.Region.{Region}
use Rattle.pc_cells_tree.specs.Stances.{IsAlong}
use Rattle.pc_cells_tree.proofs.Decisions.{chosen-needed}
use Rattle.pc_cells_tree.proofs.decision.decide_side.Goals as goal

pub returns-in-Across : goal.returns-in-Across
returns-in-Across c = (
  chosen-needed c.args.part.now c.args.constraints.now c.args.chosen.now c.requires.comparable c.compare_area.result c.in-Across.place c.in-Across.faces c.compare_area.ensures c.in-Across.is
      c.as_slice.result.now c.index-as_slice-place.result c.as_slice.ensures c.args.mask c.cut_through-at.result c.requires.some c.requires.masked
      (subst (λ (region : Region). IsAlong c.args.part.now region c.cut_through-at.result) c.index-as_slice-place.is c.cut_through-at.ensures.along),
  c.requires.known,
)
