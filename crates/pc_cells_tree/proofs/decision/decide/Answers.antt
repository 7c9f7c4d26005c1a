use Rattle.pc_cells_tree.proofs.Decisions.{crossed-alike, crossed-open, crossed-needed}
use Rattle.pc_cells_tree.proofs.decision.decide.Goals as goal

pub cut_through-at-requires-clause-alike : goal.cut_through-at-requires-clause-alike
cut_through-at-requires-clause-alike c =
    crossed-alike c.args.part.now c.args.constraints.now c.args.chosen.now c.requires.comparable c.find-finding.result.finding c.find-finding.ensures.finding c.in-Crossed.crossing c.crossed_region-region.result.now c.in-Crossed.is c.crossed_region-region.ensures

pub cut_through-at-requires-clause-not_inside : goal.cut_through-at-requires-clause-not_inside
cut_through-at-requires-clause-not_inside c =
    crossed-open c.args.part.now c.args.constraints.now c.args.chosen.now c.requires.comparable c.find-finding.result.finding c.find-finding.ensures.finding c.in-Crossed.crossing c.crossed_region-region.result.now c.in-Crossed.is c.crossed_region-region.ensures

pub returns-in-Crossed : goal.returns-in-Crossed
returns-in-Crossed c = (
  crossed-needed c.args.part.now c.args.constraints.now c.args.chosen.now c.requires.comparable c.find-finding.result.finding c.find-finding.ensures.finding c.in-Crossed.crossing c.crossed_region-region.result.now c.cut_through-at.result c.in-Crossed.is
      c.crossed_region-region.ensures c.cut_through-at.ensures.along,
  c.find-finding.ensures.known,
)
