use Rattle.std.proofs.Common.{ap, ◌∙◌}
use Rattle.pc_quantile.specs.Answered.{always_as, told_relation}
use Rattle.pc_agg.proofs.Filling.{rows_of_cells}
use Rattle.pc_quantile.specs.Measure.{cells_for}
use Rattle.pc_quantile.proofs.Pairs.{picks_sized}
use Rattle.pc_quantile.proofs.bounds.always.Goals as goal

pub returns : goal.returns
returns c =
    let p = c.args.measure.now.problem in
    record {
      picks = c.in_ok-picks.picks;
      rows = rows_of_cells p.schema.now p.constraints.now p.query.now p.cells.now.tree.nodes c.requires.measured.posed.formed c.requires.measured.posed.found.tree p.cells.now.cells c.in_ok-picks.picks
          c.requires.measured.posed.found.listed c.in_ok-picks.ensures;
      answer_is = c.always_as.ensures ∙ ap always_as (c.told_relation.ensures ∙ ap told_relation (rw (c.as_slice.ensures, c.as_slice-2.ensures) at c.in_ok-relation.ensures));
    }

pub relation_from-requires : goal.relation_from-requires
relation_from-requires c =
    let p = c.args.measure.now.problem in
    let rows = rows_of_cells p.schema.now p.constraints.now p.query.now p.cells.now.tree.nodes c.requires.measured.posed.formed c.requires.measured.posed.found.tree p.cells.now.cells c.in_ok-picks.picks
    c.requires.measured.posed.found.listed c.in_ok-picks.ensures in
    record { sized = rw (c.as_slice.ensures, c.as_slice-2.ensures) (picks_sized (cells_for c.args.measure.now) c.in_ok-picks.picks c.args.found rows c.requires.lawful) }
