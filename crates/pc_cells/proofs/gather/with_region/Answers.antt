use Rattle.pc_cells.proofs.Gathered.{gathered_more}
use Rattle.pc_cells.proofs.gather.with_region.Goals as goal

pub returns : goal.returns
returns c =
    gathered_more c.args.gathering (record { classes = c.insert_full.new.self; cells = c.in_ok-cells-2.cells }) c.args.class c.args.region c.in_ok-place.is_new c.in_ok-place.place c.in_ok-cells.cells.items
    c.in_ok-place.ensures.keys c.in_ok-place.ensures.added c.in_ok-place.ensures.index c.in_ok-cells.ensures c.in_ok-cells-2.ensures
