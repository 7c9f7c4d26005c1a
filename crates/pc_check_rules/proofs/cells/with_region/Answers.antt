use Rattle.pc_check_rules.specs.declared.cells.Gathering.{Gathering}
use Rattle.pc_check_rules.proofs.Gathered.{gathered_more}
use Rattle.pc_check_rules.proofs.cells.with_region.Goals as goal

pub returns : goal.returns
returns c =
    let more : Gathering = record { classes = c.insert_full.new.self; cells = c.in_ok-cells.cells } in
    gathered_more c.args.gathering more c.args.class c.args.region.now c.in_ok-place.is_new c.in_ok-place.place c.args.column
    c.in_ok-place.ensures.keys c.in_ok-place.ensures.added c.in_ok-place.ensures.index (rw c.cell_of_box.ensures at c.in_ok-cells.ensures)
