use Rattle.std.proofs.Common.{◌≡◌, ◌∙◌, List, IfOk, ap, map, subst}
use Rattle.pc_model.specs.declared.region.Region.{Region}
use Rattle.pc_desk_divide.specs.declared.cells.Cells.{Cells}
use Rattle.pc_desk_divide.specs.declared.parting.Parting.{Parting}
use Rattle.pc_desk_divide.specs.Cells.{cells_of, cells_unless_many, parting_of, partings_of}
use Rattle.pc_desk_divide.proofs.CellLaws.{cells_are_of}
use Rattle.pc_desk_divide.proofs.cells.cells_of.Goals as goal

pub returns-clause-areas : goal.returns-clause-areas
unfolding cells_of
returns-clause-areas c =
    let chosen = c.args.chosen.now in
    let divisions = c.args.divisions.now in
    let same : c.as_slice-2.result.now ≡ partings_of chosen divisions =
    c.as_slice-2.ensures ∙ c.in_ok-partings.ensures ∙ ap (λ (boxes : List Region). map (parting_of boxes) divisions) c.as_slice.ensures in
    cells_are_of c.args.schema.now chosen c.requires.formed c.requires.area divisions c.cells_unless_many.result c.requires.divided
    (subst (λ (partings : List Parting). IfOk c.cells_unless_many.result (λ (cells : Cells). cells ≡ cells_unless_many chosen partings)) same c.cells_unless_many.ensures)
