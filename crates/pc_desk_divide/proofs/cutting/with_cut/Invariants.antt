use Rattle.std.proofs.Common.{◌≡◌, ◌++◌, flat_map, take}
use Rattle.pc_model.specs.declared.region.Side.{Side}
use Rattle.pc_desk_divide.specs.Cells.{listed, narrowed_area}
use Rattle.pc_desk_divide.proofs.cutting.with_cut.Given as goal

abbrev pub invariant-loop-piece : goal.invariant-loop-piece
invariant-loop-piece l =
    l.new ≡ l.fn.cells ++ flat_map (λ (piece : Side). listed (narrowed_area l.fn.parting.column l.fn.cell piece)) (take l.piece-index l.fn.parting.pieces)
