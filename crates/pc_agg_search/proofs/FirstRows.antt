-- The row of a cell that is shown is one of its rows.
use Rattle.std.proofs.Common.{ℕ, List, [], Option}
use Rattle.std.proofs.lemmas.List.{get_or_default}
use Rattle.pc_model.specs.declared.row.Row.{Row}
use Rattle.pc_model.specs.declared.region.Region.{Region}
use Rattle.pc_model.specs.Cells.{IsInSome}
use Rattle.pc_cells.specs.Found.{leaf_at}
use Rattle.pc_agg_search.specs.declared.extreme.Extreme.{Extreme}
use Rattle.pc_agg_search.specs.FirstRows.{IsFirstRow}

pub in_some : (column : Option ℕ) (extreme : Extreme) (leaves : List Region) (row : Row) → IsFirstRow column extreme leaves row → IsInSome leaves row
in_some column extreme leaves row shown =
    let leaf = leaf_at leaves shown.leaf in
    (shown.leaf, leaf, shown.there, get_or_default leaves shown.leaf leaf (record { sides = [] }) shown.there, shown.held)
