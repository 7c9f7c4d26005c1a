-- What holds of the columns that are found, as far as the names have come.
use Rattle.std.specs.Prelude.{◌≤◌}
use Rattle.pc_model.specs.WellFormed.{AreColumns}
use Rattle.pc_desk_schema.specs.declared.found.Found.{Found}

pub record IsSound (found : Found) : Type 0 where
  pub columns : AreColumns found.columns
  pub within : found.further ≤ found.count
