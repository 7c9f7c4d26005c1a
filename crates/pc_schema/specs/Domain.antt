-- The region that holds every row of a schema's domain.
use Rattle.std.specs.Prelude.{◌≡◌}
use Rattle.pc_model.specs.declared.schema.Schema.{Schema}
use Rattle.pc_model.specs.declared.row.Row.{Row}
use Rattle.pc_model.specs.declared.region.Region.{Region}
use Rattle.pc_model.specs.Membership.{has, in_domain}

-- the region holds the rows of the domain and no others
abbrev pub HoldsDomain : Schema → Region → Type 0
HoldsDomain schema region = (row : Row) → has region row ≡ in_domain schema row
