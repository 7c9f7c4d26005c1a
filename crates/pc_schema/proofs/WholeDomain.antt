-- The region of the whole domain holds the rows of the domain.
use Rattle.std.proofs.Common.{◌≡◌, map}
use Rattle.pc_model.specs.declared.schema.Schema.{Schema}
use Rattle.pc_model.specs.declared.region.Region.{Region}
use Rattle.pc_model.specs.Membership.{has, in_domain}
use Rattle.pc_model.proofs.Whole.{side_of_column}
use Rattle.pc_model.proofs.WholeDomain.{domain_holds}
use Rattle.pc_schema.specs.Domain.{HoldsDomain}

pub holds_domain : (schema : Schema) (region : Region) → region.sides ≡ map side_of_column schema.columns → HoldsDomain schema region
unfolding has in_domain
holds_domain schema region e row = rw e (domain_holds schema.columns row.cells)
