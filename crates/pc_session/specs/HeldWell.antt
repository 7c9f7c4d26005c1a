-- What is held, and what is asked about, as a schema allows it.
use Rattle.std.specs.Prelude.{◌≡◌, ◌≤◌, length, All}
use Rattle.std.specs.List.{AllPass}
use Rattle.pc_model.specs.declared.schema.Schema.{Schema}
use Rattle.pc_model.specs.Accepted.{AreConstraints, IsQuery}
use Rattle.pc_model.specs.Membership.{in_domain}
use Rattle.pc_rows.specs.declared.case.Case.{Case}
use Rattle.pc_rows.specs.Stored.{row_limit}
use Rattle.pc_session.specs.Edited.{Held}

-- not too many rows of the domain, and constraints that are accepted
pub record IsHeldWell (schema : Schema) (held : Held) : Type 0 where
  pub few : length held.rows ≤ row_limit
  pub seen : AllPass (in_domain schema) held.rows
  pub accepted : AreConstraints schema held.constraints

pub record IsAskedWell (schema : Schema) (case : Case) : Type 0 where
  pub schema_is : case.schema ≡ schema
  pub seen : AllPass (in_domain schema) case.rows
  pub accepted : AreConstraints schema case.constraints
  pub queries : All (IsQuery schema) case.queries
