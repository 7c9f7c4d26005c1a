-- What the blocks of a document are judged by.
use Rattle.std.specs.List.{AllPass}
use Rattle.pc_model.specs.Accepted.{AreConstraints}
use Rattle.pc_model.specs.Membership.{in_domain}
use Rattle.pc_model.specs.WellFormed.{IsWellFormed}
use Rattle.pc_proof.specs.Documents.{Premises as Case, premises_of}
use Rattle.pc_check.specs.declared.premises.Premises.{Premises}

-- the schema is well formed, the observed rows are rows of it, and the constraints are accepted for it
pub record ArePremises (premises : Premises) : Type 0 where
  pub formed : IsWellFormed premises.schema.now
  pub observed : AllPass (in_domain premises.schema.now) premises.rows.now
  pub accepted : AreConstraints premises.schema.now premises.constraints.now

abbrev pub case_of : Premises → Case
case_of premises = premises_of premises.schema.now premises.rows.now premises.constraints.now
