-- Where nothing stays open.
use Rattle.std.specs.Prelude.{List}
use Rattle.pc_model.specs.declared.schema.Schema.{Schema}
use Rattle.pc_model.specs.declared.constraint.Constraint.{Constraint}
use Rattle.pc_model.specs.Membership.{AreNested}

-- every search over cells of these constraints ends within its budget, so that each answer is exact
abbrev pub IsEasy : Schema → List Constraint → Type 0
IsEasy schema constraints = AreNested schema constraints
