-- What the code knows of a setting, and what is asked of it.
use Rattle.std.specs.Prelude.{◌≡◌, ℕ, ◌≤◌, ◌^◌, nat_abs, ⊤, List, length, All, Option, IsSome}
use Rattle.pc_model.specs.declared.constraint.Constraint.{Constraint}
use Rattle.pc_model.specs.declared.query.Agg.{Agg}
use Rattle.pc_model.specs.declared.query.Agg.TheVariants.{Count, Sum, Min, Max, Avg}
use Rattle.pc_model.specs.declared.query.Folded.{Folded}
use Rattle.pc_model.specs.Accepted.{constraint_limit}
use Rattle.pc_rows.specs.Stored.{row_limit}
use Rattle.pc_proof.specs.Setting.{Setting, column_of, leaves}
use Rattle.pc_proof.specs.Observed.{ComesTo}
use Rattle.pc_check_rules.specs.declared.scene.Scene.{Scene}
use Rattle.pc_check_rules.specs.Cells.{cells_from}

-- ---- sizes

-- not too many constraints, each of which allows a number of rows, and not too many
pub record AreLimited (constraints : List Constraint) : Type 0 where
  pub few : length constraints ≤ constraint_limit
  pub ordered : All (λ (c : Constraint). c.least ≤ c.most) constraints
  pub small : All (λ (c : Constraint). c.most ≤ 1_000_000_000) constraints

-- so many rows as a file has, each with a number of a column
pub record IsCounted (seen : Folded) : Type 0 where
  pub few : seen.count ≤ row_limit
  pub small : nat_abs seen.sum ≤ 10 ^ 21

pub record IsJudged (scene : Scene) : Type 0 where
  pub limited : AreLimited scene.constraints.now
  pub counted : IsCounted scene.seen

-- ---- the setting

-- a count has no need of a column
abbrev pub HasMeasure : Agg → Option ℕ → Type 0
HasMeasure Count column = ⊤
HasMeasure Sum column = IsSome column
HasMeasure Min column = IsSome column
HasMeasure Max column = IsSome column
HasMeasure Avg column = IsSome column

-- a setting of these constraints, cells and observed rows, whose query has this aggregate
pub record IsSceneOf (scene : Scene) (s : Setting) : Type 0 where
  pub constraints_are : s.question.constraints ≡ scene.constraints.now
  pub cells_are : scene.cells.now ≡ cells_from (column_of s.question) (leaves s)
  pub agg_is : s.question.query.agg ≡ scene.agg
  pub comes_to : ComesTo s.question scene.seen
  pub measured : HasMeasure s.question.query.agg s.question.query.column
