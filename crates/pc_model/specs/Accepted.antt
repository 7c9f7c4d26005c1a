-- Which constraints and queries are well-formed for a schema.
use Rattle.std.specs.Prelude.{◌≡◌, ◌≢◌, ℕ, ◌≤◌, ⊤, List, [], length, All, AllPairs, Option, None, IfSome, IsSomeAnd, slice_get}
use Rattle.pc_model.specs.declared.schema.Kind.{Kind}
use Rattle.pc_model.specs.declared.schema.Kind.TheVariants.{Int, Dec, Cat}
use Rattle.pc_model.specs.declared.schema.Column.{Column}
use Rattle.pc_model.specs.declared.schema.Schema.{Schema}
use Rattle.pc_model.specs.declared.constraint.When.{When}
use Rattle.pc_model.specs.declared.constraint.When.TheVariants.{Boxes, Outside}
use Rattle.pc_model.specs.declared.constraint.Constraint.{Constraint}
use Rattle.pc_model.specs.declared.query.Agg.{Agg}
use Rattle.pc_model.specs.declared.query.Agg.TheVariants.{Count, Sum, Min, Max, Avg}
use Rattle.pc_model.specs.declared.query.Query.{Query}
use Rattle.pc_model.specs.Boxes.{IsAreaOf, IsServable}
use Rattle.pc_model.specs.Texts.{IsName}

-- the most lost rows that a constraint allows is at most this
abbrev pub frequency_limit : ℕ
frequency_limit = 10000000

abbrev pub constraint_limit : ℕ
constraint_limit = 20

-- an outside constraint has the empty text for its name, which is no name
abbrev pub IsNameFor : When → List ℕ → Type 0
IsNameFor (Boxes area) name = IsName name
IsNameFor Outside name = name ≡ []

-- a constraint of the rows outside, and constraints with one such at most
abbrev pub IsOutside : When → Type 0
IsOutside (Boxes area) = ⊥
IsOutside Outside = ⊤

abbrev pub HasLoneOutside : List Constraint → Type 0
HasLoneOutside = AllPairs (λ (a b : Constraint). IsOutside a.when → IsOutside b.when → ⊥)

-- constraints of which no two have one name, so that one at most is outside, and of which there are not too many
pub record AreConstraints (schema : Schema) (constraints : List Constraint) : Type 0 where
  pub few : length constraints ≤ constraint_limit
  pub servable : All (IsServable schema) constraints
  pub small : All (λ (c : Constraint). c.most ≤ frequency_limit) constraints
  pub named : All (λ (c : Constraint). IsNameFor c.when c.name) constraints
  pub own_names : AllPairs (λ (a b : Constraint). a.name ≢ b.name) constraints

abbrev pub IsNumeric : Kind → Type 0
IsNumeric (Int low high) = ⊤
IsNumeric (Dec scale low high) = ⊤
IsNumeric (Cat names) = ⊥

abbrev pub HasNames : Kind → Type 0
HasNames (Int low high) = ⊥
HasNames (Dec scale low high) = ⊥
HasNames (Cat names) = ⊤

abbrev pub IsColumnWhere : (Kind → Type 0) → Schema → ℕ → Type 0
IsColumnWhere Fits schema place = IsSomeAnd (slice_get schema.columns place) (λ (column : Column). Fits column.kind)

-- a count has no column, and any other aggregate one of numbers
abbrev pub Measures : Schema → Agg → Option ℕ → Type 0
Measures schema Count column = column ≡ None
Measures schema Sum column = IsSomeAnd column (IsColumnWhere IsNumeric schema)
Measures schema Min column = IsSomeAnd column (IsColumnWhere IsNumeric schema)
Measures schema Max column = IsSomeAnd column (IsColumnWhere IsNumeric schema)
Measures schema Avg column = IsSomeAnd column (IsColumnWhere IsNumeric schema)

pub record IsQuery (schema : Schema) (query : Query) : Type 0 where
  pub chosen : IsAreaOf schema query.chosen
  pub measured : Measures schema query.agg query.column
  pub grouped : IfSome query.group (IsColumnWhere HasNames schema)
