-- What a call that answers a query is asked.
use Rattle.std.specs.Prelude.{◌≡◌, ◌≤◌, ◌^◌, ℕ, nat_abs, List, All, Option, None, is_none}
use Rattle.pc_model.specs.declared.schema.Schema.{Schema}
use Rattle.pc_model.specs.declared.row.Row.{Row}
use Rattle.pc_model.specs.declared.area.Area.{Area}
use Rattle.pc_model.specs.declared.constraint.Constraint.{Constraint}
use Rattle.pc_model.specs.declared.query.Query.{Query}
use Rattle.pc_model.specs.declared.query.Folded.{Folded}
use Rattle.pc_model.specs.declared.tree.CutNode.{CutNode}
use Rattle.pc_model.specs.Accepted.{AreConstraints, IsQuery, IsNumeric, IsColumnWhere}
use Rattle.pc_model.specs.WellFormed.{IsWellFormed}
use Rattle.pc_model.specs.Right.{Question}
use Rattle.pc_model.specs.Cells.{IsSettledTree, leaves_in}
use Rattle.pc_cells.specs.declared.cells.Cells.{Cells}
use Rattle.pc_cells.specs.Found.{cells_of, IsFilled, HasNumbers}
use Rattle.pc_proof.specs.Observed.{ComesTo}
use Rattle.pc_proof.specs.Setting.{Setting, narrowed}
use Rattle.pc_proof.specs.Unbroken.{AllowsName}

-- the question that a query without a group stands for: that query over observed rows, or one name of a grouped query
-- whose area the name narrows
abbrev pub asked_as : Query → Area → Option ℕ → Query
asked_as query wide group = record { agg = query.agg; column = query.column; chosen = wide; group = group }

abbrev pub question_as : Schema → List Constraint → Query → List Row → Area → Option ℕ → Option ℕ → Question
question_as schema constraints query observed wide group name =
    record { schema = schema; observed = observed; constraints = constraints; query = asked_as query wide group; name = name }

-- a query of a name, where it is grouped, as one without a group over the area that the name narrows
abbrev pub query_for : Query → Option ℕ → Query
query_for query name = record { agg = query.agg; column = query.column; chosen = narrowed query.chosen query.group name; group = None }

-- a question that the call answers
pub record Asking (schema : Schema) (constraints : List Constraint) (query : Query) (seen : Folded) : Type 0 where
  pub observed : List Row
  pub wide : Area
  pub group : Option ℕ
  pub name : Option ℕ
  pub area : narrowed wide group name ≡ query.chosen
  pub named : is_none name ≡ is_none group
  pub allowed : AllowsName wide group name
  pub well : IsQuery schema (asked_as query wide group)
  pub comes_to : ComesTo (question_as schema constraints query observed wide group name) seen

abbrev pub setting_for : (schema : Schema) (constraints : List Constraint) (query : Query) (seen : Folded) → List CutNode → Asking schema constraints query seen → Setting
setting_for schema constraints query seen nodes asking =
    record { question = question_as schema constraints query asking.observed asking.wide asking.group asking.name; nodes = nodes }

-- the cells' tree and its cells are those of the query's area
pub record AreCells (schema : Schema) (constraints : List Constraint) (query : Query) (cells : Cells) : Type 0 where
  pub tree : IsSettledTree schema constraints query.chosen cells.tree.nodes
  pub listed : cells.cells ≡ cells_of (leaves_in schema cells.tree.nodes)
  pub filled : All IsFilled cells.cells
  pub numbers : (column : ℕ) → IsColumnWhere IsNumeric schema column → All (HasNumbers column) cells.cells

-- the conditions of the calls
pub record AreAsked (schema : Schema) (seen : Folded) (constraints : List Constraint) (cells : Cells) (query : Query) (budget : ℕ) : Type 0 where
  pub formed : IsWellFormed schema
  pub limited : AreConstraints schema constraints
  pub well : IsQuery schema query
  pub ungrouped : query.group ≡ None
  pub found : AreCells schema constraints query cells
  pub few_seen : seen.count ≤ 1_000_000
  pub small_seen : nat_abs seen.sum ≤ 2 ^ 83
  pub some_nodes : 1 ≤ budget
  pub few_nodes : budget ≤ 100_000
