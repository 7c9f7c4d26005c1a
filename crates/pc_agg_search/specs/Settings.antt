-- What the answers of one case are judged by.
use Rattle.std.specs.Prelude.{ℕ, List, [], Option, None}
use Rattle.pc_model.specs.declared.schema.Schema.{Schema}
use Rattle.pc_model.specs.declared.row.Row.{Row}
use Rattle.pc_model.specs.declared.constraint.Constraint.{Constraint}
use Rattle.pc_model.specs.declared.query.Query.{Query}
use Rattle.pc_model.specs.declared.tree.CutNode.{CutNode}
use Rattle.pc_model.specs.Right.{Question}
use Rattle.pc_proof.specs.Setting.{Setting}

-- a query over observed rows, of a name where it is grouped
abbrev pub question_in : Schema → List Row → List Constraint → Query → Option ℕ → Question
question_in schema observed constraints query name = record { schema = schema; observed = observed; constraints = constraints; query = query; name = name }

abbrev pub setting_in : Schema → List Row → List Constraint → Query → Option ℕ → List CutNode → Setting
setting_in schema observed constraints query name nodes = record { question = question_in schema observed constraints query name; nodes = nodes }

-- as if no rows were observed: what the cells alone say
abbrev pub unseen : Schema → List Constraint → Query → List CutNode → Setting
unseen schema constraints query nodes = setting_in schema [] constraints query None nodes
