-- A query, of a name where it is grouped, is asked of whatever observed rows come to its fold.
use Rattle.std.proofs.Common.{◌≡◌, ℕ, List, Option, refl}
use Rattle.std.specs.Prelude.{is_none}
use Rattle.pc_model.specs.declared.schema.Schema.{Schema}
use Rattle.pc_model.specs.declared.row.Row.{Row}
use Rattle.pc_model.specs.declared.constraint.Constraint.{Constraint}
use Rattle.pc_model.specs.declared.query.Query.{Query}
use Rattle.pc_model.specs.declared.query.Folded.{Folded}
use Rattle.pc_model.specs.declared.tree.CutNode.{CutNode}
use Rattle.pc_model.specs.Accepted.{IsQuery}
use Rattle.pc_model.specs.Folds.{IsFold}
use Rattle.pc_proof.specs.Unbroken.{AllowsName}
use Rattle.pc_proof.proofs.Observing.{comes}
use Rattle.pc_agg_search.specs.Asked.{question_as, Asking, setting_for, query_for}
use Rattle.pc_agg_search.specs.Settings.{setting_in}

pub fold_asks : (schema : Schema) (constraints : List Constraint) (query : Query) (name : Option ℕ) (observed : List Row) (seen : Folded) (nodes : List CutNode) →
    IsQuery schema query → is_none name ≡ is_none query.group → AllowsName query.chosen query.group name → IsFold query name observed seen →
    (asking : Asking schema constraints (query_for query name) seen) × (setting_for schema constraints (query_for query name) seen nodes asking ≡ setting_in schema observed constraints query name nodes)
fold_asks schema constraints query name observed seen nodes well named allowed fold =
    let asking : Asking schema constraints (query_for query name) seen = record {
      observed = observed;
      wide = query.chosen;
      group = query.group;
      name = name;
      area = refl;
      named = named;
      allowed = allowed;
      well = well;
      comes_to = comes (question_as schema constraints (query_for query name) observed query.chosen query.group name) seen fold;
    } in
    (asking, refl)
