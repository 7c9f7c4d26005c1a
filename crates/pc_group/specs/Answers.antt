-- What a block owes to the query, and the name, that it is for.
use Rattle.std.specs.Prelude.{◌≡◌, ℕ, List}
use Rattle.std.specs.List.{AllPass}
use Rattle.pc_model.specs.declared.schema.Schema.{Schema}
use Rattle.pc_model.specs.declared.row.Row.{Row}
use Rattle.pc_model.specs.declared.constraint.Constraint.{Constraint}
use Rattle.pc_model.specs.declared.query.Agg.TheVariants.{Avg}
use Rattle.pc_model.specs.declared.tree.CutNode.{CutNode}
use Rattle.pc_model.specs.Membership.{in_domain}
use Rattle.pc_agg_search.specs.Easy.{IsEasy}
use Rattle.pc_model.specs.CutTrees.{shape_of}
use Rattle.pc_model.specs.Right.{Question, IsRight}
use Rattle.pc_proof.specs.Setting.{Setting}
use Rattle.pc_proof.specs.Unbroken.{HasForm, IsUnbroken, IsSharp, plain_answer}
use Rattle.pc_proof.specs.Form.{IsFormedBlock}
use Rattle.pc_branch_licences.specs.Licensed.{IsLicensed, IsSettledLack}
use Rattle.pc_branch_licences.specs.Searched.{AreSearched}
use Rattle.pc_agg_search.specs.Settings.{question_in, setting_in}
use Rattle.pc_agg.specs.Owed.{AreOrdered}
use Rattle.pc_avg.specs.Averages.{HasShortEnds}
use Rattle.pc_group.specs.Trees.{Told, HasOwnShape}
use Rattle.pc_group.specs.Wanted.{Wanted}

abbrev pub question_for : Schema → List Row → List Constraint → Wanted → Question
question_for schema observed constraints w = question_in schema observed constraints w.query w.name

abbrev pub setting_for : Schema → List Row → List Constraint → Wanted → List CutNode → Setting
setting_for schema observed constraints w nodes = setting_in schema observed constraints w.query w.name nodes

-- The block is of this query and name. Its answer is right, has the form of an answer and breaks no rule with the tree that
-- it says. What it leaves open is licensed by searches that spent so many nodes each, and the trees of its ends are ones that
-- such a search could have made. Where of any two predicates no row is under both, or each row under the one is under the other,
-- it leaves nothing open. Its low end is not above its high one. It is in form where the observed rows are of the schema and the
-- bits of the tree's cuts are of names.
pub record AnswersWanted (budget : ℕ) (schema : Schema) (observed : List Row) (constraints : List Constraint) (w : Wanted) (t : Told) : Type 0 where
  pub query_is : t.block.query ≡ w.query
  pub name_is : t.block.name ≡ w.name
  pub right : IsRight (question_for schema observed constraints w) (plain_answer t.block.answer)
  pub form : HasForm (setting_for schema observed constraints w t.nodes) t.block.answer
  pub unbroken : IsUnbroken (setting_for schema observed constraints w t.nodes) t.block.answer
  pub licensed : IsLicensed (setting_for schema observed constraints w t.nodes) budget t.block.answer
  pub searched : AreSearched (setting_for schema observed constraints w t.nodes) budget t.block.answer
  pub sharp : IsEasy schema constraints → IsSharp t.block.answer × IsSettledLack t.block.answer.lack
  pub ordered : AreOrdered t.block.answer
  pub short : w.query.agg ≡ Avg → HasShortEnds t.block.answer
  pub formed : AllPass (in_domain schema) observed → HasOwnShape schema (shape_of t.nodes) → IsFormedBlock schema t.block
