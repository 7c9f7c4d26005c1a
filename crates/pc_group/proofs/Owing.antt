-- What the answer over the cells of a block is owed makes a block of the query and the name.
use Rattle.std.proofs.Common.{◌≡◌, ℕ, ◌*◌, ◌≤◌, List, Option, Some, refl, sym, ap, subst, arith}
use Rattle.std.specs.Prelude.{is_none, nat_abs}
use Rattle.pc_num.specs.Scaled.{greatest_size}
use Rattle.pc_model.specs.declared.schema.Schema.{Schema}
use Rattle.pc_model.specs.declared.row.Row.{Row}
use Rattle.pc_model.specs.declared.constraint.Constraint.{Constraint}
use Rattle.pc_model.specs.declared.query.Agg.TheVariants.{Avg}
use Rattle.pc_model.specs.declared.query.Query.{Query}
use Rattle.pc_model.specs.declared.query.Folded.{Folded}
use Rattle.pc_model.specs.declared.tree.CutNode.{CutNode}
use Rattle.pc_cells.specs.declared.cells.Cells.{Cells}
use Rattle.pc_model.specs.Accepted.{AreConstraints, IsQuery}
use Rattle.pc_model.specs.Folds.{IsFold}
use Rattle.pc_model.specs.WellFormed.{IsWellFormed}
use Rattle.pc_proof.specs.declared.answer.Answer.{Answer}
use Rattle.pc_proof.specs.declared.document.BlockTree.{BlockTree}
use Rattle.pc_proof.specs.Documents.{nodes_after}
use Rattle.pc_proof.specs.Setting.{Setting}
use Rattle.pc_proof.specs.Unbroken.{AllowsName, IsWellPosed}
use Rattle.pc_proof.proofs.Sound.{right_from_unbroken}
use Rattle.pc_agg_search.specs.Asked.{AreAsked, AreCells, Asking, query_for, setting_for}
use Rattle.pc_agg_search.specs.Settings.{question_in, setting_in}
use Rattle.pc_agg.specs.Owed.{Owes}
use Rattle.pc_agg.proofs.Asking.{fold_asks}
use Rattle.pc_avg.specs.Averages.{HasShortEnds}
use Rattle.pc_group.specs.Answers.{AnswersWanted}
use Rattle.pc_group.specs.Trees.{Told}
use Rattle.pc_group.specs.Wanted.{Wanted}
use Rattle.pc_group.proofs.FormedBlocks.{block_formed}
use Rattle.pc_group.proofs.Narrowed.{query_for_is}

-- what is asked of the cells of a block
pub are_asked : (schema : Schema) (seen : Folded) (constraints : List Constraint) (cells : Cells) (query asked : Query) (name : Option ℕ) (budget : ℕ) → asked ≡ query_for query name → IsWellFormed schema → AreConstraints schema constraints → IsQuery schema query →
    AllowsName query.chosen query.group name → AreCells schema constraints asked cells → seen.count ≤ 1_000_000 → nat_abs seen.sum ≤ 1_000_000 * greatest_size → (1 ≤ budget) × (budget ≤ 100_000) → AreAsked schema seen constraints cells asked budget
are_asked schema seen constraints cells query asked name budget is formed limited well allowed found few small nodes = record {
  formed = formed;
  limited = limited;
  well = subst (IsQuery schema) (sym is) (query_for_is schema query name allowed well);
  ungrouped = ap (λ (q : Query). q.group) is;
  found = found;
  few_seen = few;
  small_seen = omega (arith, small);
  some_nodes = nodes.0;
  few_nodes = nodes.1;
}

module _ (budget : ℕ) (schema : Schema) (observed : List Row) (constraints : List Constraint) (query : Query) (name : Option ℕ) (nodes : List CutNode) (answer : Answer)
    (formed : IsWellFormed schema) (limited : AreConstraints schema constraints) (well : IsQuery schema query) where
  abbrev w : Wanted
  w = record { query = query; name = name }

  abbrev told_by : BlockTree → Told
  told_by tree = record { block = record { query = query; name = name; tree = tree; answer = answer }; nodes = nodes }

  posed : IsWellPosed (question_in schema observed constraints query name)
  posed = record { formed = formed; query = well }

  from_owed : Owes (setting_in schema observed constraints query name nodes) budget answer → (query.agg ≡ Avg → HasShortEnds answer) → (before : Option (List CutNode)) (tree : BlockTree) → nodes_after before tree ≡ Some nodes → AnswersWanted budget schema observed constraints w (told_by tree)
  from_owed owes short before tree says = record {
    query_is = refl;
    name_is = refl;
    right = right_from_unbroken (setting_in schema observed constraints query name nodes) answer posed owes.form owes.unbroken;
    form = owes.form;
    unbroken = owes.unbroken;
    licensed = owes.licensed;
    searched = owes.searched;
    sharp = owes.sharp;
    ordered = owes.ordered;
    short = short;
    formed = λ seen own. block_formed schema observed constraints query name nodes answer formed limited well owes.form owes.unbroken (owes.formed seen) own before tree says;
  }

  -- the fold of the observed rows is asked of
  pub answers_wanted : is_none name ≡ is_none query.group → AllowsName query.chosen query.group name → (seen : Folded) → IsFold query name observed seen →
      ((asking : Asking schema constraints (query_for query name) seen) → Owes (setting_for schema constraints (query_for query name) seen nodes asking) budget answer) → (query.agg ≡ Avg → HasShortEnds answer) →
      (before : Option (List CutNode)) (tree : BlockTree) → nodes_after before tree ≡ Some nodes → AnswersWanted budget schema observed constraints w (told_by tree)
  answers_wanted named allowed seen fold owes short before tree says =
      let asking = fold_asks schema constraints query name observed seen nodes well named allowed fold in
      from_owed (subst (λ (s : Setting). Owes s budget answer) asking.1 (owes asking.0)) short before tree says
