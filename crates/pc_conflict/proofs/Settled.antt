-- What settles the count of all rows decides a test.
use Rattle.std.proofs.Common.{◌≤◌, ℕ, List, [], None, refl, subst, arith}
use Rattle.pc_model.specs.declared.schema.Schema.{Schema}
use Rattle.pc_model.specs.declared.constraint.Constraint.{Constraint}
use Rattle.pc_model.specs.declared.tree.CutNode.{CutNode}
use Rattle.pc_model.specs.Accepted.{AreConstraints, IsQuery}
use Rattle.pc_model.specs.Cells.{IsSettledTree}
use Rattle.pc_model.specs.Folds.{IsFold}
use Rattle.pc_model.specs.Regions.{whole_area}
use Rattle.pc_model.specs.WellFormed.{IsWellFormed}
use Rattle.pc_model.proofs.Areas.{whole_is_area}
use Rattle.pc_cells.specs.declared.cells.Cells.{Cells}
use Rattle.pc_cells.specs.Found.{AreCellsFor}
use Rattle.pc_proof.specs.declared.answer.Lack.{Lack}
use Rattle.pc_proof.specs.declared.answer.Relation.{Relation}
use Rattle.pc_proof.specs.declared.answer.Relation.TheVariants as relations
use Rattle.pc_proof.specs.Setting.{Setting}
use Rattle.pc_proof.specs.Unbroken.{IsWellPosed}
use Rattle.pc_proof.specs.Unbroken as unbroken
use Rattle.pc_proof.proofs.Shown.{impossible_holds}
use Rattle.pc_agg_search.specs.Asked.{AreAsked}
use Rattle.pc_agg_search.specs.Easy.{IsEasy}
use Rattle.pc_agg_search.specs.Settings.{setting_in}
use Rattle.pc_agg.specs.declared.settling.Settled.{Settled}
use Rattle.pc_agg.specs.Calls.{OwesSettling}
use Rattle.pc_agg.specs.Owed.{OwesSettled}
use Rattle.pc_agg.proofs.Asking.{fold_asks}
use Rattle.pc_conflict.specs.Testing.{IsTested, IsTestedSurely, all_rows, none_seen, tested_as}

module _ (schema : Schema) (constraints : List Constraint) (budget : ℕ) (formed : IsWellFormed schema) where
  is_query : IsQuery schema (all_rows schema)
  is_query = record { chosen = whole_is_area schema formed; measured = refl; grouped = tt }

  pub are_asked : AreConstraints schema constraints → (1 ≤ budget) × (budget ≤ 100_000) → (cells : Cells) → AreCellsFor schema constraints (whole_area schema) cells → AreAsked schema none_seen constraints cells (all_rows schema) budget
  are_asked accepted nodes cells found = record {
    formed = formed;
    limited = accepted;
    well = is_query;
    ungrouped = refl;
    found = record { tree = found.settled; listed = found.cells; filled = found.filled; numbers = found.numbers };
    few_seen = omega arith;
    small_seen = omega arith;
    some_nodes = nodes.0;
    few_nodes = nodes.1;
  }

  -- no rows come to nothing
  none_fold : IsFold (all_rows schema) None [] none_seen
  none_fold = record { count = refl; sum = refl; least = refl; greatest = refl }

  module _ (nodes : List CutNode) (tree : IsSettledTree schema constraints (whole_area schema) nodes) where
    abbrev s : Setting
    s = setting_in schema [] constraints (all_rows schema) None nodes

    posed : IsWellPosed s.question
    posed = record { formed = formed; query = is_query }

    tests_as : (relation : Relation) (lack : Lack) (found : List (List ℕ)) → OwesSettled s budget relation lack found → IsTested schema constraints budget (tested_as relation)
    tests_as (relations.Possible runs) lack found owes = record { each_stands = owes.relation_holds.each_stands; possible = owes.relation_holds.are_possible }
    tests_as (relations.Impossible why) lack found owes = λ rows possible. impossible_holds s posed tree rows possible why owes.relation_holds
    tests_as relations.Undecided lack found owes =
        let totals = owes.licensed.relation.0 in
        record {
          nodes = nodes;
          tree = tree;
          most = totals.most;
          fewest = totals.fewest;
          by_most = totals.by_most.left;
          by_fewest = totals.by_fewest.left;
          meet = owes.licensed.relation.1;
        }

    tests_surely : (relation : Relation) → unbroken.IsDecided relation → IsTestedSurely (tested_as relation)
    tests_surely (relations.Possible runs) decided = tt
    tests_surely (relations.Impossible why) decided = tt
    tests_surely relations.Undecided decided = decided

  module _ (cells : Cells) (are : AreCellsFor schema constraints (whole_area schema) cells) (settled : Settled) (owes : OwesSettling schema none_seen constraints cells (all_rows schema) budget settled) where
    owed : OwesSettled (setting_in schema [] constraints (all_rows schema) None cells.tree.nodes) budget settled.relation settled.lack settled.found
    owed =
        let asking = fold_asks schema constraints (all_rows schema) None [] none_seen cells.tree.nodes is_query refl tt none_fold in
        subst (λ (s : Setting). OwesSettled s budget settled.relation settled.lack settled.found) asking.1 (owes asking.0)

    pub settled_tests : IsTested schema constraints budget (tested_as settled.relation)
    settled_tests = tests_as cells.tree.nodes are.settled settled.relation settled.lack settled.found owed

    pub settled_surely : IsEasy schema constraints → IsTestedSurely (tested_as settled.relation)
    settled_surely easy = tests_surely cells.tree.nodes are.settled settled.relation (owed.sharp easy).0
