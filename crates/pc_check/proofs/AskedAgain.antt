-- The cells of a tree for one question are those for another one of the same column and area, at whichever line it is tried.
use Rattle.std.proofs.Common.{◌≡◌, ℕ, ◌+◌, List, [], ◌∷◌, map, All, Option, Some, None, IfSome, Result, Ok, refl, ap, sym, subst, ◌∙◌}
use Rattle.std.specs.Prelude.{unwrap_or}
use Rattle.std.proofs.lemmas.List.Elements.{All-nil, All-cons, All-head, All-tail}
use Rattle.pc_model.specs.declared.area.Area.{Area}
use Rattle.pc_model.specs.declared.query.Query.{Query}
use Rattle.pc_model.specs.declared.tree.CutNode.{CutNode}
use Rattle.pc_model.specs.declared.tree.Leaf.{Leaf}
use Rattle.pc_model.specs.Cells.{leaves_in}
use Rattle.pc_model.specs.CutTrees.{shape_of, IsInPreorder}
use Rattle.pc_model.specs.Regions.{whole_region}
use Rattle.pc_proof.specs.Setting.{Setting}
use Rattle.pc_proof.specs.Counts.{tree_count}
use Rattle.pc_proof.specs.Demands.{Placed, Holds, TreeLines, own, same, at_line, cut_demands, cells_demands, front_lines}
use Rattle.pc_proof.specs.declared.document.Block.{Block}
use Rattle.pc_proof.specs.declared.document.BlockTree.{BlockTree}
use Rattle.pc_proof.specs.declared.document.BlockTree.TheVariants as trees
use Rattle.pc_proof.specs.Documents.{lines_of, nodes_after, setting_of}
use Rattle.pc_proof.specs.Unbroken.{AllowsName}
use Rattle.pc_check_rules.specs.declared.cells.GatheredCell.{GatheredCell}
use Rattle.pc_check_rules.specs.declared.halt.Halt.{Halt}
use Rattle.pc_check_rules.specs.Cells.{cells_from}
use Rattle.pc_check.specs.declared.asked.Asked.{Asked}
use Rattle.pc_check.specs.declared.premises.Premises.{Premises}
use Rattle.pc_check.specs.Blocks.{DivideAlike, FindsIn, HasNodes, IsAskedOver, IsSettingOf, IsTreeFinding, KeepsOver, asked_for, kept_for}
use Rattle.pc_check.specs.Premises.{case_of}
use Rattle.pc_check.specs.Verdicts.{Keeps, answer_demands}
use Rattle.pc_check.proofs.BlockParts.{relation_line_is, answer_judged}
use Rattle.pc_check.proofs.SharedTrees.{lines_alike, moved_whole}

pub over_alike : (premises : Premises) (list : List CutNode) (query other : Query) (cells : List GatheredCell) → DivideAlike query other
    → IsAskedOver premises list (record { query = query; cells = cells }) → IsAskedOver premises list (record { query = other; cells = cells })
over_alike premises list query other cells alike over = record {
  held = λ s given. over.held s (subst (λ (area : Area). IsSettingOf premises area list s) (sym alike.chosen) given);
  cells_are = over.cells_are ∙ ap (λ (column : Option ℕ). cells_from (unwrap_or column 0) (leaves_in premises.schema.now list)) alike.column;
}

-- ---- a tree that is tried at one line holds at each

module _ (s : Setting) where
  moved_back : (line : ℕ) (ds : List Placed) → All (Holds s) (map (at_line line) ds) → All (Holds s) ds
  moved_back line [] all = All-nil (Holds s)
  moved_back line (d ∷ ds) all =
      All-cons (Holds s) d ds (All-head (Holds s) (at_line line d) (map (at_line line) ds) all) (moved_back line ds (All-tail (Holds s) (at_line line d) (map (at_line line) ds) all))

  abbrev of_tree : ℕ → List Placed
  of_tree line = cut_demands (line + 1) (whole_region s.question.schema) (shape_of s.nodes)

  -- from whichever line the tree is counted
  counted_from : (j k : ℕ) → All (Holds s) (of_tree j) → All (Holds s) (of_tree k)
  counted_from j k all =
      moved_back 0 (of_tree k)
      (subst (All (Holds s)) (lines_alike 0 (j + 1) (k + 1) (whole_region s.question.schema) (shape_of s.nodes)) (moved_whole s 0 (of_tree j) all))

  held_in_tree : (kind : TreeLines) (line : ℕ) → All (Holds s) (cells_demands kind s line) → All (Holds s) (of_tree line)
  held_in_tree own line all = all
  held_in_tree same line all = moved_back line (of_tree line) all

  held_in : (kind : TreeLines) (line : ℕ) → All (Holds s) (of_tree line) → All (Holds s) (cells_demands kind s line)
  held_in own line all = all
  held_in same line all = moved_whole s line (of_tree line) all

  pub held_anywhere : (kind other : TreeLines) (line at : ℕ) → All (Holds s) (cells_demands kind s line) → All (Holds s) (cells_demands other s at)
  held_anywhere kind other line at all = held_in other at (counted_from line at (held_in_tree kind line all))

-- ---- a tree that was walked

module _ (premises : Premises) (query : Query) (list : List CutNode) where
  -- a setting of the tree
  abbrev sample : Setting
  sample = record {
    question = record {
      schema = premises.schema.now;
      observed = premises.rows.now;
      constraints = premises.constraints.now;
      query = record query { group = None };
      name = None;
    };
    nodes = list;
  }

  of_sample : IsSettingOf premises query.chosen list sample
  of_sample = record { schema_is = refl; asked = record { constraints_are = refl; area_is = refl }; nodes_are = refl }

  pub over_leaves : (kind : TreeLines) (line : ℕ) (leaves : List Leaf) (cells : List GatheredCell) → IsTreeFinding kind line premises query.chosen list (Ok leaves)
      → cells ≡ cells_from (unwrap_or query.column 0) leaves → IsAskedOver premises list (record { query = query; cells = cells })
  over_leaves kind line leaves cells found cells_are = record {
    held = λ s given other at. held_anywhere s kind other line at (found s given).0;
    cells_are = cells_are ∙ ap (cells_from (unwrap_or query.column 0)) (found sample of_sample).1;
  }

-- ---- what is kept, by the tree of the next block

pub kept_over : (premises : Premises) (before : Option (List CutNode)) (kept : Option Asked) (tree : BlockTree) → IfSome before (λ list. IfSome kept (IsAskedOver premises list))
    → IfSome (nodes_after before tree) (λ list. IfSome (kept_for kept tree) (IsAskedOver premises list))
kept_over premises before kept (trees.Own tree) over = tt
kept_over premises before kept trees.Same over = over

-- ---- a block whose tree holds

pub answered : (premises : Premises) (block : Block) (list : List CutNode) (line : ℕ) (asked : Asked) (result : Result (Unit {0}) Halt)
    → AllowsName block.query.chosen block.query.group block.name → HasNodes block.tree list → IsInPreorder list → asked.query ≡ asked_for block → IsAskedOver premises list asked
    → KeepsOver (case_of premises) (line + front_lines block.name + tree_count block.tree) block asked.cells result → FindsIn (case_of premises) line block (Some list) result
answered premises block list line asked result allowed has preorder is over keeps =
    let s = setting_of (case_of premises) block list in
    let given : IsSettingOf premises asked.query.chosen list s
    = record { schema_is = refl; asked = record { constraints_are = refl; area_is = sym (ap (λ (q : Query). q.chosen) is) }; nodes_are = refl } in
    let cells_are = over.cells_are ∙ ap (λ (q : Query). cells_from (unwrap_or q.column 0) (leaves_in premises.schema.now list)) is in
    answer_judged s (lines_of block.tree) line block.answer allowed result (over.held s given (lines_of block.tree) (line + front_lines block.name))
    (subst (λ k. Keeps s (answer_demands s k block.answer) result) (relation_line_is s block line has preorder) (keeps list cells_are))
