-- The verdict on a block by its parts: the name, the tree, and the answer.
use Rattle.std.proofs.Common.{◌≡◌, ℕ, ◌+◌, List, ◌++◌, length, All, Option, Some, None, Result, Err, refl, sym, ap, arith}
use Rattle.std.proofs.lemmas.List.Elements.{All-nil}
use Rattle.pc_model.specs.CutTrees.{shape_of, IsInPreorder}
use Rattle.pc_cells_laws.proofs.Trees.{length-nodes}
use Rattle.pc_proof.specs.declared.answer.Answer.{Answer}
use Rattle.pc_proof.specs.declared.document.Block.{Block}
use Rattle.pc_proof.specs.declared.document.BlockTree.{BlockTree}
use Rattle.pc_proof.specs.declared.document.BlockTree.TheVariants as trees
use Rattle.pc_proof.specs.Setting.{Setting}
use Rattle.pc_proof.specs.Unbroken.{AllowsName}
use Rattle.pc_proof.specs.Counts.{tree_count, block_count}
use Rattle.pc_proof.specs.Demands.{Placed, Holds, TreeLines, Judges, allowed, name_demands, front_lines, cells_demands, tree_lines, relation_line, block_demands, next_line}
use Rattle.pc_proof.specs.Documents.{lines_of}
use Rattle.pc_proof.proofs.Parts.{one-holds}
use Rattle.pc_check_rules.specs.declared.halt.Halt.{Halt}
use Rattle.pc_check_rules.specs.Halts.{HaltsIn}
use Rattle.pc_check_rules.proofs.Verdicts.{stops, goes_on}
use Rattle.pc_check.specs.Blocks.{HasNodes}
use Rattle.pc_check.specs.Verdicts.{Keeps, answer_demands}

-- ---- lines

-- a tree of its own has a line for each node
tree_lines_are : (tree : BlockTree) (s : Setting) → HasNodes tree s.nodes → IsInPreorder s.nodes → tree_lines (lines_of tree) s ≡ tree_count tree
tree_lines_are (trees.Own t) s has preorder =
    let long = length-nodes (shape_of s.nodes) 0 in
    let same = ap length preorder in
    let own = ap length has in
    omega (arith, long, same, own)
tree_lines_are trees.Same s has preorder = refl

module _ (s : Setting) (block : Block) (line : ℕ) (has : HasNodes block.tree s.nodes) (preorder : IsInPreorder s.nodes) where
  pub relation_line_is : line + front_lines s.question.name + tree_count block.tree ≡ relation_line (lines_of block.tree) s line
  relation_line_is = ap (λ k. line + front_lines s.question.name + k) (sym (tree_lines_are block.tree s has preorder))

  pub next_line_is : s.question.name ≡ block.name → next_line (lines_of block.tree) s line block.answer ≡ line + block_count block
  next_line_is named = let front = ap front_lines named in let tree = tree_lines_are block.tree s has preorder in omega (arith, front, tree)

-- ---- verdicts

module _ (s : Setting) where
  abbrev IsAllowed : Type 0
  IsAllowed = AllowsName s.question.query.chosen s.question.query.group s.question.name

  name_held : (line : ℕ) (name : Option ℕ) → IsAllowed → All (Holds s) (name_demands line name)
  name_held line None held = All-nil (Holds s)
  name_held line (Some place) held = one-holds s (record { line = line + 1; rule = 2; demand = allowed }) held

module _ (s : Setting) (kind : TreeLines) (line : ℕ) (answer : Answer) (held : IsAllowed s) where
  abbrev names : List Placed
  names = name_demands line s.question.name

  abbrev tree : List Placed
  tree = cells_demands kind s (line + front_lines s.question.name)

  abbrev answered : List Placed
  answered = answer_demands s (relation_line kind s line) answer

  pub tree_broken : (halt : Halt) → HaltsIn s tree halt → Keeps s (block_demands kind s line answer) (Err halt)
  tree_broken halt broken = goes_on s names (tree ++ answered) {X = Unit {0}} (λ kept. Unit {0}) (Err halt) (name_held s line s.question.name held) (stops s tree answered halt broken)

  pub answer_judged : (result : Result (Unit {0}) Halt) → Judges s tree None → Keeps s answered result → Keeps s (block_demands kind s line answer) result
  answer_judged result settled judged =
      goes_on s names (tree ++ answered) {X = Unit {0}} (λ kept. Unit {0}) result (name_held s line s.question.name held) (goes_on s tree answered {X = Unit {0}} (λ kept. Unit {0}) result settled judged)
