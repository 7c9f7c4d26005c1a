-- What the queries of a call are asked over, and what its blocks owe.
use Rattle.std.specs.Prelude.{◌≡◌, ◌≤◌, ◌*◌, List, ◌++◌, length, nat_abs, All}
use Rattle.std.specs.List.{AllZip}
use Rattle.pc_num.specs.Scaled.{greatest_size}
use Rattle.pc_model.specs.declared.row.Row.{Row}
use Rattle.pc_model.specs.declared.query.Folded.{Folded}
use Rattle.pc_model.specs.Accepted.{AreConstraints}
use Rattle.pc_model.specs.Folds.{IsFold}
use Rattle.pc_model.specs.WellFormed.{IsWellFormed}
use Rattle.pc_cells_tree.specs.Linked.{IsTree}
use Rattle.pc_group.specs.declared.scope.Scope.{Scope}
use Rattle.pc_group.specs.declared.blocks.Written.{Written}
use Rattle.pc_group.specs.Answers.{AnswersWanted}
use Rattle.pc_group.specs.Trees.{AreDividedFor}
use Rattle.pc_group.specs.Wanted.{Wanted}
use Rattle.pc_group.specs.Written.{AreBlocksOf}

pub record IsScope (p : Scope) : Type 0 where
  pub formed : IsWellFormed p.schema.now
  pub limited : AreConstraints p.schema.now p.constraints.now
  pub budget : (1 ≤ p.nodes) × (p.nodes ≤ 100_000)
  pub tree : IsTree p.schema.now p.shared.now.nodes

-- the tree is divided for the blocks
abbrev pub IsDivided : Scope → List Wanted → Type 0
IsDivided p blocks = AreDividedFor p.schema.now p.constraints.now p.shared.now.nodes blocks

-- what is written is the blocks, each right of these observed rows
abbrev pub HasBlocks : Scope → List Row → List Wanted → Written → Type 0
HasBlocks p observed = AreBlocksOf (AnswersWanted p.nodes p.schema.now observed p.constraints.now) p.shared.now.nodes

-- what the observed rows come to for each block
abbrev pub AreFolds : List Wanted → List Row → List Folded → Type 0
AreFolds blocks observed folds = AllZip (λ (w : Wanted) (folded : Folded). IsFold w.query w.name observed folded) blocks folds

-- one for each block, and none of more rows than a file has
pub record AreFoldsFor (blocks : List Wanted) (folds : List Folded) : Type 0 where
  pub even : length folds ≡ length blocks
  pub few : All (λ (folded : Folded). folded.count ≤ 1_000_000) folds
  pub small : All (λ (folded : Folded). nat_abs folded.sum ≤ 1_000_000 * greatest_size) folds

-- these blocks stand behind those that were written
abbrev pub AddsBlocks : Scope → List Row → Written → List Wanted → Written → Type 0
AddsBlocks p observed written new more = (blocks : List Wanted) → HasBlocks p observed blocks written → HasBlocks p observed (blocks ++ new) more
