-- The trees of cuts that answers are over, and what they are divided for.
use Rattle.std.specs.Prelude.{⊤, List, []}
use Rattle.pc_model.specs.declared.schema.Schema.{Schema}
use Rattle.pc_cells_tree.specs.Linked.{IsTree}
use Rattle.pc_group.specs.Trees.{AreDividedFor}
use Rattle.pc_group.specs.Wanted.{Wanted, wanted_by}
use Rattle.pc_desk_answers.specs.declared.question.Question.{Question}
use Rattle.pc_desk_answers.specs.declared.question.Question.TheVariants.{Plain, Share}
use Rattle.pc_desk_answers.specs.declared.trees.Trees.{Trees}
use Rattle.pc_desk_answers.specs.Blocks.{Ground}

pub record AreTrees (schema : Schema) (trees : Trees) : Type 0 where
  pub constrained : IsTree schema trees.constrained.nodes
  pub whole : IsTree schema trees.whole.nodes

-- for these blocks, the one under the constraints and the other under none
pub record AreDivided (ground : Ground) (trees : Trees) (blocks : List Wanted) : Type 0 where
  pub constrained : AreDividedFor ground.schema ground.constraints trees.constrained.nodes blocks
  pub whole : AreDividedFor ground.schema [] trees.whole.nodes blocks

-- for the blocks that a question asks; a quantile asks none
abbrev pub IsDivided : Ground → Trees → Question → Type 0
IsDivided ground trees (Plain query) = AreDivided ground trees (wanted_by ground.schema query)
IsDivided ground trees (Share asked) = ⊤
