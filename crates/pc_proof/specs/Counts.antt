-- How many lines the text of each block of a document has.
use Rattle.std.specs.Prelude.{ℕ, ◌+◌, List, [], ◌∷◌, length}
use Rattle.pc_proof.specs.declared.document.Block.{Block}
use Rattle.pc_proof.specs.declared.document.BlockTree.{BlockTree}
use Rattle.pc_proof.specs.declared.document.BlockTree.TheVariants as trees
use Rattle.pc_proof.specs.Demands.{front_lines, relation_lines, lack_lines, ends_lines}

-- the line that says whose tree it is, and those of a tree of its own
abbrev pub tree_count : BlockTree → ℕ
tree_count (trees.Own tree) = 1 + length tree.nodes
tree_count trees.Same = 1

abbrev pub block_count : Block → ℕ
block_count block = front_lines block.name + tree_count block.tree + relation_lines block.answer.relation + lack_lines block.answer.lack + ends_lines block.answer.ends

abbrev pub blocks_count : List Block → ℕ
blocks_count [] = 0
blocks_count (block ∷ blocks) = block_count block + blocks_count blocks
