-- The tree of one leaf, whose multipliers are 0.
use Rattle.std.specs.Prelude.{ℕ, pos, [], ◌∷◌, replicate}
use Rattle.pc_model.specs.declared.tree.Tree.{Tree}
use Rattle.pc_model.specs.declared.tree.TreeNode.TheVariants.{Bound}

abbrev pub flat_tree : ℕ → Tree
flat_tree constraints = record { nodes = Bound (record { by = replicate constraints (pos 0); den = pos 1 }) ∷ [] }
