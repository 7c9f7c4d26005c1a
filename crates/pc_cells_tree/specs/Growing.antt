-- What has grown, with the tree over a box behind it.
use Rattle.std.specs.Prelude.{◌≡◌, ℕ, ◌+◌, List, [], ◌∷◌, ◌++◌, length, slice_set}
use Rattle.pc_model.specs.declared.region.Region.{Region}
use Rattle.pc_model.specs.declared.area.Area.{Area}
use Rattle.pc_model.specs.declared.constraint.Constraint.{Constraint}
use Rattle.pc_model.specs.declared.tree.Cut.{Cut}
use Rattle.pc_model.specs.declared.tree.LeafMark.{LeafMark}
use Rattle.pc_model.specs.declared.tree.LeafMark.TheVariants.{Barren}
use Rattle.pc_model.specs.declared.tree.CutNode.TheVariants as nodes
use Rattle.pc_model.specs.CutTrees.{CutShape, nodes_from, leaves_of, HasProperCuts}
use Rattle.pc_model.specs.Cells.{AreSettled}
use Rattle.pc_cells_tree.specs.declared.growth.Growth.{Growth}

abbrev pub with_leaf : Growth → Region → LeafMark → Growth
with_leaf growth region mark = record {
  nodes = growth.nodes ++ nodes.Leaf mark ∷ [];
  leaves = growth.leaves ++ record { region = region; mark = mark } ∷ [];
}

-- with a place kept for a node whose parts are still to be grown
abbrev pub with_place : Growth → Growth
with_place growth = record { nodes = growth.nodes ++ nodes.Leaf Barren ∷ []; leaves = growth.leaves }

-- with a cut in a kept place, whose second part comes next
abbrev pub with_inner : Growth → ℕ → Cut → Growth
with_inner growth place cut = record {
  nodes = slice_set growth.nodes place (nodes.Inner cut (place + 1) (length growth.nodes));
  leaves = growth.leaves;
}

-- the nodes and leaves grew by those of a tree of proper cuts with settled leaves
pub record HasGrown (constraints : List Constraint) (chosen : Area) (part : Region) (before after : Growth) : Type 0 where
  pub shape : CutShape
  pub nodes_are : after.nodes ≡ before.nodes ++ nodes_from (length before.nodes) shape
  pub leaves_are : after.leaves ≡ before.leaves ++ leaves_of part shape
  pub proper : HasProperCuts part shape
  pub settled : AreSettled constraints chosen (leaves_of part shape)
