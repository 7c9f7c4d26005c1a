use Rattle.std.proofs.Common.{sym, ◌∙◌, subst}
use Rattle.pc_model.specs.declared.tree.LeafMark.TheVariants.{Barren}
use Rattle.pc_cells_tree.specs.Linked.{IsTree}
use Rattle.pc_cells_tree.proofs.OwnCuts.{one_leaf_own}
use Rattle.pc_cells_tree.proofs.Starts.{one_leaf_is_tree}
use Rattle.pc_cells.proofs.shared.Shared.new.Goals as goal

pub returns-clause-tree : goal.returns-clause-tree
returns-clause-tree c = subst (IsTree c.args.schema.now) (sym (c.from_vec.ensures ∙ c.in_ok-vec.ensures.items)) (one_leaf_is_tree c.args.schema.now c.requires.well_formed)

pub returns-clause-own : goal.returns-clause-own
returns-clause-own c = one_leaf_own c.args.schema.now c.from_vec.result Barren (c.from_vec.ensures ∙ c.in_ok-vec.ensures.items)
