-- Settled trees: their classes are those of the rows that can be lost, and the boxes of a class hold its rows.
use Rattle.std.proofs.Common.{◌≡◌, ◌↔◌, true, List, Any, Contains}
use Rattle.pc_model.specs.declared.schema.Schema.{Schema}
use Rattle.pc_model.specs.declared.row.Row.{Row}
use Rattle.pc_model.specs.declared.region.Region.{Region}
use Rattle.pc_model.specs.declared.area.Area.{Area}
use Rattle.pc_model.specs.declared.constraint.Constraint.{Constraint}
use Rattle.pc_model.specs.declared.tree.CutNode.{CutNode}
use Rattle.pc_model.specs.Membership.{has}
use Rattle.pc_model.specs.WellFormed.{IsWellFormed}
use Rattle.pc_model.specs.CutTrees.{shape_of}
use Rattle.pc_model.specs.Cells.{Class, IsRowOf, HasRowOf, IsSettledTree, classes_of, boxes_of, leaves_in}
use Rattle.pc_cells_laws.proofs.LeafRows.{AreLeavesOf, classes-of_rows, rows-in_boxes}
use Rattle.pc_cells_laws.proofs.TreesDomain.{domain_covered, leaves_in_domain, domain_rows}

module _ (schema : Schema) (constraints : List Constraint) (chosen : Area) (nodes : List CutNode) (formed : IsWellFormed schema)
    (tree : IsSettledTree schema constraints chosen nodes) where
  settled_leaves : AreLeavesOf schema constraints chosen (leaves_in schema nodes)
  settled_leaves = record {
    covers = domain_covered schema (shape_of nodes) tree.proper;
    inside = leaves_in_domain schema (shape_of nodes) tree.proper;
    rows = domain_rows schema (shape_of nodes) tree.proper formed;
    settled = tree.settled;
  }

  pub classes_of_tree : (class : Class) → (Contains (classes_of (leaves_in schema nodes)) class ↔ HasRowOf schema constraints chosen class)
  classes_of_tree = classes-of_rows schema constraints chosen (leaves_in schema nodes) settled_leaves

  pub rows_of_tree : (class : Class) (row : Row) → (IsRowOf schema constraints chosen class row ↔ Any (λ (box : Region). has box row ≡ true) (boxes_of (leaves_in schema nodes) class))
  rows_of_tree = rows-in_boxes schema constraints chosen (leaves_in schema nodes) settled_leaves
