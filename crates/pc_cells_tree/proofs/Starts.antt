-- A tree before its first cut.
use Rattle.std.proofs.Common.{ℕ, zero, suc, ◌<◌, [], ◌∷◌, length, refl, arith}
use Rattle.pc_model.specs.declared.schema.Schema.{Schema}
use Rattle.pc_model.specs.declared.region.Region.{Region}
use Rattle.pc_model.specs.declared.tree.LeafMark.TheVariants.{Barren}
use Rattle.pc_model.specs.declared.tree.CutNode.TheVariants.{Leaf}
use Rattle.pc_model.specs.Regions.{whole_region}
use Rattle.pc_model.specs.WellFormed.{IsWellFormed}
use Rattle.pc_cells_tree.specs.Linked.{node_at, IsNodeAt, AreBoxesOf, IsTree}

one_leaf_has_boxes : (whole : Region) → AreBoxesOf whole (Leaf Barren ∷ []) (whole ∷ [])
one_leaf_has_boxes whole = record { some = omega arith; long = refl; root = refl; each = by_number; reached = λ k above inside. absurd (omega arith) }
  where
    by_number : (k : ℕ) → k < length (Leaf Barren ∷ []) → IsNodeAt (whole ∷ []) k (node_at (Leaf Barren ∷ []) k)
    by_number zero inside = refl
    by_number (suc k) inside = absurd (omega arith)

pub one_leaf_is_tree : (schema : Schema) → IsWellFormed schema → IsTree schema (Leaf Barren ∷ [])
one_leaf_is_tree schema formed = (whole_region schema ∷ [], one_leaf_has_boxes (whole_region schema))
