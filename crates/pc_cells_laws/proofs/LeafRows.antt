-- Settled leaves over the whole domain: their classes are those of the rows that can be lost, and the boxes
-- of a class hold its rows.
use Rattle.std.proofs.Common.{◌≡◌, ◌↔◌, ◌&&◌, true, List, All, Any, Contains, sym, subst, ◌∙◌}
use Rattle.std.proofs.lemmas.Bool.{and_parts, and_from}
use Rattle.std.proofs.lemmas.List.Elements.{All-contains}
use Rattle.std.proofs.lemmas.List.Folds.{Any-from_list_any, list_any-from_Any}
use Rattle.pc_model.specs.declared.schema.Schema.{Schema}
use Rattle.pc_model.specs.declared.row.Row.{Row}
use Rattle.pc_model.specs.declared.region.Region.{Region}
use Rattle.pc_model.specs.declared.area.Area.{Area}
use Rattle.pc_model.specs.declared.constraint.Constraint.{Constraint}
use Rattle.pc_model.specs.declared.tree.Leaf.{Leaf}
use Rattle.pc_model.specs.Membership.{has, in_domain}
use Rattle.pc_model.specs.CutTrees.{HasRow}
use Rattle.pc_model.specs.Cells.{Class, class_of, IsLawful, IsRowOf, HasRowOf, IsSettled, AreSettled, is_leaf_of, classes_of, boxes_of}
use Rattle.pc_cells_laws.proofs.Classes.{settled_class, row_of_mark}
use Rattle.pc_cells_laws.proofs.Cells.{classes_of-listed, leaf_of_listed, boxes_of-any}

-- ---- one settled leaf

pub class_of_leaf : (constraints : List Constraint) (chosen : Area) (leaf : Leaf) (row : Row) → IsSettled constraints chosen leaf → has leaf.region row ≡ true →
    IsLawful constraints row → is_leaf_of (class_of constraints chosen row) leaf ≡ true
class_of_leaf constraints chosen leaf row settled held lawful = settled_class constraints chosen leaf.region leaf.mark row settled held lawful

pub row_of_leaf : (schema : Schema) (constraints : List Constraint) (chosen : Area) (class : Class) (leaf : Leaf) (row : Row) → IsSettled constraints chosen leaf →
    is_leaf_of class leaf ≡ true → in_domain schema row ≡ true → has leaf.region row ≡ true → IsRowOf schema constraints chosen class row
row_of_leaf schema constraints chosen class leaf row settled marked allowed held = row_of_mark constraints chosen leaf.region schema class leaf.mark row settled marked allowed held

-- ---- settled leaves that have a row each and cover the domain

pub record AreLeavesOf (schema : Schema) (constraints : List Constraint) (chosen : Area) (leaves : List Leaf) : Type 0 where
  pub covers : (row : Row) → in_domain schema row ≡ true → Any (λ (leaf : Leaf). has leaf.region row ≡ true) leaves
  pub inside : All (λ (leaf : Leaf). (row : Row) → has leaf.region row ≡ true → in_domain schema row ≡ true) leaves
  pub rows : All (λ (leaf : Leaf). HasRow leaf.region) leaves
  pub settled : AreSettled constraints chosen leaves

module _ (schema : Schema) (constraints : List Constraint) (chosen : Area) (leaves : List Leaf) (given : AreLeavesOf schema constraints chosen leaves) where
  -- a row of a class is in a leaf of the class
  leaf_of_row : (class : Class) (row : Row) → IsRowOf schema constraints chosen class row → Any (λ (leaf : Leaf). (is_leaf_of class leaf && has leaf.region row) ≡ true) leaves
  leaf_of_row class row lost =
      let found = given.covers row lost.allowed in
      let leaf = found.1 in
      let settled = All-contains (IsSettled constraints chosen) leaves leaf given.settled (found.0, found.2, found.3) in
      let marked = subst (λ (other : Class). is_leaf_of other leaf ≡ true) lost.of_class (class_of_leaf constraints chosen leaf row settled found.4 lost.lawful) in
      (found.0, leaf, found.2, found.3, and_from (is_leaf_of class leaf) (has leaf.region row) marked found.4)

  -- and each row of such a leaf is one of the class
  row_in_leaf : (class : Class) (leaf : Leaf) (row : Row) → Contains leaves leaf → is_leaf_of class leaf ≡ true → has leaf.region row ≡ true → IsRowOf schema constraints chosen class row
  row_in_leaf class leaf row listed marked held =
      let settled = All-contains (IsSettled constraints chosen) leaves leaf given.settled listed in
      let allowed = All-contains (λ (l : Leaf). (r : Row) → has l.region r ≡ true → in_domain schema r ≡ true) leaves leaf given.inside listed row held in
      row_of_leaf schema constraints chosen class leaf row settled marked allowed held

  pub classes-of_rows : (class : Class) → (Contains (classes_of leaves) class ↔ HasRowOf schema constraints chosen class)
  classes-of_rows class = (row_of_listed, listed_of_row)
    where
      row_of_listed : Contains (classes_of leaves) class → HasRowOf schema constraints chosen class
      row_of_listed listed =
          let found = leaf_of_listed leaves class listed in
          let place : Contains leaves found.1 = (found.0, found.2, found.3) in
          let some = All-contains (λ (leaf : Leaf). HasRow leaf.region) leaves found.1 given.rows place in
          (some.0, row_in_leaf class found.1 some.0 place found.4 some.1)

      listed_of_row : HasRowOf schema constraints chosen class → Contains (classes_of leaves) class
      listed_of_row lost =
          let found = leaf_of_row class lost.0 lost.1 in
          classes_of-listed leaves class (found.0, found.1, found.2, found.3, (and_parts (is_leaf_of class found.1) (has found.1.region lost.0) found.4).0)

  pub rows-in_boxes : (class : Class) (row : Row) → (IsRowOf schema constraints chosen class row ↔ Any (λ (box : Region). has box row ≡ true) (boxes_of leaves class))
  rows-in_boxes class row = (held_by_box, row_of_box)
    where
      held_by_box : IsRowOf schema constraints chosen class row → Any (λ (box : Region). has box row ≡ true) (boxes_of leaves class)
      held_by_box lost =
          let found = list_any-from_Any (λ (leaf : Leaf). is_leaf_of class leaf && has leaf.region row) leaves (leaf_of_row class row lost) in
          Any-from_list_any (λ (box : Region). has box row) (boxes_of leaves class) (boxes_of-any (λ (box : Region). has box row) leaves class ∙ found)

      row_of_box : Any (λ (box : Region). has box row ≡ true) (boxes_of leaves class) → IsRowOf schema constraints chosen class row
      row_of_box held =
          let some = list_any-from_Any (λ (box : Region). has box row) (boxes_of leaves class) held in
          let found = Any-from_list_any (λ (leaf : Leaf). is_leaf_of class leaf && has leaf.region row) leaves (sym (boxes_of-any (λ (box : Region). has box row) leaves class) ∙ some) in
          let parts = and_parts (is_leaf_of class found.1) (has found.1.region row) found.4 in
          row_in_leaf class found.1 row (found.0, found.2, found.3) parts.0 parts.1
