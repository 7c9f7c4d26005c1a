-- What the pass leaves at its end.
use Rattle.std.proofs.Common.{◌≡◌, ℕ, ◌-◌, ◌*◌, ◌/◌, ◌≤◌, true, List, [], ◌∷◌, ◌++◌, length, get_or, All, refl, sym, ◌∙◌, subst, arith}
use Rattle.std.proofs.lemmas.List.{length-map}
use Rattle.pc_model.specs.declared.schema.Column.{Column}
use Rattle.pc_model.specs.declared.schema.Schema.{Schema}
use Rattle.pc_model.specs.declared.region.Region.{Region}
use Rattle.pc_model.specs.declared.area.Area.{Area}
use Rattle.pc_model.specs.declared.constraint.Constraint.{Constraint}
use Rattle.pc_model.specs.declared.tree.CutNode.{CutNode}
use Rattle.pc_model.specs.Boxes.{IsAreaOf, IsServable}
use Rattle.pc_model.specs.Membership.{has}
use Rattle.pc_model.specs.Regions.{whole_side, whole_region, whole_area}
use Rattle.pc_model.specs.WellFormed.{IsWellFormed}
use Rattle.pc_model.specs.CutTrees.{IsInsideArea}
use Rattle.pc_box.specs.Boxes.{IsAlikeToArea}
use Rattle.pc_box.proofs.Likeness.{as_many_sides}
use Rattle.pc_cells_tree.specs.declared.refine.Boxed.{Boxed}
use Rattle.pc_cells_tree.specs.Decisions.{IsComparable, IsNeeded}
use Rattle.pc_cells_tree.specs.Faces.{faces_for, IsSpentBy}
use Rattle.pc_cells_tree.specs.Linked.{node_at, box_at, AreBoxesOf, IsTree, AreDoneBelow, IsDone, IsDividedFor, HasKept, HasNeededCuts, IsSimple, IsFrugal, IsCutOn, leaf_count}
use Rattle.pc_cells_tree.specs.Refining.{IsRefining}
use Rattle.pc_cells_tree.proofs.Faces.{needed_spent, faces_most}
use Rattle.pc_cells_tree.proofs.Grown.{whole_comparable}
use Rattle.pc_cells_tree.proofs.Potentials.{leaf_sum-most}
use Rattle.pc_cells_tree.proofs.TreeLaws.{same_boxes, comparable_boxes}

pub start_comparable : (schema : Schema) (constraints : List Constraint) (chosen : Area) (nodes : List CutNode) (boxes : List Region) → IsWellFormed schema → All (IsServable schema) constraints →
    IsAreaOf schema chosen → AreBoxesOf (whole_region schema) nodes boxes → All (IsComparable constraints chosen) boxes
start_comparable schema constraints chosen nodes boxes formed servable side tree =
    comparable_boxes (whole_region schema) nodes boxes tree constraints chosen (whole_comparable schema constraints chosen (whole_region schema) formed servable side refl)

pub start_tree : (whole : Region) (nodes : List CutNode) (boxes : List Region) → AreBoxesOf whole nodes boxes → AreBoxesOf (box_at boxes 0) nodes boxes
start_tree whole nodes boxes tree = subst (λ part. AreBoxesOf part nodes boxes) (sym tree.root) tree

module _ (schema : Schema) (constraints : List Constraint) (chosen : Area) (start end : Boxed) (tree : AreBoxesOf (whole_region schema) start.nodes start.boxes)
    (is : IsRefining constraints chosen start end (length end.nodes)) where
  abbrev whole : Region
  whole = whole_region schema

  end_tree : AreBoxesOf whole end.nodes end.boxes
  end_tree = subst (λ part. AreBoxesOf part end.nodes end.boxes) tree.root is.tree

  tree_left : IsTree schema end.nodes
  tree_left = (end.boxes, end_tree)

  divided_left : IsDividedFor schema constraints chosen end.nodes
  divided_left boxes other = subst (λ found. AreDoneBelow constraints chosen end.nodes found (length end.nodes)) (same_boxes whole end.nodes end.boxes end_tree boxes other) is.done

  kept_left : HasKept schema constraints chosen start.nodes end.nodes
  kept_left = record {
    longer = is.longer;
    same = λ boxes other k old done.
        is.nodes_stay k old (subst (λ found. IsDone constraints chosen (box_at found k) (node_at start.nodes k)) (sym (same_boxes whole start.nodes start.boxes tree boxes other)) done);
  }

  needed_left : HasNeededCuts schema constraints chosen start.nodes end.nodes
  needed_left boxes other k cut first second leaf e =
      subst (λ found. IsNeeded constraints chosen (box_at found k) cut) (same_boxes whole end.nodes end.boxes end_tree boxes other) (is.needed k cut first second leaf e)

  -- ---- one more constraint

  abbrev columns : ℕ
  columns = length schema.columns

  -- half of the new nodes are cuts
  abbrev cuts : ℕ
  cuts = (length end.nodes - length start.nodes) / 2

  module _ (comparable : All (IsComparable constraints chosen) start.boxes) (rest : List Constraint) (last : Constraint) (more : constraints ≡ rest ++ last ∷ []) (simple : IsSimple last.when)
      (all : chosen ≡ whole_area schema) (divided : IsDividedFor schema rest chosen start.nodes) where
    spent : IsSpentBy rest constraints chosen (faces_for last)
    spent = subst (λ cs. IsSpentBy rest cs chosen (faces_for last)) (sym more) (needed_spent rest last chosen simple)

    few_faces : All (λ box. faces_for last box ≤ 4 * columns) start.boxes
    few_faces k d inside =
        let box = get_or start.boxes k d in
        let alike : IsAlikeToArea box (whole_area schema) = subst (IsAlikeToArea box) all (comparable k d inside).side in
        let sides : length box.sides ≡ columns =
        as_many_sides box.sides whole.sides (alike 0 whole (omega arith)) ∙ length-map schema.columns (λ (column : Column). whole_side column.kind) in
        omega (arith, faces_most last box, sides)

    whole_inside : IsInsideArea (box_at start.boxes 0) chosen
    whole_inside = subst (IsInsideArea (box_at start.boxes 0)) (sym all) (0, whole, omega arith, refl, λ row held. subst (λ (region : Region). has region row ≡ true) tree.root held)

    frugal_cuts : cuts ≤ 4 * columns * leaf_count start.nodes
    frugal_cuts =
        let most = leaf_sum-most (faces_for last) (4 * columns) start.nodes start.boxes few_faces in
        omega (arith, most, is.spent rest (faces_for last) spent (divided start.boxes tree) whole_inside, is.cuts.1)

  frugal_left : All (IsComparable constraints chosen) start.boxes → IsFrugal schema constraints chosen start.nodes cuts
  frugal_left comparable rest last more simple all divided = frugal_cuts comparable rest last more simple all divided

  pub cut_on : All (IsComparable constraints chosen) start.boxes → IsCutOn schema constraints chosen start.nodes end.nodes cuts
  cut_on comparable =
      record { tree = tree_left; divided = divided_left; kept = kept_left; cuts = omega (arith, is.cuts.1); needed = needed_left; frugal = frugal_left comparable }
