-- The boxes of a tree, found by number: each inner node puts those of its parts into their places.
use Rattle.std.proofs.Common.{◌≡◌, ◌≢◌, ℕ, zero, suc, ◌+◌, ◌<◌, inl, inr, List, [], length, get_or, set, refl, sym, ◌∙◌, ap, subst, arith}
use Rattle.std.proofs.lemmas.Bool.{cases_lt, cases_eq}
use Rattle.std.proofs.lemmas.List.{ext_get_or, get_or_default, get_or-set_same, get_or-set_other, length-set}
use Rattle.pc_model.specs.declared.schema.Schema.{Schema}
use Rattle.pc_model.specs.declared.region.Region.{Region}
use Rattle.pc_model.specs.declared.tree.Cut.{Cut}
use Rattle.pc_model.specs.declared.tree.LeafMark.TheVariants.{Barren}
use Rattle.pc_model.specs.declared.tree.CutNode.{CutNode}
use Rattle.pc_model.specs.declared.tree.CutNode.TheVariants as forms
use Rattle.pc_model.specs.Regions.{whole_region}
use Rattle.pc_model.specs.WellFormed.{IsWellFormed}
use Rattle.pc_model.specs.CutTrees.{first_part, second_part}
use Rattle.pc_model.proofs.WholeDomain.{whole_is_region}
use Rattle.pc_box.specs.Boxes.{IsBox}
use Rattle.pc_box.specs.Cuts.{Divides}
use Rattle.pc_box.proofs.CutRows.{first_alike, second_alike}
use Rattle.pc_box.proofs.Likeness.{IsBox-from_alike}
use Rattle.pc_box.proofs.Proper.{Divides-from_proper}
use Rattle.pc_box.proofs.Schemas.{IsBox-from_schema}
use Rattle.pc_cells_tree.specs.Linked.{node_at, box_at, IsCutInto, IsParentOf, AreBoxesOf}
use Rattle.pc_cells_tree.specs.Refining.{boxes_with, IsCuttable, IsReachedBelow, AreBoxesBelow}
use Rattle.pc_cells_tree.proofs.TreeLaws.{each_node, cut_at}

module _ (whole : Region) (nodes : List CutNode) where
  pub filled_boxes : (all : List Region) → AreBoxesOf whole nodes all → IsBox whole → (k : ℕ) → k < length nodes → IsBox (box_at all k)
  filled_boxes all tree filled =
      each_node whole nodes all tree (λ k. IsBox (box_at all k)) (subst IsBox (sym tree.root) filled)
      (λ k cut first second inside e held. let is = cut_at whole nodes all tree k cut first second inside e in
      let divided = Divides-from_proper (box_at all k) cut is.proper in (
        IsBox-from_alike (box_at all k) (box_at all first) (first_alike (box_at all k) cut divided (box_at all first) held is.first_is),
        IsBox-from_alike (box_at all k) (box_at all second) (second_alike (box_at all k) cut divided (box_at all second) held is.second_is),
      ))

  -- each node is the root or a part of one before it
  reached_below : (all : List Region) → AreBoxesOf whole nodes all → (k : ℕ) → k < length nodes → IsReachedBelow nodes k k
  reached_below all tree zero inside = inl refl
  reached_below all tree (suc k) inside = inr (tree.reached (suc k) (omega arith) inside)

  pub root_found : (boxes : List Region) → length boxes ≡ length nodes → box_at boxes 0 ≡ whole → AreBoxesBelow whole nodes 0 boxes
  root_found boxes long root = record { long = long; found = only }
    where
      only : (all : List Region) → AreBoxesOf whole nodes all → (k : ℕ) → k < length nodes → IsReachedBelow nodes 0 k → box_at boxes k ≡ box_at all k
      only all tree k inside (inl same) = rw same (root ∙ sym tree.root)
      only all tree k inside (inr found) = absurd (omega (arith, found.1))

  module _ (place : ℕ) (boxes : List Region) (below : AreBoxesBelow whole nodes place boxes) (there : place < length nodes) where
    box_here : (all : List Region) → AreBoxesOf whole nodes all → box_at boxes place ≡ box_at all place
    box_here all tree = below.found all tree place there (reached_below all tree place there)

    -- a part of a node up to this one is a part of this one or of one before
    by_parent : (k parent : ℕ) (P : Type 0) → parent < place + 1 → IsParentOf k (node_at nodes parent) → (IsParentOf k (node_at nodes place) → P) → (IsReachedBelow nodes place k → P) → P
    by_parent k parent P upto is here earlier = elim (cases_lt parent place) [
      | inl less ↦ earlier (inr (parent, less, is))
      | inr more ↦ (let same : parent ≡ place = omega (arith, upto, more) in here (subst (λ i. IsParentOf k (node_at nodes i)) same is))
    ]

    -- ---- a leaf gives no box

    no_more : (node : CutNode) → node_at nodes place ≡ node → ((k : ℕ) → IsParentOf k node → ⊥) → AreBoxesBelow whole nodes (place + 1) boxes
    no_more node e none = record { long = below.long; found = more }
      where
        more : (all : List Region) → AreBoxesOf whole nodes all → (k : ℕ) → k < length nodes → IsReachedBelow nodes (place + 1) k → box_at boxes k ≡ box_at all k
        more all tree k inside (inl same) = below.found all tree k inside (inl same)
        more all tree k inside (inr found) =
            by_parent k found.0 (box_at boxes k ≡ box_at all k) found.1 found.2 (λ is. absurd (none k (subst (IsParentOf k) e is))) (below.found all tree k inside)

    -- ---- a cut gives two

    module _ (cut : Cut) (first second : ℕ) (e : node_at nodes place ≡ forms.Inner cut first second) where
      abbrev one : List Region
      one = set boxes first (first_part (box_at boxes place) cut)

      abbrev next : List Region
      next = set one second (second_part (box_at boxes place) cut)

      one_long : length one ≡ length nodes
      one_long = length-set boxes first (first_part (box_at boxes place) cut) ∙ below.long

      next_long : length next ≡ length nodes
      next_long = length-set one second (second_part (box_at boxes place) cut) ∙ one_long

      module _ (all : List Region) (tree : AreBoxesOf whole nodes all) where
        is : IsCutInto all place cut first second
        is = cut_at whole nodes all tree place cut first second there e

        first_same : box_at one first ≡ box_at all first
        first_same =
            get_or-set_same boxes first (first_part (box_at boxes place) cut) (record { sides = [] }) (omega (arith, is.first_there, tree.long, below.long))
            ∙ ap (λ box. first_part box cut) (box_here all tree) ∙ sym is.first_is

        second_same : box_at next second ≡ box_at all second
        second_same =
            get_or-set_same one second (second_part (box_at boxes place) cut) (record { sides = [] }) (omega (arith, is.second_there, tree.long, one_long))
            ∙ ap (λ box. second_part box cut) (box_here all tree) ∙ sym is.second_is

        part_or_known : (k : ℕ) → IsParentOf k (forms.Inner cut first second) → k ≢ first → k ≢ second → ⊥
        part_or_known k (inl same) not_first not_second = not_first same
        part_or_known k (inr same) not_first not_second = not_second same

        other_same : (k : ℕ) → k < length nodes → IsReachedBelow nodes (place + 1) k → k ≢ first → k ≢ second → box_at boxes k ≡ box_at all k
        other_same k inside (inl same) not_first not_second = below.found all tree k inside (inl same)
        other_same k inside (inr found) not_first not_second =
            by_parent k found.0 (box_at boxes k ≡ box_at all k) found.1 found.2 (λ part. absurd (part_or_known k (subst (IsParentOf k) e part) not_first not_second)) (below.found all tree k inside)

        next_same : (k : ℕ) → k < length nodes → IsReachedBelow nodes (place + 1) k → box_at next k ≡ box_at all k
        next_same k inside reached = elim (cases_eq k second) [
          | inl same ↦ rw same second_same
          | inr not_second ↦
              get_or-set_other one second k (second_part (box_at boxes place) cut) (record { sides = [] }) not_second
              ∙ elim (cases_eq k first) [
                | inl same ↦ rw same first_same
                | inr not_first ↦ get_or-set_other boxes first k (first_part (box_at boxes place) cut) (record { sides = [] }) not_first ∙ other_same k inside reached not_first not_second
              ]
        ]

      two_more : AreBoxesBelow whole nodes (place + 1) next
      two_more = record { long = next_long; found = next_same }

    by_node : (node : CutNode) → node_at nodes place ≡ node → AreBoxesBelow whole nodes (place + 1) (boxes_with boxes place node)
    by_node (forms.Leaf mark) e = no_more (forms.Leaf mark) e (λ k is. is)
    by_node (forms.Inner cut first second) e = two_more cut first second e

    cuttable : (all : List Region) → AreBoxesOf whole nodes all → IsBox whole → (node : CutNode) → node_at nodes place ≡ node → IsCuttable (box_at boxes place) (length boxes) node
    cuttable all tree filled (forms.Leaf mark) e = tt
    cuttable all tree filled (forms.Inner cut first second) e =
        let is = cut_at whole nodes all tree place cut first second there e in
        let same = box_here all tree in (
          subst IsBox (sym same) (filled_boxes all tree filled place there),
          subst (λ box. Divides box cut) (sym same) (Divides-from_proper (box_at all place) cut is.proper),
          omega (arith, is.first_there, tree.long, below.long),
          omega (arith, is.second_there, tree.long, below.long),
        )

    pub more_found : (later : List Region) (d : CutNode) → later ≡ boxes_with boxes place (get_or nodes place d) → AreBoxesBelow whole nodes (place + 1) later
    more_found later d e = subst (AreBoxesBelow whole nodes (place + 1)) (sym e) (by_node (get_or nodes place d) (get_or_default nodes place (forms.Leaf Barren) d there))

    pub is_cuttable : (all : List Region) → AreBoxesOf whole nodes all → IsBox whole → (d : CutNode) → IsCuttable (box_at boxes place) (length boxes) (get_or nodes place d)
    is_cuttable all tree filled d = cuttable all tree filled (get_or nodes place d) (get_or_default nodes place (forms.Leaf Barren) d there)

  pub all_found : (boxes all : List Region) → AreBoxesBelow whole nodes (length nodes) boxes → AreBoxesOf whole nodes all → AreBoxesOf whole nodes boxes
  all_found boxes all below tree = subst (AreBoxesOf whole nodes) (sym same) tree
    where
      reached : (k : ℕ) → k < length nodes → IsReachedBelow nodes (length nodes) k
      reached zero inside = inl refl
      reached (suc k) inside = let found = tree.reached (suc k) (omega arith) inside in inr (found.0, omega (arith, found.1, inside), found.2)

      same : boxes ≡ all
      same =
          ext_get_or (record { sides = [] }) boxes all (below.long ∙ sym tree.long)
          (λ k inside. let there : k < length nodes = omega (arith, inside, below.long) in below.found all tree k there (reached k there))

pub whole_filled : (schema : Schema) → IsWellFormed schema → IsBox (whole_region schema)
whole_filled schema formed = IsBox-from_schema schema (whole_region schema) (whole_is_region schema formed)
