-- What holds of all nodes of a tree, by number.
use Rattle.std.proofs.Common.{◌≡◌, ℕ, zero, suc, ◌<◌, ◌⊎◌, inl, inr, true, List, [], length, All, refl, sym, ◌∙◌, ap, subst, true≢false, arith}
use Rattle.std.proofs.lemmas.Bool.{and_parts}
use Rattle.std.proofs.lemmas.List.{ext_get_or, get_or_default}
use Rattle.pc_model.specs.declared.schema.Schema.{Schema}
use Rattle.pc_model.specs.declared.region.Region.{Region}
use Rattle.pc_model.specs.declared.area.Area.{Area}
use Rattle.pc_model.specs.declared.constraint.Constraint.{Constraint}
use Rattle.pc_model.specs.declared.tree.Cut.{Cut}
use Rattle.pc_model.specs.declared.tree.CutNode.{CutNode}
use Rattle.pc_model.specs.declared.tree.CutNode.TheVariants as forms
use Rattle.pc_model.specs.Membership.{has}
use Rattle.pc_model.specs.Regions.{whole_region}
use Rattle.pc_model.specs.CutTrees.{IsInside, first_part, second_part}
use Rattle.pc_box.specs.Cuts.{is_first, Divides}
use Rattle.pc_box.proofs.CutRows.{first_rows, second_rows}
use Rattle.pc_box.proofs.Proper.{Divides-from_proper}
use Rattle.pc_cells_tree.specs.Decisions.{IsComparable, CanBeSettled}
use Rattle.pc_cells_tree.specs.Linked.{node_at, box_at, IsCutInto, IsNodeAt, IsParentOf, AreBoxesOf, IsTree, IsDone, AreDoneBelow, IsDividedFor, HasKept, IsInnerNode, KeepsInner, is_leaf_node}
use Rattle.pc_cells_tree.proofs.Grown.{first_comparable, second_comparable}
use Rattle.pc_cells_tree.proofs.Inner.{keeps_inner}
use Rattle.pc_cells_tree.proofs.Parts.{parts_can_be_settled}

-- ---- parts

pub first_inside : (box part : Region) (cut : Cut) → Divides box cut → part ≡ first_part box cut → IsInside part box
first_inside box part cut divided e row held = (and_parts (has box row) (is_first cut row) (sym (first_rows box cut divided part e row) ∙ held)).0

pub second_inside : (box part : Region) (cut : Cut) → Divides box cut → part ≡ second_part box cut → IsInside part box
second_inside box part cut divided e row held = (and_parts (has box row) _ (sym (second_rows box cut divided part e row) ∙ held)).0

-- ---- one tree

module _ (whole : Region) (nodes : List CutNode) (boxes : List Region) (tree : AreBoxesOf whole nodes boxes) where
  -- the cut of an inner node
  pub cut_at : (k : ℕ) (cut : Cut) (first second : ℕ) → k < length nodes → node_at nodes k ≡ forms.Inner cut first second → IsCutInto boxes k cut first second
  cut_at k cut first second inside e = subst (IsNodeAt boxes k) e (tree.each k inside)

  abbrev Passes : (ℕ → Type 0) → Type 0
  Passes P = (k : ℕ) (cut : Cut) (first second : ℕ) → k < length nodes → node_at nodes k ≡ forms.Inner cut first second → P k → P first × P second

  by_parent : (P : ℕ → Type 0) (parent k : ℕ) (node : CutNode) → Passes P → parent < length nodes → node_at nodes parent ≡ node → IsParentOf k node → P parent → P k
  by_parent P parent k (forms.Leaf mark) passes inside e is held = absurd is
  by_parent P parent k (forms.Inner cut first second) passes inside e (inl same) held = subst P (sym same) (passes parent cut first second inside e held).0
  by_parent P parent k (forms.Inner cut first second) passes inside e (inr same) held = subst P (sym same) (passes parent cut first second inside e held).1

  by_fuel : (P : ℕ → Type 0) → P 0 → Passes P → (fuel k : ℕ) → k < fuel → k < length nodes → P k
  by_fuel P root passes zero k less inside = absurd (omega arith)
  by_fuel P root passes (suc fuel) zero less inside = root
  by_fuel P root passes (suc fuel) (suc k) less inside =
      let found = tree.reached (suc k) (omega arith) inside in
      by_parent P found.0 (suc k) (node_at nodes found.0) passes (omega (arith, found.1, inside)) refl found.2
      (by_fuel P root passes fuel found.0 (omega (arith, found.1, less)) (omega (arith, found.1, inside)))

  -- what holds of the root and passes from a node that is cut to its parts holds of all
  pub each_node : (P : ℕ → Type 0) → P 0 → Passes P → (k : ℕ) → k < length nodes → P k
  each_node P root passes k inside = by_fuel P root passes (suc k) k (omega arith) inside

  pub same_boxes : (others : List Region) → AreBoxesOf whole nodes others → boxes ≡ others
  same_boxes others other =
      ext_get_or (record { sides = [] }) boxes others (tree.long ∙ sym other.long)
      (λ k inside. each_node (λ i. box_at boxes i ≡ box_at others i) (tree.root ∙ sym other.root)
      (λ i cut first second there e same. let one = cut_at i cut first second there e in
      let two : IsCutInto others i cut first second = subst (IsNodeAt others i) e (other.each i there) in
      (one.first_is ∙ ap (λ box. first_part box cut) same ∙ sym two.first_is, one.second_is ∙ ap (λ box. second_part box cut) same ∙ sym two.second_is)) k
      (omega (arith, inside, tree.long)))

  -- ---- boxes within the whole

  pub inside_whole : (k : ℕ) → k < length nodes → IsInside (box_at boxes k) whole
  inside_whole =
      each_node (λ k. IsInside (box_at boxes k) whole) (subst (λ box. IsInside box whole) (sym tree.root) (λ row held. held))
      (λ k cut first second there e inner. let is = cut_at k cut first second there e in
      let divided = Divides-from_proper (box_at boxes k) cut is.proper in (
        λ row held. inner row (first_inside (box_at boxes k) (box_at boxes first) cut divided is.first_is row held),
        λ row held. inner row (second_inside (box_at boxes k) (box_at boxes second) cut divided is.second_is row held),
      ))

  pub comparable_boxes : (constraints : List Constraint) (chosen : Area) → IsComparable constraints chosen whole → All (IsComparable constraints chosen) boxes
  comparable_boxes constraints chosen fits k d inside =
      subst (IsComparable constraints chosen) (get_or_default boxes k (record { sides = [] }) d inside)
      (each_node (λ i. IsComparable constraints chosen (box_at boxes i)) (subst (IsComparable constraints chosen) (sym tree.root) fits)
      (λ i cut first second there e held. let is = cut_at i cut first second there e in
      let divided = Divides-from_proper (box_at boxes i) cut is.proper in (
        first_comparable constraints chosen (box_at boxes i) (box_at boxes first) cut held divided is.first_is,
        second_comparable constraints chosen (box_at boxes i) (box_at boxes second) cut held divided is.second_is,
      )) k (omega (arith, inside, tree.long)))

-- ---- nodes that are done

pub done_by : (constraints : List Constraint) (chosen : Area) (box : Region) (node : CutNode) → CanBeSettled constraints chosen box → IsDone constraints chosen box node
done_by constraints chosen box (forms.Leaf mark) settled = settled
done_by constraints chosen box (forms.Inner cut first second) settled = tt

pub leaf_done : (constraints : List Constraint) (chosen : Area) (box : Region) (node : CutNode) → is_leaf_node node ≡ true → IsDone constraints chosen box node → CanBeSettled constraints chosen box
leaf_done constraints chosen box (forms.Leaf mark) leaf done = done
leaf_done constraints chosen box (forms.Inner cut first second) leaf done = absurd (true≢false (sym leaf))

-- ---- a tree whose inner nodes stay

module _ (schema : Schema) (others : List Constraint) (other : Area) (before after : List CutNode) (boxes_before boxes : List Region)
    (old : AreBoxesOf (whole_region schema) before boxes_before) (tree : AreBoxesOf (whole_region schema) after boxes) (kept : KeepsInner before after)
    (divided : IsDividedFor schema others other before) where
  -- a box that can be settled, or that of an old node
  abbrev IsKnown : ℕ → Type 0
  IsKnown k = CanBeSettled others other (box_at boxes k) ⊎ ((k < length before) × (box_at boxes k ≡ box_at boxes_before k))

  -- an old leaf can be settled
  old_leaf : (k : ℕ) → k < length before → box_at boxes k ≡ box_at boxes_before k → is_leaf_node (node_at before k) ≡ true → CanBeSettled others other (box_at boxes k)
  old_leaf k there same leaf =
      subst (CanBeSettled others other) (sym same) (leaf_done others other (box_at boxes_before k) (node_at before k) leaf (divided boxes_before old k there))

  -- .. and an old cut stays
  old_cut : (k : ℕ) → k < length before → (cut : Cut) (first second : ℕ) → node_at before k ≡ forms.Inner cut first second → node_at after k ≡ forms.Inner cut first second
  old_cut k there cut first second e = kept.same k there (subst IsInnerNode (sym e) tt) ∙ e

  settled_parts : (k : ℕ) (cut : Cut) (first second : ℕ) → IsCutInto boxes k cut first second → CanBeSettled others other (box_at boxes k) → IsKnown first × IsKnown second
  settled_parts k cut first second is settled =
      let cut_apart = Divides-from_proper (box_at boxes k) cut is.proper in (
        inl (parts_can_be_settled others other (box_at boxes k) (box_at boxes first) settled (first_inside (box_at boxes k) (box_at boxes first) cut cut_apart is.first_is)),
        inl (parts_can_be_settled others other (box_at boxes k) (box_at boxes second) settled (second_inside (box_at boxes k) (box_at boxes second) cut cut_apart is.second_is)),
      )

  old_parts : (k : ℕ) (cut : Cut) (first second : ℕ) (node : CutNode) → node_at before k ≡ node → node_at after k ≡ forms.Inner cut first second → IsCutInto boxes k cut first second → k < length before →
      box_at boxes k ≡ box_at boxes_before k → IsKnown first × IsKnown second
  old_parts k cut first second (forms.Leaf mark) e now is there same = settled_parts k cut first second is (old_leaf k there same (ap is_leaf_node e))
  old_parts k cut first second (forms.Inner at one two) e now is there same =
      let was : node_at before k ≡ forms.Inner cut first second = e ∙ sym (old_cut k there at one two e) ∙ now in
      let before_is = cut_at (whole_region schema) before boxes_before old k cut first second there was in (
        inr (omega (arith, before_is.first_there, old.long), is.first_is ∙ ap (λ box. first_part box cut) same ∙ sym before_is.first_is),
        inr (omega (arith, before_is.second_there, old.long), is.second_is ∙ ap (λ box. second_part box cut) same ∙ sym before_is.second_is),
      )

  known_parts : (k : ℕ) (cut : Cut) (first second : ℕ) → k < length after → node_at after k ≡ forms.Inner cut first second → IsKnown k → IsKnown first × IsKnown second
  known_parts k cut first second inside e (inl settled) = settled_parts k cut first second (cut_at (whole_region schema) after boxes tree k cut first second inside e) settled
  known_parts k cut first second inside e (inr is) =
      old_parts k cut first second (node_at before k) refl e (cut_at (whole_region schema) after boxes tree k cut first second inside e) is.0 is.1

  known_done : (k : ℕ) (node : CutNode) → node_at before k ≡ node → IsKnown k → IsDone others other (box_at boxes k) (node_at after k)
  known_done k node e (inl settled) = done_by others other (box_at boxes k) (node_at after k) settled
  known_done k (forms.Leaf mark) e (inr is) = done_by others other (box_at boxes k) (node_at after k) (old_leaf k is.0 is.1 (ap is_leaf_node e))
  known_done k (forms.Inner cut first second) e (inr is) = subst (IsDone others other (box_at boxes k)) (sym (old_cut k is.0 cut first second e)) tt

  still_done : AreDoneBelow others other after boxes (length after)
  still_done k inside =
      known_done k (node_at before k) refl (each_node (whole_region schema) after boxes tree IsKnown (inr (old.some, tree.root ∙ sym old.root)) known_parts k inside)

pub kept_stays_divided : (schema : Schema) (others : List Constraint) (other : Area) (before after : List CutNode) → IsTree schema before →
    KeepsInner before after → IsDividedFor schema others other before → IsDividedFor schema others other after
kept_stays_divided schema others other before after old kept divided boxes tree = still_done schema others other before after old.0 boxes old.1 tree kept divided

-- so does one that was cut on for others
pub refined_stays_divided : (schema : Schema) (constraints others : List Constraint) (chosen other : Area) (before after : List CutNode) → IsTree schema before →
    HasKept schema constraints chosen before after → IsDividedFor schema others other before → IsDividedFor schema others other after
refined_stays_divided schema constraints others chosen other before after old kept divided =
    kept_stays_divided schema others other before after old (keeps_inner schema constraints chosen before after old kept) divided
