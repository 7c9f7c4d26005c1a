-- A tree that is cut on for one area after the other has no cut that none of them needs.
use Rattle.std.proofs.Common.{◌≡◌, ℕ, ◌<◌, ◌≤◌, ◌⊎◌, inl, inr, true≢false, List, length, map, get_or, Any, refl, sym, ap, subst, ◌∙◌, arith}
use Rattle.std.proofs.lemmas.Bool.{cases_lt}
use Rattle.std.proofs.lemmas.List.{get_or_past}
use Rattle.pc_model.specs.declared.schema.Schema.{Schema}
use Rattle.pc_model.specs.declared.constraint.Constraint.{Constraint}
use Rattle.pc_model.specs.declared.region.Region.{Region}
use Rattle.pc_model.specs.declared.area.Area.{Area}
use Rattle.pc_model.specs.declared.tree.Cut.{Cut}
use Rattle.pc_model.specs.declared.tree.CutNode.{CutNode}
use Rattle.pc_model.specs.declared.tree.CutNode.TheVariants as forms
use Rattle.pc_model.specs.declared.tree.LeafMark.TheVariants.{Barren}
use Rattle.pc_model.specs.CutTrees.{first_part, second_part}
use Rattle.pc_model.specs.Regions.{whole_region}
use Rattle.pc_cells_tree.specs.Decisions.{IsNeeded}
use Rattle.pc_cells_tree.specs.Linked.{AreBoxesOf, HasNeededCuts, IsCutInto, IsInnerNode, IsNodeAt, IsTree, KeepsInner, box_at, is_leaf_node, node_at}
use Rattle.pc_cells_tree.proofs.TreeLaws.{cut_at, each_node}
use Rattle.pc_group.specs.Trees.{HasCutsForBlocks, HasCutsForSome}
use Rattle.pc_group.specs.Wanted.{Wanted, area_of}

module _ (schema : Schema) (before after : List CutNode) (kept : KeepsInner before after) where
  -- the nodes of a tree keep their boxes as it is cut on
  boxes_stay : (old boxes : List Region) → AreBoxesOf (whole_region schema) before old → AreBoxesOf (whole_region schema) after boxes →
      (k : ℕ) → k < length before → box_at boxes k ≡ box_at old k
  boxes_stay old boxes was is =
      each_node (whole_region schema) before old was (λ k. box_at boxes k ≡ box_at old k) (is.root ∙ sym was.root)
      (λ k cut first second there inner same.
      let one = cut_at (whole_region schema) before old was k cut first second there inner in
      let stays : node_at after k ≡ forms.Inner cut first second = kept.same k there (subst IsInnerNode (sym inner) tt) ∙ inner in
      let two : IsCutInto boxes k cut first second = subst (IsNodeAt boxes k) stays (is.each k (omega (arith, there, kept.longer))) in
      (two.first_is ∙ ap (λ box. first_part box cut) same ∙ sym one.first_is, two.second_is ∙ ap (λ box. second_part box cut) same ∙ sym one.second_is))

  -- a node with a cut is one of the tree
  is_there : (k : ℕ) (cut : Cut) (first second : ℕ) → node_at before k ≡ forms.Inner cut first second → k < length before
  is_there k cut first second inner = by_place (cases_lt k (length before))
    where
      by_place : (k < length before) ⊎ (length before ≤ k) → k < length before
      by_place (inl inside) = inside
      by_place (inr past) = absurd (true≢false (ap is_leaf_node (sym (get_or_past before k (forms.Leaf Barren) past) ∙ inner)))

  module _ (constraints : List Constraint) (areas : List Area) (start : List CutNode) (tree : IsTree schema before) where
    -- an area more
    pub needed_more : (i : ℕ) (area : Area) → i < length areas → area ≡ get_or areas i area → HasNeededCuts schema constraints area before after →
        HasCutsForSome schema constraints areas start before → HasCutsForSome schema constraints areas start after
    needed_more i area inside is needed so_far boxes now k cut first second leaf inner = by_node (node_at before k) refl
      where
        by_node : (node : CutNode) → node_at before k ≡ node → Any (λ (other : Area). IsNeeded constraints other (box_at boxes k) cut) areas
        by_node (forms.Leaf mark) was = (i, area, inside, sym is, needed boxes now k cut first second (ap is_leaf_node was) inner)
        by_node (forms.Inner at one two) was =
            let there = is_there k at one two was in
            let same : node_at before k ≡ forms.Inner cut first second = sym (kept.same k there (subst IsInnerNode (sym was) tt)) ∙ inner in
            subst (λ (box : Region). Any (λ (other : Area). IsNeeded constraints other box cut) areas) (sym (boxes_stay tree.0 boxes tree.1 now k there))
            (so_far tree.0 tree.1 k cut first second leaf same)

-- the areas are those of the blocks
pub needed_for : (schema : Schema) (constraints : List Constraint) (before after : List CutNode) (blocks : List Wanted) (areas : List Area) → areas ≡ map area_of blocks →
    HasCutsForSome schema constraints areas before after → HasCutsForBlocks schema constraints blocks before after
needed_for schema constraints before after blocks areas is needed = subst (λ (all : List Area). HasCutsForSome schema constraints all before after) is needed

-- a tree that is not cut has no cut more
pub none_needed : (schema : Schema) (constraints : List Constraint) (areas : List Area) (nodes : List CutNode) → HasCutsForSome schema constraints areas nodes nodes
none_needed schema constraints areas nodes boxes is k cut first second leaf inner = absurd (true≢false (sym leaf ∙ ap is_leaf_node inner))
