-- Trees that grow over a box and its parts, and over the whole domain.
use Rattle.std.proofs.Common.{◌≡◌, ℕ, ◌+◌, true, List, [], ◌∷◌, ◌++◌, length, set, All, refl, sym, ap, arith, append_assoc}
use Rattle.std.proofs.lemmas.List.{length-append, length-set, length-map, set_at}
use Rattle.std.proofs.lemmas.List.Elements.{All-nil, All-cons, All-append}
use Rattle.pc_model.specs.declared.schema.Column.{Column}
use Rattle.pc_model.specs.declared.schema.Schema.{Schema}
use Rattle.pc_model.specs.declared.region.Region.{Region}
use Rattle.pc_model.specs.declared.area.Area.{Area}
use Rattle.pc_model.specs.declared.constraint.Constraint.{Constraint}
use Rattle.pc_model.specs.declared.tree.Cut.{Cut}
use Rattle.pc_model.specs.declared.tree.LeafMark.{LeafMark}
use Rattle.pc_model.specs.declared.tree.LeafMark.TheVariants.{Barren}
use Rattle.pc_model.specs.declared.tree.CutNode.{CutNode}
use Rattle.pc_model.specs.declared.tree.CutNode.TheVariants as nodes
use Rattle.pc_model.specs.Boxes.{IsAreaOf, IsServable}
use Rattle.pc_model.specs.Regions.{whole_side, whole_region, is_region_of}
use Rattle.pc_model.specs.WellFormed.{IsWellFormed}
use Rattle.pc_model.specs.CutTrees.{CutShape, leaf, inner, size_of, nodes_from, shape_of, leaves_of, first_part, second_part}
use Rattle.pc_model.specs.Cells.{IsSettled, IsSettledAs, IsSettledTree, leaves_in}
use Rattle.pc_box.specs.Boxes.{AreAlike, IsBox}
use Rattle.pc_box.specs.Cuts.{Divides}
use Rattle.pc_box.proofs.CutRows.{first_alike, second_alike, IsProper-from_divides}
use Rattle.pc_box.proofs.Likeness.{as_many_sides, AreAlike-turned, AreAlike-through}
use Rattle.pc_box.proofs.Schemas.{AreAlike-from_schema}
use Rattle.pc_box.proofs.AlikeAreas.{IsAlikeToArea-from_schema, all_alike-from_schema, IsAlikeToArea-through, all_alike-through}
use Rattle.pc_cells_tree.specs.declared.growth.Growth.{Growth}
use Rattle.pc_cells_tree.specs.Decisions.{IsComparable}
use Rattle.pc_cells_tree.specs.Growing.{HasGrown, with_leaf, with_place, with_inner}
use Rattle.pc_cells_tree.specs.Straight.{AreNeeded}
use Rattle.pc_cells_tree.specs.Walking.{HasCutsAt}
use Rattle.pc_cells_laws.proofs.Trees.{shape_of-nodes, length-nodes}
use Rattle.pc_model.proofs.FewNames.{have_few_names}
use Rattle.pc_model.proofs.WholeDomain.{whole_is_region}

module _ (constraints : List Constraint) (chosen : Area) where
  -- ---- boxes

  -- a part is compared as the box is
  part_comparable : (part piece : Region) → IsComparable constraints chosen part → AreAlike part piece → IsComparable constraints chosen piece
  part_comparable part piece fits alike = record {
    few = omega (arith, as_many_sides part.sides piece.sides alike, fits.few);
    filled = AreAlike-through piece part piece (AreAlike-turned part piece alike) alike;
    each = all_alike-through part piece alike constraints fits.each;
    side = IsAlikeToArea-through part piece alike chosen fits.side;
  }

  pub first_comparable : (part piece : Region) (cut : Cut) → IsComparable constraints chosen part → Divides part cut → piece ≡ first_part part cut → IsComparable constraints chosen piece
  first_comparable part piece cut fits divided e = part_comparable part piece fits (first_alike part cut divided piece fits.filled e)

  pub second_comparable : (part piece : Region) (cut : Cut) → IsComparable constraints chosen part → Divides part cut → piece ≡ second_part part cut → IsComparable constraints chosen piece
  second_comparable part piece cut fits divided e = part_comparable part piece fits (second_alike part cut divided piece fits.filled e)

  -- ---- growing

  unfoldable pub grown-leaf : (part : Region) (before : Growth) (mark : LeafMark) → IsSettledAs constraints chosen part mark → HasGrown constraints chosen part before (with_leaf before part mark)
  grown-leaf part before mark settled = record {
    shape = leaf mark;
    nodes_are = refl;
    leaves_are = refl;
    proper = tt;
    settled = All-cons (IsSettled constraints chosen) (record { region = part; mark = mark }) [] settled (All-nil (IsSettled constraints chosen));
  }

  set_behind : (before middle piece : List CutNode) (x y : CutNode) → middle ≡ (before ++ x ∷ []) ++ piece → set middle (length before) y ≡ before ++ y ∷ piece
  set_behind before middle piece x y e = rw (e, append_assoc before (x ∷ []) piece) (set_at before x piece y (length before) refl)

  -- the nodes of both parts behind the cut are those of the tree
  pub spelled : (before middle after : List CutNode) (x : CutNode) (cut : Cut) (t u : CutShape) (pushed patched : ℕ) → pushed ≡ length before + 1 → patched ≡ length middle →
      middle ≡ (before ++ x ∷ []) ++ nodes_from pushed t → after ≡ set middle (length before) (nodes.Inner cut (length before + 1) (length middle)) ++ nodes_from patched u →
      after ≡ before ++ nodes_from (length before) (inner cut t u)
  spelled before middle after x cut t u pushed patched pushed_is patched_is middle_is after_is =
      let size : length middle ≡ length before + 1 + size_of t =
      omega (arith, ap length middle_is, length-append (before ++ x ∷ []) (nodes_from pushed t), length-append before (x ∷ []), length-nodes t pushed) in
      let y = nodes.Inner cut (length before + 1) (length middle) in
      let kept : set middle (length before) y ≡ before ++ y ∷ nodes_from pushed t = set_behind before middle (nodes_from pushed t) x y middle_is in
      rw (after_is, kept, patched_is, size, pushed_is) (append_assoc before (nodes.Inner cut (length before + 1) (length before + 1 + size_of t) ∷ nodes_from (length before + 1) t) (nodes_from (length before + 1 + size_of t) u))

  module _ (part : Region) (cut : Cut) (before middle after : Growth) (filled : IsBox part) (divided : Divides part cut)
      (first : HasGrown constraints chosen (first_part part cut) (with_place before) middle)
      (second : HasGrown constraints chosen (second_part part cut) (with_inner middle (length before.nodes) cut) after) where
    unfoldable pub grown-inner : HasGrown constraints chosen part before after
    grown-inner = record {
      shape = inner cut first.shape second.shape;
      nodes_are =
          spelled before.nodes middle.nodes after.nodes (nodes.Leaf Barren) cut first.shape second.shape (length (with_place before).nodes) (length (with_inner middle (length before.nodes) cut).nodes)
          (length-append before.nodes (nodes.Leaf Barren ∷ [])) (length-set middle.nodes (length before.nodes) (nodes.Inner cut (length before.nodes + 1) (length middle.nodes)))
          first.nodes_are second.nodes_are;
      leaves_are = rw (second.leaves_are, first.leaves_are) (append_assoc before.leaves (leaves_of (first_part part cut) first.shape) (leaves_of (second_part part cut) second.shape));
      proper = (IsProper-from_divides part cut divided filled, first.proper, second.proper);
      settled = All-append (IsSettled constraints chosen) (leaves_of (first_part part cut) first.shape) (leaves_of (second_part part cut) second.shape) first.settled second.settled;
    }

-- ---- the whole domain

pub whole_comparable : (schema : Schema) (constraints : List Constraint) (chosen : Area) (whole : Region) → IsWellFormed schema → All (IsServable schema) constraints → IsAreaOf schema chosen →
    whole ≡ whole_region schema → IsComparable constraints chosen whole
whole_comparable schema constraints chosen whole formed servable side e =
    let region : is_region_of schema whole ≡ true = rw e (whole_is_region schema formed) in
    record {
      few = rw e (omega (arith, length-map schema.columns (λ (column : Column). whole_side column.kind), formed.columns.few));
      filled = AreAlike-from_schema schema whole whole region region;
      each = all_alike-from_schema schema whole region constraints servable;
      side = IsAlikeToArea-from_schema schema whole region chosen side;
    }

module _ (schema : Schema) (constraints : List Constraint) (chosen : Area) (whole : Region) (none growth : Growth) (is_whole : whole ≡ whole_region schema) (no_nodes : none.nodes ≡ []) (no_leaves : none.leaves ≡ [])
    (grown : HasGrown constraints chosen whole none growth) where
  all_nodes : growth.nodes ≡ nodes_from 0 grown.shape
  all_nodes = rw (grown.nodes_are, no_nodes) refl

  shape_is : shape_of growth.nodes ≡ grown.shape
  shape_is = rw all_nodes (shape_of-nodes grown.shape 0)

  pub settled_tree : IsSettledTree schema constraints chosen growth.nodes
  settled_tree = record {
    preorder = rw shape_is all_nodes;
    proper = rw (shape_is, sym is_whole) grown.proper;
    settled = rw (shape_is, sym is_whole) grown.settled;
  }

  pub same_cuts : (linked : List CutNode) → HasCutsAt linked 0 grown.shape → HasCutsAt linked 0 (shape_of growth.nodes)
  same_cuts linked cuts = rw shape_is cuts

  pub needed_cuts : AreNeeded constraints chosen whole grown.shape → AreNeeded constraints chosen (whole_region schema) (shape_of growth.nodes)
  needed_cuts needed = rw (shape_is, sym is_whole) needed

  pub all_leaves : growth.leaves ≡ leaves_in schema growth.nodes
  all_leaves = rw (shape_is, sym is_whole, grown.leaves_are, no_leaves) refl

pub ruleset whole = (have_few_names)
