-- A walk from line to line of a tree of cuts: where it starts, what a line does to it, and what it has found at its end.
use Rattle.std.proofs.Common.{◌≡◌, ℕ, ◌+◌, ◌<◌, ◌≤◌, List, [], ◌∷◌, ◌++◌, length, drop, get_or, All, None, Ok, Err, refl, ap, ◌∙◌, sym, subst, arith, append-nil, length-drop}
use Rattle.std.specs.Prelude.{reverse}
use Rattle.std.proofs.lemmas.List.{drop_more, drop_all}
use Rattle.std.proofs.lemmas.List.Elements.{All-nil, All-cons, All-head}
use Rattle.pc_model.specs.declared.schema.Schema.{Schema}
use Rattle.pc_model.specs.declared.region.Region.{Region}
use Rattle.pc_model.specs.declared.area.Area.{Area}
use Rattle.pc_model.specs.declared.constraint.Constraint.{Constraint}
use Rattle.pc_model.specs.declared.tree.Cut.{Cut}
use Rattle.pc_model.specs.declared.tree.LeafMark.{LeafMark}
use Rattle.pc_model.specs.declared.tree.Leaf.{Leaf}
use Rattle.pc_model.specs.declared.tree.CutNode.{CutNode}
use Rattle.pc_model.specs.declared.tree.CutNode.TheVariants as nodes
use Rattle.pc_model.specs.Boxes.{IsAreaOf, IsServable}
use Rattle.pc_model.specs.Regions.{whole_region}
use Rattle.pc_model.specs.WellFormed.{IsWellFormed}
use Rattle.pc_model.specs.CutTrees.{CutShape, leaf, inner, size_of, nodes_from, shape_of, leaves_of, first_part, second_part, IsInPreorder}
use Rattle.pc_model.specs.Cells.{leaves_in}
use Rattle.pc_proof.specs.Demands.{Placed, Holds, cut_demands, Judges}
use Rattle.pc_check_rules.specs.declared.cuts.CutWalk.{CutWalk}
use Rattle.pc_check_rules.specs.declared.halt.Halt.TheVariants as halts
use Rattle.pc_check_rules.specs.CutLines.{IsComparable}
use Rattle.pc_check_rules.specs.Cuts.{cut_lines, IsCutFinding, rule_of_cut, IsKept, IsGathered, IsCutInTwo, HasMoved}
use Rattle.pc_check_rules.proofs.Comparable.{whole_comparable}
use Rattle.pc_check_rules.proofs.CutForest.{nodes_left, demands_left, leaves_left, IsCutWalk, at_leaf, at_cut, broken_line}
use Rattle.pc_check_rules.proofs.Loops.{reverse-push}

-- without trees there is nothing to do
no_demands : (line : ℕ) (parts : List Region) → demands_left line parts [] ≡ []
no_demands line [] = refl
no_demands line (part ∷ parts) = refl

no_leaves : (parts : List Region) → leaves_left parts [] ≡ []
no_leaves [] = refl
no_leaves (part ∷ parts) = refl

-- a tree has nodes
no_trees : (k : ℕ) (trees : List CutShape) → [] ≡ nodes_left k trees → trees ≡ []
no_trees k [] none = refl
no_trees k (leaf mark ∷ ts) none = let e : [] ≡ nodes.Leaf mark ∷ nodes_left (k + 1) ts = none in absurd cc
no_trees k (inner cut t u ∷ ts) none =
    let e : [] ≡ nodes.Inner cut (k + 1) (k + 1 + size_of t) ∷ ((nodes_from (k + 1) t ++ nodes_from (k + 1 + size_of t) u) ++ nodes_left (k + size_of (inner cut t u)) ts) = none in absurd cc

module _ (schema : Schema) (constraints : List Constraint) (area : Area) (list : List CutNode) (line : ℕ) where
  -- what the walk has before it, its boxes and what it found
  abbrev pub Stands : List CutNode → ℕ → ℕ → List Region → List Leaf → Type 0
  Stands left place at parts so_far = IsCutWalk constraints area (cut_lines line schema list) (leaves_in schema list) left place at parts so_far

  -- at a place, with the open boxes as the walk has them, the last one next
  abbrev pub IsAt : ℕ → List Region → List Leaf → Type 0
  IsAt place items so_far = Stands (drop place list) place (line + place) (reverse items) so_far

  -- .. and before a node, whose box was taken
  abbrev pub IsBefore : ℕ → CutNode → Region → CutWalk → Type 0
  IsBefore place node part walk = Stands (node ∷ drop (place + 1) list) place (line + place) (part ∷ reverse walk.parts.items) walk.leaves

  from_whole : IsWellFormed schema → All (IsServable schema) constraints → IsAreaOf schema area → IsInPreorder list → IsAt 0 (whole_region schema ∷ []) []
  from_whole formed servable is_area preorder =
      let t = shape_of list in
      let same : line + 0 ≡ line = omega arith in
      record {
        trees = t ∷ [];
        long = refl;
        left_are = preorder ∙ sym (append-nil (nodes_from 0 t));
        decides = λ s asked verdict judged. subst (λ (ds : List Placed). Judges s ds verdict)
            (append-nil (cut_demands (line + 0) (whole_region schema) t) ∙ ap (λ k. cut_demands k (whole_region schema) t) same) judged;
        gathered = sym (append-nil (leaves_of (whole_region schema) t));
        boxes = All-cons (IsComparable constraints area) (whole_region schema) [] (whole_comparable schema constraints area formed servable is_area) (All-nil (IsComparable constraints area));
      }

  pub walking-start : (walk : CutWalk) → IsWellFormed schema → All (IsServable schema) constraints → IsAreaOf schema area → IsInPreorder list
      → walk.parts.items ≡ whole_region schema ∷ [] → walk.leaves ≡ [] → IsAt 0 walk.parts.items walk.leaves
  walking-start walk formed servable is_area preorder parts leaves =
      subst (λ (items : List Region). IsAt 0 items walk.leaves) (sym parts)
      (subst (IsAt 0 (whole_region schema ∷ [])) (sym leaves) (from_whole formed servable is_area preorder))

  pub walking-here : (place : ℕ) (items : List Region) (walk : CutWalk) (part : Region) (node : CutNode) → place < length list → node ≡ get_or list place node
      → items ≡ walk.parts.items ++ part ∷ [] → IsAt place items walk.leaves → IsBefore place node part walk
  walking-here place items walk part node there is popped walking =
      let nodes_are : drop place list ≡ node ∷ drop (place + 1) list = drop_more list place node there ∙ ap (λ first. first ∷ drop (place + 1) list) (sym is) in
      let boxes : reverse items ≡ part ∷ reverse walk.parts.items = ap reverse popped ∙ reverse-push walk.parts.items part in
      subst (λ (parts : List Region). Stands (node ∷ drop (place + 1) list) place (line + place) parts walk.leaves) boxes
      (subst (λ (left : List CutNode). Stands left place (line + place) (reverse items) walk.leaves) nodes_are walking)

  -- the box that was taken can be compared
  pub walking-box : (place : ℕ) (walk : CutWalk) (part : Region) (node : CutNode) → IsBefore place node part walk → IsComparable constraints area part
  walking-box place walk part node walking = All-head (IsComparable constraints area) part (reverse walk.parts.items) walking.boxes

  -- there is a box while nodes are left
  pub walking-open : (place : ℕ) (items : List Region) (so_far : List Leaf) → place < length list → items ≡ [] → IsAt place items so_far → ⊥
  walking-open place items so_far there none walking =
      let closed : reverse items ≡ [] = ap reverse none in
      let short : length walking.trees ≡ 0 = walking.long ∙ ap length closed in
      by_trees walking.trees short walking.left_are
    where
      by_trees : (trees : List CutShape) → length trees ≡ 0 → drop place list ≡ nodes_left place trees → ⊥
      by_trees [] short left = let gone = ap length left in let some = length-drop place list in omega (arith, there)
      by_trees (t ∷ ts) short left = omega (arith, short)

  moved : (place : ℕ) (parts : List Region) (so_far : List Leaf) → Stands (drop (place + 1) list) (place + 1) (line + place + 1) parts so_far
      → Stands (drop (place + 1) list) (place + 1) (line + (place + 1)) parts so_far
  moved place parts so_far walking =
      let same : line + place + 1 ≡ line + (place + 1) = omega arith in
      subst (λ k. Stands (drop (place + 1) list) (place + 1) k parts so_far) same walking

  at_gathered : (place : ℕ) (walk after : CutWalk) (part : Region) (mark : LeafMark) → IsGathered part mark walk after
      → Stands (drop (place + 1) list) (place + 1) (line + place + 1) (reverse walk.parts.items) (walk.leaves ++ record { region = part; mark = mark } ∷ [])
      → IsAt (place + 1) after.parts.items after.leaves
  at_gathered place walk after part mark gathered walking =
      let found = walk.leaves ++ record { region = part; mark = mark } ∷ [] in
      subst (IsAt (place + 1) after.parts.items) (sym gathered.leaves)
      (subst (λ (items : List Region). IsAt (place + 1) items found) (sym gathered.parts) (moved place (reverse walk.parts.items) found walking))

  at_parts : (place : ℕ) (walk after : CutWalk) (part : Region) (cut : Cut) → IsCutInTwo part cut walk after
      → Stands (drop (place + 1) list) (place + 1) (line + place + 1) (first_part part cut ∷ second_part part cut ∷ reverse walk.parts.items) walk.leaves
      → IsAt (place + 1) after.parts.items after.leaves
  at_parts place walk after part cut parted walking =
      let items = walk.parts.items in
      let first = first_part part cut in
      let second = second_part part cut in
      let order : reverse after.parts.items ≡ first ∷ second ∷ reverse items
      = ap reverse parted.parts ∙ reverse-push (items ++ second ∷ []) first ∙ ap (λ (parts : List Region). first ∷ parts) (reverse-push items second) in
      subst (IsAt (place + 1) after.parts.items) (sym parted.leaves)
      (subst (λ (parts : List Region). Stands (drop (place + 1) list) (place + 1) (line + (place + 1)) parts walk.leaves) (sym order)
      (moved place (first ∷ second ∷ reverse items) walk.leaves walking))

  pub walking-on : (place : ℕ) (walk after : CutWalk) (part : Region) (node : CutNode) → IsBefore place node part walk → IsKept constraints area part node → HasMoved part node walk after
      → IsAt (place + 1) after.parts.items after.leaves
  walking-on place walk after part (nodes.Leaf mark) walking kept passed =
      at_gathered place walk after part mark passed
      (at_leaf constraints area (cut_lines line schema list) (leaves_in schema list) (drop (place + 1) list) place (line + place) part (reverse walk.parts.items) walk.leaves mark
      walking.trees (walking.long, walking.left_are, walking.decides, walking.gathered) walking.boxes kept)
  walking-on place walk after part (nodes.Inner cut one two) walking kept passed =
      at_parts place walk after part cut passed
      (at_cut constraints area (cut_lines line schema list) (leaves_in schema list) (drop (place + 1) list) place (line + place) part (reverse walk.parts.items) walk.leaves cut one two
      walking.trees (walking.long, walking.left_are, walking.decides, walking.gathered) walking.boxes kept)

  -- the line breaks its rule, and it is the first one
  pub walking-broken : (place : ℕ) (walk : CutWalk) (part : Region) (node : CutNode) (at rule : ℕ) → IsBefore place node part walk → (IsKept constraints area part node → ⊥)
      → at ≡ line + place → rule ≡ rule_of_cut node → IsCutFinding line schema constraints area list (Err (halts.Broken at rule))
  walking-broken place walk part node at rule walking broken at_is rule_is = λ s asked.
      rw (at_is, rule_is)
      (broken_line constraints area (cut_lines line schema list) (leaves_in schema list) (drop (place + 1) list) place (line + place) part (reverse walk.parts.items) walk.leaves node
      walking.trees (walking.long, walking.left_are, walking.decides, walking.gathered) broken s asked)

  pub walking-end : (place : ℕ) (items : List Region) (so_far : List Leaf) → length list ≤ place → IsAt place items so_far
      → IsCutFinding line schema constraints area list (Ok so_far)
  walking-end place items so_far past walking = λ s asked.
      let none : walking.trees ≡ [] = no_trees place walking.trees (sym (drop_all place list past) ∙ walking.left_are) in
      let demands = ap (demands_left (line + place) (reverse items)) none ∙ no_demands (line + place) (reverse items) in
      let leaves = ap (leaves_left (reverse items)) none ∙ no_leaves (reverse items) in (
        walking.decides s asked None (subst (All (Holds s)) (sym demands) (All-nil (Holds s))),
        sym (walking.gathered ∙ ap (λ (found : List Leaf). so_far ++ found) leaves ∙ append-nil so_far),
      )
