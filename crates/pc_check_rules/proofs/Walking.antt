-- A walk from line to line: where it starts, what a line does to it, and what it has found at its end.
use Rattle.std.proofs.Common.{◌≡◌, ℕ, ◌+◌, ◌<◌, ◌≤◌, ℤ, List, [], ◌∷◌, ◌++◌, length, drop, get_or, All, Option, Some, None, Ok, Err, refl, ap, ◌∙◌, sym, subst, arith, append-nil, length-drop}
use Rattle.std.proofs.lemmas.List.{drop_more, drop_all}
use Rattle.std.proofs.lemmas.List.Elements.{All-nil, All-cons, All-head}
use Rattle.pc_model.specs.declared.tree.TreeNode.{TreeNode}
use Rattle.pc_model.specs.declared.tree.TreeNode.TheVariants as nodes
use Rattle.pc_program_bound.specs.declared.program.Program.{Program}
use Rattle.pc_program_bound.specs.Allocation.{IsProgram}
use Rattle.pc_program_bound.specs.Bound.{bound_of}
use Rattle.pc_program_bound.specs.SplitTrees.{SplitTree, bound, void, split, size_of, nodes_from, tree_of, IsInPreorder, greater}
use Rattle.pc_proof.specs.Demands.{Placed, Holds, split_demands, Judges}
use Rattle.pc_check_rules.specs.declared.tree_line.Corner.{Corner}
use Rattle.pc_check_rules.specs.declared.tree_line.Finding.TheVariants as found
use Rattle.pc_check_rules.specs.declared.walk.Walk.{Walk}
use Rattle.pc_check_rules.specs.declared.halt.Halt.TheVariants as halts
use Rattle.pc_check_rules.specs.Lines.{IsOpen, IsFinding}
use Rattle.pc_check_rules.specs.Walk.{whole_demands, whole_bound, less_part, more_part, rule_number, at_root, in_less, with_bound, later_corners, corners_of, IsStanding, IsNext, HasLeft, HasCell, HasPassed, IsTreeFinding}
use Rattle.pc_check_rules.proofs.Corners.{root-open}
use Rattle.pc_check_rules.proofs.Forest.{nodes_left, demands_left, bound_left, IsWalking, greater-none, at_bound, at_void, at_split, broken_line}
use Rattle.pc_check_rules.proofs.Turns.{less-corners, less-stands}

abbrev root_of : Program → Corner
root_of p = record { floors = p.floor; caps = p.cap }

-- without trees there is nothing to do
no_demands : (line : ℕ) (p : Program) (corners : List Corner) → demands_left line p corners [] ≡ []
no_demands line p [] = refl
no_demands line p (corner ∷ corners) = refl

no_bound : (p : Program) (corners : List Corner) → bound_left p corners [] ≡ None
no_bound p [] = refl
no_bound p (corner ∷ corners) = refl

-- a tree has nodes
no_trees : (k : ℕ) (trees : List SplitTree) → [] ≡ nodes_left k trees → trees ≡ []
no_trees k [] none = refl
no_trees k (bound m ∷ ts) none = let e : [] ≡ nodes.Bound m ∷ nodes_left (k + 1) ts = none in absurd cc
no_trees k (void m ∷ ts) none = let e : [] ≡ nodes.Void m ∷ nodes_left (k + 1) ts = none in absurd cc
no_trees k (split cell at t u ∷ ts) none =
    let e : [] ≡ nodes.Split cell at (k + 1) (k + 1 + size_of t) ∷ ((nodes_from (k + 1) t ++ nodes_from (k + 1 + size_of t) u) ++ nodes_left (k + size_of (split cell at t u)) ts) = none in absurd cc

-- at a place, where the walk holds the next one of the open boxes, if there is one
pub record IsAt (p : Program) (list : List TreeNode) (line place : ℕ) (walk : Walk) : Type 0 where
  pub corners : List Corner
  pub walking : IsWalking p (whole_demands line p list) (whole_bound p list) (drop place list) place (line + place) corners walk.most
  pub next : IsNext corners walk
  pub stands : IsStanding walk

-- .. and before a node
pub record IsBefore (p : Program) (list : List TreeNode) (line place : ℕ) (node : TreeNode) (walk : Walk) : Type 0 where
  pub walking : IsWalking p (whole_demands line p list) (whole_bound p list) (node ∷ drop (place + 1) list) place (line + place) (corners_of walk) walk.most
  pub stands : IsStanding walk

module _ (p : Program) (list : List TreeNode) (line : ℕ) where
  abbrev Stands : List TreeNode → ℕ → ℕ → List Corner → Option ℤ → Type 0
  Stands left place at corners most = IsWalking p (whole_demands line p list) (whole_bound p list) left place at corners most

  from_root : IsProgram p → IsInPreorder list → IsAt p list line 0 (at_root p)
  from_root program preorder =
      let t = tree_of list in
      let same : line + 0 ≡ line = omega arith in
      record {
        corners = root_of p ∷ [];
        walking = record {
          trees = t ∷ [];
          long = refl;
          left_are = preorder ∙ sym (append-nil (nodes_from 0 t));
          decides = λ s verdict judged. subst (λ (ds : List Placed). Judges s ds verdict)
              (append-nil (split_demands (line + 0) p p.floor p.cap t) ∙ ap (λ k. split_demands k p p.floor p.cap t) same) judged;
          bounded = sym (greater-none (whole_bound p list));
          boxes = All-cons (IsOpen p) (root_of p) [] (root-open p program) (All-nil (IsOpen p));
        };
        next = refl;
        stands = record { paired = program.floors ∙ sym program.caps; cells = All-nil (HasCell (length p.cap)) };
      }

  pub walking-start : (walk : Walk) → IsProgram p → IsInPreorder list → walk ≡ at_root p → IsAt p list line 0 walk
  walking-start walk program preorder root = subst (IsAt p list line 0) (sym root) (from_root program preorder)

  -- there is a box while nodes are left
  no_corners : (place : ℕ) (most : Option ℤ) → place < length list → Stands (drop place list) place (line + place) [] most → ⊥
  no_corners place most there walking = by_trees walking.trees walking.long walking.left_are
    where
      by_trees : (trees : List SplitTree) → length trees ≡ 0 → drop place list ≡ nodes_left place trees → ⊥
      by_trees [] short left = let gone = ap length left in let some = length-drop place list in omega (arith, there)
      by_trees (t ∷ ts) short left = omega (arith, short)

  in_order : (place : ℕ) (corners : List Corner) (walk : Walk) → place < length list → Stands (drop place list) place (line + place) corners walk.most → IsNext corners walk
      → Stands (drop place list) place (line + place) (corners_of walk) walk.most
  in_order place [] walk there walking next = absurd (no_corners place walk.most there walking)
  in_order place (corner ∷ corners) walk there walking next =
      subst (λ (order : List Corner). Stands (drop place list) place (line + place) order walk.most) (sym next) walking

  pub walking-here : (place : ℕ) (walk : Walk) (node : TreeNode) → place < length list → node ≡ get_or list place node → IsAt p list line place walk → IsBefore p list line place node walk
  walking-here place walk node there is before =
      let nodes_are : drop place list ≡ node ∷ drop (place + 1) list = drop_more list place node there ∙ ap (λ first. first ∷ drop (place + 1) list) (sym is) in
      record {
        walking = subst (λ (left : List TreeNode). Stands left place (line + place) (corners_of walk) walk.most) nodes_are
            (in_order place before.corners walk there before.walking before.next);
        stands = before.stands;
      }

  -- the box of the walk is open
  pub walking-box : (place : ℕ) (walk : Walk) (node : TreeNode) → IsBefore p list line place node walk → IsOpen p walk.corner
  walking-box place walk node before = All-head (IsOpen p) walk.corner (later_corners walk) before.walking.boxes

  moved : (place : ℕ) (corners : List Corner) (most : Option ℤ) → Stands (drop (place + 1) list) (place + 1) (line + place + 1) corners most
      → Stands (drop (place + 1) list) (place + 1) (line + (place + 1)) corners most
  moved place corners most walking =
      let same : line + place + 1 ≡ line + (place + 1) = omega arith in
      subst (λ k. Stands (drop (place + 1) list) (place + 1) k corners most) same walking

  at_past : (place : ℕ) (walk after : Walk) (b : Option ℤ) → HasLeft (with_bound walk b) after
      → Stands (drop (place + 1) list) (place + 1) (line + place + 1) (later_corners walk) (greater walk.most b) → IsAt p list line (place + 1) after
  at_past place walk after b left walking = record {
    corners = later_corners walk;
    walking = subst (Stands (drop (place + 1) list) (place + 1) (line + (place + 1)) (later_corners walk)) (sym left.most)
        (moved place (later_corners walk) (greater walk.most b) walking);
    next = left.next;
    stands = left.stands;
  }

  at_entered : (place : ℕ) (walk : Walk) (cell at : ℕ) → cell < length walk.corner.caps → IsStanding walk
      → Stands (drop (place + 1) list) (place + 1) (line + place + 1) (less_part walk.corner cell at ∷ more_part walk.corner cell at ∷ later_corners walk) walk.most
      → IsAt p list line (place + 1) (in_less walk cell at)
  at_entered place walk cell at there stands walking =
      let less = less_part walk.corner cell at in
      let more = more_part walk.corner cell at in
      record {
        corners = less ∷ more ∷ later_corners walk;
        walking = moved place (less ∷ more ∷ later_corners walk) walk.most walking;
        next = ap (λ (corners : List Corner). less ∷ corners) (less-corners walk cell at);
        stands = less-stands walk cell at there stands;
      }

  pub walking-on : (place : ℕ) (walk after : Walk) (node : TreeNode) → IsBefore p list line place node walk → HasPassed p walk node after → IsAt p list line (place + 1) after
  walking-on place walk after (nodes.Bound m) before passed =
      let walking = before.walking in
      at_past place walk after (Some (bound_of p walk.corner.floors walk.corner.caps m)) passed.1
      (at_bound p (whole_demands line p list) (whole_bound p list) (drop (place + 1) list) place (line + place) walk.corner (later_corners walk) walk.most m
      walking.trees (walking.long, walking.left_are, walking.decides, walking.bounded) walking.boxes passed.0)
  walking-on place walk after (nodes.Void m) before passed =
      let walking = before.walking in
      at_past place walk after None passed.1
      (at_void p (whole_demands line p list) (whole_bound p list) (drop (place + 1) list) place (line + place) walk.corner (later_corners walk) walk.most m
      walking.trees (walking.long, walking.left_are, walking.decides, walking.bounded) walking.boxes passed.0)
  walking-on place walk after (nodes.Split cell at less more) before passed =
      let walking = before.walking in
      let open_box = walking-box place walk (nodes.Split cell at less more) before in
      let there : cell < length walk.corner.caps = rw open_box.sized_caps passed.0.0 in
      subst (IsAt p list line (place + 1)) (sym passed.1)
      (at_entered place walk cell at there before.stands
      (at_split p (whole_demands line p list) (whole_bound p list) (drop (place + 1) list) place (line + place) walk.corner (later_corners walk) walk.most cell at less more
      walking.trees (walking.long, walking.left_are, walking.decides, walking.bounded) walking.boxes passed.0))

  -- the line breaks its rule, and it is the first one
  pub walking-broken : (place : ℕ) (walk : Walk) (node : TreeNode) (at rule : ℕ) → IsBefore p list line place node walk → IsFinding p walk.corner node found.Broken
      → at ≡ line + place → rule ≡ rule_number node → IsTreeFinding line p list (Err (halts.Broken at rule))
  walking-broken place walk node at rule before broken at_is rule_is =
      let walking = before.walking in
      λ s. rw (at_is, rule_is)
      (broken_line p (whole_demands line p list) (whole_bound p list) (drop (place + 1) list) place (line + place) walk.corner (later_corners walk) walk.most node
      walking.trees (walking.long, walking.left_are, walking.decides, walking.bounded) broken s)

  pub walking-end : (place : ℕ) (walk : Walk) → length list ≤ place → IsAt p list line place walk → IsTreeFinding line p list (Ok walk.most)
  walking-end place walk past there = λ s.
      let walking = there.walking in
      let none : walking.trees ≡ [] = no_trees place walking.trees (sym (drop_all place list past) ∙ walking.left_are) in
      let demands = ap (demands_left (line + place) p there.corners) none ∙ no_demands (line + place) p there.corners in
      let bounds = ap (bound_left p there.corners) none ∙ no_bound p there.corners in (
        walking.decides s None (subst (All (Holds s)) (sym demands) (All-nil (Holds s))),
        sym (walking.bounded ∙ ap (greater walk.most) bounds ∙ greater-none walk.most),
      )
