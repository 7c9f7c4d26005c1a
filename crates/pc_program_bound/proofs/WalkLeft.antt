-- What a walk has found and what is left of it give the whole bound.
use Rattle.std.proofs.Common.{◌≡◌, ℕ, ◌+◌, ◌<◌, ◌≤◌, List, [], ◌∷◌, length, drop, get_or, Option, Some, None, refl, ap, ◌∙◌, sym, subst, arith}
use Rattle.std.specs.Prelude.{ℤ, All}
use Rattle.std.specs.Int.{int_max}
use Rattle.std.proofs.lemmas.Int.{ints, clamps}
use Rattle.std.proofs.lemmas.List.{drop_more}
use Rattle.std.proofs.lemmas.List.Elements.{All-nil, All-head, All-tail}
use Rattle.pc_model.specs.declared.tree.TreeNode.{TreeNode}
use Rattle.pc_model.specs.declared.tree.TreeNode.TheVariants as nodes
use Rattle.pc_program_bound.specs.declared.program.Program.{Program}
use Rattle.pc_program_bound.specs.Sums.{nat_at}
use Rattle.pc_program_bound.specs.Allocation.{IsProgram}
use Rattle.pc_program_bound.specs.Bound.{bound_of}
use Rattle.pc_program_bound.specs.SplitTrees.{SplitTree, joined, trees_of, tree_of, bound_by, greater, Proves, IsInPreorder, less_caps, more_floors}
use Rattle.pc_program_bound.specs.declared.walk.Walk.{Walk}
use Rattle.pc_program_bound.specs.Walk.{HasFitNumbers, at_root, in_less, with_bound, Box, boxes_of, later_boxes, HasCell, IsNext, HasLeft, IsAt, HasPassed, HaveParts, ProveOver, bound_over, IsWalking}
use Rattle.pc_program_bound.proofs.WalkParts.{whole_box, less_box, more_box, preorder-parts, preorder-tree}
use Rattle.pc_program_bound.proofs.WalkSteps.{less-boxes, less-stands}

-- ---- the greater of bounds

greater-none : (a : Option ℤ) → greater a None ≡ a
greater-none None = refl
greater-none (Some x) = refl

greater-assoc : (a b c : Option ℤ) → greater (greater a b) c ≡ greater a (greater b c)
greater-assoc None b c = refl
greater-assoc (Some x) None c = refl
greater-assoc (Some x) (Some y) None = refl
greater-assoc (Some x) (Some y) (Some z) =
    let same : int_max (int_max x y) z ≡ int_max x (int_max y z) = omega (arith, ints, clamps) in ap Some same

-- ---- the boxes that come next

next-proves : (p : Program) (ts : List SplitTree) (boxes : List Box) (w : Walk) → IsNext boxes w → ProveOver p ts boxes → ProveOver p ts (boxes_of w)
next-proves p [] boxes w next proves = tt
next-proves p (t ∷ ts) [] w next proves = absurd proves
next-proves p (t ∷ ts) (box ∷ boxes) w next proves = subst (ProveOver p (t ∷ ts)) (sym next) proves

next-bound : (p : Program) (ts : List SplitTree) (boxes : List Box) (w : Walk) → IsNext boxes w → ProveOver p ts boxes
    → bound_over p ts boxes ≡ bound_over p ts (boxes_of w)
next-bound p [] boxes w next proves = refl
next-bound p (t ∷ ts) [] w next proves = absurd proves
next-bound p (t ∷ ts) (box ∷ boxes) w next proves = ap (bound_over p (t ∷ ts)) (sym next)

-- the trees that are left when a leaf is
after-leaf : (p : Program) (whole : Option ℤ) (before after : Walk) (rest : List TreeNode) → HasLeft before after → HaveParts rest
    → All HasFitNumbers rest → ProveOver p (trees_of rest) (later_boxes before) → whole ≡ greater before.most (bound_over p (trees_of rest) (later_boxes before))
    → IsWalking p whole after rest
after-leaf p whole before after rest left parts fits proves bounded = record {
  stands = left.stands;
  parts = parts;
  fits = fits;
  proves = next-proves p (trees_of rest) (later_boxes before) after left.boxes proves;
  bounded = bounded ∙ ap (λ most. greater most (bound_over p (trees_of rest) (later_boxes before))) (sym left.most)
      ∙ ap (greater after.most) (next-bound p (trees_of rest) (later_boxes before) after left.boxes proves);
}

-- ---- the two parts of a split

split-there : (p : Program) (box : Box) (boxes : List Box) (ts : List SplitTree) (cell at : ℕ) → 2 ≤ length ts → ProveOver p (joined cell at ts) (box ∷ boxes)
    → (cell < length box.caps) × (at < nat_at box.caps cell)
split-there p box boxes [] cell at two proves = absurd (omega (arith, two))
split-there p box boxes (t ∷ []) cell at two proves = absurd (omega (arith, two))
split-there p box boxes (t ∷ u ∷ ts) cell at two proves = (rw proves.0.sized_caps proves.1.0, proves.1.2)

split-proves : (p : Program) (box : Box) (boxes : List Box) (ts : List SplitTree) (cell at : ℕ) → 2 ≤ length ts → ProveOver p (joined cell at ts) (box ∷ boxes)
    → ProveOver p ts (record { floors = box.floors; caps = less_caps box.caps cell at } ∷ record { floors = more_floors box.floors cell at; caps = box.caps } ∷ boxes)
split-proves p box boxes [] cell at two proves = absurd (omega (arith, two))
split-proves p box boxes (t ∷ []) cell at two proves = absurd (omega (arith, two))
split-proves p box boxes (t ∷ u ∷ ts) cell at two proves =
    let here = proves.1 in (
      less_box p box.floors box.caps cell at proves.0 here.1 here.2,
      here.3,
      (more_box p box.floors box.caps cell at proves.0 here.1 here.2, here.4, proves.2),
    )

split-bound : (p : Program) (box : Box) (boxes : List Box) (ts : List SplitTree) (cell at : ℕ) → 2 ≤ length ts
    → bound_over p (joined cell at ts) (box ∷ boxes)
    ≡ bound_over p ts (record { floors = box.floors; caps = less_caps box.caps cell at } ∷ record { floors = more_floors box.floors cell at; caps = box.caps } ∷ boxes)
split-bound p box boxes [] cell at two = absurd (omega (arith, two))
split-bound p box boxes (t ∷ []) cell at two = absurd (omega (arith, two))
split-bound p box boxes (t ∷ u ∷ ts) cell at two =
    greater-assoc (bound_by p box.floors (less_caps box.caps cell at) t) (bound_by p (more_floors box.floors cell at) box.caps u) (bound_over p ts boxes)

-- ---- the walk

pub walking-start : (p : Program) (list : List TreeNode) (w : Walk) → IsProgram p → IsInPreorder list → Proves p p.floor p.cap (tree_of list)
    → All HasFitNumbers list → w ≡ at_root p → IsWalking p (bound_by p p.floor p.cap (tree_of list)) w list
walking-start p list w program preorder proves fits root =
    let tree = preorder-tree list preorder in
    let walking : IsWalking p (bound_by p p.floor p.cap (tree_of list)) (at_root p) list = record {
      stands = record { paired = program.floors ∙ sym program.caps; cells = All-nil (HasCell (length p.cap)) };
      parts = preorder-parts list preorder;
      fits = fits;
      proves = subst (λ ts. ProveOver p ts (boxes_of (at_root p))) (sym tree) (whole_box p program, proves, tt);
      bounded = sym (ap (λ ts. bound_over p ts (boxes_of (at_root p))) tree ∙ greater-none (bound_by p p.floor p.cap (tree_of list)));
    } in
    subst (λ walk. IsWalking p (bound_by p p.floor p.cap (tree_of list)) walk list) (sym root) walking

-- the node at the place of the walk is the first of those that are left
pub walking-here : (p : Program) (whole : Option ℤ) (w : Walk) (list : List TreeNode) (place : ℕ) (node : TreeNode) → place < length list
    → node ≡ get_or list place node → IsWalking p whole w (drop place list) → IsWalking p whole w (node ∷ drop (place + 1) list)
walking-here p whole w list place node there is walking =
    subst (IsWalking p whole w) (drop_more list place node there ∙ ap (λ first. first ∷ drop (place + 1) list) (sym is)) walking

pub walking-at : (p : Program) (whole : Option ℤ) (w : Walk) (node : TreeNode) (rest : List TreeNode) → IsWalking p whole w (node ∷ rest) → IsAt p w node
walking-at p whole w (nodes.Split cell at less more) rest walking =
    split-there p (record { floors = w.floors; caps = w.caps }) (later_boxes w) (trees_of rest) cell at walking.parts.0 walking.proves
walking-at p whole w (nodes.Bound m) rest walking = (walking.proves.0, walking.proves.1, All-head HasFitNumbers (nodes.Bound m) rest walking.fits)
walking-at p whole w (nodes.Void m) rest walking = tt

pub walking-on : (p : Program) (whole : Option ℤ) (w after : Walk) (node : TreeNode) (rest : List TreeNode) → IsWalking p whole w (node ∷ rest)
    → HasPassed p w node after → IsWalking p whole after rest
walking-on p whole w after (nodes.Split cell at less more) rest walking passed =
    let box : Box = record { floors = w.floors; caps = w.caps } in
    let there = split-there p box (later_boxes w) (trees_of rest) cell at walking.parts.0 walking.proves in
    let boxes = ap (λ boxes. record { floors = w.floors; caps = less_caps w.caps cell at } ∷ boxes) (less-boxes w cell at) in
    let entered : IsWalking p whole (in_less w cell at) rest = record {
      stands = less-stands w cell at there.0 walking.stands;
      parts = walking.parts.1;
      fits = All-tail HasFitNumbers (nodes.Split cell at less more) rest walking.fits;
      proves = subst (ProveOver p (trees_of rest)) (sym boxes) (split-proves p box (later_boxes w) (trees_of rest) cell at walking.parts.0 walking.proves);
      bounded = walking.bounded
          ∙ ap (greater w.most) (split-bound p box (later_boxes w) (trees_of rest) cell at walking.parts.0 ∙ ap (bound_over p (trees_of rest)) (sym boxes));
    } in
    subst (λ walk. IsWalking p whole walk rest) (sym passed) entered
walking-on p whole w after (nodes.Bound m) rest walking passed =
    after-leaf p whole (with_bound p w m) after rest passed walking.parts (All-tail HasFitNumbers (nodes.Bound m) rest walking.fits) walking.proves.2
    (walking.bounded ∙ sym (greater-assoc w.most (Some (bound_of p w.floors w.caps m)) (bound_over p (trees_of rest) (later_boxes w))))
walking-on p whole w after (nodes.Void m) rest walking passed =
    after-leaf p whole w after rest passed walking.parts (All-tail HasFitNumbers (nodes.Void m) rest walking.fits) walking.proves.2 walking.bounded
