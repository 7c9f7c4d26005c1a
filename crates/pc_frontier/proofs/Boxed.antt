-- The box of a number: step by step, with whatever fuel there is, and as the box at its place in the tree.
use Rattle.std.proofs.Common.{◌≡◌, ◌<◌, ℕ, zero, suc, ◌+◌, Bool, true, false, List, length, Option, Some, None, refl, sym, ap, ◌∙◌, arith, add-one}
use Rattle.std.proofs.lemmas.List.{length-set}
use Rattle.pc_frontier.specs.declared.node.Born.{Born}
use Rattle.pc_frontier.specs.declared.node.Node.{Node}
use Rattle.pc_frontier.specs.Frontier.{node_at, born_of}
use Rattle.pc_frontier.specs.Boxes.{Box, part_of, box_within, box_at, Grown, leaf, split, root_of, IsTree, AreGrown, AreOrdered, AreBoxed}

-- the box of a node from how it was made and from the boxes of the others
abbrev pub box_from : Option Born → Box → (ℕ → Box) → Box
box_from made start up = elim made [
  | None ↦ start
  | Some born ↦ part_of born.cell born.at born.more (up born.parent)
]

pub from_same : (made : Option Born) (start : Box) (up other : ℕ → Box) → ((born : Born) → made ≡ Some born → up born.parent ≡ other born.parent) → box_from made start up ≡ box_from made start other
from_same None start up other same = refl
from_same (Some born) start up other same = ap (part_of born.cell born.at born.more) (same born refl)

pub within_none : (nodes : List Node) (start : Box) (n : ℕ) → box_within zero nodes start n ≡ start
unfolding box_within
within_none nodes start n = refl

pub within_step : (left : ℕ) (nodes : List Node) (start : Box) (n : ℕ) → box_within (suc left) nodes start n ≡ box_from (node_at nodes n).born start (box_within left nodes start)
unfolding box_within
within_step left nodes start n = refl

-- fuel above the number is enough
within_enough : (nodes : List Node) (start : Box) → AreOrdered nodes → (left more n : ℕ) → n < left → n < more → box_within left nodes start n ≡ box_within more nodes start n
within_enough nodes start ordered zero more n below above = absurd (omega arith)
within_enough nodes start ordered (suc left) zero n below above = absurd (omega arith)
within_enough nodes start ordered (suc left) (suc more) n below above =
    within_step left nodes start n
    ∙ (from_same (node_at nodes n).born start _ _
    (λ born e. within_enough nodes start ordered left more born.parent (omega (arith, ordered n born e)) (omega (arith, ordered n born e)))
    ∙ sym (within_step more nodes start n))

pub at_step : (nodes : List Node) (start : Box) → AreOrdered nodes → (n : ℕ) → box_at nodes start n ≡ box_from (node_at nodes n).born start (box_at nodes start)
at_step nodes start ordered n =
    ap (λ k. box_within k nodes start n) (add-one n)
    ∙ (within_step n nodes start n
    ∙ from_same (node_at nodes n).born start _ _
    (λ born e. within_enough nodes start ordered n (born.parent + 1) born.parent (ordered n born e) (omega arith)))

-- the same makers, the same boxes: for numbers whose makers' parents are among them
pub same_boxes : (before after : List Node) (start : Box) (inside : ℕ → Type 0)
    → ((i : ℕ) → inside i → (node_at after i).born ≡ (node_at before i).born)
    → ((i : ℕ) (born : Born) → inside i → (node_at before i).born ≡ Some born → inside born.parent)
    → (left n : ℕ) → inside n → box_within left after start n ≡ box_within left before start n
same_boxes before after start inside same up zero n is = within_none after start n ∙ sym (within_none before start n)
same_boxes before after start inside same up (suc left) n is =
    within_step left after start n
    ∙ (ap (λ made. box_from made start (box_within left after start)) (same n is)
    ∙ (from_same (node_at before n).born start _ _ (λ born e. same_boxes before after start inside same up left born.parent (up n born is e))
    ∙ sym (within_step left before start n)))

-- ---- lengths

length_floors_part : (cell at : ℕ) (more : Bool) (box : Box) → length (part_of cell at more box).floors ≡ length box.floors
length_floors_part cell at false box = refl
length_floors_part cell at true box = length-set box.floors cell (at + 1)

length_caps_part : (cell at : ℕ) (more : Bool) (box : Box) → length (part_of cell at more box).caps ≡ length box.caps
length_caps_part cell at false box = length-set box.caps cell at
length_caps_part cell at true box = refl

length_floors_from : (made : Option Born) (start : Box) (up : ℕ → Box) → ((k : ℕ) → length (up k).floors ≡ length start.floors) → length (box_from made start up).floors ≡ length start.floors
length_floors_from None start up same = refl
length_floors_from (Some born) start up same = length_floors_part born.cell born.at born.more (up born.parent) ∙ same born.parent

length_caps_from : (made : Option Born) (start : Box) (up : ℕ → Box) → ((k : ℕ) → length (up k).caps ≡ length start.caps) → length (box_from made start up).caps ≡ length start.caps
length_caps_from None start up same = refl
length_caps_from (Some born) start up same = length_caps_part born.cell born.at born.more (up born.parent) ∙ same born.parent

pub length_floors : (left : ℕ) (nodes : List Node) (start : Box) (n : ℕ) → length (box_within left nodes start n).floors ≡ length start.floors
length_floors zero nodes start n = ap (λ (box : Box). length box.floors) (within_none nodes start n)
length_floors (suc left) nodes start n =
    ap (λ (box : Box). length box.floors) (within_step left nodes start n)
    ∙ length_floors_from (node_at nodes n).born start _ (length_floors left nodes start)

pub length_caps : (left : ℕ) (nodes : List Node) (start : Box) (n : ℕ) → length (box_within left nodes start n).caps ≡ length start.caps
length_caps zero nodes start n = ap (λ (box : Box). length box.caps) (within_none nodes start n)
length_caps (suc left) nodes start n =
    ap (λ (box : Box). length box.caps) (within_step left nodes start n)
    ∙ length_caps_from (node_at nodes n).born start _ (length_caps left nodes start)

-- ---- the tree

pub child_box : (nodes : List Node) (start : Box) → AreOrdered nodes → (k n cell at : ℕ) (more : Bool) → (node_at nodes k).born ≡ born_of n cell at more → box_at nodes start k ≡ part_of cell at more (box_at nodes start n)
child_box nodes start ordered k n cell at more made =
    at_step nodes start ordered k ∙ ap (λ made. box_from made start (box_at nodes start)) made

boxed : (nodes : List Node) (start : Box) → AreOrdered nodes → (box : Box) (g : Grown) → AreGrown nodes g → box_at nodes start (root_of g) ≡ box → AreBoxed nodes start box g
boxed nodes start ordered box (leaf n) grown e = e
boxed nodes start ordered box (split n cell at t u) grown e = (
  e,
  boxed nodes start ordered (part_of cell at false box) t grown.6 (child_box nodes start ordered (root_of t) n cell at false grown.4 ∙ ap (part_of cell at false) e),
  boxed nodes start ordered (part_of cell at true box) u grown.7 (child_box nodes start ordered (root_of u) n cell at true grown.5 ∙ ap (part_of cell at true) e),
)

pub trees_boxed : (nodes : List Node) (start : Box) (g : Grown) → IsTree nodes g → AreBoxed nodes start start g
trees_boxed nodes start g tree =
    boxed nodes start tree.ordered start g tree.grown
    (ap (box_at nodes start) tree.root ∙ (at_step nodes start tree.ordered 0 ∙ ap (λ made. box_from made start (box_at nodes start)) tree.first))
