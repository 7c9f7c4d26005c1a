-- What is written of a tree and what is left of it, node after node.
use Rattle.std.proofs.Common.{◌≡◌, ◌<◌, ℕ, ◌+◌, List, [], ◌∷◌, ◌++◌, length, Option, Some, None, refl, sym, ap, ◌∙◌, arith, append_assoc}
use Rattle.std.proofs.lemmas.List.{length-append, append-nil, nil_from_length}
use Rattle.pc_model.specs.declared.tree.Mult.{Mult}
use Rattle.pc_model.specs.declared.tree.TreeNode.{TreeNode}
use Rattle.pc_model.specs.declared.tree.TreeNode.TheVariants as shown
use Rattle.pc_program_bound.specs.SplitTrees.{SplitTree, nodes_from}
use Rattle.pc_program_bound.specs.SplitTrees as trees
use Rattle.pc_frontier.specs.declared.node.State.{State}
use Rattle.pc_frontier.specs.declared.node.State.TheVariants as states
use Rattle.pc_frontier.specs.declared.node.Node.{Node}
use Rattle.pc_frontier.specs.Frontier.{node_at}
use Rattle.pc_frontier.specs.Boxes.{Grown, leaf, split, root_of, size_of, first_child_of, IsLeafState, IsSplitAt, IsTree, AreGrown}
use Rattle.pc_branch.specs.declared.visited.Known.{Known}
use Rattle.pc_branch.specs.declared.visited.Known.TheVariants as knowns
use Rattle.pc_branch.specs.declared.visited.Visited.{Visited}
use Rattle.pc_branch.specs.Grown.{visited_at, leaf_as, proof_of}
use Rattle.pc_branch.specs.Ends.{AreSplitsKnown}
use Rattle.pc_branch.specs.Spelled.{AreSized, leaf_node, leaf_node_as, IsNodeAt, children_of, stacked, AreAllKnown, rest_from, IsSpelling}

-- ---- sizes

leaf_size : (known : Known) (mult : Mult) → trees.size_of (leaf_as known mult) ≡ 1
leaf_size knowns.Nothing mult = refl
leaf_size knowns.Whole mult = refl
leaf_size (knowns.Parted cell at) mult = refl
leaf_size knowns.Stuck mult = refl

-- the answered tree has as many nodes as the search's
proof_size : (visited : List Visited) (g : Grown) → trees.size_of (proof_of visited g) ≡ size_of g
proof_size visited (leaf n) = leaf_size (visited_at visited n).known (visited_at visited n).mult
proof_size visited (split n cell at t u) = rw (proof_size visited t, proof_size visited u) refl

length-nodes : (t : SplitTree) (k : ℕ) → length (nodes_from k t) ≡ trees.size_of t
length-nodes (trees.bound m) k = refl
length-nodes (trees.void m) k = refl
length-nodes (trees.split cell at t u) k =
    let both = length-append (nodes_from (k + 1) t) (nodes_from (k + 1 + trees.size_of t) u) in
    omega (arith, both, length-nodes t (k + 1), length-nodes u (k + 1 + trees.size_of t))

-- ---- leaves and splits

leaf_written : (known : Known) (mult : Mult) (k : ℕ) → nodes_from k (leaf_as known mult) ≡ leaf_node_as known mult ∷ []
leaf_written knowns.Nothing mult k = refl
leaf_written knowns.Whole mult k = refl
leaf_written (knowns.Parted cell at) mult k = refl
leaf_written knowns.Stuck mult k = refl

leaf_has_none : (s : State) → IsLeafState s → first_child_of s ≡ None
leaf_has_none states.Closed h = refl
leaf_has_none states.Open h = refl
leaf_has_none states.InHand h = refl
leaf_has_none (states.Split first) h = absurd h

split_has_one : (s : State) (k : ℕ) → IsSplitAt s k → first_child_of s ≡ Some k
split_has_one (states.Split first) k h = ap Some h
split_has_one states.Closed k h = absurd h
split_has_one states.Open k h = absurd h
split_has_one states.InHand k h = absurd h

root_is_node : (nodes : List Node) (g : Grown) → AreGrown nodes g → root_of g < length nodes
root_is_node nodes (leaf n) grown = grown.0
root_is_node nodes (split n cell at t u) grown = grown.0

-- ---- lists

same_ends : (xs ys : List ℕ) (x y : ℕ) → xs ++ x ∷ [] ≡ ys ++ y ∷ [] → (xs ≡ ys) × (x ≡ y)
same_ends [] [] x y e = (refl, cc)
same_ends [] (b ∷ ys) x y e = absurd (omega (arith, ap length e, length-append ys (y ∷ [])))
same_ends (a ∷ xs) [] x y e = absurd (omega (arith, ap length e, length-append xs (x ∷ [])))
same_ends (a ∷ xs) (b ∷ ys) x y e =
    let tails : xs ++ x ∷ [] ≡ ys ++ y ∷ [] = cc in
    let same = same_ends xs ys x y tails in
    let heads : a ≡ b = cc in
    let fronts = same.0 in
    (cc, same.1)

all_written : (xs rest whole : List TreeNode) → xs ++ rest ≡ whole → length xs ≡ length whole → xs ≡ whole
all_written xs rest whole e same =
    let none : length rest ≡ 0 = omega (arith, ap length e, length-append xs rest) in
    let nil = nil_from_length rest none in
    sym (append-nil xs) ∙ (rw nil at e)

-- ---- the next node

module _ (nodes : List Node) (visited : List Visited) (whole written : List TreeNode) where
  -- the tree on top, and those below it
  record IsTop (front : List ℕ) (x : ℕ) : Type 0 where
    top : Grown
    others : List Grown
    root : x ≡ root_of top
    front_is : front ≡ stacked others
    grown : AreGrown nodes top
    splits : AreSplitsKnown visited top
    known : AreAllKnown nodes visited others
    spelled : written ++ rest_from visited (length written) (top ∷ others) ≡ whole

  top_of : (front : List ℕ) (x : ℕ) (left : List Grown) → front ++ x ∷ [] ≡ stacked left → AreAllKnown nodes visited left
      → written ++ rest_from visited (length written) left ≡ whole → IsTop front x
  top_of front x [] e known spelled = absurd (omega (arith, ap length e, length-append front (x ∷ [])))
  top_of front x (t ∷ ts) e known spelled = let same = same_ends front (stacked ts) x (root_of t) e in record {
    top = t;
    others = ts;
    root = same.1;
    front_is = same.0;
    grown = known.0;
    splits = known.1;
    known = known.2;
    spelled = spelled;
  }

  stack_top : (front stack : List ℕ) (x : ℕ) → stack ≡ front ++ x ∷ [] → IsSpelling nodes visited whole written stack → IsTop front x
  stack_top front stack x e spelling = top_of front x spelling.left (sym e ∙ spelling.stacked_are) spelling.known spelling.spelled

  -- the number on top is one of a node
  pub top_is_node : (front stack : List ℕ) (x : ℕ) → stack ≡ front ++ x ∷ [] → IsSpelling nodes visited whole written stack → x < length nodes
  top_is_node front stack x e spelling =
      let at_top = stack_top front stack x e spelling in
      let inside = root_is_node nodes at_top.top at_top.grown in
      rw at_top.root inside

  -- where the stack is empty, all is written
  nothing_left : (left : List Grown) → [] ≡ stacked left → written ++ rest_from visited (length written) left ≡ whole → length written ≡ length whole
  nothing_left [] e spelled = ap length (sym (append-nil written) ∙ spelled)
  nothing_left (t ∷ ts) e spelled = absurd (omega (arith, ap length e, length-append (stacked ts) (root_of t ∷ [])))

  pub empty_is_all : (stack : List ℕ) → length stack ≡ 0 → IsSpelling nodes visited whole written stack → length written ≡ length whole
  empty_is_all stack none spelling =
      let nil = nil_from_length stack none in
      nothing_left spelling.left (sym nil ∙ spelling.stacked_are) spelling.spelled

  -- a leaf is written, and the trees below it are left
  leaf_step : (n : ℕ) (others : List Grown) (node : TreeNode) → AreAllKnown nodes visited others
      → written ++ rest_from visited (length written) (leaf n ∷ others) ≡ whole → node ≡ leaf_node (visited_at visited n)
      → IsSpelling nodes visited whole (written ++ node ∷ []) (stacked others ++ [])
  leaf_step n others node known spelled node_is =
      let v = visited_at visited n in
      let k = length written in
      let longer : length (written ++ node ∷ []) ≡ k + 1 = length-append written (node ∷ []) in
      let shown_is : nodes_from k (leaf_as v.known v.mult) ≡ node ∷ [] = leaf_written v.known v.mult k ∙ rw node_is refl in
      let whole_is = rw (shown_is, leaf_size v.known v.mult) at spelled in
      record {
        left = others;
        stacked_are = append-nil (stacked others);
        known = known;
        spelled = rw (longer, append_assoc written (node ∷ []) (rest_from visited (k + 1) others)) whole_is;
      }

  -- a split is written, and its two trees are left before those below it
  split_step : (n cell at : ℕ) (t u : Grown) (others : List Grown) (node : TreeNode) → AreGrown nodes (split n cell at t u) → AreSplitsKnown visited (split n cell at t u)
      → AreAllKnown nodes visited others → written ++ rest_from visited (length written) (split n cell at t u ∷ others) ≡ whole
      → node ≡ shown.Split cell at (length written + 1) (length written + 1 + size_of t)
      → IsSpelling nodes visited whole (written ++ node ∷ []) (stacked others ++ (root_of t + 1) ∷ root_of t ∷ [])
  split_step n cell at t u others node grown splits known spelled node_is =
      let k = length written in
      let a = trees.size_of (proof_of visited t) in
      let b = trees.size_of (proof_of visited u) in
      let longer : length (written ++ node ∷ []) ≡ k + 1 = length-append written (node ∷ []) in
      let rest = rest_from visited (k + 1 + a + b) others in
      let first = nodes_from (k + 1) (proof_of visited t) in
      let second = nodes_from (k + 1 + a) (proof_of visited u) in
      let sum : k + (1 + a + b) ≡ k + 1 + a + b = omega arith in
      let whole_is : written ++ (shown.Split cell at (k + 1) (k + 1 + a) ∷ ((first ++ second) ++ rest)) ≡ whole = rw sum at spelled in
      let split_is : node ≡ shown.Split cell at (k + 1) (k + 1 + a) = rw (proof_size visited t) node_is in
      record {
        left = t ∷ u ∷ others;
        stacked_are = rw (sym grown.2) (sym (append_assoc (stacked others) (root_of u ∷ []) (root_of t ∷ [])));
        known = (grown.6, splits.1, (grown.7, splits.2, known));
        spelled = rw (longer, append_assoc written (node ∷ []) (first ++ (second ++ rest)), sym (append_assoc first second rest), split_is) whole_is;
      }

  next_step : (sizes : List ℕ) (t : Grown) (others : List Grown) (node : TreeNode) (first : Option ℕ) → AreSized nodes sizes 0 → AreGrown nodes t → AreSplitsKnown visited t
      → AreAllKnown nodes visited others → written ++ rest_from visited (length written) (t ∷ others) ≡ whole
      → first ≡ first_child_of (node_at nodes (root_of t)).state → IsNodeAt (visited_at visited (root_of t)) first (length written) sizes node
      → IsSpelling nodes visited whole (written ++ node ∷ []) (stacked others ++ children_of first)
  next_step sizes (leaf n) others node first sized grown splits known spelled first_is shows =
      let none = first_is ∙ leaf_has_none (node_at nodes n).state grown.1 in
      let shows_leaf = rw none at shows in
      rw none (leaf_step n others node known spelled shows_leaf)
  next_step sizes (split n cell at t u) others node first sized grown splits known spelled first_is shows =
      let one = first_is ∙ split_has_one (node_at nodes n).state (root_of t) grown.1 in
      let shows_split = rw one at shows in
      let node_is = shows_split cell at splits.0 in
      let size_is = sized t grown.6 (omega arith) in
      rw one (split_step n cell at t u others node grown splits known spelled (rw size_is at node_is))

  -- with the node on top written, and its children in its place
  pub next_spelled : (front stack after sizes : List ℕ) (x : ℕ) (v : Visited) (node : TreeNode) (first : Option ℕ) (more : List TreeNode) → stack ≡ front ++ x ∷ [] → AreSized nodes sizes 0
      → v ≡ visited_at visited x → first ≡ first_child_of (node_at nodes x).state → IsNodeAt v first (length written) sizes node
      → after ≡ front ++ children_of first → more ≡ written ++ node ∷ []
      → IsSpelling nodes visited whole written stack → IsSpelling nodes visited whole more after
  next_spelled front stack after sizes x v node first more e sized v_is first_is shows after_is more_is spelling =
      let at_top = stack_top front stack x e spelling in
      let here = rw (v_is, at_top.root) at shows in
      let first_here = rw at_top.root at first_is in
      rw (after_is, more_is, at_top.front_is) (next_step sizes at_top.top at_top.others node first sized at_top.grown at_top.splits at_top.known at_top.spelled first_here here)

-- ---- the whole tree

-- the tree's nodes are as many as those of the search
pub whole_size : (nodes : List Node) (visited : List Visited) (g : Grown) → IsTree nodes g → length (nodes_from 0 (proof_of visited g)) ≡ length nodes
whole_size nodes visited g tree = length-nodes (proof_of visited g) 0 ∙ proof_size visited g ∙ tree.size

-- before anything is written the whole tree is left
pub none_spelled : (nodes : List Node) (visited : List Visited) (g : Grown) → IsTree nodes g → AreSplitsKnown visited g
    → IsSpelling nodes visited (nodes_from 0 (proof_of visited g)) [] (0 ∷ [])
none_spelled nodes visited g tree known = record {
  left = g ∷ [];
  stacked_are = rw tree.root refl;
  known = (tree.grown, known, tt);
  spelled = append-nil (nodes_from 0 (proof_of visited g));
}

-- where as much is written as the tree has, that is the tree
pub all_spelled : (nodes : List Node) (visited : List Visited) (whole written : List TreeNode) (stack : List ℕ) → IsSpelling nodes visited whole written stack → length written ≡ length whole → written ≡ whole
all_spelled nodes visited whole written stack spelling same = all_written written (rest_from visited (length written) spelling.left) whole spelling.spelled same
