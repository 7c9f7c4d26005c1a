-- The places of the parts of nodes in preorder are those of the tree that they spell.
use Rattle.std.proofs.Common.{◌≡◌, ℕ, zero, suc, ◌+◌, true, false, List, [], ◌∷◌, ◌++◌, map, length, refl, sym, ap, ◌∙◌, arith, append_assoc}
use Rattle.std.proofs.lemmas.List.{append-nil}
use Rattle.pc_model.specs.declared.tree.TreeNode.{TreeNode}
use Rattle.pc_model.specs.declared.tree.TreeNode.TheVariants as nodes
use Rattle.pc_program_bound.specs.SplitTrees.{SplitTree, bound, void, split, size_of, nodes_from, joined, trees_of, first_of_trees, tree_of}
use Rattle.pc_document_lines.specs.NodeLines.{is_split, IsBareNode}
use Rattle.pc_document_format.specs.Formats.{AreTrees}
use Rattle.pc_document.specs.Spans.{Trees, span, placed_node, placed_from}

-- the nodes of trees one after another, and how many the first so many have
abbrev forest_from : ℕ → List SplitTree → List TreeNode
forest_from k [] = []
forest_from k (t ∷ ts) = nodes_from k t ++ forest_from (k + size_of t) ts

abbrev sizes : ℕ → List SplitTree → ℕ
sizes zero ts = 0
sizes (suc j) [] = 0
sizes (suc j) (t ∷ ts) = size_of t + sizes j ts

-- what so many trees spell
record AreSpelledBy (n : ℕ) (xs : List TreeNode) (ts : List SplitTree) : Type 0 where
  many : length ts ≡ n
  spans : (j : ℕ) → span j (map is_split xs) ≡ sizes j ts
  places : (k : ℕ) → placed_from k xs ≡ forest_from k ts

none_spelled : AreSpelledBy 0 [] []
unfolding span placed_from
none_spelled = record { many = refl; spans = spans; places = λ k. refl }
  where
    spans : (j : ℕ) → span j [] ≡ sizes j []
    spans zero = refl
    spans (suc j) = refl

-- a leaf before them
leaf_spelled : (node : TreeNode) (t : SplitTree) (n : ℕ) (xs : List TreeNode) (ts : List SplitTree) → is_split node ≡ false → size_of t ≡ 1 → ((k : ℕ) → nodes_from k t ≡ node ∷ [])
    → ((first second : ℕ) → placed_node first second node ≡ node) → AreSpelledBy n xs ts → AreSpelledBy (suc n) (node ∷ xs) (t ∷ ts)
unfolding span placed_from
leaf_spelled node t n xs ts leaf one alone kept s = record {
  many = ap suc s.many;
  spans = spans;
  places = λ k.
      let here = kept (k + 1) (k + 1 + span 1 (map is_split xs)) in
      let later = s.places (k + 1) in
      let nodes = alone k in
      rw (here, later, nodes, one) refl;
}
  where
    spans : (j : ℕ) → span j (map is_split (node ∷ xs)) ≡ sizes j (t ∷ ts)
    spans zero = refl
    spans (suc j) = let later = s.spans j in rw (leaf, one, later) refl

-- two trees made one
inner_spelled : (node : TreeNode) (whole t u : SplitTree) (n : ℕ) (xs : List TreeNode) (ts : List SplitTree) → is_split node ≡ true → size_of whole ≡ 1 + size_of t + size_of u
    → ((k : ℕ) → nodes_from k whole ≡ placed_node (k + 1) (k + 1 + size_of t) node ∷ nodes_from (k + 1) t ++ nodes_from (k + 1 + size_of t) u)
    → AreSpelledBy (suc (suc n)) xs (t ∷ u ∷ ts) → AreSpelledBy (suc n) (node ∷ xs) (whole ∷ ts)
unfolding span placed_from
inner_spelled node whole t u n xs ts inner size nodes s = record {
  many = let long = s.many in omega arith;
  spans = spans;
  places = places;
}
  where
    spans : (j : ℕ) → span j (map is_split (node ∷ xs)) ≡ sizes j (whole ∷ ts)
    spans zero = refl
    spans (suc j) = let later = s.spans (suc (suc j)) in rw (inner, size, later) (omega arith)

    places : (k : ℕ) → placed_from k (node ∷ xs) ≡ forest_from k (whole ∷ ts)
    places k =
        let later = s.places (k + 1) in
        let first : span 1 (map is_split xs) ≡ size_of t = s.spans 1 ∙ omega arith in
        let here = nodes k in
        let after : k + size_of whole ≡ k + 1 + size_of t + size_of u = let is_size = size in omega arith in
        let apart = append_assoc (nodes_from (k + 1) t) (nodes_from (k + 1 + size_of t) u) (forest_from (k + 1 + size_of t + size_of u) ts) in
        rw (later, first, here, after) (ap (λ (rest : List TreeNode). placed_node (k + 1) (k + 1 + size_of t) node ∷ rest) (sym apart))

split_spelled : (cell at less more n : ℕ) (xs : List TreeNode) (ts : List SplitTree) → AreSpelledBy (suc (suc n)) xs ts → AreSpelledBy (suc n) (nodes.Split cell at less more ∷ xs) (joined cell at ts)
split_spelled cell at less more n xs [] s = absurd (omega (arith, s.many))
split_spelled cell at less more n xs (t ∷ []) s = absurd (omega (arith, s.many))
split_spelled cell at less more n xs (t ∷ u ∷ ts) s = inner_spelled (nodes.Split cell at less more) (split cell at t u) t u n xs ts refl refl (λ k. refl) s

are_spelled : (xs : List TreeNode) (n : ℕ) → Trees n (map is_split xs) → AreSpelledBy n xs (trees_of xs)
unfolding AreTrees
are_spelled [] zero trees = none_spelled
are_spelled [] (suc n) trees = absurd trees
are_spelled (node ∷ xs) zero trees = absurd trees
are_spelled (nodes.Bound m ∷ xs) (suc n) trees = leaf_spelled (nodes.Bound m) (bound m) n xs (trees_of xs) refl refl (λ k. refl) (λ first second. refl) (are_spelled xs n trees.1)
are_spelled (nodes.Void m ∷ xs) (suc n) trees = leaf_spelled (nodes.Void m) (void m) n xs (trees_of xs) refl refl (λ k. refl) (λ first second. refl) (are_spelled xs n trees.1)
are_spelled (nodes.Split cell at less more ∷ xs) (suc n) trees = split_spelled cell at less more n xs (trees_of xs) (are_spelled xs (suc (suc n)) trees.1)

only_tree : (xs : List TreeNode) (ts : List SplitTree) → AreSpelledBy 1 xs ts → placed_from 0 xs ≡ nodes_from 0 (first_of_trees ts)
only_tree xs [] s = absurd (omega (arith, s.many))
only_tree xs (t ∷ []) s = s.places 0 ∙ append-nil (nodes_from 0 t)
only_tree xs (t ∷ u ∷ ts) s = absurd (omega (arith, s.many))

-- which nodes have two parts tells the trees
pub flags_of : (xs : List TreeNode) (n : ℕ) → AreTrees IsBareNode is_split n xs → Trees n (map is_split xs)
unfolding AreTrees
flags_of [] zero trees = trees
flags_of [] (suc n) trees = absurd trees
flags_of (x ∷ xs) zero trees = absurd trees
flags_of (x ∷ xs) (suc n) trees = (tt, flags_of xs _ trees.1)

-- the nodes of one tree have the places of its parts
pub placed_spelled : (xs : List TreeNode) → AreTrees IsBareNode is_split 1 xs → placed_from 0 xs ≡ nodes_from 0 (tree_of xs)
placed_spelled xs trees = only_tree xs (trees_of xs) (are_spelled xs 1 (flags_of xs 1 trees))
