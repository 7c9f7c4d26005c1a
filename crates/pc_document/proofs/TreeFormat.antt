-- The format of a search tree: the lines of its nodes, which tell no places, in preorder.
use Rattle.std.proofs.Common.{◌≡◌, ℕ, zero, suc, ◌+◌, Bool, List, [], ◌∷◌, ◌++◌, length, map, pos, refl, sym, ap, ◌∙◌, subst, arith, append_assoc, append-nil}
use Rattle.std.proofs.lemmas.List.{map-append}
use Rattle.std.proofs.lemmas.List.Elements.{All-nil, All-cons, All-head, All-tail, All-map, All-weaker}
use Rattle.std.specs.List.{All}
use Rattle.std.specs.Bool.{⊤}
use Rattle.pc_num.specs.Signs.{Fits}
use Rattle.pc_model.specs.declared.tree.TreeNode.{TreeNode}
use Rattle.pc_model.specs.declared.tree.TreeNode.TheVariants as nodes
use Rattle.pc_model.specs.declared.tree.Tree.{Tree}
use Rattle.pc_program_bound.specs.SplitTrees.{SplitTree, bound, void, split, size_of, nodes_from, joined, trees_of, first_of_trees, tree_of}
use Rattle.pc_program_bound.proofs.TreeNodes.{tree_of-nodes}
use Rattle.pc_document_format.specs.Formats.{IsFormat, IsLine, AreTrees, any, nodes_text, owed_after, read_nodes}
use Rattle.pc_document_format.proofs.Nodes.{nodes_format}
use Rattle.pc_document_format.proofs.As.{as_format}
use Rattle.pc_proof.specs.Form.{IsFormedNode, IsFormedTree}
use Rattle.pc_document_lines.specs.NodeLines.{IsBareNode, node_text, read_node, bare, is_split}
use Rattle.pc_document.specs.DocumentLines.{tree_lines}
use Rattle.pc_document.specs.Reading.{placed, read_tree}

-- ---- nodes of any trees

-- the lines of changed nodes
pub text-map : {A : Type 0} (text : A → List ℕ) (f : A → A) (xs : List A) → nodes_text (λ x. text (f x)) xs ≡ nodes_text text (map f xs)
text-map text f [] = refl
text-map text f (x ∷ xs) = ap (λ rest. text (f x) ∷ rest) (text-map text f xs)

-- what holds of changed items holds of the items after the change
pub unmapped : {A : Type 0} (P : A → Type 0) (f : A → A) (xs : List A) → All P (map f xs) → All (λ x. P (f x)) xs
unmapped P f [] all = All-nil (λ x. P (f x))
unmapped P f (x ∷ xs) all = All-cons (λ y. P (f y)) x xs (All-head P (f x) (map f xs) all) (unmapped P f xs (All-tail P (f x) (map f xs) all))

-- nodes in order that are all good are good nodes in order
pub with_good : {A : Type 0} (Good : A → Type 0) (is_inner : A → Bool) (xs : List A) (n : ℕ) → All Good xs → AreTrees (λ x. ⊤) is_inner n xs → AreTrees Good is_inner n xs
unfolding AreTrees
with_good Good is_inner [] zero all trees = tt
with_good Good is_inner [] (suc n) all trees = absurd trees
with_good Good is_inner (x ∷ xs) zero all trees = absurd trees
with_good Good is_inner (x ∷ xs) (suc n) all trees = (All-head Good x xs all, with_good Good is_inner xs (owed_after is_inner x n) (All-tail Good x xs all) trees.1)

-- nodes in order are good
pub all_good : {A : Type 0} (Good : A → Type 0) (is_inner : A → Bool) (xs : List A) (n : ℕ) → AreTrees Good is_inner n xs → All Good xs
unfolding AreTrees
all_good Good is_inner [] n trees = All-nil Good
all_good Good is_inner (x ∷ xs) zero trees = absurd trees
all_good Good is_inner (x ∷ xs) (suc n) trees = All-cons Good x xs trees.0 (all_good Good is_inner xs (owed_after is_inner x n) trees.1)

-- ---- nodes of search trees

-- the nodes of a tree without the places of their parts
abbrev bare_nodes : SplitTree → List TreeNode
bare_nodes (bound m) = nodes.Bound m ∷ []
bare_nodes (void m) = nodes.Void m ∷ []
bare_nodes (split cell at t u) = nodes.Split cell at 0 0 ∷ bare_nodes t ++ bare_nodes u

abbrev all_nodes : List SplitTree → List TreeNode
all_nodes [] = []
all_nodes (t ∷ ts) = bare_nodes t ++ all_nodes ts

-- nodes lose their places
without_places : (t : SplitTree) (k : ℕ) → map bare (nodes_from k t) ≡ bare_nodes t
without_places (bound m) k = refl
without_places (void m) k = refl
without_places (split cell at t u) k =
    ap (λ (rest : List TreeNode). nodes.Split cell at 0 0 ∷ rest) (map-append bare (nodes_from (k + 1) t) (nodes_from (k + 1 + size_of t) u)
    ∙ ap (λ (front : List TreeNode). front ++ map bare (nodes_from (k + 1 + size_of t) u)) (without_places t (k + 1))
    ∙ ap (λ (back : List TreeNode). bare_nodes t ++ back) (without_places u (k + 1 + size_of t)))

-- places do not tell in what nodes spell
same_trees : (xs : List TreeNode) → trees_of (map bare xs) ≡ trees_of xs
same_trees [] = refl
same_trees (nodes.Bound m ∷ xs) = ap (λ (ts : List SplitTree). bound m ∷ ts) (same_trees xs)
same_trees (nodes.Void m ∷ xs) = ap (λ (ts : List SplitTree). void m ∷ ts) (same_trees xs)
same_trees (nodes.Split cell at less more ∷ xs) = ap (joined cell at) (same_trees xs)

-- a split takes the two trees after it
split_spelled : (cell at n : ℕ) (ts : List SplitTree) → length ts ≡ suc (suc n) → (length (joined cell at ts) ≡ suc n) × (nodes.Split cell at 0 0 ∷ all_nodes ts ≡ all_nodes (joined cell at ts))
split_spelled cell at n [] long = absurd (omega (arith, long))
split_spelled cell at n (t ∷ []) long = absurd (omega (arith, long))
split_spelled cell at n (t ∷ u ∷ ts) long = (omega (arith, long), ap (λ (rest : List TreeNode). nodes.Split cell at 0 0 ∷ rest) (sym (append_assoc (bare_nodes t) (bare_nodes u) (all_nodes ts))))

-- so many trees in preorder are what their nodes spell
abbrev AreSpelled : ℕ → List TreeNode → Type 0
AreSpelled n xs = (length (trees_of xs) ≡ n) × (xs ≡ all_nodes (trees_of xs))

-- nodes of trees in preorder spell these
are_spelled : (xs : List TreeNode) (n : ℕ) → AreTrees IsBareNode is_split n xs → AreSpelled n xs
unfolding AreTrees
are_spelled [] zero trees = (refl, refl)
are_spelled [] (suc n) trees = absurd trees
are_spelled (x ∷ xs) zero trees = absurd trees
are_spelled (nodes.Bound m ∷ xs) (suc n) trees =
    let rest = are_spelled xs n trees.1 in
    (omega (arith, rest.0), ap (λ (after : List TreeNode). nodes.Bound m ∷ after) rest.1)
are_spelled (nodes.Void m ∷ xs) (suc n) trees =
    let rest = are_spelled xs n trees.1 in
    (omega (arith, rest.0), ap (λ (after : List TreeNode). nodes.Void m ∷ after) rest.1)
are_spelled (nodes.Split cell at less more ∷ xs) (suc n) trees =
    let rest = are_spelled xs (suc (suc n)) trees.1 in
    let both = split_spelled cell at n (trees_of xs) rest.0 in
    (both.0, ap (λ (x : TreeNode). x ∷ xs) (sym trees.0.placeless) ∙ ap (λ (after : List TreeNode). nodes.Split cell at 0 0 ∷ after) rest.1 ∙ both.1)

-- the nodes of one tree more
one_more : (t : SplitTree) (n : ℕ) (ys : List TreeNode) → AreTrees (λ x. ⊤) is_split n ys → AreTrees (λ x. ⊤) is_split (suc n) (bare_nodes t ++ ys)
unfolding AreTrees
one_more (bound m) n ys trees = (tt, trees)
one_more (void m) n ys trees = (tt, trees)
one_more (split cell at t u) n ys trees =
    (tt, subst (λ (xs : List TreeNode). AreTrees (λ x. ⊤) is_split (suc (suc n)) xs) (sym (append_assoc (bare_nodes t) (bare_nodes u) ys)) (one_more t (suc n) (bare_nodes u ++ ys) (one_more u n ys trees)))

-- no nodes are those of no tree
no_trees : AreTrees {A = TreeNode} (λ x. ⊤) is_split 0 []
unfolding AreTrees
no_trees = tt

-- ---- good nodes

-- a node in form is one without places too
bare_good : (node : TreeNode) → IsFormedNode node → IsBareNode (bare node)
bare_good (nodes.Bound m) good = record { placeless = refl; good = good }
bare_good (nodes.Void m) good = record { placeless = refl; good = good }
bare_good (nodes.Split cell at less more) good = record { placeless = refl; good = good }

-- and the other way round
good_bare : (node : TreeNode) → IsBareNode (bare node) → IsFormedNode node
good_bare (nodes.Bound m) is = is.good
good_bare (nodes.Void m) is = is.good
good_bare (nodes.Split cell at less more) is = is.good

-- ---- the tree

-- the one tree that nodes of one tree spell
only_tree : (xs : List TreeNode) → AreTrees IsBareNode is_split 1 xs → map bare (placed xs).nodes ≡ xs
only_tree xs trees = by_trees (trees_of xs) spelled.0 ∙ sym spelled.1
  where
    spelled : AreSpelled 1 xs
    spelled = are_spelled xs 1 trees

    by_trees : (ts : List SplitTree) → length ts ≡ 1 → map bare (nodes_from 0 (first_of_trees ts)) ≡ all_nodes ts
    by_trees [] long = absurd (omega (arith, long))
    by_trees (t ∷ []) long = without_places t 0 ∙ sym (append-nil (bare_nodes t))
    by_trees (t ∷ u ∷ ts) long = absurd (omega (arith, long))

-- the tree that nodes spell is in form, and has their lines
tree_made : (xs : List TreeNode) → AreTrees IsBareNode is_split 1 xs → IsFormedTree (placed xs) × (tree_lines (placed xs) ≡ nodes_text node_text xs)
tree_made xs trees = (record { preorder = ap (nodes_from 0) (sym (tree_of-nodes (tree_of xs))); nodes = formed }, text-map node_text bare (placed xs).nodes ∙ ap (nodes_text node_text) same)
  where
    same : map bare (placed xs).nodes ≡ xs
    same = only_tree xs trees

    formed : All IsFormedNode (placed xs).nodes
    formed = All-weaker (λ node. IsBareNode (bare node)) IsFormedNode good_bare (placed xs).nodes (unmapped IsBareNode bare (placed xs).nodes (subst (All IsBareNode) (sym same) (all_good IsBareNode is_split xs 1 trees)))

-- a tree in form is the one that its nodes spell without places
tree_parts : (t : Tree) → IsFormedTree t → (xs : List TreeNode) × AreTrees IsBareNode is_split 1 xs × (placed xs ≡ t)
tree_parts t good = (map bare t.nodes, with_good IsBareNode is_split (map bare t.nodes) 1 all_bare in_order, ap (λ (list : List TreeNode). record { nodes = list }) same)
  where
    all_bare : All IsBareNode (map bare t.nodes)
    all_bare = All-map IsBareNode bare t.nodes (All-weaker IsFormedNode (λ node. IsBareNode (bare node)) bare_good t.nodes good.nodes)

    in_order : AreTrees (λ x. ⊤) is_split 1 (map bare t.nodes)
    in_order = subst (AreTrees (λ x. ⊤) is_split 1) (append-nil (bare_nodes (tree_of t.nodes)) ∙ sym (without_places (tree_of t.nodes) 0) ∙ ap (map bare) (sym good.preorder)) (one_more (tree_of t.nodes) 0 [] no_trees)

    same : nodes_from 0 (tree_of (map bare t.nodes)) ≡ t.nodes
    same = ap (λ (ts : List SplitTree). nodes_from 0 (first_of_trees ts)) (same_trees t.nodes) ∙ sym good.preorder

-- a void leaf without multipliers
abbrev no_leaf : TreeNode
no_leaf = nodes.Void (record { by = []; den = pos 1 })

-- Of the lines of nodes the format of the nodes of a tree.
pub tree_nodes : IsLine IsBareNode node_text read_node → IsFormat (AreTrees IsBareNode is_split 1) (nodes_text node_text) any (read_nodes is_split read_node 1)
tree_nodes line = nodes_format is_split line no_leaf (bare_good no_leaf (refl, All-nil Fits)) refl 1

-- And the format of a tree.
pub tree_format : IsLine IsBareNode node_text read_node → IsFormat IsFormedTree tree_lines any read_tree
unfolding read_tree
tree_format line = as_format (tree_nodes line) (record {
  made = tree_made;
  follows = λ xs next trees follows. tt;
  parts = tree_parts;
  back_follows = λ xs next trees follows. tt;
})
