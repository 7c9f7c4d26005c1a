-- The format of a tree of cuts: the lines of its nodes, which tell no places, in preorder.
use Rattle.std.proofs.Common.{◌≡◌, ℕ, zero, suc, ◌+◌, List, [], ◌∷◌, ◌++◌, length, map, refl, sym, ap, ◌∙◌, subst, arith, append_assoc, append-nil}
use Rattle.std.proofs.lemmas.List.{map-append}
use Rattle.std.proofs.lemmas.List.Elements.{All-map, All-weaker}
use Rattle.std.specs.List.{All}
use Rattle.std.specs.Bool.{⊤}
use Rattle.pc_model.specs.declared.schema.Schema.{Schema}
use Rattle.pc_model.specs.declared.tree.Cut.{Cut}
use Rattle.pc_model.specs.declared.tree.LeafMark.TheVariants.{Barren}
use Rattle.pc_model.specs.declared.tree.CutNode.{CutNode}
use Rattle.pc_model.specs.declared.tree.CutNode.TheVariants as nodes
use Rattle.pc_model.specs.declared.tree.CutTree.{CutTree}
use Rattle.pc_model.specs.CutTrees.{CutShape, leaf, inner, size_of, nodes_from, joined, shapes_of, first_of_shapes, shape_of}
use Rattle.pc_cells_laws.proofs.Trees.{shape_of-nodes}
use Rattle.pc_document_format.specs.Formats.{IsFormat, IsLine, AreTrees, any, nodes_text}
use Rattle.pc_document_format.proofs.Nodes.{nodes_format}
use Rattle.pc_document_format.proofs.As.{as_format}
use Rattle.pc_proof.specs.Form.{IsFormedCutNode, IsFormedCutTree}
use Rattle.pc_document_lines.specs.TokenLines.{IsBareCut, cut_node_text, read_cut_node, bare_cut, is_inner}
use Rattle.pc_document.specs.DocumentLines.{cut_tree_lines}
use Rattle.pc_document.specs.Reading.{placed_cuts, read_cuts}
use Rattle.pc_document.proofs.TreeFormat.{text-map, unmapped, with_good, all_good}

-- ---- nodes

-- the nodes of a tree without the places of their parts
abbrev bare_nodes : CutShape → List CutNode
bare_nodes (leaf mark) = nodes.Leaf mark ∷ []
bare_nodes (inner cut t u) = nodes.Inner cut 0 0 ∷ bare_nodes t ++ bare_nodes u

abbrev all_nodes : List CutShape → List CutNode
all_nodes [] = []
all_nodes (t ∷ ts) = bare_nodes t ++ all_nodes ts

-- nodes lose their places
without_places : (t : CutShape) (k : ℕ) → map bare_cut (nodes_from k t) ≡ bare_nodes t
without_places (leaf mark) k = refl
without_places (inner cut t u) k =
    ap (λ (rest : List CutNode). nodes.Inner cut 0 0 ∷ rest) (map-append bare_cut (nodes_from (k + 1) t) (nodes_from (k + 1 + size_of t) u)
    ∙ ap (λ (front : List CutNode). front ++ map bare_cut (nodes_from (k + 1 + size_of t) u)) (without_places t (k + 1))
    ∙ ap (λ (back : List CutNode). bare_nodes t ++ back) (without_places u (k + 1 + size_of t)))

-- places do not tell in what nodes spell
same_trees : (xs : List CutNode) → shapes_of (map bare_cut xs) ≡ shapes_of xs
same_trees [] = refl
same_trees (nodes.Leaf mark ∷ xs) = ap (λ (ts : List CutShape). leaf mark ∷ ts) (same_trees xs)
same_trees (nodes.Inner cut first second ∷ xs) = ap (joined cut) (same_trees xs)

-- a cut takes the two trees after it
cut_spelled : (cut : Cut) (n : ℕ) (ts : List CutShape) → length ts ≡ suc (suc n) → (length (joined cut ts) ≡ suc n) × (nodes.Inner cut 0 0 ∷ all_nodes ts ≡ all_nodes (joined cut ts))
cut_spelled cut n [] long = absurd (omega (arith, long))
cut_spelled cut n (t ∷ []) long = absurd (omega (arith, long))
cut_spelled cut n (t ∷ u ∷ ts) long = (omega (arith, long), ap (λ (rest : List CutNode). nodes.Inner cut 0 0 ∷ rest) (sym (append_assoc (bare_nodes t) (bare_nodes u) (all_nodes ts))))

-- so many trees in preorder are what their nodes spell
abbrev AreSpelled : ℕ → List CutNode → Type 0
AreSpelled n xs = (length (shapes_of xs) ≡ n) × (xs ≡ all_nodes (shapes_of xs))

-- nodes of trees in preorder spell these
are_spelled : (schema : Schema) (xs : List CutNode) (n : ℕ) → AreTrees (IsBareCut schema) is_inner n xs → AreSpelled n xs
unfolding AreTrees
are_spelled schema [] zero trees = (refl, refl)
are_spelled schema [] (suc n) trees = absurd trees
are_spelled schema (x ∷ xs) zero trees = absurd trees
are_spelled schema (nodes.Leaf mark ∷ xs) (suc n) trees =
    let rest = are_spelled schema xs n trees.1 in
    (omega (arith, rest.0), ap (λ (after : List CutNode). nodes.Leaf mark ∷ after) rest.1)
are_spelled schema (nodes.Inner cut first second ∷ xs) (suc n) trees =
    let rest = are_spelled schema xs (suc (suc n)) trees.1 in
    let both = cut_spelled cut n (shapes_of xs) rest.0 in
    (both.0, ap (λ (x : CutNode). x ∷ xs) (sym trees.0.placeless) ∙ ap (λ (after : List CutNode). nodes.Inner cut 0 0 ∷ after) rest.1 ∙ both.1)

-- the nodes of one tree more
one_more : (t : CutShape) (n : ℕ) (ys : List CutNode) → AreTrees (λ x. ⊤) is_inner n ys → AreTrees (λ x. ⊤) is_inner (suc n) (bare_nodes t ++ ys)
unfolding AreTrees
one_more (leaf mark) n ys trees = (tt, trees)
one_more (inner cut t u) n ys trees =
    (tt, subst (λ (xs : List CutNode). AreTrees (λ x. ⊤) is_inner (suc (suc n)) xs) (sym (append_assoc (bare_nodes t) (bare_nodes u) ys)) (one_more t (suc n) (bare_nodes u ++ ys) (one_more u n ys trees)))

-- no nodes are those of no tree
no_trees : AreTrees {A = CutNode} (λ x. ⊤) is_inner 0 []
unfolding AreTrees
no_trees = tt

-- ---- the tree

module _ (schema : Schema) where
  -- a node in form is one without places too
  bare_good : (node : CutNode) → IsFormedCutNode schema node → IsBareCut schema (bare_cut node)
  bare_good (nodes.Leaf mark) good = record { placeless = refl; good = good }
  bare_good (nodes.Inner cut first second) good = record { placeless = refl; good = good }

  -- and the other way round
  good_bare : (node : CutNode) → IsBareCut schema (bare_cut node) → IsFormedCutNode schema node
  good_bare (nodes.Leaf mark) is = is.good
  good_bare (nodes.Inner cut first second) is = is.good

  -- nodes of one tree are those of the tree that they spell
  only_tree : (xs : List CutNode) → AreTrees (IsBareCut schema) is_inner 1 xs → map bare_cut (placed_cuts xs).nodes ≡ xs
  only_tree xs trees = by_trees (shapes_of xs) spelled.0 ∙ sym spelled.1
    where
      spelled : AreSpelled 1 xs
      spelled = are_spelled schema xs 1 trees

      by_trees : (ts : List CutShape) → length ts ≡ 1 → map bare_cut (nodes_from 0 (first_of_shapes ts)) ≡ all_nodes ts
      by_trees [] long = absurd (omega (arith, long))
      by_trees (t ∷ []) long = without_places t 0 ∙ sym (append-nil (bare_nodes t))
      by_trees (t ∷ u ∷ ts) long = absurd (omega (arith, long))

  -- the tree that nodes spell is in form, and has their lines
  cuts_made : (xs : List CutNode) → AreTrees (IsBareCut schema) is_inner 1 xs → IsFormedCutTree schema (placed_cuts xs) × (cut_tree_lines schema (placed_cuts xs) ≡ nodes_text (cut_node_text schema) xs)
  cuts_made xs trees =
      (record { preorder = ap (nodes_from 0) (sym (shape_of-nodes (shape_of xs) 0)); nodes = formed }, text-map (cut_node_text schema) bare_cut (placed_cuts xs).nodes ∙ ap (nodes_text (cut_node_text schema)) same)
    where
      same : map bare_cut (placed_cuts xs).nodes ≡ xs
      same = only_tree xs trees

      bare : All (IsBareCut schema) (map bare_cut (placed_cuts xs).nodes)
      bare = subst (All (IsBareCut schema)) (sym same) (all_good (IsBareCut schema) is_inner xs 1 trees)

      formed : All (IsFormedCutNode schema) (placed_cuts xs).nodes
      formed = All-weaker (λ node. IsBareCut schema (bare_cut node)) (IsFormedCutNode schema) good_bare (placed_cuts xs).nodes (unmapped (IsBareCut schema) bare_cut (placed_cuts xs).nodes bare)

  -- a tree in form is the one that its nodes spell without places
  cuts_parts : (t : CutTree) → IsFormedCutTree schema t → (xs : List CutNode) × AreTrees (IsBareCut schema) is_inner 1 xs × (placed_cuts xs ≡ t)
  cuts_parts t good = (map bare_cut t.nodes, with_good (IsBareCut schema) is_inner (map bare_cut t.nodes) 1 all_bare in_order, ap (λ (list : List CutNode). record { nodes = list }) same)
    where
      all_bare : All (IsBareCut schema) (map bare_cut t.nodes)
      all_bare = All-map (IsBareCut schema) bare_cut t.nodes (All-weaker (IsFormedCutNode schema) (λ node. IsBareCut schema (bare_cut node)) bare_good t.nodes good.nodes)

      in_order : AreTrees (λ x. ⊤) is_inner 1 (map bare_cut t.nodes)
      in_order = subst (AreTrees (λ x. ⊤) is_inner 1) (append-nil (bare_nodes (shape_of t.nodes)) ∙ sym (without_places (shape_of t.nodes) 0) ∙ ap (map bare_cut) (sym good.preorder)) (one_more (shape_of t.nodes) 0 [] no_trees)

      same : nodes_from 0 (shape_of (map bare_cut t.nodes)) ≡ t.nodes
      same = ap (λ (ts : List CutShape). nodes_from 0 (first_of_shapes ts)) (same_trees t.nodes) ∙ sym good.preorder

  -- Of the lines of nodes the format of a tree of cuts.
  pub cuts_format : IsLine (IsBareCut schema) (cut_node_text schema) (read_cut_node schema) → IsFormat (IsFormedCutTree schema) (cut_tree_lines schema) any (read_cuts schema)
  unfolding read_cuts
  cuts_format line = as_format (nodes_format is_inner line (nodes.Leaf Barren) (bare_good (nodes.Leaf Barren) tt) refl 1) (record {
    made = cuts_made;
    follows = λ xs next trees follows. tt;
    parts = cuts_parts;
    back_follows = λ xs next trees follows. tt;
  })
