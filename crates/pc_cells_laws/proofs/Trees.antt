-- Trees of cuts and their nodes in preorder.
use Rattle.std.proofs.Common.{◌≡◌, ℕ, ◌+◌, ◌≤◌, List, [], ◌∷◌, ◌++◌, length, refl, ◌∙◌, ap, arith, append_assoc, append-nil, sym}
use Rattle.std.proofs.lemmas.List.{length-append}
use Rattle.pc_model.specs.declared.region.Region.{Region}
use Rattle.pc_model.specs.declared.tree.CutNode.{CutNode}
use Rattle.pc_model.specs.CutTrees.{CutShape, leaf, inner, size_of, nodes_from, joined, shapes_of, first_of_shapes, shape_of, leaves_of, first_part, second_part}

-- ---- the tree that nodes spell

-- the nodes of a tree, and more behind them, spell that tree first
pub shapes_of-nodes : (tree : CutShape) (number : ℕ) (more : List CutNode) → shapes_of (nodes_from number tree ++ more) ≡ tree ∷ shapes_of more
shapes_of-nodes (leaf mark) number more = refl
shapes_of-nodes (inner cut first second) number more =
    ap (λ nodes. joined cut (shapes_of nodes)) (append_assoc (nodes_from (number + 1) first) (nodes_from (number + 1 + size_of first) second) more)
    ∙ ap (joined cut) (shapes_of-nodes first (number + 1) (nodes_from (number + 1 + size_of first) second ++ more) ∙ ap (λ trees. first ∷ trees) (shapes_of-nodes second (number + 1 + size_of first) more))

-- the nodes of a tree in preorder are those of no other tree
pub shape_of-nodes : (tree : CutShape) (number : ℕ) → shape_of (nodes_from number tree) ≡ tree
shape_of-nodes tree number =
    ap shape_of (sym (append-nil (nodes_from number tree))) ∙ ap first_of_shapes (shapes_of-nodes tree number [])

-- ---- how many nodes and leaves there are

pub length-nodes : (tree : CutShape) (number : ℕ) → length (nodes_from number tree) ≡ size_of tree
length-nodes (leaf mark) number = refl
length-nodes (inner cut first second) number =
    omega (arith, length-append (nodes_from (number + 1) first) (nodes_from (number + 1 + size_of first) second), length-nodes first (number + 1), length-nodes second (number + 1 + size_of first))

pub leaves-short : (region : Region) (tree : CutShape) → length (leaves_of region tree) ≤ size_of tree
leaves-short region (leaf mark) = omega arith
leaves-short region (inner cut first second) =
    omega (arith, length-append (leaves_of (first_part region cut) first) (leaves_of (second_part region cut) second), leaves-short (first_part region cut) first, leaves-short (second_part region cut) second)

pub ruleset nodes_spell = (shape_of-nodes)
