-- The nodes of search trees get the places of their parts.
use Rattle.std.proofs.Common.{◌≡◌, ℕ, ◌+◌, ◌<◌, ◌≤◌, List, ◌++◌, length, map, take, drop, get_or, set, refl, sym, ap, ◌∙◌, subst}
use Rattle.pc_model.specs.declared.tree.TreeNode.{TreeNode}
use Rattle.pc_model.specs.declared.tree.TreeNode.TheVariants as nodes
use Rattle.pc_document_lines.specs.NodeLines.{is_split}
use Rattle.pc_document.specs.Spans.{ArePast, placed_node, placed_from}
use Rattle.pc_document.proofs.PlacingSteps.{place_more, place_end, kinds_kept}

same_kind : (first second : ℕ) (node : TreeNode) → is_split (placed_node first second node) ≡ is_split node
same_kind first second (nodes.Bound m) = refl
same_kind first second (nodes.Void m) = refl
same_kind first second (nodes.Split cell at less more) = refl

-- a node more
pub node_more : (list nodes : List TreeNode) (i : ℕ) (past : List ℕ) (x y : TreeNode) → ArePast (map is_split nodes) past 0 → i < length list
    → (map is_split list ≡ map is_split nodes) × (take i list ++ placed_from i (drop i list) ≡ placed_from 0 nodes)
    → x ≡ get_or list i x → y ≡ placed_node (i + 1) (get_or past (i + 1) (i + 1)) x
    → (map is_split (set list i y) ≡ map is_split nodes) × (take (i + 1) (set list i y) ++ placed_from (i + 1) (drop (i + 1) (set list i y)) ≡ placed_from 0 nodes)
unfolding placed_from
node_more list nodes i past x y known inside so_far read put =
    let is : y ≡ placed_node (i + 1) (get_or past (i + 1) (i + 1)) (get_or list i x) = put ∙ ap (placed_node (i + 1) (get_or past (i + 1) (i + 1))) read in (
      kinds_kept is_split list i x y inside (ap is_split is ∙ same_kind (i + 1) (get_or past (i + 1) (i + 1)) (get_or list i x)) ∙ so_far.0,
      place_more is_split placed_node placed_from (λ k x rest. refl) list i past x y (subst (λ flags. ArePast flags past 0) (sym so_far.0) known) inside is ∙ so_far.1,
    )

pub node_end : (list nodes : List TreeNode) (i : ℕ) → length list ≤ i → take i list ++ placed_from i (drop i list) ≡ placed_from 0 nodes → list ≡ placed_from 0 nodes
unfolding placed_from
node_end list nodes i past_all so_far = sym (place_end is_split placed_node placed_from (λ k. refl) list i past_all) ∙ so_far
