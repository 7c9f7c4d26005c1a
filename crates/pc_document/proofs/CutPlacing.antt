-- The nodes of trees of cuts get the places of their parts.
use Rattle.std.proofs.Common.{◌≡◌, ℕ, ◌+◌, ◌<◌, ◌≤◌, List, ◌++◌, length, map, take, drop, get_or, set, refl, sym, ap, ◌∙◌, subst}
use Rattle.pc_model.specs.declared.tree.CutNode.{CutNode}
use Rattle.pc_model.specs.declared.tree.CutNode.TheVariants as cut_nodes
use Rattle.pc_document_lines.specs.TokenLines.{is_inner}
use Rattle.pc_document.specs.Spans.{ArePast, placed_cut, placed_cuts_from}
use Rattle.pc_document.proofs.PlacingSteps.{place_more, place_end, kinds_kept}

same_kind : (first second : ℕ) (node : CutNode) → is_inner (placed_cut first second node) ≡ is_inner node
same_kind first second (cut_nodes.Leaf mark) = refl
same_kind first second (cut_nodes.Inner cut one two) = refl

-- a node more
pub cut_more : (list nodes : List CutNode) (i : ℕ) (past : List ℕ) (x y : CutNode) → ArePast (map is_inner nodes) past 0 → i < length list
    → (map is_inner list ≡ map is_inner nodes) × (take i list ++ placed_cuts_from i (drop i list) ≡ placed_cuts_from 0 nodes)
    → x ≡ get_or list i x → y ≡ placed_cut (i + 1) (get_or past (i + 1) (i + 1)) x
    → (map is_inner (set list i y) ≡ map is_inner nodes) × (take (i + 1) (set list i y) ++ placed_cuts_from (i + 1) (drop (i + 1) (set list i y)) ≡ placed_cuts_from 0 nodes)
unfolding placed_cuts_from
cut_more list nodes i past x y known inside so_far read put =
    let is : y ≡ placed_cut (i + 1) (get_or past (i + 1) (i + 1)) (get_or list i x) = put ∙ ap (placed_cut (i + 1) (get_or past (i + 1) (i + 1))) read in (
      kinds_kept is_inner list i x y inside (ap is_inner is ∙ same_kind (i + 1) (get_or past (i + 1) (i + 1)) (get_or list i x)) ∙ so_far.0,
      place_more is_inner placed_cut placed_cuts_from (λ k x rest. refl) list i past x y (subst (λ flags. ArePast flags past 0) (sym so_far.0) known) inside is ∙ so_far.1,
    )

pub cut_end : (list nodes : List CutNode) (i : ℕ) → length list ≤ i → take i list ++ placed_cuts_from i (drop i list) ≡ placed_cuts_from 0 nodes → list ≡ placed_cuts_from 0 nodes
unfolding placed_cuts_from
cut_end list nodes i past_all so_far = sym (place_end is_inner placed_cut placed_cuts_from (λ k. refl) list i past_all) ∙ so_far
