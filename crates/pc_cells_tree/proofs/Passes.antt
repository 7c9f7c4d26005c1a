-- The pass over the growing list: its start, a step at a node, and that there is less left to do.
use Rattle.std.proofs.Common.{◌≡◌, ◌≢◌, ℕ, zero, suc, ◌+◌, ◌*◌, ◌^◌, ◌<◌, ◌≤◌, inl, inr, Bool, true, List, [], ◌∷◌, ◌++◌, length, get_or, drop, All, refl, sym, ◌∙◌, ap, subst, true≢false, arith}
use Rattle.std.proofs.Math.Nat.{pow-suc}
use Rattle.std.proofs.Math.Pow.{pow_mono}
use Rattle.std.proofs.lemmas.Bool.{cases_lt}
use Rattle.std.proofs.lemmas.Nat.{pow_pos}
use Rattle.std.proofs.lemmas.List.{drop-append-le, get_or_default, get_or_past}
use Rattle.std.proofs.lemmas.List.Elements.{All-append}
use Rattle.std.proofs.lemmas.List.Sums.{sum_by-append, sum_by-drop_more}
use Rattle.pc_model.specs.declared.region.Region.{Region}
use Rattle.pc_model.specs.declared.area.Area.{Area}
use Rattle.pc_model.specs.declared.constraint.Constraint.{Constraint}
use Rattle.pc_model.specs.declared.tree.Cut.{Cut}
use Rattle.pc_model.specs.declared.tree.LeafMark.{LeafMark}
use Rattle.pc_model.specs.declared.tree.LeafMark.TheVariants.{Barren}
use Rattle.pc_model.specs.declared.tree.CutNode.{CutNode}
use Rattle.pc_model.specs.declared.tree.CutNode.TheVariants as forms
use Rattle.pc_model.specs.CutTrees.{IsInside, IsInsideArea, first_part, second_part}
use Rattle.pc_model.specs.Cells.{IsSettledAs}
use Rattle.pc_box.specs.Boxes.{IsBox}
use Rattle.pc_box.proofs.CutRows.{IsProper-from_divides}
use Rattle.pc_cells_tree.specs.declared.known.Known.{Known}
use Rattle.pc_cells_tree.specs.declared.refine.Boxed.{Boxed}
use Rattle.pc_cells_tree.specs.declared.decision.Decision.{Decision}
use Rattle.pc_cells_tree.specs.declared.decision.Decision.TheVariants.{Settled, Divided}
use Rattle.pc_cells_tree.specs.Decisions.{IsComparable, CanBeSettled, IsNeeded}
use Rattle.pc_cells_tree.specs.Faces.{IsSpentBy}
use Rattle.pc_cells_tree.specs.Knowing.{IsDecision, IsKnown}
use Rattle.pc_cells_tree.specs.Linked.{node_at, box_at, AreBoxesOf, IsDone, AreDoneBelow, is_leaf_node}
use Rattle.pc_cells_tree.specs.Refining.{nodes_cut, boxes_cut, leaf_sum, IsRefining, IsStep, work_from}
use Rattle.pc_cells_tree.specs.Rooms.{room}
use Rattle.pc_cells_tree.proofs.CutOn.{nodes_long, cut_node, old_node, first_node, second_node, old_box, first_box, second_box, each_number, tree_again}
use Rattle.pc_cells_tree.proofs.Grown.{first_comparable, second_comparable}
use Rattle.pc_cells_tree.proofs.Parts.{parts_can_be_settled, within_area}
use Rattle.pc_cells_tree.proofs.Potentials.{leaf_sum-more, leaf_sum-cut, due_leaf}
use Rattle.pc_cells_tree.proofs.Rooms.{first_smaller, second_smaller}
use Rattle.pc_cells_tree.proofs.TreeLaws.{first_inside, second_inside, inside_whole, done_by, leaf_done}

-- a leaf is no cut
leaf_or_cut : (node : CutNode) (cut : Cut) (first second : ℕ) → is_leaf_node node ≡ true → node ≡ forms.Inner cut first second → ⊥
leaf_or_cut node cut first second leaf e = true≢false (sym leaf ∙ ap is_leaf_node e)

pub leaf_read : (nodes others : List CutNode) (place : ℕ) (d : CutNode) (leaf : Bool) → others ≡ nodes → place < length nodes → leaf ≡ is_leaf_node (get_or others place d) → leaf ≡ true →
    is_leaf_node (node_at nodes place) ≡ true
leaf_read nodes others place d leaf same there e is = sym (ap is_leaf_node (ap (λ all. get_or all place d) same ∙ get_or_default nodes place d (forms.Leaf Barren) there)) ∙ sym e ∙ is

same_cut : (cut other : Cut) (first second one two : ℕ) → forms.Inner cut first second ≡ forms.Inner other one two → cut ≡ other
same_cut cut other first second one two e = let same = e in cc

module _ (constraints : List Constraint) (chosen : Area) where
  -- ---- the start

  pub started : (start : Boxed) → AreBoxesOf (box_at start.boxes 0) start.nodes start.boxes → All (IsComparable constraints chosen) start.boxes → IsRefining constraints chosen start start 0
  started start tree comparable = record {
    tree = tree;
    comparable = comparable;
    done = λ k below. absurd (omega arith);
    within = omega arith;
    longer = omega arith;
    cuts = (0, omega arith);
    boxes_stay = λ k old. refl;
    nodes_stay = λ k old done. refl;
    needed = λ k cut first second leaf e. absurd (leaf_or_cut (node_at start.nodes k) cut first second leaf e);
    divided = λ rest done. done;
    spent = λ rest need uses done inside. omega arith;
  }

  pub filled : (boxes : List Region) → All (IsComparable constraints chosen) boxes → All IsBox boxes
  filled boxes each k d inside = (each k d inside).filled

  module _ (boxed : Boxed) (place : ℕ) (box d : Region) (boxes : List Region) (there : place < length boxed.nodes) (long : length boxed.boxes ≡ length boxed.nodes) (is : box ≡ get_or boxes place d) (same : boxes ≡ boxed.boxes) where
    pub box_read : box ≡ box_at boxed.boxes place
    box_read = is ∙ ap (λ all. get_or all place d) same ∙ get_or_default boxed.boxes place d (record { sides = [] }) (omega (arith, there, long))

    -- a box that is settled leaves all as it is
    pub settled_node : (decision : Decision) (mark : LeafMark) → IsDecision constraints chosen box decision → decision ≡ Settled mark → IsStep constraints chosen place boxed boxed
    settled_node decision mark says e =
        let settled : IsSettledAs constraints chosen box mark = subst (IsDecision constraints chosen box) e says in
        inl (refl, done_by constraints chosen (box_at boxed.boxes place) (node_at boxed.nodes place) (mark, subst (λ part. IsSettledAs constraints chosen part mark) box_read settled))

    -- what is said of a box that is cut
    module _ (decision : Decision) (cut : Cut) (known : Known) (says : IsDecision constraints chosen box decision) (e : decision ≡ Divided cut known) where
      cut_says : IsNeeded constraints chosen box cut × IsKnown constraints box known
      cut_says = subst (IsDecision constraints chosen box) e says

      pub cut_needed : IsNeeded constraints chosen (box_at boxed.boxes place) cut
      cut_needed = subst (λ part. IsNeeded constraints chosen part cut) box_read cut_says.0

      pub cut_known : IsKnown constraints (box_at boxed.boxes place) known
      cut_known = subst (λ part. IsKnown constraints part known) box_read cut_says.1

  module _ (start now : Boxed) (place : ℕ) (so_far : IsRefining constraints chosen start now place) (there : place < length now.nodes) where
    long : length now.boxes ≡ length now.nodes
    long = so_far.tree.long

    here : IsComparable constraints chosen (box_at now.boxes place)
    here = so_far.comparable place (record { sides = [] }) (omega (arith, there, long))

    -- ---- a node that is done

    passed : IsDone constraints chosen (box_at now.boxes place) (node_at now.nodes place) → IsRefining constraints chosen start now (place + 1)
    passed done = record {
      tree = so_far.tree;
      comparable = so_far.comparable;
      done = λ k below. elim (cases_lt k place) [
        | inl less ↦ so_far.done k less
        | inr more ↦
            (let same : k ≡ place = omega (arith, below, more) in subst (λ i. IsDone constraints chosen (box_at now.boxes i) (node_at now.nodes i)) (sym same) done)
      ];
      within = omega (arith, there);
      longer = so_far.longer;
      cuts = so_far.cuts;
      boxes_stay = so_far.boxes_stay;
      nodes_stay = so_far.nodes_stay;
      needed = so_far.needed;
      divided = so_far.divided;
      spent = λ rest need uses done inside. omega (arith, so_far.spent rest need uses done inside, leaf_sum-more need now.nodes now.boxes place there long);
    }

    -- ---- a leaf that is cut

    module _ (cut : Cut) (leaf : is_leaf_node (node_at now.nodes place) ≡ true) (needs : IsNeeded constraints chosen (box_at now.boxes place) cut) where
      abbrev nodes : List CutNode
      nodes = nodes_cut now.nodes place cut

      abbrev boxes : List Region
      boxes = boxes_cut now.boxes place cut

      abbrev box : Region
      box = box_at now.boxes place

      abbrev first : Region
      first = first_part box cut

      abbrev second : Region
      second = second_part box cut

      again : AreBoxesOf (box_at start.boxes 0) nodes boxes
      again =
          tree_again now.nodes now.boxes place cut there long (box_at start.boxes 0) so_far.tree leaf (IsProper-from_divides box cut needs.divides here.filled)

      both : All (IsComparable constraints chosen) (first ∷ second ∷ [])
      both zero d inside = first_comparable constraints chosen box first cut here needs.divides refl
      both (suc zero) d inside = second_comparable constraints chosen box second cut here needs.divides refl
      both (suc (suc k)) d inside = absurd (omega (arith, inside))

      still_done : (k : ℕ) → k < place + 1 → IsDone constraints chosen (box_at boxes k) (node_at nodes k)
      still_done k below = elim (cases_lt k place) [
        | inl less ↦
            (let old : k < length now.nodes = omega (arith, less, there) in
            rw (old_box now.nodes now.boxes place cut there long k old, old_node now.nodes now.boxes place cut there long k old (omega (arith, less))) (so_far.done k less))
        | inr more ↦
            (let same : k ≡ place = omega (arith, below, more) in
            subst (λ i. IsDone constraints chosen (box_at boxes i) (node_at nodes i)) (sym same)
            (subst (IsDone constraints chosen (box_at boxes place)) (sym (cut_node now.nodes now.boxes place cut there long)) tt))
      ]

      -- the leaf could not be marked, so it is none of those that stay
      stays : (k : ℕ) → k < length start.nodes → IsDone constraints chosen (box_at start.boxes k) (node_at start.nodes k) → node_at nodes k ≡ node_at start.nodes k
      stays k old done =
          let inside : k < length now.nodes = omega (arith, old, so_far.longer) in
          let kept = so_far.nodes_stay k old done in
          let other : k ≢ place = λ same.
          (let was : is_leaf_node (node_at start.nodes k) ≡ true = ap is_leaf_node (sym kept ∙ ap (node_at now.nodes) same) ∙ leaf in
          let settled = leaf_done constraints chosen (box_at start.boxes k) (node_at start.nodes k) was done in
          needs.open_still (subst (CanBeSettled constraints chosen) (sym (so_far.boxes_stay k old) ∙ ap (box_at now.boxes) same) settled)) in
          old_node now.nodes now.boxes place cut there long k inside other ∙ kept

      abbrev HasNeed : ℕ → Type 0
      HasNeed k = (at : Cut) (one two : ℕ) → is_leaf_node (node_at start.nodes k) ≡ true → node_at nodes k ≡ forms.Inner at one two → IsNeeded constraints chosen (box_at boxes k) at

      need_here : HasNeed place
      need_here at one two was e =
          let same = same_cut cut at (length now.nodes) (length now.nodes + 1) one two (sym (cut_node now.nodes now.boxes place cut there long) ∙ e) in
          subst (IsNeeded constraints chosen (box_at boxes place)) same (subst (λ part. IsNeeded constraints chosen part cut) (sym (old_box now.nodes now.boxes place cut there long place there)) needs)

      need_old : (k : ℕ) → k < length now.nodes → k ≢ place → HasNeed k
      need_old k old other at one two was e =
          subst (λ part. IsNeeded constraints chosen part at) (sym (old_box now.nodes now.boxes place cut there long k old))
          (so_far.needed k at one two was (sym (old_node now.nodes now.boxes place cut there long k old other) ∙ e))

      need_new : (k : ℕ) → node_at nodes k ≡ forms.Leaf Barren → HasNeed k
      need_new k new at one two was e = absurd (leaf_or_cut (node_at nodes k) at one two (ap is_leaf_node new) e)

      has_needs : (k : ℕ) → HasNeed k
      has_needs k = elim (cases_lt k (length nodes)) [
        | inl inside ↦
            each_number now.nodes now.boxes place cut there long HasNeed need_here need_old (need_new (length now.nodes) (first_node now.nodes now.boxes place cut there long))
            (need_new (length now.nodes + 1) (second_node now.nodes now.boxes place cut there long)) k inside
        | inr past ↦ need_new k (get_or_past nodes k (forms.Leaf Barren) past)
      ]

      module _ (rest : List Constraint) (done : AreDoneBelow rest chosen start.nodes start.boxes (length start.nodes)) where
        abbrev IsDoneAt : ℕ → Type 0
        IsDoneAt k = IsDone rest chosen (box_at boxes k) (node_at nodes k)

        settled_here : CanBeSettled rest chosen box
        settled_here = leaf_done rest chosen box (node_at now.nodes place) leaf (so_far.divided rest done place there)

        done_new : (k : ℕ) (piece : Region) → node_at nodes k ≡ forms.Leaf Barren → box_at boxes k ≡ piece → IsInside piece box → IsDoneAt k
        done_new k piece node same inner = rw (node, same) (parts_can_be_settled rest chosen box piece settled_here inner)

        all_done : AreDoneBelow rest chosen nodes boxes (length nodes)
        all_done =
            each_number now.nodes now.boxes place cut there long IsDoneAt (subst (IsDone rest chosen (box_at boxes place)) (sym (cut_node now.nodes now.boxes place cut there long)) tt)
            (λ k old other. rw (old_box now.nodes now.boxes place cut there long k old, old_node now.nodes now.boxes place cut there long k old other) (so_far.divided rest done k old))
            (done_new (length now.nodes) first (first_node now.nodes now.boxes place cut there long) (first_box now.nodes now.boxes place cut there long) (first_inside box first cut needs.divides refl))
            (done_new (length now.nodes + 1) second (second_node now.nodes now.boxes place cut there long) (second_box now.nodes now.boxes place cut there long)
            (second_inside box second cut needs.divides refl))

        spends : (need : Region → ℕ) → IsSpentBy rest constraints chosen need → IsInsideArea (box_at start.boxes 0) chosen →
            suc so_far.cuts.0 + leaf_sum need (drop (place + 1) nodes) (drop (place + 1) boxes) ≤ leaf_sum need start.nodes start.boxes
        spends need uses inside =
            let used = uses box cut here settled_here (within_area (box_at start.boxes 0) box (inside_whole (box_at start.boxes 0) now.nodes now.boxes so_far.tree place there) chosen inside) needs in
            omega (
              arith,
              used,
              so_far.spent rest need uses done inside,
              leaf_sum-more need now.nodes now.boxes place there long,
              due_leaf need (node_at now.nodes place) box leaf,
              leaf_sum-cut need now.nodes now.boxes place cut there long,
            )

      divided_on : IsRefining constraints chosen start (record { nodes = nodes; boxes = boxes }) (place + 1)
      divided_on = record {
        tree = again;
        comparable = All-append (IsComparable constraints chosen) now.boxes (first ∷ second ∷ []) so_far.comparable both;
        done = still_done;
        within = omega (arith, there, nodes_long now.nodes now.boxes place cut there long);
        longer = omega (arith, so_far.longer, nodes_long now.nodes now.boxes place cut there long);
        cuts = (suc so_far.cuts.0, omega (arith, so_far.cuts.1, nodes_long now.nodes now.boxes place cut there long));
        boxes_stay = λ k old. old_box now.nodes now.boxes place cut there long k (omega (arith, old, so_far.longer)) ∙ so_far.boxes_stay k old;
        nodes_stay = stays;
        needed = has_needs;
        divided = all_done;
        spent = λ rest need uses done inside. spends rest done need uses inside;
      }

    pub stepped : (after : Boxed) → IsStep constraints chosen place now after → IsRefining constraints chosen start after (place + 1)
    stepped after (inl same) = subst (λ boxed. IsRefining constraints chosen start boxed (place + 1)) (sym same.0) (passed same.1)
    stepped after (inr is) =
        let whole : after ≡ record { nodes = nodes_cut now.nodes place is.cut; boxes = boxes_cut now.boxes place is.cut } = rw (sym is.nodes_are, sym is.boxes_are) refl in
        subst (λ boxed. IsRefining constraints chosen start boxed (place + 1)) (sym whole) (divided_on is.cut is.leaf is.needed)

    -- ---- what is left to do

    abbrev weight : Region → ℕ
    weight part = 2 ^ (2 * room part)

    pub parts_weigh_less : (piece : Region) → room piece < room (box_at now.boxes place) → weight piece * 4 ≤ weight (box_at now.boxes place)
    parts_weigh_less piece less =
        let more : 2 ^ suc (suc (2 * room piece)) ≤ weight (box_at now.boxes place) = pow_mono {i = suc (suc (2 * room piece))} {j = 2 * room (box_at now.boxes place)} (omega (arith, less)) in
        omega (arith, more, pow-suc 2 (suc (2 * room piece)), pow-suc 2 (2 * room piece))

    pub less_left : (after : Boxed) → IsStep constraints chosen place now after → work_from (place + 1) after.boxes < work_from place now.boxes
    less_left after (inl same) =
        rw (ap (λ (boxed : Boxed). boxed.boxes) same.0)
        (omega (arith, sum_by-drop_more weight now.boxes place (record { sides = [] }) (omega (arith, there, long)), pow_pos (2 * room (box_at now.boxes place))))
    less_left after (inr is) =
        let box = box_at now.boxes place in
        let first = first_part box is.cut in
        let second = second_part box is.cut in
        let left : drop (place + 1) (now.boxes ++ first ∷ second ∷ []) ≡ drop (place + 1) now.boxes ++ first ∷ second ∷ [] =
        drop-append-le (place + 1) now.boxes (first ∷ second ∷ []) (omega (arith, there, long)) in
        rw (is.boxes_are, left)
        (omega (
          arith,
          sum_by-append weight (drop (place + 1) now.boxes) (first ∷ second ∷ []),
          sum_by-drop_more weight now.boxes place (record { sides = [] }) (omega (arith, there, long)),
          parts_weigh_less first (first_smaller box is.cut is.needed.divides first refl),
          parts_weigh_less second (second_smaller box is.cut is.needed.divides second refl),
          pow_pos (2 * room box),
        ))
