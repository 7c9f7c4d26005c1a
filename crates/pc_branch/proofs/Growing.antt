-- The tree of a search once a node of it was split: what is known of each node, by number.
use Rattle.std.proofs.Common.{◌≡◌, ◌<◌, ◌≤◌, ℕ, ◌+◌, eqb, List, [], ◌∷◌, ◌++◌, length, get_or, sym, ◌∙◌, subst, arith}
use Rattle.std.specs.Prelude.{ℤ}
use Rattle.std.proofs.lemmas.Bool.{cond_both, eqb-true}
use Rattle.std.proofs.lemmas.List.{get_or_append_left, get_or_push, get_or-set_other, length-append, length-set}
use Rattle.pc_model.specs.declared.tree.Mult.{Mult}
use Rattle.pc_program_bound.specs.declared.program.Program.{Program}
use Rattle.pc_program_bound.specs.Sums.{nat_at}
use Rattle.pc_program_bound.specs.SplitTrees.{less_caps, more_floors}
use Rattle.pc_frontier.specs.declared.node.State.TheVariants as states
use Rattle.pc_frontier.specs.declared.node.Node.{Node}
use Rattle.pc_frontier.specs.Frontier.{Seen, IsInHand, no_node, node_at, with_split}
use Rattle.pc_frontier.specs.Boxes.{Box, Grown, leaf, split, divided, AreGrown, AreBoxed, box_at}
use Rattle.pc_frontier.proofs.Trees.{split_parts}
use Rattle.pc_branch.specs.Searching.{start_of}
use Rattle.pc_branch.specs.declared.visited.Visited.{Visited}
use Rattle.pc_branch.specs.Grown.{no_visited, visited_at, IsVisited, IsPartedAt, IsGrown}

-- ---- two items put at the end

module _ {X : Type 0} (xs : List X) (y z d : X) where
  pub length-pair : length ((xs ++ y ∷ []) ++ z ∷ []) ≡ length xs + 2
  length-pair = simp length-append (omega arith)

  pub old-pair : (i : ℕ) → i < length xs → get_or ((xs ++ y ∷ []) ++ z ∷ []) i d ≡ get_or xs i d
  old-pair i h =
      let longer : i < length (xs ++ y ∷ []) = omega (arith, length-append xs (y ∷ [])) in
      get_or_append_left (xs ++ y ∷ []) (z ∷ []) d i longer ∙ get_or_append_left xs (y ∷ []) d i h

  pub first-pair : (i : ℕ) → length xs ≡ i → get_or ((xs ++ y ∷ []) ++ z ∷ []) i d ≡ y
  first-pair i e =
      let longer : i < length (xs ++ y ∷ []) = omega (arith, length-append xs (y ∷ [])) in
      get_or_append_left (xs ++ y ∷ []) (z ∷ []) d i longer ∙ get_or_push xs y d i e

  pub second-pair : (i : ℕ) → length xs + 1 ≡ i → get_or ((xs ++ y ∷ []) ++ z ∷ []) i d ≡ z
  second-pair i e = get_or_push (xs ++ y ∷ []) z d i (omega (arith, length-append xs (y ∷ [])))

-- ---- by number

-- the nodes after a split: the others stay, and the two new ones are in hand
pub record AreSplit (before after : List Node) (n : ℕ) : Type 0 where
  pub there : n < length before
  pub sized : length after ≡ length before + 2
  pub old : (i : ℕ) → i < length before → (i ≡ n → ⊥) → node_at after i ≡ node_at before i
  pub parted : (node_at after n).state ≡ states.Split (length before)
  pub first : (node_at after (length before)).state ≡ states.InHand
  pub second : (node_at after (length before + 1)).state ≡ states.InHand

-- what is known of them
pub record AreVisited (before after : List Visited) (k : ℕ) (less more : Visited) : Type 0 where
  pub sized : length after ≡ k + 2
  pub old : (i : ℕ) → i < k → visited_at after i ≡ visited_at before i
  pub first : visited_at after k ≡ less
  pub second : visited_at after (k + 1) ≡ more

pub are_split : (f : Seen) (n cell at : ℕ) → IsInHand f n → AreSplit f.nodes (with_split n cell at f).nodes n
are_split f n cell at hand =
    let parts = split_parts f n cell at hand in
    record {
      there = hand.0;
      sized = parts.sized;
      old = λ i h ne.
          let size = length-set f.nodes n (record (node_at f.nodes n) { state = states.Split (length f.nodes) }) in
          old-pair _ _ _ no_node i (omega (arith, size, h)) ∙ get_or-set_other f.nodes n i _ no_node ne;
      parted = parts.parted;
      first = parts.first_state;
      second = parts.second_state;
    }

pub are_visited : (visited : List Visited) (k : ℕ) (less more : Visited) → length visited ≡ k → AreVisited visited ((visited ++ less ∷ []) ++ more ∷ []) k less more
are_visited visited k less more long =
    let size = length-pair visited less more no_visited in
    record {
      sized = omega (arith, size, long);
      old = λ i h. old-pair visited less more no_visited i (omega (arith, h, long));
      first = first-pair visited less more no_visited k long;
      second = second-pair visited less more no_visited (k + 1) (omega (arith, long));
    }

-- ---- the tree

-- the parts of a split node's box are visited
pub record ArePartsOf (p : Program) (box : Box) (v : Visited) (cell at : ℕ) (less more : Visited) : Type 0 where
  pub parted : IsPartedAt cell at v.known
  pub low : nat_at box.floors cell ≤ at
  pub high : at < nat_at box.caps cell
  pub under : IsVisited p v.mult v.bound box.floors (less_caps box.caps cell at) less
  pub over : IsVisited p v.mult v.bound (more_floors box.floors cell at) box.caps more

module _ (p : Program) (nodes : List Node) (before after : List Visited) (n cell at : ℕ) (less more : Visited) (there : n < length nodes)
    (made : AreVisited before after (length nodes) less more) (parts : ArePartsOf p (box_at nodes (start_of p) n) (visited_at before n) cell at less more) where
  -- the leaf becomes a split with two leaves
  leaf_divides : (above : Mult) (limit : ℤ) (floors caps : List ℕ) → box_at nodes (start_of p) n ≡ record { floors = floors; caps = caps }
      → IsVisited p above limit floors caps (visited_at before n)
      → IsGrown p after above limit floors caps (split n cell at (leaf (length nodes)) (leaf (length nodes + 1)))
  leaf_divides above limit floors caps boxed says =
      let here : ArePartsOf p (record { floors = floors; caps = caps }) (visited_at before n) cell at less more =
      subst (λ (b : Box). ArePartsOf p b (visited_at before n) cell at less more) boxed parts in
      rw (made.old n there, made.first, made.second) (says, here.parted, here.low, here.high, here.under, here.over)

  same_leaf : (above : Mult) (limit : ℤ) (floors caps : List ℕ) (k : ℕ) → k ≡ n → box_at nodes (start_of p) k ≡ record { floors = floors; caps = caps }
      → IsVisited p above limit floors caps (visited_at before k)
      → IsGrown p after above limit floors caps (split n cell at (leaf (length nodes)) (leaf (length nodes + 1)))
  same_leaf above limit floors caps k same boxed says =
      leaf_divides above limit floors caps
      (subst (λ (i : ℕ). box_at nodes (start_of p) i ≡ record { floors = floors; caps = caps }) same boxed)
      (subst (λ (i : ℕ). IsVisited p above limit floors caps (visited_at before i)) same says)

  -- a split of the tree and the trees under it
  abbrev IsSplitSaid : Mult → ℤ → List ℕ → List ℕ → ℕ → ℕ → Grown → Grown → Visited → Type 0
  IsSplitSaid above limit floors caps c a t u v =
      IsVisited p above limit floors caps v × IsPartedAt c a v.known × (nat_at floors c ≤ a) × (a < nat_at caps c)
      × IsGrown p after v.mult v.bound floors (less_caps caps c a) t × IsGrown p after v.mult v.bound (more_floors floors c a) caps u

  pub grown_divides : (above : Mult) (limit : ℤ) (floors caps : List ℕ) (g : Grown) → AreGrown nodes g → AreBoxed nodes (start_of p) (record { floors = floors; caps = caps }) g
      → IsGrown p before above limit floors caps g → IsGrown p after above limit floors caps (divided n cell at (length nodes) g)
  grown_divides above limit floors caps (leaf k) grown boxed says =
      cond_both (eqb k n) (split n cell at (leaf (length nodes)) (leaf (length nodes + 1))) (leaf k) (IsGrown p after above limit floors caps)
      (λ same. same_leaf above limit floors caps k (eqb-true k n same) boxed says)
      (λ other. subst (IsVisited p above limit floors caps) (sym (made.old k grown.0)) says)
  grown_divides above limit floors caps (split k c a t u) grown boxed says =
      let v = visited_at before k in
      subst (IsSplitSaid above limit floors caps c a (divided n cell at (length nodes) t) (divided n cell at (length nodes) u)) (sym (made.old k grown.0)) (
        says.0,
        says.1,
        says.2,
        says.3,
        grown_divides v.mult v.bound floors (less_caps caps c a) t grown.6 boxed.1 says.4,
        grown_divides v.mult v.bound (more_floors floors c a) caps u grown.7 boxed.2 says.5,
      )
