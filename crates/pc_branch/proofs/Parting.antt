-- The box of a node in hand that is to be split, and its two parts.
use Rattle.std.proofs.Common.{◌≡◌, ◌<◌, ◌≤◌, ℕ, List, length, All, get_or, subst, sym, ◌∙◌, inl, inr, arith}
use Rattle.std.specs.Prelude.{ℤ, pos, ◌*ℤ◌}
use Rattle.std.proofs.lemmas.Int.{ints}
use Rattle.std.proofs.lemmas.List.{get_or_default}
use Rattle.std.proofs.lemmas.List.Elements.{All-from_get_or}
use Rattle.pc_model.specs.declared.tree.Mult.{Mult}
use Rattle.pc_program_bound.specs.declared.program.Program.{Program}
use Rattle.pc_program_bound.specs.Sums.{nat_at, int_at}
use Rattle.pc_program_bound.specs.Allocation.{cells_of, IsBox, IsProgram}
use Rattle.pc_program_bound.specs.Bound.{IsFit, IsMultiplier, HasFitWidth, bound_of}
use Rattle.pc_program_bound.specs.SplitTrees.{less_caps, more_floors}
use Rattle.pc_simplex.specs.Vertices.{IsFitMult}
use Rattle.pc_simplex.proofs.Vertices.{IsVertex-point}
use Rattle.pc_frontier.specs.declared.node.Node.{Node}
use Rattle.pc_frontier.specs.declared.node.State.TheVariants as states
use Rattle.pc_frontier.specs.Frontier.{node_at}
use Rattle.pc_frontier.specs.Boxes.{Box, Grown, leaf, split, HasLeaf, IsLeaf, IsLeafState, HasRange, AreGrown, AreBoxed, AreFitting, box_at}
use Rattle.pc_frontier.proofs.Boxed.{trees_boxed}
use Rattle.pc_branch.specs.Licence.{no_multipliers, first_bound}
use Rattle.pc_branch.specs.Searching.{start_of}
use Rattle.pc_branch.specs.Steps.{IsGoing}
use Rattle.pc_branch.specs.Visits.{box_of, HasCounts, ArePartsVisited}
use Rattle.pc_branch.specs.declared.visit.Visit.{Visit}
use Rattle.pc_branch.specs.declared.search.Search.{Search}
use Rattle.pc_branch.specs.declared.search.Hand.{Hand}
use Rattle.pc_branch.specs.declared.visited.Visited.{Visited}
use Rattle.pc_branch.specs.Grown.{no_visited, visited_at, IsVisited, IsPartedAt, IsGrown}
use Rattle.pc_branch.proofs.Leaves.{IsLeafAt, IsSplitPlace, from_start, parting_at}
use Rattle.pc_branch.proofs.Points.{split-inside}

-- the start box, as its two lists were copied
pub same_fit : (nodes : List Node) (p : Program) (floors caps : List ℕ) → floors ≡ p.floor → caps ≡ p.cap → AreFitting nodes (start_of p)
    → AreFitting nodes (record { floors = floors; caps = caps })
same_fit nodes p floors caps e h fit = rw (e, h) fit

-- ---- the gains fit

pub gains_fit : (p : Program) → IsProgram p → HasFitWidth p (no_multipliers p) → All IsFit p.gain
gains_fit p program wide = All-from_get_or IsFit p.gain (pos 0) (λ i lt.
    let sized = program.gains in
    let scaled = (wide.cells i (omega (arith, lt, sized))).rest.scaled in
    let one : pos 1 *ℤ int_at p.gain i ≡ int_at p.gain i = omega (arith, ints) in
    subst (λ (x : ℤ). IsFit x) one scaled)

-- ---- a node at its place in the tree

-- what the node says is so in its box
pub record IsPlaced (p : Program) (box : Box) (v : Visited) : Type 0 where
  pub above : Mult
  pub limit : ℤ
  pub is_box : IsBox p box.floors box.caps
  pub says : IsVisited p above limit box.floors box.caps v

module _ (p : Program) (nodes : List Node) (visited : List Visited) (program : IsProgram p) (n : ℕ) where
  -- wherever the number is a leaf, its box is the box there
  abbrev IsPlacedIn : List ℕ → List ℕ → Grown → Type 0
  IsPlacedIn floors caps g = AreBoxed nodes (start_of p) (record { floors = floors; caps = caps }) g → HasLeaf n g → IsPlaced p (box_at nodes (start_of p) n) (visited_at visited n)

  leaf_placed : (above : Mult) (limit : ℤ) (floors caps : List ℕ) (k : ℕ) → IsLeafAt p nodes visited above limit floors caps k → IsPlacedIn floors caps (leaf k)
  leaf_placed above limit floors caps k h boxed same =
      let whole : IsPlaced p (record { floors = floors; caps = caps }) (visited_at visited k) = record { above = above; limit = limit; is_box = h.box; says = h.says } in
      let here : IsPlaced p (box_at nodes (start_of p) k) (visited_at visited k) = subst (λ (b : Box). IsPlaced p b (visited_at visited k)) (sym boxed) whole in
      subst (λ (k : ℕ). IsPlaced p (box_at nodes (start_of p) k) (visited_at visited k)) same here

  split_placed : (above : Mult) (limit : ℤ) (floors caps : List ℕ) (k cell at : ℕ) (t u : Grown) → IsSplitPlace p nodes visited floors caps k cell at
      → IsPlacedIn floors (less_caps caps cell at) t → IsPlacedIn (more_floors floors cell at) caps u → IsPlacedIn floors caps (split k cell at t u)
  split_placed above limit floors caps k cell at t u h less more boxed has = elim has [ inl l ↦ less boxed.1 l | inr r ↦ more boxed.2 r ]

  pub tree_placed : (g : Grown) → HasFitWidth p (no_multipliers p) → IsGrown p visited (no_multipliers p) (first_bound p) p.floor p.cap g
      → AreGrown nodes g → AreBoxed nodes (start_of p) (start_of p) g → HasLeaf n g → IsPlaced p (box_at nodes (start_of p) n) (visited_at visited n)
  tree_placed g = from_start p nodes visited program (λ above limit floors caps g. IsPlacedIn floors caps g) leaf_placed split_placed g

-- a node in hand is a leaf
pub hand_leaf : (nodes : List Node) (n : ℕ) → n < length nodes → (node_at nodes n).state ≡ states.InHand → IsLeaf nodes n
hand_leaf nodes n there hand = (there, subst IsLeafState (sym hand) tt)

-- ---- a node that can be split

-- the node's box, the cell and the number in it, and the node's own multipliers
pub record IsPartedPlace (p : Program) (box : Box) (v : Visited) (cell at : ℕ) : Type 0 where
  pub is_box : IsBox p box.floors box.caps
  pub inside : cell < cells_of p
  pub low : nat_at box.floors cell ≤ at
  pub high : at < nat_at box.caps cell
  pub by : IsMultiplier p v.mult
  pub bound_is : v.bound ≡ bound_of p box.floors box.caps v.mult
  pub fits : IsFitMult v.mult

pub placed_parted : (p : Program) (box : Box) (v : Visited) (cell at : ℕ) → IsProgram p → IsPlaced p box v → IsPartedAt cell at v.known → IsPartedPlace p box v cell at
placed_parted p box v cell at program placed parted =
    let parting = parting_at p placed.above placed.limit box.floors box.caps cell at v.known v.mult v.bound placed.says.known parted in
    let vertex = IsVertex-point p box.floors box.caps program placed.is_box parting.point v.mult parting.relaxed in
    let between = split-inside p box.floors box.caps parting.point v.mult cell at vertex parting.inside parting.parted in
    record {
      is_box = placed.is_box;
      inside = parting.inside;
      low = between.0;
      high = between.1;
      by = vertex.by;
      bound_is = parting.bound_is;
      fits = placed.says.fits;
    }

-- a number in a range is small
pub small_part : (p : Program) (box : Box) (v : Visited) (cell at : ℕ) → IsProgram p → IsPartedPlace p box v cell at → at < 1_000_000_000
small_part p box v cell at program h =
    let most = program.small_cap cell h.inside in
    let here = h.is_box.inside cell h.inside in
    let high = h.high in
    omega (arith, most, here, high)

pub range_part : (p : Program) (nodes : List Node) (v : Visited) (n cell at : ℕ) → IsProgram p → IsPartedPlace p (box_at nodes (start_of p) n) v cell at
    → HasRange nodes (start_of p) n cell at
range_part p nodes v n cell at program h =
    let floors = program.floors in
    let caps = program.caps in
    let inside = h.inside in
    record { floor = omega (arith, floors, inside); cap = omega (arith, caps, inside); low = h.low; high = h.high }

-- the node in hand of a search that goes on
pub going_parted : (p : Program) (s : Search) (hand : Hand) (cell at : ℕ) → IsProgram p → HasFitWidth p (no_multipliers p) → IsGoing p s hand
    → IsPartedAt cell at (visited_at s.visited hand.node).known → IsPartedPlace p (box_of p s hand.node) (visited_at s.visited hand.node) cell at
going_parted p s hand cell at program wide going parted =
    let search = going.search.search in
    let in_hand = going.in_hand in
    let is_leaf = hand_leaf s.frontier.nodes hand.node in_hand.0 in_hand.1 in
    let placed = tree_placed p s.frontier.nodes s.visited program hand.node search.tree wide search.grown search.is_tree.grown
    (trees_boxed s.frontier.nodes (start_of p) search.tree search.is_tree) (search.is_tree.leaves hand.node is_leaf) in
    placed_parted p (box_of p s hand.node) (visited_at s.visited hand.node) cell at program placed parted

-- ---- as the code reads them

-- a node that was read from the list
read_place : (visited read : List Visited) (n : ℕ) (v : Visited) → v ≡ get_or read n v → read ≡ visited → n < length visited → v ≡ visited_at visited n
read_place visited read n v is same there =
    let here : v ≡ get_or visited n v = subst (λ (xs : List Visited). v ≡ get_or xs n v) same is in
    here ∙ get_or_default visited n v no_visited there

pub there_visited : (p : Program) (s : Search) (hand : Hand) → IsGoing p s hand → hand.node < length s.visited
there_visited p s hand going =
    let there = going.in_hand.0 in
    let long = going.search.search.long in
    omega (arith, there, long)

same_parts : (p : Program) (s : Search) (n cell at : ℕ) (floors caps : List ℕ) (v : Visited) (less more : Visit) → floors ≡ (box_of p s n).floors
    → caps ≡ (box_of p s n).caps → v ≡ visited_at s.visited n → IsPartedPlace p (record { floors = floors; caps = caps }) v cell at
    → IsVisited p v.mult v.bound floors (less_caps caps cell at) less.node → HasCounts p floors (less_caps caps cell at) less
    → IsVisited p v.mult v.bound (more_floors floors cell at) caps more.node → HasCounts p (more_floors floors cell at) caps more
    → ArePartsVisited p s n cell at less more
same_parts p s n cell at floors caps v less more e h k place first first_counts second second_counts = record {
  inside = place.inside;
  low = rw e at place.low;
  high = rw h at place.high;
  less_visited = rw (e, h, k) at first;
  less_counts = rw (e, h) at first_counts;
  more_visited = rw (e, h, k) at second;
  more_counts = rw (e, h) at second_counts;
}

-- the box and the node, as they were read
module _ (p : Program) (s : Search) (hand : Hand) (cell at : ℕ) (floors caps : List ℕ) (read : List Visited) (v : Visited)
    (e : floors ≡ (box_of p s hand.node).floors) (h : caps ≡ (box_of p s hand.node).caps) (is : v ≡ get_or read hand.node v) (same : read ≡ s.visited)
    (program : IsProgram p) (wide : HasFitWidth p (no_multipliers p)) (going : IsGoing p s hand)
    (parted : IsPartedAt cell at (visited_at s.visited hand.node).known) where
  node_read : v ≡ visited_at s.visited hand.node
  node_read = read_place s.visited read hand.node v is same (there_visited p s hand going)

  pub place_read : IsPartedPlace p (record { floors = floors; caps = caps }) v cell at
  place_read = rw (e, h, node_read) (going_parted p s hand cell at program wide going parted)

  pub parts_read : (less more : Visit)
      → IsVisited p v.mult v.bound floors (less_caps caps cell at) less.node → HasCounts p floors (less_caps caps cell at) less
      → IsVisited p v.mult v.bound (more_floors floors cell at) caps more.node → HasCounts p (more_floors floors cell at) caps more
      → ArePartsVisited p s hand.node cell at less more
  parts_read less more first first_counts second second_counts =
      same_parts p s hand.node cell at floors caps v less more e h node_read place_read first first_counts second second_counts
