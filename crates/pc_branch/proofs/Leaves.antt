-- The boxes of a search's tree, one in the other, and what a node says of its own.
use Rattle.std.proofs.Common.{ℕ, ◌<◌, ◌≤◌, List, subst, arith}
use Rattle.std.specs.Prelude.{ℤ, pos, ◌≤ℤ◌}
use Rattle.std.proofs.lemmas.Int.{ints}
use Rattle.std.proofs.lemmas.List.{length-replicate}
use Rattle.pc_model.specs.declared.tree.Mult.{Mult}
use Rattle.pc_program_bound.specs.declared.program.Program.{Program}
use Rattle.pc_program_bound.specs.Sums.{nat_at}
use Rattle.pc_program_bound.specs.Allocation.{IsBox, IsProgram, constraints_of}
use Rattle.pc_program_bound.specs.Bound.{bound_of, IsMultiplier, HasFitWidth}
use Rattle.pc_program_bound.specs.SplitTrees.{less_caps, more_floors}
use Rattle.pc_program_bound.proofs.WalkParts.{whole_box, less_box, more_box}
use Rattle.pc_simplex.proofs.Vertices.{IsVertex-point}
use Rattle.pc_frontier.specs.declared.node.State.{State}
use Rattle.pc_frontier.specs.declared.node.State.TheVariants as states
use Rattle.pc_frontier.specs.declared.node.Node.{Node}
use Rattle.pc_frontier.specs.Frontier.{node_at}
use Rattle.pc_frontier.specs.Boxes.{Grown, leaf, split, AreGrown, IsLeaf, IsSplitAt, root_of}
use Rattle.pc_branch.specs.Licence.{no_multipliers, first_bound}
use Rattle.pc_branch.specs.Searching.{IsSplit, IsSplitState}
use Rattle.pc_branch.specs.declared.visited.Known.{Known}
use Rattle.pc_branch.specs.declared.visited.Known.TheVariants as knowns
use Rattle.pc_branch.specs.declared.visited.Visited.{Visited}
use Rattle.pc_branch.specs.Grown.{visited_at, IsParting, IsKnownAs, IsVisited, IsPartedAt, IsGrown}
use Rattle.pc_branch.proofs.Parts.{bound-less, bound-more}

-- ---- the start

pub start_multipliers : (p : Program) → HasFitWidth p (no_multipliers p) → IsMultiplier p (no_multipliers p)
start_multipliers p wide = record { sized = length-replicate (constraints_of p) (pos 0); positive = omega (arith, ints); wide = wide }

-- ---- a node

pub parting_at : (p : Program) (above : Mult) (limit : ℤ) (floors caps : List ℕ) (cell at : ℕ) (known : Known) (mult : Mult) (bound : ℤ)
    → IsKnownAs p above limit floors caps known mult bound → IsPartedAt cell at known → IsParting p floors caps cell at mult bound
parting_at p above limit floors caps cell at (knowns.Parted c a) mult bound h e =
    subst (λ (c : ℕ). IsParting p floors caps c at mult bound) e.0 (subst (λ (a : ℕ). IsParting p floors caps c a mult bound) e.1 h)
parting_at p above limit floors caps cell at knowns.Nothing mult bound h e = absurd e
parting_at p above limit floors caps cell at knowns.Whole mult bound h e = absurd e
parting_at p above limit floors caps cell at knowns.Stuck mult bound h e = absurd e

split_state : (state : State) (k : ℕ) → IsSplitAt state k → IsSplitState state
split_state (states.Split first) k h = tt
split_state states.Open k h = absurd h
split_state states.InHand k h = absurd h
split_state states.Closed k h = absurd h

le_refl : (x : ℤ) → x ≤ℤ x
le_refl x = omega (arith, ints)

-- ---- the tree, from the root to the leaves

-- what is known of a leaf at its place in the tree
pub record IsLeafAt (p : Program) (nodes : List Node) (visited : List Visited) (above : Mult) (limit : ℤ) (floors caps : List ℕ) (n : ℕ) : Type 0 where
  pub box : IsBox p floors caps
  pub by : IsMultiplier p above
  pub bounded : bound_of p floors caps above ≤ℤ limit
  pub there : IsLeaf nodes n
  pub says : IsVisited p above limit floors caps (visited_at visited n)

-- and of a split
pub record IsSplitPlace (p : Program) (nodes : List Node) (visited : List Visited) (floors caps : List ℕ) (n cell at : ℕ) : Type 0 where
  pub box : IsBox p floors caps
  pub there : IsSplit nodes n
  pub parting : IsParting p floors caps cell at (visited_at visited n).mult (visited_at visited n).bound
  pub less : nat_at floors cell ≤ at
  pub more : at < nat_at caps cell

-- what holds of each leaf, and of a split where it does of both its trees, holds of the tree
module _ (p : Program) (nodes : List Node) (visited : List Visited) (program : IsProgram p)
    (P : Mult → ℤ → List ℕ → List ℕ → Grown → Type 0)
    (at_leaf : (above : Mult) (limit : ℤ) (floors caps : List ℕ) (n : ℕ) → IsLeafAt p nodes visited above limit floors caps n → P above limit floors caps (leaf n))
    (at_split : (above : Mult) (limit : ℤ) (floors caps : List ℕ) (n cell at : ℕ) (t u : Grown) → IsSplitPlace p nodes visited floors caps n cell at
    → P (visited_at visited n).mult (visited_at visited n).bound floors (less_caps caps cell at) t
    → P (visited_at visited n).mult (visited_at visited n).bound (more_floors floors cell at) caps u
    → P above limit floors caps (split n cell at t u)) where
  pub by_places : (above : Mult) (limit : ℤ) (floors caps : List ℕ) (g : Grown) → IsBox p floors caps → IsMultiplier p above → bound_of p floors caps above ≤ℤ limit
      → IsGrown p visited above limit floors caps g → AreGrown nodes g → P above limit floors caps g
  by_places above limit floors caps (leaf n) box by bounded grown there =
      at_leaf above limit floors caps n (record { box = box; by = by; bounded = bounded; there = there; says = grown })
  by_places above limit floors caps (split n cell at t u) box by bounded grown there =
      let v = visited_at visited n in
      let parting = parting_at p above limit floors caps cell at v.known v.mult v.bound grown.0.known grown.1 in
      let own = (IsVertex-point p floors caps program box parting.point v.mult parting.relaxed).by in
      let less = bound-less p floors caps cell at v.mult own grown.2 grown.3 in
      let more = bound-more p floors caps cell at v.mult own grown.2 grown.3 in
      let is = parting.bound_is in
      at_split above limit floors caps n cell at t u
      (record { box = box; there = (there.0, split_state (node_at nodes n).state (root_of t) there.1); parting = parting; less = grown.2; more = grown.3 })
      (by_places v.mult v.bound floors (less_caps caps cell at) t (less_box p floors caps cell at box grown.2 grown.3) own (rw is less) grown.4 there.6)
      (by_places v.mult v.bound (more_floors floors cell at) caps u (more_box p floors caps cell at box grown.2 grown.3) own (rw is more) grown.5 there.7)

  pub from_start : (g : Grown) → HasFitWidth p (no_multipliers p) → IsGrown p visited (no_multipliers p) (first_bound p) p.floor p.cap g → AreGrown nodes g
      → P (no_multipliers p) (first_bound p) p.floor p.cap g
  from_start g wide grown there =
      by_places (no_multipliers p) (first_bound p) p.floor p.cap g (whole_box p program) (start_multipliers p wide) (le_refl (first_bound p)) grown there
