-- What the answered tree of a search shows.
use Rattle.std.proofs.Common.{◌≡◌, ℕ, List, length, Option, MatchOption, refl, sym, subst, ◌∙◌, arith}
use Rattle.std.specs.Prelude.{ℤ, ◌≤ℤ◌}
use Rattle.pc_model.specs.declared.tree.Mult.{Mult}
use Rattle.pc_program_bound.specs.declared.program.Program.{Program}
use Rattle.pc_program_bound.specs.Allocation.{IsBox, IsProgram}
use Rattle.pc_program_bound.specs.Bound.{IsMultiplier, HasFitWidth}
use Rattle.pc_program_bound.specs.SplitTrees.{less_caps, more_floors, Proves}
use Rattle.pc_simplex.specs.Vertices.{IsFitMult}
use Rattle.pc_simplex.proofs.Vertices.{IsVertex-point, IsVoid-mult}
use Rattle.pc_frontier.specs.declared.node.Node.{Node}
use Rattle.pc_frontier.specs.Frontier.{Seen}
use Rattle.pc_frontier.specs.Boxes.{Grown, leaf, split, size_of, AreGrown}
use Rattle.pc_branch.specs.Licence.{nodes_of, AreSplitNodes, no_multipliers, first_bound}
use Rattle.pc_branch.specs.Outcome.{splits_of, AreFitLeaves, IsProofTree}
use Rattle.pc_branch.specs.Searching.{IsSplit, IsSearching}
use Rattle.pc_branch.specs.declared.visited.Known.{Known}
use Rattle.pc_branch.specs.declared.visited.Known.TheVariants as knowns
use Rattle.pc_branch.specs.declared.visited.Visited.{Visited}
use Rattle.pc_branch.specs.Grown.{visited_at, IsKnownAs, IsGrown, leaf_as, proof_of}
use Rattle.pc_branch.proofs.Leaves.{IsLeafAt, IsSplitPlace, from_start}

-- ---- a leaf

leaf_as-proves : (p : Program) → IsProgram p → (above : Mult) (limit : ℤ) (floors caps : List ℕ) → IsBox p floors caps → IsMultiplier p above
    → (known : Known) (mult : Mult) (bound : ℤ) → IsKnownAs p above limit floors caps known mult bound → Proves p floors caps (leaf_as known mult)
leaf_as-proves p program above limit floors caps box by knowns.Nothing mult bound h = IsVoid-mult p floors caps program box mult h
leaf_as-proves p program above limit floors caps box by knowns.Whole mult bound h = (IsVertex-point p floors caps program box h.point mult h.relaxed).by
leaf_as-proves p program above limit floors caps box by (knowns.Parted cell at) mult bound h = (IsVertex-point p floors caps program box h.point mult h.relaxed).by
leaf_as-proves p program above limit floors caps box by knowns.Stuck mult bound h = subst (IsMultiplier p) (sym h.mult_is) by

leaf_as-fits : (known : Known) (mult : Mult) → IsFitMult mult → AreFitLeaves (leaf_as known mult)
leaf_as-fits knowns.Nothing mult h = h
leaf_as-fits knowns.Whole mult h = h
leaf_as-fits (knowns.Parted cell at) mult h = h
leaf_as-fits knowns.Stuck mult h = h

leaf_as-splits : (p : Program) (least : Option ℤ) (floors caps : List ℕ) (known : Known) (mult : Mult) → AreSplitNodes p least floors caps (splits_of (leaf_as known mult))
leaf_as-splits p least floors caps knowns.Nothing mult = tt
leaf_as-splits p least floors caps knowns.Whole mult = tt
leaf_as-splits p least floors caps (knowns.Parted cell at) mult = tt
leaf_as-splits p least floors caps knowns.Stuck mult = tt

leaf_as-nodes : (known : Known) (mult : Mult) → nodes_of (splits_of (leaf_as known mult)) ≡ 1
leaf_as-nodes knowns.Nothing mult = refl
leaf_as-nodes knowns.Whole mult = refl
leaf_as-nodes (knowns.Parted cell at) mult = refl
leaf_as-nodes knowns.Stuck mult = refl

-- ---- the tree

pub nodes_of-proof : (visited : List Visited) (g : Grown) → nodes_of (splits_of (proof_of visited g)) ≡ size_of g
nodes_of-proof visited (leaf n) = let v = visited_at visited n in leaf_as-nodes v.known v.mult
nodes_of-proof visited (split n cell at t u) = rw (nodes_of-proof visited t, nodes_of-proof visited u) refl

-- the bound of each split is at least the one that is named
abbrev pub AreLeast : Option ℤ → List Node → List Visited → Type 0
AreLeast least nodes visited = (n : ℕ) → IsSplit nodes n → MatchOption least (Unit {0}) (λ e. e ≤ℤ (visited_at visited n).bound)

-- what the tree shows of its box
pub record IsProofAt (p : Program) (least : Option ℤ) (visited : List Visited) (floors caps : List ℕ) (g : Grown) : Type 0 where
  pub proves : Proves p floors caps (proof_of visited g)
  pub fits : AreFitLeaves (proof_of visited g)
  pub splits : AreSplitNodes p least floors caps (splits_of (proof_of visited g))

module _ (p : Program) (nodes : List Node) (visited : List Visited) (program : IsProgram p) (least : Option ℤ) (worthy : AreLeast least nodes visited) where
  leaf-proof : (above : Mult) (limit : ℤ) (floors caps : List ℕ) (n : ℕ) → IsLeafAt p nodes visited above limit floors caps n → IsProofAt p least visited floors caps (leaf n)
  leaf-proof above limit floors caps n h =
      let v = visited_at visited n in
      record {
        proves = leaf_as-proves p program above limit floors caps h.box h.by v.known v.mult v.bound h.says.known;
        fits = leaf_as-fits v.known v.mult h.says.fits;
        splits = leaf_as-splits p least floors caps v.known v.mult;
      }

  split-proof : (above : Mult) (limit : ℤ) (floors caps : List ℕ) (n cell at : ℕ) (t u : Grown) → IsSplitPlace p nodes visited floors caps n cell at
      → IsProofAt p least visited floors (less_caps caps cell at) t → IsProofAt p least visited (more_floors floors cell at) caps u
      → IsProofAt p least visited floors caps (split n cell at t u)
  split-proof above limit floors caps n cell at t u h less more = record {
    proves = (h.parting.inside, h.less, h.more, less.proves, more.proves);
    fits = (less.fits, more.fits);
    splits = (
      (
        h.parting.point,
        (visited_at visited n).mult,
        record {
          inside = h.parting.inside;
          less = h.less;
          more = h.more;
          relaxed = h.parting.relaxed;
          parted = h.parting.parted;
          worthy = subst (λ (bound : ℤ). MatchOption least (Unit {0}) (λ e. e ≤ℤ bound)) h.parting.bound_is (worthy n h.there);
        },
      ),
      less.splits,
      more.splits,
    );
  }

  -- the tree from its root
  pub tree-proof : (g : Grown) → HasFitWidth p (no_multipliers p) → IsGrown p visited (no_multipliers p) (first_bound p) p.floor p.cap g → AreGrown nodes g
      → IsProofAt p least visited p.floor p.cap g
  tree-proof g = from_start p nodes visited program (λ above limit floors caps g. IsProofAt p least visited floors caps g) leaf-proof split-proof g

module _ (p : Program) (budget : ℕ) (f : Seen) (visited : List Visited) (found : Option (List ℕ)) (halted : Option ℤ) (hand : List ℕ) (level : ℤ)
    (s : IsSearching p budget f visited found halted hand level) (program : IsProgram p) (wide : HasFitWidth p (no_multipliers p)) where
  pub nodes_of-search : nodes_of (splits_of (proof_of visited s.tree)) ≡ length f.nodes
  nodes_of-search = nodes_of-proof visited s.tree ∙ s.is_tree.size

  pub IsProofTree-search : (least : Option ℤ) → AreLeast least f.nodes visited → IsProofTree p budget least (proof_of visited s.tree)
  IsProofTree-search least worthy =
      let there = tree-proof p f.nodes visited program least worthy s.tree wide s.grown s.is_tree.grown in
      let room = s.room in
      record {
        proves = there.proves;
        fits = there.fits;
        search = record { few = omega (arith, nodes_of-search, room); splits = there.splits };
      }
