-- What the tree of a search bounds, and what it shows where its level came down to what was found, or where all its leaves are void.
use Rattle.std.proofs.Common.{◌≡◌, ℕ, List, Option, Some, None, refl, sym, ap, ap₂, subst, arith}
use Rattle.std.specs.Prelude.{ℤ, ◌≤ℤ◌}
use Rattle.std.proofs.lemmas.Int.{ints, clamps}
use Rattle.pc_model.specs.declared.tree.Mult.{Mult}
use Rattle.pc_program_bound.specs.declared.program.Program.{Program}
use Rattle.pc_program_bound.specs.Allocation.{IsProgram, IsAllocation, worth}
use Rattle.pc_program_bound.specs.Bound.{bound_of, HasFitWidth}
use Rattle.pc_program_bound.specs.SplitTrees.{less_caps, more_floors, greater, bound_by, IsWithin}
use Rattle.pc_program_bound.proofs.TreeBounds.{tree-bounds}
use Rattle.pc_frontier.specs.Frontier.{Seen}
use Rattle.pc_frontier.specs.Boxes.{Grown, leaf, split, IsLeaf}
use Rattle.pc_branch.specs.Licence.{no_multipliers}
use Rattle.pc_branch.specs.Outcome.{IsBest, IsNothing, IsMost}
use Rattle.pc_branch.specs.Searching.{IsAtMost, IsSearching}
use Rattle.pc_branch.specs.declared.visited.Known.{Known}
use Rattle.pc_branch.specs.declared.visited.Known.TheVariants as knowns
use Rattle.pc_branch.specs.declared.visited.Visited.{Visited}
use Rattle.pc_branch.specs.Grown.{visited_at, value_as, value_of, IsKnownAs, leaf_as, proof_of}
use Rattle.pc_branch.proofs.Leaves.{IsLeafAt, IsSplitPlace, from_start}
use Rattle.pc_branch.proofs.Proofs.{IsProofTree-search}

-- ---- a leaf

leaf_as-at_most : (p : Program) (above : Mult) (limit : ℤ) (floors caps : List ℕ) (level : ℤ) → bound_of p floors caps above ≤ℤ limit
    → (known : Known) (mult : Mult) (bound : ℤ) → IsKnownAs p above limit floors caps known mult bound → IsAtMost (value_as known bound) level
    → IsAtMost (bound_by p floors caps (leaf_as known mult)) level
leaf_as-at_most p above limit floors caps level bounded knowns.Nothing mult bound h most = tt
leaf_as-at_most p above limit floors caps level bounded knowns.Whole mult bound h most = subst (λ (x : ℤ). x ≤ℤ level) h.bound_is most
leaf_as-at_most p above limit floors caps level bounded (knowns.Parted cell at) mult bound h most = subst (λ (x : ℤ). x ≤ℤ level) h.bound_is most
leaf_as-at_most p above limit floors caps level bounded knowns.Stuck mult bound h most =
    let under = subst (λ (x : ℤ). x ≤ℤ level) h.bound_is most in
    subst (λ (m : Mult). bound_of p floors caps m ≤ℤ level) (sym h.mult_is) (under_limit (bound_of p floors caps above) limit level bounded under)
  where
    under_limit : (a b c : ℤ) → a ≤ℤ b → b ≤ℤ c → a ≤ℤ c
    under_limit a b c h k = omega (arith, ints)

leaf_as-none : (p : Program) (floors caps : List ℕ) (known : Known) (mult : Mult) (bound : ℤ) → value_as known bound ≡ None → bound_by p floors caps (leaf_as known mult) ≡ None
leaf_as-none p floors caps knowns.Nothing mult bound e = refl
leaf_as-none p floors caps knowns.Whole mult bound e = cc
leaf_as-none p floors caps (knowns.Parted cell at) mult bound e = cc
leaf_as-none p floors caps knowns.Stuck mult bound e = cc

-- ---- two trees

at_most-greater : (a b : Option ℤ) (level : ℤ) → IsAtMost a level → IsAtMost b level → IsAtMost (greater a b) level
at_most-greater None b level h k = k
at_most-greater (Some x) None level h k = h
at_most-greater (Some x) (Some y) level h k = omega (arith, ints, clamps, h, k)

-- what is within a number at most the level is at most the level
within-at_most : (x : ℤ) (most : Option ℤ) (level : ℤ) → IsWithin x most → IsAtMost most level → x ≤ℤ level
within-at_most x None level h k = absurd h
within-at_most x (Some y) level h k = omega (arith, ints, h, k)

-- and where it is the level, so is the number
between : (x : ℤ) (most : Option ℤ) → IsWithin x most → IsAtMost most x → most ≡ Some x
between x None h k = absurd h
between x (Some y) h k = let same : y ≡ x = omega (arith, ints, h, k) in ap Some same

within-none : (x : ℤ) (most : Option ℤ) → IsWithin x most → most ≡ None → ⊥
within-none x None h e = h
within-none x (Some y) h e = cc

-- ---- a search

module _ (p : Program) (budget : ℕ) (f : Seen) (visited : List Visited) (found : Option (List ℕ)) (halted : Option ℤ) (hand : List ℕ) (level : ℤ)
    (s : IsSearching p budget f visited found halted hand level) (program : IsProgram p) (wide : HasFitWidth p (no_multipliers p)) where
  leaf-at_most : (above : Mult) (limit : ℤ) (floors caps : List ℕ) (n : ℕ) → IsLeafAt p f.nodes visited above limit floors caps n
      → IsAtMost (bound_by p floors caps (proof_of visited (leaf n))) level
  leaf-at_most above limit floors caps n h =
      let v = visited_at visited n in
      leaf_as-at_most p above limit floors caps level h.bounded v.known v.mult v.bound h.says.known (s.leaves n h.there).most

  split-at_most : (above : Mult) (limit : ℤ) (floors caps : List ℕ) (n cell at : ℕ) (t u : Grown) → IsSplitPlace p f.nodes visited floors caps n cell at
      → IsAtMost (bound_by p floors (less_caps caps cell at) (proof_of visited t)) level → IsAtMost (bound_by p (more_floors floors cell at) caps (proof_of visited u)) level
      → IsAtMost (bound_by p floors caps (proof_of visited (split n cell at t u))) level
  split-at_most above limit floors caps n cell at t u h less more =
      at_most-greater (bound_by p floors (less_caps caps cell at) (proof_of visited t)) (bound_by p (more_floors floors cell at) caps (proof_of visited u)) level less more

  -- the tree's bound is at most the level
  pub bound_by-at_most : IsAtMost (bound_by p p.floor p.cap (proof_of visited s.tree)) level
  bound_by-at_most =
      from_start p f.nodes visited program (λ above limit floors caps g. IsAtMost (bound_by p floors caps (proof_of visited g)) level) leaf-at_most split-at_most
      s.tree wide s.grown s.is_tree.grown

  pub within-search : (counts : List ℕ) → IsAllocation p p.floor p.cap counts → IsWithin (worth p counts) (bound_by p p.floor p.cap (proof_of visited s.tree))
  within-search counts allowed = tree-bounds p p.floor p.cap counts (proof_of visited s.tree) (IsProofTree-search p budget f visited found halted hand level s program wide None (λ n there. tt)).proves allowed

  -- no allocation is worth more than the level
  pub IsMost-search : IsMost p level
  IsMost-search counts allowed = within-at_most (worth p counts) (bound_by p p.floor p.cap (proof_of visited s.tree)) level (within-search counts allowed) bound_by-at_most

  module _ (empty : (n : ℕ) → IsLeaf f.nodes n → value_of (visited_at visited n) ≡ None) where
    leaf-none : (above : Mult) (limit : ℤ) (floors caps : List ℕ) (n : ℕ) → IsLeafAt p f.nodes visited above limit floors caps n
        → bound_by p floors caps (proof_of visited (leaf n)) ≡ None
    leaf-none above limit floors caps n h =
        let v = visited_at visited n in
        leaf_as-none p floors caps v.known v.mult v.bound (empty n h.there)

    split-none : (above : Mult) (limit : ℤ) (floors caps : List ℕ) (n cell at : ℕ) (t u : Grown) → IsSplitPlace p f.nodes visited floors caps n cell at
        → bound_by p floors (less_caps caps cell at) (proof_of visited t) ≡ None → bound_by p (more_floors floors cell at) caps (proof_of visited u) ≡ None
        → bound_by p floors caps (proof_of visited (split n cell at t u)) ≡ None
    split-none above limit floors caps n cell at t u h less more = ap₂ greater less more

    -- a tree of void leaves bounds nothing
    pub bound_by-none : bound_by p p.floor p.cap (proof_of visited s.tree) ≡ None
    bound_by-none =
        from_start p f.nodes visited program (λ above limit floors caps g. bound_by p floors caps (proof_of visited g) ≡ None) leaf-none split-none
        s.tree wide s.grown s.is_tree.grown

-- ---- the ends

pub search_best : (p : Program) (budget : ℕ) (f : Seen) (visited : List Visited) (counts : List ℕ) (halted : Option ℤ) (hand : List ℕ)
    (s : IsSearching p budget f visited (Some counts) halted hand (worth p counts)) → IsProgram p → HasFitWidth p (no_multipliers p)
    → IsBest p budget counts (worth p counts) (proof_of visited s.tree)
search_best p budget f visited counts halted hand s program wide = record {
  allowed = s.allowed.0;
  is = refl;
  greatest = IsMost-search p budget f visited (Some counts) halted hand (worth p counts) s program wide;
  shown = IsProofTree-search p budget f visited (Some counts) halted hand (worth p counts) s program wide (Some (worth p counts)) s.splits;
  bounded = between (worth p counts) (bound_by p p.floor p.cap (proof_of visited s.tree))
      (within-search p budget f visited (Some counts) halted hand (worth p counts) s program wide counts s.allowed.0)
      (bound_by-at_most p budget f visited (Some counts) halted hand (worth p counts) s program wide);
}

pub search_nothing : (p : Program) (budget : ℕ) (f : Seen) (visited : List Visited) (halted : Option ℤ) (hand : List ℕ) (level : ℤ)
    (s : IsSearching p budget f visited None halted hand level) → IsProgram p → HasFitWidth p (no_multipliers p)
    → ((n : ℕ) → IsLeaf f.nodes n → value_of (visited_at visited n) ≡ None) → IsNothing p budget (proof_of visited s.tree)
search_nothing p budget f visited halted hand level s program wide empty =
    let none = bound_by-none p budget f visited None halted hand level s program wide empty in
    record {
      empty = λ counts allowed. within-none (worth p counts) (bound_by p p.floor p.cap (proof_of visited s.tree))
          (within-search p budget f visited None halted hand level s program wide counts allowed) none;
      shown = IsProofTree-search p budget f visited None halted hand level s program wide None (λ n there. tt);
      none = none;
    }
