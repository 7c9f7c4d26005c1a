-- A search of the start box alone.
use Rattle.std.proofs.Common.{◌≡◌, ◌≤◌, ℕ, List, [], ◌∷◌, None, refl, sym, ap, ◌∙◌, subst, arith, rules, inl}
use Rattle.std.specs.Prelude.{ℤ}
use Rattle.std.proofs.lemmas.Int.{ints}
use Rattle.pc_program_bound.specs.declared.program.Program.{Program}
use Rattle.pc_model.specs.declared.tree.Mult.{Mult}
use Rattle.pc_program_bound.specs.Allocation.{IsProgram}
use Rattle.pc_program_bound.specs.Bound.{bound_of}
use Rattle.pc_program_bound.proofs.WalkParts.{whole_box}
use Rattle.pc_frontier.specs.Frontier.{Seen, none_yet, with_root, node_at}
use Rattle.pc_frontier.specs.Boxes.{leaf, IsTree, Box, AreFitting}
use Rattle.pc_branch.specs.Licence.{no_multipliers, first_bound}
use Rattle.pc_branch.specs.declared.visited.Known.{Known}
use Rattle.pc_branch.specs.declared.visited.Known.TheVariants as knowns
use Rattle.pc_branch.specs.declared.search.Search.{Search}
use Rattle.pc_branch.specs.declared.visit.Visit.{Visit}
use Rattle.pc_branch.specs.Grown.{visited_at, value_as, IsVisited}
use Rattle.pc_branch.specs.Searching.{IsLeafKept, IsAtMost, IsSplit, start_of}
use Rattle.pc_branch.specs.Steps.{counts_found, better, IsSearch}
use Rattle.pc_branch.specs.Visits.{HasCounts, rooted}
use Rattle.pc_branch.proofs.Offers.{IsConsidered, consider_keeps, offered_by, held_by}

root_tree : (room : ℕ) → IsTree (with_root (none_yet room)).nodes (leaf 0)
root_tree room = search rules

root_fit : (room : ℕ) (start : Box) → AreFitting (with_root (none_yet room)).nodes start
root_fit room start = search rules

own_value : (known : Known) (bound : ℤ) → IsAtMost (value_as known bound) bound
own_value knowns.Nothing bound = tt
own_value knowns.Whole bound = omega (arith, ints)
own_value (knowns.Parted cell at) bound = omega (arith, ints)
own_value knowns.Stuck bound = omega (arith, ints)

module _ (p : Program) (program : IsProgram p) (room : ℕ) (some : 1 ≤ room) (v : Visit)
    (visited : IsVisited p (no_multipliers p) (first_bound p) p.floor p.cap v.node) (counts : HasCounts p p.floor p.cap v) where
  found_first : IsConsidered p v.node.bound v.counts v.node.bound None (better v.counts v.node.bound None)
  found_first =
      consider_keeps p v.node.bound v.counts v.node.bound None
      (offered_by p v.node.bound p.floor p.cap v.node.known v.node.bound v.counts (whole_box p program) counts (own_value v.node.known v.node.bound)) tt tt

  root_kept : IsLeafKept p v.node.bound (counts_found (better v.counts v.node.bound None)) None (node_at (with_root (none_yet room)).nodes 0) v.node
  root_kept = record {
    most = own_value v.node.known v.node.bound;
    stands = tt;
    held = held_by p p.floor p.cap v.node.known v.node.bound v.counts (counts_found (better v.counts v.node.bound None)) counts found_first.under;
  }

  pub root_search : IsSearch p (rooted v (none_yet room)) (0 ∷ []) v.node.bound
  root_search = record {
    search = record {
      tree = leaf 0;
      is_tree = root_tree room;
      fit = root_fit room (start_of p);
      long = refl;
      room = refl;
      grown = visited;
      leaves = λ n is.
          let first : 0 ≡ n = omega (arith, is.0) in
          subst (λ k. IsLeafKept p v.node.bound (counts_found (better v.counts v.node.bound None)) None (node_at (with_root (none_yet room)).nodes k) (visited_at (v.node ∷ []) k)) first root_kept;
      splits = λ n is.
          let first : n ≡ 0 = omega (arith, is.0) in
          absurd (subst (λ k. IsSplit (with_root (none_yet room)).nodes k) first is).1;
      in_hand = λ n there is. inl (omega (arith, there));
      allowed = found_first.allowed;
      halt = tt;
    };
    valued = found_first.valued;
  }

-- the same of what the code read and made
pub started : (p : Program) → IsProgram p → (room : ℕ) → 1 ≤ room → (none : Mult) (limit : ℤ) (floors caps : List ℕ) (v : Visit) (f : Seen) (s : Search)
    → none ≡ no_multipliers p → floors ≡ p.floor → caps ≡ p.cap → limit ≡ bound_of p floors caps none → f ≡ none_yet room → s ≡ rooted v f
    → IsVisited p none limit floors caps v.node → HasCounts p floors caps v → IsSearch p s (0 ∷ []) v.node.bound
started p program room some none limit floors caps v f s is_none is_floor is_cap is_limit is_f is_s visited counts =
    let first : limit ≡ first_bound p = is_limit ∙ ap (λ m. bound_of p floors caps m) is_none ∙ ap (λ x. bound_of p x caps (no_multipliers p)) is_floor ∙ ap (λ x. bound_of p p.floor x (no_multipliers p)) is_cap in
    let by_none = subst (λ (m : Mult). IsVisited p m limit floors caps v.node) is_none visited in
    let by_limit = subst (λ (x : ℤ). IsVisited p (no_multipliers p) x floors caps v.node) first by_none in
    let by_floor = subst (λ (x : List ℕ). IsVisited p (no_multipliers p) (first_bound p) x caps v.node) is_floor by_limit in
    let by_cap = subst (λ (x : List ℕ). IsVisited p (no_multipliers p) (first_bound p) p.floor x v.node) is_cap by_floor in
    let has_floor = subst (λ (x : List ℕ). HasCounts p x caps v) is_floor counts in
    let has_cap = subst (λ (x : List ℕ). HasCounts p p.floor x v) is_cap has_floor in
    subst (λ (x : Search). IsSearch p x (0 ∷ []) v.node.bound) (sym (is_s ∙ ap (rooted v) is_f)) (root_search p program room some v by_cap has_cap)
