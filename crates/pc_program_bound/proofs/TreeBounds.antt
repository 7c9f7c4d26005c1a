-- A tree of splits bounds every allocation of its box.
use Rattle.std.proofs.Common.{◌≡◌, ℕ, zero, suc, ◌+◌, ◌<◌, ◌≤◌, List, [], ◌∷◌, Option, Some, None, refl, ap, arith}
use Rattle.std.specs.Prelude.{ℤ, pos, slice_set}
use Rattle.std.proofs.lemmas.Int.{ints, clamps, by_lt_z}
use Rattle.pc_program_bound.specs.declared.program.Program.{Program}
use Rattle.pc_program_bound.specs.Sums.{nat_at}
use Rattle.pc_program_bound.specs.Allocation.{worth, IsAllocation}
use Rattle.pc_program_bound.specs.SplitTrees.{SplitTree, bound, void, split, less_caps, more_floors, greater, bound_by, Proves, IsWithin}
use Rattle.pc_program_bound.proofs.Duality.{worth-le-bound, void-none}

-- ---- the greater of two bounds

within-first : (v : ℤ) (a b : Option ℤ) → IsWithin v a → IsWithin v (greater a b)
within-first v None b h = elim h [ ]
within-first v (Some x) None h = h
within-first v (Some x) (Some y) h = omega (arith, ints, clamps, h)

within-second : (v : ℤ) (a b : Option ℤ) → IsWithin v b → IsWithin v (greater a b)
within-second v None b h = h
within-second v (Some x) None h = elim h [ ]
within-second v (Some x) (Some y) h = omega (arith, ints, clamps, h)

-- ---- the two boxes of a split

-- a number is at most one of a list of which one was replaced
most-set : (xs : List ℕ) (cell at i n : ℕ) → n ≤ nat_at xs i → (i ≡ cell → n ≤ at) → n ≤ nat_at (slice_set xs cell at) i
most-set [] cell at i n before after = before
most-set (x ∷ xs) zero at zero n before after = after refl
most-set (x ∷ xs) zero at (suc i) n before after = before
most-set (x ∷ xs) (suc cell) at zero n before after = before
most-set (x ∷ xs) (suc cell) at (suc i) n before after = most-set xs cell at i n before (λ e. after (ap suc e))

-- and at least one
least-set : (xs : List ℕ) (cell at i n : ℕ) → nat_at xs i ≤ n → (i ≡ cell → at ≤ n) → nat_at (slice_set xs cell at) i ≤ n
least-set [] cell at i n before after = before
least-set (x ∷ xs) zero at zero n before after = after refl
least-set (x ∷ xs) zero at (suc i) n before after = before
least-set (x ∷ xs) (suc cell) at zero n before after = before
least-set (x ∷ xs) (suc cell) at (suc i) n before after = least-set xs cell at i n before (λ e. after (ap suc e))

IsAllocation-less : (p : Program) (floors caps counts : List ℕ) (cell at : ℕ) → IsAllocation p floors caps counts → nat_at counts cell ≤ at
    → IsAllocation p floors (less_caps caps cell at) counts
IsAllocation-less p floors caps counts cell at allocation few = record {
  sized = allocation.sized;
  within = λ i h. let fits = allocation.within i h in
      (fits.0, most-set caps cell at i (nat_at counts i) fits.1 (λ e. rw e few));
  met = allocation.met;
}

IsAllocation-more : (p : Program) (floors caps counts : List ℕ) (cell at : ℕ) → IsAllocation p floors caps counts → at < nat_at counts cell
    → IsAllocation p (more_floors floors cell at) caps counts
IsAllocation-more p floors caps counts cell at allocation many = record {
  sized = allocation.sized;
  within = λ i h. let fits = allocation.within i h in
      (least-set floors cell (at + 1) i (nat_at counts i) fits.0 (λ e. rw e (omega (arith, many))), fits.1);
  met = allocation.met;
}

-- ---- whole trees

-- an allocation is worth at most the bound of a tree, and there is none where that is nothing
pub tree-bounds : (p : Program) (floors caps counts : List ℕ) (t : SplitTree) → Proves p floors caps t → IsAllocation p floors caps counts
    → IsWithin (worth p counts) (bound_by p floors caps t)
tree-bounds p floors caps counts (bound m) proves allocation =
    worth-le-bound p floors caps counts m allocation (let positive = proves.positive in omega (arith, ints, positive))
tree-bounds p floors caps counts (void m) proves allocation = void-none p floors caps counts m proves allocation
tree-bounds p floors caps counts (split cell at t u) proves allocation =
    by_lt_z (pos at) (pos (nat_at counts cell))
    (λ many. within-second (worth p counts) (bound_by p floors (less_caps caps cell at) t) (bound_by p (more_floors floors cell at) caps u)
    (tree-bounds p (more_floors floors cell at) caps counts u proves.4 (IsAllocation-more p floors caps counts cell at allocation (omega (arith, ints, many)))))
    (λ few. within-first (worth p counts) (bound_by p floors (less_caps caps cell at) t) (bound_by p (more_floors floors cell at) caps u)
    (tree-bounds p floors (less_caps caps cell at) counts t proves.3 (IsAllocation-less p floors caps counts cell at allocation (omega (arith, ints, few)))))

pub ruleset tree_laws = (tree-bounds)
