-- What an outcome of a search says of the program at a ratio.
use Rattle.std.proofs.Common.{◌≡◌, ℕ, ◌≤◌, ◌^◌, List, Option, Some, None, MatchOption, refl, sym, subst, arith}
use Rattle.std.specs.Prelude.{ℤ, nat_abs, ◌≤ℤ◌, ⊤}
use Rattle.std.proofs.lemmas.Int.{ints}
use Rattle.pc_model.specs.declared.tree.Tree.{Tree}
use Rattle.pc_model.specs.Aggregate.{Ratio}
use Rattle.pc_program_bound.specs.declared.program.Program.{Program}
use Rattle.pc_program_bound.specs.Allocation.{IsAllocation, worth}
use Rattle.pc_program_bound.specs.SplitTrees.{bound_by, tree_of, IsWithin}
use Rattle.pc_program_bound.proofs.TreeBounds.{tree-bounds}
use Rattle.pc_branch.specs.declared.outcome.Outcome.TheVariants.{Best, Nothing, Spent}
use Rattle.pc_branch.specs.Outcome.{IsOutcome}
use Rattle.pc_branch.proofs.Sizes.{licence-small}
use Rattle.pc_branch_licences.proofs.Trees.{search-free}
use Rattle.pc_agg_search.proofs.Sizes.{worth_small}
use Rattle.pc_avg_ratio.specs.declared.fractional.Fractional.{Fractional}
use Rattle.pc_avg_ratio.specs.Fractional.{IsLawful, program_at}
use Rattle.pc_avg_ratio.specs.Highest.{IsTreeWithin, IsSpent}
use Rattle.pc_avg_ratio.specs.Steps.{AreBest, IsProgramAt}

-- ---- allocations do not speak of gains

pub allocated : (f : Fractional) (r : Ratio) (counts : List ℕ) → IsLawful f counts → IsAllocation (program_at f r) (program_at f r).floor (program_at f r).cap counts
allocated f r counts lawful = record { sized = lawful.sized; within = lawful.within; met = lawful.met }

lawful_at : (f : Fractional) (r : Ratio) (counts : List ℕ) → IsAllocation (program_at f r) (program_at f r).floor (program_at f r).cap counts → IsLawful f counts
lawful_at f r counts allowed = record { sized = allowed.sized; within = allowed.within; met = allowed.met }

-- ---- the tree of an outcome

pub best_within : (p : Program) (budget : ℕ) (counts : List ℕ) (value : ℤ) (tree : Tree) → IsOutcome p budget (Best counts value tree) → IsTreeWithin p budget tree value
best_within p budget counts value tree is = record {
  preorder = is.0;
  proves = is.1.shown.proves;
  within = rw is.1.bounded (omega (arith, ints));
  search = search-free p budget value _ is.1.shown.search;
  fits = is.1.shown.fits;
}

pub spent_within : (p : Program) (budget : ℕ) (e : ℤ) (found : Option (List ℕ)) (tree : Tree) → IsOutcome p budget (Spent e found tree) → IsTreeWithin p budget tree e
spent_within p budget e found tree is = record {
  preorder = is.0;
  proves = is.1.shown.proves;
  within = is.1.within;
  search = search-free p budget e _ is.1.shown.search;
  fits = is.1.shown.fits;
}

-- ---- at a ratio

module _ (f : Fractional) (r : Ratio) (p : Program) (at : IsProgramAt f r p) where
  found_lawful : (counts : List ℕ) → IsAllocation p p.floor p.cap counts → IsLawful f counts
  found_lawful counts allowed = lawful_at f r counts (subst (λ (q : Program). IsAllocation q q.floor q.cap counts) at.same allowed)

  lawful_found : (counts : List ℕ) → IsLawful f counts → IsAllocation p p.floor p.cap counts
  lawful_found counts lawful = subst (λ (q : Program). IsAllocation q q.floor q.cap counts) (sym at.same) (allocated f r counts lawful)

  worth_at : (counts : List ℕ) → worth p counts ≡ worth (program_at f r) counts
  worth_at counts = rw at.same refl

  pub best_counts : (budget : ℕ) (counts : List ℕ) (value : ℤ) (tree : Tree) → IsOutcome p budget (Best counts value tree) → AreBest f r counts
  best_counts budget counts value tree is = record {
    lawful = found_lawful counts is.1.allowed;
    best = λ other lawful. omega (arith, ints, is.1.greatest other (lawful_found other lawful), is.1.is, worth_at counts, worth_at other);
  }

  pub best_within_at : (budget : ℕ) (counts : List ℕ) (value : ℤ) (tree : Tree) → IsOutcome p budget (Best counts value tree) → IsTreeWithin (program_at f r) budget tree value
  best_within_at budget counts value tree is = subst (λ (q : Program). IsTreeWithin q budget tree value) at.same (best_within p budget counts value tree is)

  pub best_small : (budget : ℕ) (counts : List ℕ) (value : ℤ) (tree : Tree) → IsOutcome p budget (Best counts value tree) → nat_abs value ≤ 10 ^ 37
  best_small budget counts value tree is = rw (sym is.1.is) (worth_small p at.small counts is.1.allowed)

  pub never_nothing : (budget : ℕ) (counts : List ℕ) (tree : Tree) → IsLawful f counts → IsOutcome p budget (Nothing tree) → ⊥
  never_nothing budget counts tree lawful is = is.1.empty counts (lawful_found counts lawful)

  pub spent_small : (budget : ℕ) (e : ℤ) (found : Option (List ℕ)) (tree : Tree) → IsOutcome p budget (Spent e found tree) → nat_abs e ≤ 10 ^ 37
  spent_small budget e found tree is =
      let size = licence-small p budget e _ at.program at.small is.1.licence in
      omega (arith, ints, size)

  pub found_counts : (budget : ℕ) (e : ℤ) (counts : List ℕ) (tree : Tree) → IsOutcome p budget (Spent e (Some counts) tree) → IsLawful f counts
  found_counts budget e counts tree is = found_lawful counts is.1.allowed.0

  -- ---- the bound of a spent search's tree

  module _ (budget : ℕ) (e : ℤ) (tree : Tree) (spent : IsSpent p budget e tree) (counts : List ℕ) (lawful : IsLawful f counts) where
    at_least : IsWithin (worth p counts) (bound_by p p.floor p.cap (tree_of tree.nodes))
    at_least = tree-bounds p p.floor p.cap counts (tree_of tree.nodes) spent.1.1.shown.proves (lawful_found counts lawful)

    pub some_bound : bound_by p p.floor p.cap (tree_of tree.nodes) ≡ None → ⊥
    some_bound none = subst (IsWithin (worth p counts)) none at_least

    pub small_bound : (bound : ℤ) → bound_by p p.floor p.cap (tree_of tree.nodes) ≡ Some bound → nat_abs bound ≤ 10 ^ 37
    small_bound bound is =
        let above : worth p counts ≤ℤ bound = subst (IsWithin (worth p counts)) is at_least in
        let below : bound ≤ℤ e = subst (λ (b : Option ℤ). MatchOption b ⊤ (λ k. k ≤ℤ e)) is spent.1.1.within in
        omega (arith, ints, above, below, worth_small p at.small counts (lawful_found counts lawful), spent_small budget e spent.0 tree spent.1)
