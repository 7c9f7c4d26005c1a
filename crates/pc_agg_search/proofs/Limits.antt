-- What an outcome of a search says of its program.
use Rattle.std.proofs.Common.{ℕ, inl, inr, List, Option, Some, None, refl, sym, arith}
use Rattle.std.specs.Prelude.{ℤ, ◌<ℤ◌, IfSome, MatchOption, ⊤}
use Rattle.std.proofs.lemmas.Int.{ints}
use Rattle.pc_model.specs.declared.tree.Tree.{Tree}
use Rattle.pc_program_bound.specs.declared.program.Program.{Program}
use Rattle.pc_program_bound.specs.Allocation.{IsProgram, IsAllocation, worth}
use Rattle.pc_branch.specs.declared.outcome.Outcome.TheVariants.{Best, Nothing, Spent}
use Rattle.pc_branch.specs.Ends.{HasSmallGains}
use Rattle.pc_branch.specs.Outcome.{IsOutcome}
use Rattle.pc_branch.proofs.Sizes.{licence-small, licence-within}
use Rattle.pc_branch_licences.proofs.Trees.{search-free}
use Rattle.pc_agg_search.specs.Limits.{IsLimit, IsEmpty}
use Rattle.pc_agg_search.proofs.Sizes.{worth_small, worth_gained}

-- what was found below a bound is allowed
found_allowed : (p : Program) (e : ℤ) (found : Option (List ℕ)) → MatchOption found ⊤ (λ counts. IsAllocation p p.floor p.cap counts × (worth p counts <ℤ e)) → IfSome found (IsAllocation p p.floor p.cap)
found_allowed p e None below = tt
found_allowed p e (Some counts) below = below.0

module _ (p : Program) (budget : ℕ) (program : IsProgram p) (small : HasSmallGains p) where
  pub limit_of_best : (counts : List ℕ) (value : ℤ) (tree : Tree) → IsOutcome p budget (Best counts value tree) → IsLimit p budget (record { program = p; most = value; tree = tree; found = Some counts })
  limit_of_best counts value tree is = record {
    program = refl;
    gains = small;
    preorder = is.0;
    proves = is.1.shown.proves;
    within = rw is.1.bounded (omega (arith, ints));
    most = is.1.greatest;
    small = rw (sym is.1.is) (worth_small p small counts is.1.allowed);
    gained = rw (sym is.1.is) (worth_gained p small counts is.1.allowed);
    search = search-free p budget value _ is.1.shown.search;
    fits = is.1.shown.fits;
    allowed = is.1.allowed;
    why = inl is.1.is;
  }

  pub limit_of_spent : (e : ℤ) (found : Option (List ℕ)) (tree : Tree) → IsOutcome p budget (Spent e found tree) → IsLimit p budget (record { program = p; most = e; tree = tree; found = found })
  limit_of_spent e found tree is =
      let size = licence-small p budget e _ program small is.1.licence in
      let within = licence-within p budget e _ program is.1.licence in
      record {
        program = refl;
        gains = small;
        preorder = is.0;
        proves = is.1.shown.proves;
        within = is.1.within;
        most = is.1.most;
        small = omega (arith, ints, size);
        gained = omega (arith, ints, within);
        search = search-free p budget e _ is.1.shown.search;
        fits = is.1.shown.fits;
        allowed = found_allowed p e found is.1.allowed;
        why = inr (record { licence = is.1.licence; whole = is.1.whole });
      }

  pub empty_of_nothing : (tree : Tree) → IsOutcome p budget (Nothing tree) → IsEmpty p budget tree
  empty_of_nothing tree is = record { preorder = is.0; proves = is.1.shown.proves; none = is.1.none; search = is.1.shown.search; fits = is.1.shown.fits }
