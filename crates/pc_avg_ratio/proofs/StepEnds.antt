-- What a step leaves, by what its search says.
use Rattle.std.proofs.Common.{◌≡◌, ℕ, ◌+◌, ◌<◌, inl, List, Some, sym, subst, arith}
use Rattle.std.specs.Prelude.{ℤ, pos, ◌+ℤ◌, ◌*ℤ◌, ◌≤ℤ◌, ◌<ℤ◌}
use Rattle.std.proofs.lemmas.Int.{ints}
use Rattle.pc_num.specs.declared.fraction.Frac.{Frac}
use Rattle.pc_num.specs.Fractions.{IsFrac}
use Rattle.pc_model.specs.declared.tree.Tree.{Tree}
use Rattle.pc_model.specs.Aggregate.{Ratio, whole}
use Rattle.pc_program_bound.specs.declared.program.Program.{Program}
use Rattle.pc_program_bound.specs.SplitTrees.{bound_by, tree_of}
use Rattle.pc_branch.specs.Licence.{IsLicence}
use Rattle.pc_branch.specs.Outcome.{splits_of}
use Rattle.pc_proof.specs.Table.{ratio_of}
use Rattle.pc_avg_ratio.specs.declared.fractional.Fractional.{Fractional}
use Rattle.pc_avg_ratio.specs.declared.highest.Highest.TheVariants.{Reached, Above}
use Rattle.pc_avg_ratio.specs.declared.standing.Standing.{Standing}
use Rattle.pc_avg_ratio.specs.declared.steps.Step.TheVariants.{Better, End}
use Rattle.pc_avg_ratio.specs.Fractional.{IsFractional, excess, over_before, program_at}
use Rattle.pc_avg_ratio.specs.Highest.{IsTreeWithin, IsShown, IsLesser, IsSpent, IsStep, raised}
use Rattle.pc_avg_ratio.specs.Steps.{HasLimit, IsProgramAt, IsRatioOf, IsStanding}
use Rattle.pc_avg_ratio.proofs.Limits.{from_above}
use Rattle.pc_avg_ratio.proofs.Outcomes.{spent_within, spent_small, small_bound}

module _ (f : Fractional) (outermost : ℤ) (budget : ℕ) where
  pub shown_at : (r : Ratio) (tree : Tree) (most : ℤ) → IsTreeWithin (program_at f r) budget tree most → (over_before f r +ℤ most) ≤ℤ pos 0 → IsShown f outermost budget r tree
  shown_at r tree most within none = inl (most, within, none)

  pub shown_within : (r : Ratio) (p : Program) → IsProgramAt f r p → (tree : Tree) (most : ℤ) → IsTreeWithin p budget tree most → (over_before f r +ℤ most) ≤ℤ pos 0 → IsShown f outermost budget r tree
  shown_within r p at tree most within none = shown_at r tree most (subst (λ (q : Program). IsTreeWithin q budget tree most) at.same within) none

  bound_within : (p : Program) (tree : Tree) (most bound : ℤ) → IsTreeWithin p budget tree most → bound_by p p.floor p.cap (tree_of tree.nodes) ≡ Some bound → IsTreeWithin p budget tree bound
  bound_within p tree most bound within is = record {
    preorder = within.preorder;
    proves = within.proves;
    within = rw is (omega (arith, ints));
    search = within.search;
    fits = within.fits;
  }

  module _ (standing : Standing) (stands : IsStanding f standing) where
    pub reached_at : (tree : Tree) → IsShown f outermost budget (ratio_of standing.ratio) tree → IsStep f outermost budget standing (End (Reached standing.ratio standing.counts tree))
    reached_at tree shown = record {
      lowest = stands.lowest;
      ratio_is = stands.ratio;
      from = omega (arith, ints);
      shown = shown;
    }

    -- counts above the ratio, from which the steps go on
    pub better_at : IsFractional f → (next : Standing) (counts : List ℕ) (limit tries : ℕ) → next.counts ≡ counts → next.limit ≡ limit → next.tries ≡ tries →
        IsFrac next.ratio → IsRatioOf f (ratio_of next.ratio) counts → pos 0 <ℤ excess f (ratio_of standing.ratio) counts → HasLimit f (ratio_of next.ratio) limit →
        limit + tries < standing.limit + standing.tries → IsStep f outermost budget standing (Better next)
    better_at fractional next counts limit tries counts_is limit_is tries_is lowest ratio over limited less = (
      record {
        lowest = lowest;
        ratio = subst (IsRatioOf f (ratio_of next.ratio)) (sym counts_is) ratio;
        limit = subst (HasLimit f (ratio_of next.ratio)) (sym limit_is) limited;
      },
      rw (limit_is, tries_is) less,
      from_above f fractional (ratio_of standing.ratio) (ratio_of next.ratio) counts ratio over,
    )

    module _ (p : Program) (at : IsProgramAt f (ratio_of standing.ratio) p) (e : ℤ) (tree : Tree) (spent : IsSpent p budget e tree) where
      pub reached_by_bound : (bound : ℤ) → bound_by p p.floor p.cap (tree_of tree.nodes) ≡ Some bound → (over_before f (ratio_of standing.ratio) +ℤ bound) ≤ℤ pos 0 →
          IsStep f outermost budget standing (End (Reached standing.ratio standing.counts tree))
      reached_by_bound bound is none =
          reached_at tree (shown_within (ratio_of standing.ratio) p at tree bound (bound_within p tree e bound (spent_within p budget e spent.0 tree spent.1) is) none)

      pub above_at : (bound : ℤ) → bound_by p p.floor p.cap (tree_of tree.nodes) ≡ Some bound → pos 0 <ℤ (over_before f (ratio_of standing.ratio) +ℤ bound) →
          standing.ratio.num <ℤ (outermost *ℤ standing.ratio.den) → (value : Frac) → IsFrac value → value.den ≤ℤ pos 30_000_000_000_000_000 →
          IsLesser (ratio_of value) (raised f (ratio_of standing.ratio) (over_before f (ratio_of standing.ratio) +ℤ bound)) (whole outermost) →
          IsStep f outermost budget standing (End (Above standing.ratio standing.counts tree value))
      above_at bound is over under value lowest small lesser = record {
        lowest = stands.lowest;
        ratio_is = stands.ratio;
        from = omega (arith, ints);
        most = e;
        small = spent_small f (ratio_of standing.ratio) p at budget e spent.0 tree spent.1;
        spent = subst (λ (q : Program). IsLicence q budget e (splits_of (tree_of tree.nodes))) at.same spent.1.1.licence;
        tree_within = subst (λ (q : Program). IsTreeWithin q budget tree e) at.same (spent_within p budget e spent.0 tree spent.1);
        bound = bound;
        bound_is = subst (λ (q : Program). bound_by q q.floor q.cap (tree_of tree.nodes) ≡ Some bound) at.same is;
        small_bound = small_bound f (ratio_of standing.ratio) p at budget e tree spent standing.counts stands.ratio.has.lawful bound is;
        over = over;
        under = under;
        value_lowest = lowest;
        value_small = small;
        value_is = lesser;
      }
