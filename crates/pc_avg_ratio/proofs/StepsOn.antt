-- The steps from counts with a row on.
use Rattle.std.proofs.Common.{◌≡◌, ℕ, List, sym, subst, arith}
use Rattle.std.specs.Prelude.{ℤ, pos, ◌<ℤ◌}
use Rattle.std.proofs.lemmas.Int.{ints}
use Rattle.pc_num.specs.Fractions.{IsFrac}
use Rattle.pc_model.specs.Aggregate.{Ratio, IsAtMost}
use Rattle.pc_proof.specs.Table.{ratio_of}
use Rattle.pc_proof.proofs.Fractions.{at_most_trans}
use Rattle.pc_avg_ratio.specs.declared.fractional.Fractional.{Fractional}
use Rattle.pc_avg_ratio.specs.declared.highest.Highest.{Highest}
use Rattle.pc_avg_ratio.specs.declared.highest.Highest.TheVariants.{Reached, Above}
use Rattle.pc_avg_ratio.specs.declared.standing.Standing.{Standing}
use Rattle.pc_avg_ratio.specs.declared.steps.Step.TheVariants.{Better, End}
use Rattle.pc_avg_ratio.specs.Fractional.{IsFractional, ratio_with}
use Rattle.pc_avg_ratio.specs.Highest.{IsHighest, IsStep}
use Rattle.pc_avg_ratio.specs.Steps.{IsRatioOf, IsStanding}
use Rattle.pc_avg_ratio.proofs.Limits.{first_limit}

-- the steps stand, at a ratio that is no less than the first
pub record HasGoneOn (f : Fractional) (first : Ratio) (standing : Standing) : Type 0 where
  pub stands : IsStanding f standing
  pub from : IsAtMost first (ratio_of standing.ratio)

module _ (f : Fractional) (fractional : IsFractional f) (start : List ℕ) where
  pub gone_nowhere : (standing : Standing) → standing.counts ≡ start → standing.limit ≡ 201_000_001 → IsFrac standing.ratio → IsRatioOf f (ratio_of standing.ratio) start →
      HasGoneOn f (ratio_with f start) standing
  gone_nowhere standing counts_is limit_is lowest ratio = record {
    stands = record {
      lowest = lowest;
      ratio = subst (IsRatioOf f (ratio_of standing.ratio)) (sym counts_is) ratio;
      limit = rw limit_is (first_limit f fractional (ratio_of standing.ratio));
    };
    from = let same = ratio.has.same in omega (arith, ints, same);
  }

module _ (f : Fractional) (first : Ratio) (above : pos 0 <ℤ first.den) (outermost : ℤ) (budget : ℕ) (standing : Standing) (gone : HasGoneOn f first standing) where
  pub gone_on : (next : Standing) → IsStep f outermost budget standing (Better next) → HasGoneOn f first next
  gone_on next step = record {
    stands = step.0;
    from = at_most_trans first (ratio_of standing.ratio) (ratio_of next.ratio) above gone.stands.ratio.positive step.0.ratio.positive gone.from step.2;
  }

  pub highest_from : (highest : Highest) → IsStep f outermost budget standing (End highest) → IsHighest f outermost budget first highest
  highest_from (Reached ratio counts tree) is = record {
    lowest = is.lowest;
    ratio_is = is.ratio_is;
    from = at_most_trans first (ratio_of standing.ratio) (ratio_of ratio) above gone.stands.ratio.positive is.ratio_is.positive gone.from is.from;
    shown = is.shown;
  }
  highest_from (Above ratio counts tree value) is = record {
    lowest = is.lowest;
    ratio_is = is.ratio_is;
    from = at_most_trans first (ratio_of standing.ratio) (ratio_of ratio) above gone.stands.ratio.positive is.ratio_is.positive gone.from is.from;
    most = is.most;
    small = is.small;
    spent = is.spent;
    tree_within = is.tree_within;
    bound = is.bound;
    bound_is = is.bound_is;
    small_bound = is.small_bound;
    over = is.over;
    under = is.under;
    value_lowest = is.value_lowest;
    value_small = is.value_small;
    value_is = is.value_is;
  }
