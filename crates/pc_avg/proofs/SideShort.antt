-- The end of an average is in lowest terms, and so is the ratio of its proof.
use Rattle.std.proofs.Common.{◌≡◌, ℕ, zero, suc, ◌<◌, ◌≤◌, ◌^◌, ℤ, pos, negsuc, List, inl, inr, ◌⊎◌, refl, sym, subst, arith}
use Rattle.std.specs.Prelude.{unsigned_abs}
use Rattle.std.specs.Int.{IsGcd}
use Rattle.std.proofs.Math.Nat.{one-dvd}
use Rattle.std.proofs.lemmas.Int.{ints}
use Rattle.pc_num.specs.declared.fraction.Frac.{Frac}
use Rattle.pc_num.specs.Fractions.{IsFrac}
use Rattle.pc_model.specs.declared.query.Folded.{Folded}
use Rattle.pc_model.specs.Aggregate.{Ratio}
use Rattle.pc_proof.specs.declared.answer.End.{End}
use Rattle.pc_proof.specs.Setting.{Setting}
use Rattle.pc_agg_search.specs.declared.extreme.Extreme.{Extreme}
use Rattle.pc_agg_search.specs.declared.extreme.Extreme.TheVariants.{Low, High}
use Rattle.pc_agg_search.specs.Ends.{signed}
use Rattle.pc_avg_ratio.specs.declared.highest.Highest.{Highest}
use Rattle.pc_avg_ratio.specs.declared.highest.Highest.TheVariants.{Reached, Above}
use Rattle.pc_avg_ratio.specs.Highest.{IsHighest}
use Rattle.pc_avg.specs.declared.sides.Side.{Side}
use Rattle.pc_avg.specs.Averages.{IsShortEnd}
use Rattle.pc_avg.specs.Ends.{turned, end_of, IsUnvalued, IsSought, IsEndOver}
use Rattle.pc_avg.specs.Sides.{observed_key, IsOutermostKey, IsOutermost}

size_turned : (extreme : Extreme) (n : ℤ) → unsigned_abs (signed extreme n) ≡ unsigned_abs n
size_turned High n = refl
size_turned Low (pos zero) = refl
size_turned Low (pos (suc n)) = refl
size_turned Low (negsuc n) = refl

pub turned_lowest : (extreme : Extreme) (f : Frac) → IsFrac f → IsFrac (turned extreme f)
turned_lowest extreme f is = record {
  above = is.above;
  reduced = subst (λ n. IsGcd n (unsigned_abs f.den) 1) (sym (size_turned extreme f.num)) is.reduced;
  num_fits = subst (λ n. n < 2 ^ 127) (sym (size_turned extreme f.num)) is.num_fits;
  den_fits = is.den_fits;
}

pub whole_lowest : (n : ℤ) → unsigned_abs n ≤ 2 ^ 63 → IsFrac (record { num = n; den = pos 1 })
whole_lowest n small = record {
  above = omega (arith, ints);
  reduced = (one-dvd (unsigned_abs n), one-dvd 1, λ d first second. second);
  num_fits = omega (arith, small);
  den_fits = omega arith;
}

highest_short : (extreme : Extreme) (side : Side) (outermost : ℤ) (budget : ℕ) (first : Ratio) (h : Highest) → IsHighest side.fraction outermost budget first h → IsShortEnd (end_of extreme side.picks h)
highest_short extreme side outermost budget first (Reached ratio counts tree) is =
    (record { lowest = turned_lowest extreme ratio is.lowest; small = omega (arith, ints, is.ratio_is.small_den) }, tt)
highest_short extreme side outermost budget first (Above ratio counts tree value) is =
    (record { lowest = turned_lowest extreme value is.value_lowest; small = is.value_small }, turned_lowest extreme ratio is.lowest)

module _ (u : Setting) (seen : Folded) (budget : ℕ) (extreme : Extreme) (found : List (List ℕ)) (end : End) where
  pub short_end : IsEndOver u seen budget extreme found end → IsShortEnd end
  short_end over = by_kind over.by
    where
      by_kind : IsUnvalued over.side extreme over.outermost found end ⊎ IsSought over.side extreme over.outermost budget found end → IsShortEnd end
      by_kind (inl unvalued) =
          let key : IsOutermostKey u extreme (observed_key seen extreme) over.outermost = subst (IsOutermost u extreme (observed_key seen extreme)) over.outermost_is over.side_is.outermost in
          let lowest = turned_lowest extreme (record { num = over.outermost; den = pos 1 }) (whole_lowest over.outermost key.small) in
          subst IsShortEnd (sym unvalued.end_is) (record { lowest = lowest; small = omega (arith, ints) }, tt)
      by_kind (inr sought) =
          subst IsShortEnd (sym sought.end_is) (highest_short extreme over.side over.outermost budget _ sought.highest sought.highest_is)
