-- What a step makes fits, in each of its ways.
use Rattle.std.proofs.Common.{◌≡◌, ℕ, ◌<◌, ◌^◌, ◌&&◌, Bool, true, length, Option, Some, None, refl, ap, sym, subst, ◌∙◌, arith}
use Rattle.std.specs.List.{list_all}
use Rattle.pc_simplex_tableau.specs.Tableau.{Tableau, Limit, range_of, end_of, turned, turning, pivoting, turning_and_pivoting, does_turned_fit, does_pivoted_fit, does_limit_fit, does_way_fit, does_step_fit}
use Rattle.pc_simplex_short.specs.Short.{ShortSetting, spelled}
use Rattle.pc_simplex_short.specs.Kept.{IsSetting, IsShort}
use Rattle.pc_simplex_tableau.proofs.Turns.{rows-turned}
use Rattle.pc_simplex_short.proofs.Spelled.{rows-spelled}
use Rattle.pc_simplex_short.proofs.Fits.{limits_fit, turned_fits, pivoted_fits}

both_pass : (a b : Bool) → a ≡ true → b ≡ true → (a && b) ≡ true
both_pass a b first second = rw (first, second) refl

module _ (f : ShortSetting) (t : Tableau) (h : IsSetting f) (short : IsShort f t) (c b : ℕ) where
  end_small : (k : ℕ) → end_of f.columns k < 2 ^ 64
  end_small k = by (range_of f.columns k) (h.ends k)
    where
      by : (o : Option ℕ) → ((u : ℕ) → o ≡ Some u → u < 2 ^ 64) → elim o [ Some u ↦ u | None ↦ 0 ] < 2 ^ 64
      by None less = omega arith
      by (Some u) less = less u refl

  pub turning_fits : does_way_fit f.columns c b turning (spelled f t) ≡ true
  unfolding does_way_fit
  turning_fits = turned_fits f t h short c (end_of f.columns c) (end_small c)

  pub pivoting_fits : (r : ℕ) → r < length t.rows → does_way_fit f.columns c b (pivoting r) (spelled f t) ≡ true
  unfolding does_way_fit
  pivoting_fits r lt = pivoted_fits f t h short c r lt

  -- a column is turned, and the tableau that then stands is pivoted
  pub both_fit : (r : ℕ) (after : Tableau) → spelled f after ≡ turned f.columns b (end_of f.columns b) (spelled f t) → IsShort f after → r < length t.rows
      → does_way_fit f.columns c b (turning_and_pivoting r) (spelled f t) ≡ true
  unfolding does_way_fit
  both_fit r after is kept lt =
      let many : length after.rows ≡ length t.rows =
      sym (rows-spelled f after) ∙ ap (λ (s : Tableau). length s.rows) is ∙ rows-turned f.columns b (end_of f.columns b) (spelled f t) ∙ rows-spelled f t in
      both_pass (does_turned_fit f.columns b (end_of f.columns b) (spelled f t)) (does_pivoted_fit c r (turned f.columns b (end_of f.columns b) (spelled f t)))
      (turned_fits f t h short b (end_of f.columns b) (end_small b))
      (subst (λ s. does_pivoted_fit c r s ≡ true) is (pivoted_fits f after h kept c r (omega (arith, lt, many))))

  pub step_fits : (limit : Limit) → does_way_fit f.columns c limit.column limit.way (spelled f t) ≡ true → does_step_fit f.columns c limit (spelled f t) ≡ true
  step_fits limit way =
      both_pass (list_all (does_limit_fit f.columns c) (spelled f t).rows) (does_way_fit f.columns c limit.column limit.way (spelled f t)) (limits_fit f t h short c) way
