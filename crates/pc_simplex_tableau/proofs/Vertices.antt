-- Where phase two ends, its counts are a relaxed allocation that is worth the whole bound of the multipliers.
use Rattle.std.proofs.Common.{◌≡◌, ℕ, ◌*◌, ◌-◌, ◌<◌, ◌≤◌, List, length, refl, ap, sym, ◌∙◌, arith, None, Some}
use Rattle.std.specs.Prelude.{ℤ, pos, ◌+ℤ◌, ◌-ℤ◌, ◌*ℤ◌, ◌≤ℤ◌}
use Rattle.std.proofs.lemmas.Int.{ints}
use Rattle.std.proofs.lemmas.Bool.{le-leb, lt-ltb}
use Rattle.std.proofs.Math.IntN.{*ℤ_comm}
use Rattle.pc_program_bound.specs.declared.program.Program.{Program}
use Rattle.pc_program_bound.specs.Sums.{sum_below, nat_at, int_at}
use Rattle.pc_program_bound.specs.Allocation.{cells_of, constraints_of, total, worth, IsRelaxed, IsBox, IsProgram}
use Rattle.pc_program_bound.specs.Bound.{raw_bound}
use Rattle.pc_program_bound.proofs.SumBelow.{sum_below-same, sum_below-zeros}
use Rattle.pc_simplex_tableau.specs.Tableau.{Tableau, Columns, range_of, entering}
use Rattle.pc_simplex_tableau.specs.Relaxation.{slack_of, helper_of, multipliers, IsFrame}
use Rattle.pc_simplex_tableau.specs.Standing.{place, IsStanding, gain_two}
use Rattle.pc_simplex_tableau.proofs.Products.{mul-zero}
use Rattle.pc_simplex_tableau.proofs.Points.{IsPoint}
use Rattle.pc_simplex_tableau.proofs.Shares.{spread}
use Rattle.pc_simplex_tableau.proofs.Ends.{at-low, at-high, cell-low, cell-high, slack-low, slack-high}
use Rattle.pc_simplex_tableau.proofs.Reached.{counts, length-counts, count_is, total_is, bound_at-end}

-- ---- counts and totals within their ends

above_floor : (d floor count : ℕ) (y : ℤ) → pos count ≡ pos d *ℤ pos floor +ℤ y → pos 0 ≤ℤ y → floor * d ≤ count
above_floor d floor count y e low =
    let swapped : pos d *ℤ pos floor ≡ pos (floor * d) = *ℤ_comm (pos d) (pos floor) in
    omega (arith, ints, e, low, swapped)

below_cap : (d floor ceiling count : ℕ) (y : ℤ) → floor ≤ ceiling → pos count ≡ pos d *ℤ pos floor +ℤ y → y ≤ℤ (pos d *ℤ pos (ceiling - floor)) → count ≤ ceiling * d
below_cap d floor ceiling count y le e high =
    let wide = spread d floor ceiling le in
    let swapped : pos d *ℤ pos ceiling ≡ pos (ceiling * d) = *ℤ_comm (pos d) (pos ceiling) in
    omega (arith, ints, e, high, wide, swapped)

above_least : (d least most : ℕ) (total slack helper : ℤ) → least ≤ most → total ≡ pos d *ℤ pos most -ℤ slack -ℤ helper → helper ≡ pos 0
    → slack ≤ℤ (pos d *ℤ pos (most - least)) → pos (least * d) ≤ℤ total
above_least d least most total slack helper le e none high =
    let wide = spread d least most le in
    let swapped : pos d *ℤ pos least ≡ pos (least * d) = *ℤ_comm (pos d) (pos least) in
    omega (arith, ints, e, none, high, wide, swapped)

below_most : (d most : ℕ) (total slack helper : ℤ) → total ≡ pos d *ℤ pos most -ℤ slack -ℤ helper → helper ≡ pos 0 → pos 0 ≤ℤ slack → total ≤ℤ pos (most * d)
below_most d most total slack helper e none low =
    let swapped : pos d *ℤ pos most ≡ pos (most * d) = *ℤ_comm (pos d) (pos most) in
    omega (arith, ints, e, none, low, swapped)

no_room : (d : ℕ) (y : ℤ) → pos 0 ≤ℤ y → y ≤ℤ (pos d *ℤ pos 0) → y ≡ pos 0
no_room d y low high = let none = mul-zero (pos d) in omega (arith, ints, low, high, none)

module _ (p : Program) (floors caps : List ℕ) (f : Columns) (t : Tableau) (program : IsProgram p) (box : IsBox p floors caps)
    (frame : IsFrame p floors caps f) (standing : IsStanding p floors (gain_two p) f t) (d : ℕ) (z : ℕ → ℤ) (point : IsPoint f t d z)
    (helper : f.helper ≡ Some 0) where
  helper_counted : (j : ℕ) → j < constraints_of p → helper_of p j < f.count
  helper_counted j lt = let many = frame.count in omega (arith, lt, many)

  helper_range : (j : ℕ) → j < constraints_of p → range_of f (helper_of p j) ≡ Some 0
  helper_range j lt =
      let long = frame.ranges in
      rw (le-leb (length f.ranges) (helper_of p j) (omega (arith, long))) helper

  helper_none : (j : ℕ) → j < constraints_of p → place f t z (helper_of p j) ≡ pos 0
  helper_none j lt =
      no_room d (place f t z (helper_of p j))
      (at-low p floors caps f t program box frame standing.meant.sized standing.meant.solved d z point standing.feasible (helper_of p j) 0 (helper_counted j lt) (helper_range j lt))
      (at-high p floors caps f t program box frame standing.meant.sized standing.meant.solved d z point standing.feasible (helper_of p j) 0 (helper_counted j lt) (helper_range j lt))

  abbrev pub found : List ℕ
  found = counts p floors caps (gain_two p) f t program box frame standing d z point

  pub IsRelaxed-found : IsRelaxed p floors caps d found
  IsRelaxed-found = record {
    positive = point.positive;
    sized = length-counts p floors caps (gain_two p) f t program box frame standing d z point;
    within = λ i lt. (
      above_floor d (nat_at floors i) (nat_at found i) (place f t z i) (count i lt) (low i lt),
      below_cap d (nat_at floors i) (nat_at caps i) (nat_at found i) (place f t z i) (box.inside i lt).1 (count i lt) (high i lt),
    );
    met = λ j lt. (
      above_least d (nat_at p.least j) (nat_at p.most j) (total p found j) (place f t z (slack_of p j)) (place f t z (helper_of p j)) (program.ordered j lt)
          (totals j lt) (helper_none j lt) (slack_high j lt),
      below_most d (nat_at p.most j) (total p found j) (place f t z (slack_of p j)) (place f t z (helper_of p j)) (totals j lt) (helper_none j lt) (slack_low j lt),
    );
  }
    where
      count : (i : ℕ) → i < cells_of p → pos (nat_at found i) ≡ pos d *ℤ pos (nat_at floors i) +ℤ place f t z i
      count = count_is p floors caps (gain_two p) f t program box frame standing d z point

      low : (i : ℕ) → i < cells_of p → pos 0 ≤ℤ place f t z i
      low = cell-low p floors caps f t program box frame standing.meant.sized standing.meant.solved d z point standing.feasible

      high : (i : ℕ) → i < cells_of p → place f t z i ≤ℤ (pos d *ℤ pos (nat_at caps i - nat_at floors i))
      high = cell-high p floors caps f t program box frame standing.meant.sized standing.meant.solved d z point standing.feasible

      totals : (j : ℕ) → j < constraints_of p → total p found j ≡ pos d *ℤ pos (nat_at p.most j) -ℤ place f t z (slack_of p j) -ℤ place f t z (helper_of p j)
      totals = total_is p floors caps (gain_two p) f t program box frame standing d z point

      slack_low : (j : ℕ) → j < constraints_of p → pos 0 ≤ℤ place f t z (slack_of p j)
      slack_low = slack-low p floors caps f t program box frame standing.meant.sized standing.meant.solved d z point standing.feasible

      slack_high : (j : ℕ) → j < constraints_of p → place f t z (slack_of p j) ≤ℤ (pos d *ℤ pos (nat_at p.most j - nat_at p.least j))
      slack_high = slack-high p floors caps f t program box frame standing.meant.sized standing.meant.solved d z point standing.feasible

  gained : (i : ℕ) → i < cells_of p → t.weight *ℤ int_at p.gain i ≡ t.weight *ℤ gain_two p i
  gained i lt = ap (λ n. t.weight *ℤ n) (sym (chosen lt))
    where
      chosen : i < cells_of p → gain_two p i ≡ int_at p.gain i
      chosen less = rw (lt-ltb i (cells_of p) less) refl

  pub worth-found : entering f t ≡ None → t.weight *ℤ worth p found ≡ pos d *ℤ raw_bound p floors caps (multipliers p t t.weight)
  worth-found over =
      let by = int_at (multipliers p t t.weight).by in
      let whole = bound_at-end p floors caps (gain_two p) f t program box frame standing d z point p.gain t.weight over gained in
      let none : sum_below (constraints_of p) (λ j. by j *ℤ place f t z (helper_of p j)) ≡ pos 0 =
      sum_below-same (constraints_of p) (λ j. by j *ℤ place f t z (helper_of p j)) (λ j. pos 0)
      (λ j lt. ap (λ n. by j *ℤ n) (helper_none j lt) ∙ mul-zero (by j)) ∙ sum_below-zeros (constraints_of p) in
      omega (arith, ints, whole, none)
