-- An objective row that is freed of the basic columns, row by row, as long as the numbers fit.
use Rattle.std.proofs.Common.{◌≡◌, ℕ, zero, suc, ◌+◌, ◌-◌, ◌<◌, ◌&&◌, Bool, true, false, length, All, refl, ap, sym, subst, ◌∙◌, arith, add-one}
use Rattle.pc_simplex_tableau.specs.Tableau.{TableauRow, Tableau, Columns, no_row, row_at, freed_aim, does_freed_aim_fit}
use Rattle.pc_simplex_tableau.specs.Relaxation.{freed_by, does_freed_by_fit, freed_below, do_freed_below_fit, freed, does_freed_fit}
use Rattle.pc_simplex_tableau.specs.Conditions.{IsSizedRow, IsSized, AreFitNumbers}
use Rattle.pc_simplex_tableau.proofs.Freed.{aimed_as, freed_aim_is}
use Rattle.pc_simplex_tableau.proofs.Pivots.{length-freed_aim}
use Rattle.pc_simplex.specs.Aims.{IsOver}

-- ---- one row more, or none
pub freed_below-zero : (t : Tableau) → freed_below 0 t ≡ t
unfolding freed_below
freed_below-zero t = refl

pub freed_below-suc : (n : ℕ) (t : Tableau) → freed_below (suc n) t ≡ freed_by n (freed_below n t)
unfolding freed_below
freed_below-suc n t = refl

pub fit_below-zero : (t : Tableau) → do_freed_below_fit 0 t ≡ true
unfolding do_freed_below_fit
fit_below-zero t = refl

pub fit_below-suc : (n : ℕ) (t : Tableau) → do_freed_below_fit (suc n) t ≡ (do_freed_below_fit n t && does_freed_by_fit n (freed_below n t))
unfolding do_freed_below_fit
fit_below-suc n t = refl

unfit_further : (m n : ℕ) (t : Tableau) → do_freed_below_fit n t ≡ false → do_freed_below_fit (m + n) t ≡ false
unfit_further zero n t e = let same : 0 + n ≡ n = omega arith in rw same e
unfit_further (suc m) n t e = let same : suc m + n ≡ suc (m + n) = omega arith in rw (same, fit_below-suc (m + n) t, unfit_further m n t e) refl

-- ---- the loop

-- the objective row is freed of the basic columns of the first n rows, and all numbers fitted
pub record IsFreedTo (n : ℕ) (start t : Tableau) : Type 0 where
  pub decides : do_freed_below_fit n start ≡ true
  pub same : t ≡ freed_below n start
  pub kept : t ≡ aimed_as start t
  pub long : length t.aim ≡ length start.aim
  pub fits : AreFitNumbers t

pub freed_start : (start : Tableau) → AreFitNumbers start → IsFreedTo 0 start start
freed_start start fits = record {
  decides = fit_below-zero start;
  same = sym (freed_below-zero start);
  kept = refl;
  long = refl;
  fits = fits;
}

module _ (n : ℕ) (start t : Tableau) (within : n < length start.rows) (over : All (IsOver start.aim) start.rows) (h : IsFreedTo n start t) where
  own : IsOver start.aim (row_at start n)
  own = over n no_row within

  row_kept : row_at t n ≡ row_at start n
  row_kept = ap (λ (u : Tableau). row_at u n) h.kept

  pub row_inside : n < length t.rows
  row_inside = let rows = ap (λ (u : Tableau). length u.rows) h.kept in omega (arith, within, rows)

  numbers_over : length (row_at t n).numbers ≡ length t.aim + 1
  numbers_over = let same = ap (λ (row : TableauRow). length row.numbers) row_kept in omega (arith, same, own.numbers, h.long)

  pub longer : length t.aim < length (row_at t n).numbers
  longer = omega (arith, numbers_over)

  pub basic_below : (basic : ℕ) → basic ≡ (row_at t n).basic → basic < length t.aim
  basic_below basic is = let same = ap (λ (row : TableauRow). row.basic) row_kept in omega (arith, is, same, own.basic, h.long)

  module _ (basic : ℕ) (is : basic ≡ (row_at t n).basic) where
    tested : (test : Bool) → test ≡ does_freed_aim_fit basic (row_at t n).numbers t → does_freed_by_fit n (freed_below n start) ≡ test
    tested test e = ap (does_freed_by_fit n) (sym h.same) ∙ ap (λ b. does_freed_aim_fit b (row_at t n).numbers t) (sym is) ∙ sym e

    pub freed_stops : false ≡ does_freed_aim_fit basic (row_at t n).numbers t → false ≡ does_freed_fit start
    freed_stops e =
        let here : do_freed_below_fit (suc n) start ≡ false = rw (fit_below-suc n start, h.decides, tested false e) refl in
        let upto : (length start.rows - suc n) + suc n ≡ length start.rows = omega (arith, within) in
        sym (rw upto at (unfit_further (length start.rows - suc n) (suc n) start here))

    pub freed_more : (next : Tableau) → true ≡ does_freed_aim_fit basic (row_at t n).numbers t → next ≡ freed_aim basic (row_at t n).numbers t → AreFitNumbers next
        → IsFreedTo (n + 1) start next
    freed_more next e made fits = record {
      decides = rw (add-one, fit_below-suc n start, h.decides, tested true e) refl;
      same = rw (add-one, freed_below-suc n start, ← h.same, made, is) refl;
      kept = made ∙ freed_aim_is basic (row_at t n).numbers t ∙ ap (λ (u : Tableau). aimed_as u (freed_aim basic (row_at t n).numbers t)) h.kept ∙ ap (aimed_as start) (sym made);
      long = ap (λ (u : Tableau). length u.aim) made ∙ length-freed_aim basic (length t.aim) (row_at t n).numbers t refl numbers_over ∙ h.long;
      fits = fits;
    }

-- ---- the end
pub freed_value : (n : ℕ) (start t : Tableau) → n ≡ length start.rows → IsFreedTo n start t → (true ≡ does_freed_fit start) × (t ≡ freed start)
freed_value n start t e h = (sym (rw e at h.decides), rw e at h.same)

pub freed_sized : (n : ℕ) (start t : Tableau) → IsFreedTo n start t → (f : Columns) → IsSized f start → IsSized f t
freed_sized n start t h f sized = record {
  ranges = sized.ranges;
  rows = subst (All (IsSizedRow f)) (sym (ap (λ (u : Tableau). u.rows) h.kept)) sized.rows;
  turned = ap (λ (u : Tableau). length u.turned) h.kept ∙ sized.turned;
  aim = h.long ∙ sized.aim;
}
