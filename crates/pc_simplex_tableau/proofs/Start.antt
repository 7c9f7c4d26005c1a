-- The first tableau stands once its objective row is freed.
use Rattle.std.proofs.Common.{◌≡◌, ℕ, zero, suc, ◌<◌, Bool, true, false, cond, length, refl, subst, sym, ap, ◌∙◌, arith, Option, Some, None, MatchOption}
use Rattle.std.specs.Prelude.{⊤, ℤ, pos, int_lt, ◌-ℤ◌, ◌*ℤ◌, ◌≤ℤ◌, List}
use Rattle.std.proofs.lemmas.Int.{ints}
use Rattle.std.proofs.lemmas.Bool.{cond-true, cond-false, le-leb}
use Rattle.pc_program_bound.specs.declared.program.Program.{Program}
use Rattle.pc_program_bound.specs.Sums.{nat_at}
use Rattle.pc_program_bound.specs.Allocation.{constraints_of}
use Rattle.pc_simplex_tableau.specs.Numbers.{first_below}
use Rattle.pc_simplex_tableau.specs.Tableau.{is_helper, range_of}
use Rattle.pc_simplex_tableau.specs.Relaxation.{helper_of, slack_range, ranges_of, phase_one, left_of, is_short, first_tableau, freed}
use Rattle.pc_simplex_tableau.specs.Standing.{entry_at, basic_at, value_at, IsStanding, gain_one}
use Rattle.pc_simplex_tableau.specs.Freed.{IsMeantRows}
use Rattle.pc_simplex_tableau.proofs.Pivots.{by_same}
use Rattle.pc_simplex_tableau.proofs.StartRows.{start, frame, rows-start, basic-short, basic-long, value-start}
use Rattle.pc_simplex_tableau.proofs.StartMeant.{length-ranges, below, by_short, own-start, IsSolvedRows-start, IsSized-start, IsMixed-start, aim_mixed-start, endless-start, helpers-start}
use Rattle.pc_simplex_tableau.proofs.StartBack.{range-slack, SolvesAll-start}
use Rattle.pc_simplex_tableau.proofs.Freed.{IsStanding-freed}

pub first_below-none : (n : ℕ) (test : ℕ → Bool) → first_below n test ≡ None → (k : ℕ) → k < n → test k ≡ false
unfolding first_below
first_below-none zero test e k lt = absurd (omega (arith, lt))
first_below-none (suc n) test e k lt = by (first_below n test) refl (first_below-none n test) e
  where
    last : (b : Bool) → test n ≡ b → (k < n → test k ≡ false) → cond {A = Option ℕ} b (Some n) None ≡ None → test k ≡ false
    last true d before h = absurd cc
    last false d before h = by_same k n (λ e. ap test e ∙ d) (λ ne. before (omega (arith, lt, ne)))

    by : (found : Option ℕ) → first_below n test ≡ found → (first_below n test ≡ None → (i : ℕ) → i < n → test i ≡ false)
        → ◌≡◌ {A = Option ℕ} (elim found [ Some i ↦ Some i | None ↦ cond (test n) (Some n) None ]) None → test k ≡ false
    by None d again h = last (test n) refl (again d k) h
    by (Some i) d again h = absurd cc

-- a value that the slack's range does not reach, or that it does
short_value : (left v : ℤ) (u : ℕ) → int_lt (pos u) left ≡ true → v ≡ left -ℤ pos 1 *ℤ pos u → pos 0 ≤ℤ v
short_value left v u short e = omega (arith, ints, short, e)

plenty_value : (left v a : ℤ) (u : ℕ) → int_lt (pos u) left ≡ false → v ≡ left → a ≡ pos 1 → v ≤ℤ (a *ℤ pos u)
plenty_value left v a u plenty e one = rw one (omega (arith, ints, plenty, e))

module _ (p : Program) (floors caps : List ℕ) where
  shifted : ℕ → ℤ
  shifted j = left_of p floors j -ℤ pos 1 *ℤ pos (slack_range p j)

  short-start : (j : ℕ) → j < constraints_of p → is_short p floors j ≡ true → value_at (frame p floors caps) (start p floors caps) j ≡ shifted j
  unfolding shifted
  short-start j own e = value-start p floors caps j own ∙ cond-true (is_short p floors j) (shifted j) (left_of p floors j) e

  plenty-start : (j : ℕ) → j < constraints_of p → is_short p floors j ≡ false → value_at (frame p floors caps) (start p floors caps) j ≡ left_of p floors j
  unfolding shifted
  plenty-start j own e = value-start p floors caps j own ∙ cond-false (is_short p floors j) (shifted j) (left_of p floors j) e

  low-start : (j : ℕ) → j < constraints_of p → int_lt (left_of p floors j) (pos 0) ≡ false → pos 0 ≤ℤ value_at (frame p floors caps) (start p floors caps) j
  unfolding shifted
  low-start j own enough = by_short p floors caps j
      (λ e. short_value (left_of p floors j) (value_at (frame p floors caps) (start p floors caps) j) (slack_range p j) e (short-start j own e))
      (λ e. (let value = plenty-start j own e in omega (arith, ints, value, enough)))

  IsWithin : ℕ → Option ℕ → Type 0
  IsWithin j range = MatchOption range ⊤ (λ u. value_at (frame p floors caps) (start p floors caps) j
      ≤ℤ (entry_at (start p floors caps) j (basic_at (start p floors caps) j) *ℤ pos u))

  endless-helper : (j : ℕ) → range_of (frame p floors caps) (helper_of p j) ≡ None
  endless-helper j =
      cond-true (is_helper (frame p floors caps) (helper_of p j)) None (Some (nat_at (ranges_of p floors caps) (helper_of p j)))
      (le-leb (length (ranges_of p floors caps)) (helper_of p j) (omega (arith, length-ranges p floors caps)))

  high-start : (j : ℕ) → j < constraints_of p → IsWithin j (range_of (frame p floors caps) (basic_at (start p floors caps) j))
  unfolding IsWithin
  high-start j own = by_short p floors caps j
      (λ e. subst (IsWithin j) (sym (ap (range_of (frame p floors caps)) (basic-short p floors caps j own e) ∙ endless-helper j)) tt)
      (λ e. subst (IsWithin j) (sym (ap (range_of (frame p floors caps)) (basic-long p floors caps j own e) ∙ range-slack p floors caps j own))
      (plenty_value (left_of p floors j) (value_at (frame p floors caps) (start p floors caps) j)
      (entry_at (start p floors caps) j (basic_at (start p floors caps) j)) (slack_range p j) e (plenty-start j own e) (own-start p floors caps j own)))

  IsMeantRows-start : IsMeantRows p floors (gain_one p floors) (frame p floors caps) (start p floors caps)
  IsMeantRows-start = record {
    sized = IsSized-start p floors caps;
    solved = IsSolvedRows-start p floors caps;
    rows = rows-start p floors caps;
    count = refl;
    rows_mixed = λ r h. IsMixed-start p floors caps r (below p floors caps r h) (gain_one p floors);
    aim_mixed = aim_mixed-start p floors caps;
    endless = endless-start p floors caps;
    helpers = λ r h helper none. helpers-start p floors caps r (below p floors caps r h) helper;
    back = SolvesAll-start p floors caps;
  }

  pub IsStanding-start : first_below (constraints_of p) (λ j. int_lt (left_of p floors j) (pos 0)) ≡ None
      → IsStanding p floors (gain_one p floors) (phase_one p floors caps) (freed (first_tableau p floors caps))
  unfolding IsWithin
  IsStanding-start none = IsStanding-freed p floors (gain_one p floors) (frame p floors caps) (start p floors caps) (record {
    meant = IsMeantRows-start;
    feasible = record {
      low = λ r h. low-start r (below p floors caps r h)
          (first_below-none (constraints_of p) (λ j. int_lt (left_of p floors j) (pos 0)) none r (below p floors caps r h));
      high = λ r h. high-start r (below p floors caps r h);
    };
  })
