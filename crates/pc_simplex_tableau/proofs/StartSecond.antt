-- The tableau at the end of the first phase, with the gains as objective row, stands in the second.
use Rattle.std.proofs.Common.{◌≡◌, ℕ, ◌<◌, Bool, true, false, cond, not, ◌&&◌, length, refl, ap, ap₂, sym, ◌∙◌, arith, Option, Some, None, MatchOption, true≢false}
use Rattle.std.specs.Prelude.{⊤, ℤ, pos, neg_ℤ, int_lt, nat_lt, ◌-ℤ◌, ◌*ℤ◌, ◌≤ℤ◌, List}
use Rattle.std.specs.List.{list_all}
use Rattle.std.proofs.lemmas.Int.{ints}
use Rattle.std.proofs.lemmas.Bool.{cond-false, le-ltb}
use Rattle.std.proofs.lemmas.List.Folds.{list_all_at}
use Rattle.pc_program_bound.specs.declared.program.Program.{Program}
use Rattle.pc_program_bound.specs.Sums.{nat_at, int_at}
use Rattle.pc_program_bound.specs.Allocation.{cells_of}
use Rattle.pc_simplex_tableau.specs.Tableau.{TableauRow, Tableau, Columns, row_at, no_row, is_turned, is_helper, range_of, value_of}
use Rattle.pc_simplex_tableau.specs.Relaxation.{slack_of, columns_of, ranges_of, phase_one, phase_two, with_gains, has_helper, freed}
use Rattle.pc_simplex_tableau.specs.Standing.{entry_at, basic_at, value_at, plain, place, SolvesRows, IsMixed, IsFeasible, IsStanding, gain_one, gain_two}
use Rattle.pc_simplex_tableau.specs.Freed.{IsMeantRows}
use Rattle.pc_simplex_tableau.proofs.Sized.{sized_row, sized_basic, sized_rows}
use Rattle.pc_simplex_tableau.proofs.Products.{mul-zero}
use Rattle.pc_simplex_tableau.proofs.Meaning.{miss-same}
use Rattle.pc_simplex_tableau.proofs.Turns.{signed}
use Rattle.pc_simplex_tableau.proofs.StartTables.{IsMixed-gain, IsMixed-any_gain}
use Rattle.pc_simplex_tableau.proofs.Listed.{length-table, at-table}
use Rattle.pc_simplex_tableau.proofs.Freed.{IsStanding-freed}

-- ---- no helper is left above 0

not_false : (test : Bool) → not test ≡ false → test ≡ true
not_false true e = refl
not_false false e = absurd (true≢false e)

none_left : (f : Columns) (t : Tableau) (r : ℕ) → r < length t.rows → has_helper f t ≡ false → is_helper f (basic_at t r) ≡ true → value_at f t r ≤ℤ pos 0
none_left f t r lt none helper = by (int_lt (pos 0) (value_at f t r)) refl
  where
    is_low : TableauRow → Bool
    is_low row = not (is_helper f row.basic && int_lt (pos 0) (value_of f row))

    by : (test : Bool) → int_lt (pos 0) (value_at f t r) ≡ test → value_at f t r ≤ℤ pos 0
    by false e = omega (arith, ints, e)
    by true e = absurd (true≢false (sym (not_false (list_all is_low t.rows) none)
        ∙ list_all_at is_low t.rows r no_row lt (ap₂ (λ a b. not (a && b)) helper e)))

-- ---- the gains as objective row

gain_place : (inside test : Bool) (x : ℤ) → signed test (cond inside (cond test (neg_ℤ x) x) (pos 0)) ≡ cond inside x (pos 0)
gain_place true true x = omega (arith, ints)
gain_place true false x = refl
gain_place false true x = refl
gain_place false false x = refl

aim_mixed-gains : (p : Program) (t : Tableau) → IsMixed p (pos 1) (gain_two p) (plain t (with_gains p t).aim)
aim_mixed-gains p t = IsMixed-gain p (gain_two p) (plain t (with_gains p t).aim)
    (λ k lt. ap (signed (is_turned t k)) (at-table (columns_of p) gains k (pos 0) lt) ∙ gain_place (nat_lt k (cells_of p)) (is_turned t k) (int_at p.gain k))
    (λ j lt. cond-false (nat_lt (slack_of p j) (cells_of p)) (int_at p.gain (slack_of p j)) (pos 0) (le-ltb (slack_of p j) (cells_of p) (omega arith)))
  where
    gains : ℕ → ℤ
    gains k = cond (nat_lt k (cells_of p)) (cond (is_turned t k) (neg_ℤ (int_at p.gain k)) (int_at p.gain k)) (pos 0)

-- ---- a helper's range has an end now

ended : (test : Bool) (u : ℕ) → cond {A = Option ℕ} test (Some 0) (Some u) ≡ None → ⊥
ended true u e = absurd cc
ended false u e = absurd cc

same_end : (test : Bool) (u : ℕ) → ◌≡◌ {A = ℕ} (elim (cond {A = Option ℕ} test (Some 0) (Some u)) [ Some n ↦ n | None ↦ 0 ])
    (elim (cond {A = Option ℕ} test None (Some u)) [ Some n ↦ n | None ↦ 0 ])
same_end true u = refl
same_end false u = refl

within : (test : Bool) (u : ℕ) (P : ℕ → Type 0) → (test ≡ true → P 0) → MatchOption (cond {A = Option ℕ} test None (Some u)) ⊤ P
    → MatchOption (cond {A = Option ℕ} test (Some 0) (Some u)) ⊤ P
within true u P none h = none refl
within false u P none h = h

module _ (p : Program) (floors caps : List ℕ) (t : Tableau) where
  abbrev first : Columns
  first = phase_one p floors caps

  abbrev second : Columns
  second = phase_two p floors caps

  place_same : (y : ℕ → ℤ) (k : ℕ) → place second t y k ≡ place first t y k
  place_same y k = ap (λ n. cond (is_turned t k) (neg_ℤ (y k) -ℤ pos n *ℤ y (columns_of p)) (y k)) (same_end (is_helper first k) (nat_at (ranges_of p floors caps) k))

  solves_same : (y : ℕ → ℤ) → SolvesRows second (with_gains p t) y → SolvesRows first t y
  solves_same y solves r lt = sym (miss-same (columns_of p) (row_at t r).numbers (place second t y) (place first t y) (place_same y)) ∙ solves r lt

  high_same : IsFeasible first t → has_helper first t ≡ false → (r : ℕ) → r < length t.rows
      → MatchOption (range_of second (basic_at t r)) ⊤ (λ u. value_at first t r ≤ℤ (entry_at t r (basic_at t r) *ℤ pos u))
  high_same feasible none r lt =
      within (is_helper first (basic_at t r)) (nat_at (ranges_of p floors caps) (basic_at t r)) (λ u. value_at first t r ≤ℤ (entry_at t r (basic_at t r) *ℤ pos u))
      (λ helper. (let low = none_left first t r lt none helper in let nothing = mul-zero (entry_at t r (basic_at t r)) in omega (arith, ints, low, nothing)))
      (feasible.high r lt)

  IsMeantRows-gains : IsStanding p floors (gain_one p floors) first t → IsMeantRows p floors (gain_two p) second (with_gains p t)
  IsMeantRows-gains standing =
      let meant = standing.meant in
      record {
        sized = record {
          ranges = meant.sized.ranges;
          rows = sized_rows second (with_gains p t) (sized_row meant.sized) (sized_basic meant.sized);
          turned = meant.sized.turned;
          aim = length-table (columns_of p) _;
        };
        solved = record { positive = meant.solved.positive; alone = meant.solved.alone; weighed = omega (arith, ints) };
        rows = meant.rows;
        count = refl;
        rows_mixed = λ r lt. IsMixed-any_gain p (gain_one p floors) (gain_two p) (plain t (row_at t r).numbers) (meant.rows_mixed r lt);
        aim_mixed = aim_mixed-gains p t;
        endless = λ k none. absurd (ended (is_helper first k) (nat_at (ranges_of p floors caps) k) none);
        helpers = λ r lt helper none. absurd cc;
        back = λ y solves. meant.back y (solves_same y solves);
      }

  pub IsStanding-second : IsStanding p floors (gain_one p floors) first t → has_helper first t ≡ false
      → IsStanding p floors (gain_two p) second (freed (with_gains p t))
  IsStanding-second standing none = IsStanding-freed p floors (gain_two p) second (with_gains p t) (record {
    meant = IsMeantRows-gains standing;
    feasible = record { low = standing.feasible.low; high = high_same standing.feasible none };
  })
