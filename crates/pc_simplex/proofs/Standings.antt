-- Where the columns of a tableau that stands are, as the two numbers of a fraction.
use Rattle.std.proofs.Common.{◌≡◌, ℕ, ◌-◌, ◌<◌, List, length, All, refl, ap, sym, subst, ◌∙◌, arith, Option, Some, None, inl, inr}
use Rattle.std.specs.Prelude.{ℤ, pos, ◌*ℤ◌, ◌<ℤ◌, ◌≤ℤ◌, ⊤, MatchOption}
use Rattle.std.proofs.lemmas.Int.{ints}
use Rattle.std.proofs.lemmas.Bool.{cases_lt}
use Rattle.std.proofs.lemmas.List.{get_or_past}
use Rattle.pc_program_bound.specs.declared.program.Program.{Program}
use Rattle.pc_program_bound.specs.Sums.{nat_at, int_at}
use Rattle.pc_program_bound.specs.Allocation.{cells_of, IsBox}
use Rattle.pc_program_bound.specs.Bound.{IsFit}
use Rattle.pc_program_bound.proofs.Ring.{mul_mono}
use Rattle.pc_simplex_tableau.specs.Tableau.{Tableau, Columns, no_row, row_at, range_of}
use Rattle.pc_simplex_tableau.specs.Relaxation.{columns_of, phase_two}
use Rattle.pc_simplex_tableau.specs.Standing.{entry_at, basic_at, value_at, IsFeasible, IsStanding, gain_two}
use Rattle.pc_simplex_tableau.specs.Conditions.{AreFitNumbers}
use Rattle.pc_simplex_tableau.specs.Point.{row_of, over_at, under_at}
use Rattle.pc_simplex_tableau.proofs.Entering.{range_is}
use Rattle.pc_simplex_tableau.proofs.Frames.{IsFrame-ranges}
use Rattle.pc_simplex_tableau.proofs.Points.{row_of-some}
use Rattle.pc_simplex_tableau.proofs.Counted.{under-positive}

-- a cell's numbers fit, and it stands from 0 to its cap
pub record IsPlaced (p : Program) (caps : List ℕ) (t : Tableau) (i : ℕ) : Type 0 where
  pub above : pos 0 <ℤ under_at t i
  pub low : pos 0 ≤ℤ over_at p t i
  pub high : over_at p t i ≤ℤ (under_at t i *ℤ pos (nat_at caps i))
  pub over_fits : IsFit (over_at p t i)
  pub under_fits : IsFit (under_at t i)

fit_at : (numbers : List ℤ) (k : ℕ) → All IsFit numbers → IsFit (int_at numbers k)
fit_at numbers k fits = elim (cases_lt k (length numbers)) [
  | inl lt ↦ fits k (pos 0) lt
  | inr past ↦ subst IsFit (sym (get_or_past numbers k (pos 0) (omega (arith, past)))) (omega (arith, ints))
]

entry-fits : (t : Tableau) (r k : ℕ) → AreFitNumbers t → r < length t.rows → IsFit (entry_at t r k)
entry-fits t r k fits lt = fit_at (row_at t r).numbers k (fits.rows r no_row lt)

module _ (p : Program) (floors caps : List ℕ) (t : Tableau) (box : IsBox p floors caps) where
  abbrev two : Columns
  two = phase_two p floors caps

  low_at : (k : ℕ) (row : Option ℕ) → row_of t k ≡ row → IsFeasible two t → pos 0 ≤ℤ elim row [ Some r ↦ entry_at t r (columns_of p) | None ↦ pos 0 ]
  low_at k (Some r) e feasible = feasible.low r (row_of-some t k r e).0
  low_at k None e feasible = omega (arith, ints)

  over_fits_at : (k : ℕ) (row : Option ℕ) → row_of t k ≡ row → AreFitNumbers t → IsFit (elim row [ Some r ↦ entry_at t r (columns_of p) | None ↦ pos 0 ])
  over_fits_at k (Some r) e fits = entry-fits t r (columns_of p) fits (row_of-some t k r e).0
  over_fits_at k None e fits = omega (arith, ints)

  under_fits_at : (k : ℕ) (row : Option ℕ) → row_of t k ≡ row → AreFitNumbers t → IsFit (elim row [ Some r ↦ entry_at t r k | None ↦ pos 1 ])
  under_fits_at k (Some r) e fits = entry-fits t r k fits (row_of-some t k r e).0
  under_fits_at k None e fits = omega (arith, ints)

  within : (range : Option ℕ) (u : ℕ) (P : ℕ → Type 0) → range ≡ Some u → MatchOption range ⊤ P → P u
  within range u P e h = rw e at h

  cell_range : (i : ℕ) → i < cells_of p → range_of two i ≡ Some (nat_at caps i - nat_at floors i)
  cell_range i lt =
      let frame = IsFrame-ranges p floors caps (Some 0) in
      let long = frame.ranges in
      range_is two i (omega (arith, lt, long)) ∙ ap Some (frame.cells i lt)

  high_at : (i : ℕ) → i < cells_of p → (row : Option ℕ) → row_of t i ≡ row → IsFeasible two t → pos 0 <ℤ elim row [ Some r ↦ entry_at t r i | None ↦ pos 1 ]
      → elim row [ Some r ↦ entry_at t r (columns_of p) | None ↦ pos 0 ] ≤ℤ (elim row [ Some r ↦ entry_at t r i | None ↦ pos 1 ] *ℤ pos (nat_at caps i))
  high_at i lt (Some r) e feasible above =
      let there = row_of-some t i r e in
      let room : value_at two t r ≤ℤ (entry_at t r (basic_at t r) *ℤ pos (nat_at caps i - nat_at floors i)) =
      within (range_of two (basic_at t r)) (nat_at caps i - nat_at floors i) (λ u. value_at two t r ≤ℤ (entry_at t r (basic_at t r) *ℤ pos u)) (ap (range_of two) there.1 ∙ cell_range i lt) (feasible.high r there.0) in
      let here : value_at two t r ≤ℤ (entry_at t r i *ℤ pos (nat_at caps i - nat_at floors i)) = subst (λ k. value_at two t r ≤ℤ (entry_at t r k *ℤ pos (nat_at caps i - nat_at floors i))) there.1 room in
      let more : (entry_at t r i *ℤ pos (nat_at caps i - nat_at floors i)) ≤ℤ (entry_at t r i *ℤ pos (nat_at caps i)) =
      mul_mono (entry_at t r i) (pos (nat_at caps i - nat_at floors i)) (pos (nat_at caps i)) (omega (arith, ints, above)) (omega (arith, ints)) in
      omega (arith, ints, here, more)
  high_at i lt None e feasible above = mul_mono (pos 1) (pos 0) (pos (nat_at caps i)) (omega (arith, ints)) (omega (arith, ints))

  pub IsPlaced-standing : IsStanding p floors (gain_two p) two t → AreFitNumbers t → (i : ℕ) → i < cells_of p → IsPlaced p caps t i
  IsPlaced-standing standing fits i lt = record {
    above = under-positive t standing.meant.solved i;
    low = low_at i (row_of t i) refl standing.feasible;
    high = high_at i lt (row_of t i) refl standing.feasible (under-positive t standing.meant.solved i);
    over_fits = over_fits_at i (row_of t i) refl fits;
    under_fits = under_fits_at i (row_of t i) refl fits;
  }
