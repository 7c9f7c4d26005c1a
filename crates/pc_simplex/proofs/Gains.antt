-- The gains as objective row: its length, and that its numbers fit.
use Rattle.std.proofs.Common.{◌≡◌, ℕ, Bool, true, false, cond, nat_lt, List, All, refl, sym, ◌∙◌, arith}
use Rattle.std.specs.Prelude.{ℤ, pos, neg_ℤ, slice_index_or}
use Rattle.std.proofs.lemmas.Bool.{ltb-true}
use Rattle.pc_num.proofs.Signed.{unsigned_abs-neg}
use Rattle.pc_program_bound.specs.declared.program.Program.{Program}
use Rattle.pc_program_bound.specs.Sums.{int_at}
use Rattle.pc_program_bound.specs.Allocation.{IsProgram, cells_of}
use Rattle.pc_program_bound.specs.Bound.{IsFit}
use Rattle.pc_simplex_tableau.specs.Numbers.{table}
use Rattle.pc_simplex_tableau.specs.Tableau.{Tableau, Columns}
use Rattle.pc_simplex_tableau.specs.Relaxation.{columns_of, with_gains}
use Rattle.pc_simplex_tableau.specs.Conditions.{IsSized, AreFitNumbers}
use Rattle.pc_simplex_tableau.proofs.Listed.{length-table}
use Rattle.pc_simplex.specs.Aims.{gain_at}
use Rattle.pc_simplex_tableau.proofs.Tables.{All-table}
use Rattle.pc_simplex.proofs.FirstRows.{one_fits, none_fits, either_fits}

pub with_gains_is : (p : Program) (t made : Tableau) (turned : List Bool) (aim : List ℤ) → made ≡ t → turned ≡ made.turned → aim ≡ table (columns_of p) (gain_at p turned)
    → record { rows = made.rows; turned = made.turned; aim = aim; weight = pos 1 } ≡ with_gains p t
with_gains_is p t made turned aim e d g = rw (g, d, e) refl

pub gains_sized : (p : Program) (t s : Tableau) → s ≡ with_gains p t → (f : Columns) → f.count ≡ columns_of p → IsSized f t → IsSized f s
gains_sized p t s e f count sized = rw e (record {
  ranges = sized.ranges;
  rows = sized.rows;
  turned = sized.turned;
  aim = length-table (columns_of p) (gain_at p t.turned) ∙ sym count;
})

neg_fits : (x : ℤ) → IsFit x → IsFit (neg_ℤ x)
neg_fits x h = rw (unsigned_abs-neg x) h

module _ (p : Program) (program : IsProgram p) (gains : All IsFit p.gain) where
  gain_fits : (turned : List Bool) (k : ℕ) → IsFit (gain_at p turned k)
  gain_fits turned k = by (nat_lt k (cells_of p)) refl
    where
      own : nat_lt k (cells_of p) ≡ true → IsFit (int_at p.gain k)
      own e = gains k (pos 0) (let lt = ltb-true k (cells_of p) e in omega (arith, lt, program.gains))

      by : (test : Bool) → nat_lt k (cells_of p) ≡ test → IsFit (cond test (cond (slice_index_or turned k false) (neg_ℤ (int_at p.gain k)) (int_at p.gain k)) (pos 0))
      by true e = either_fits (slice_index_or turned k false) _ _ (neg_fits (int_at p.gain k) (own e)) (own e)
      by false e = none_fits

  pub gains_fit : (t s : Tableau) → s ≡ with_gains p t → AreFitNumbers t → AreFitNumbers s
  gains_fit t s e fits = rw e (record {
    rows = fits.rows;
    aim = All-table IsFit (columns_of p) (gain_at p t.turned) (λ k lt. gain_fits t.turned k);
    weight = one_fits;
  })
