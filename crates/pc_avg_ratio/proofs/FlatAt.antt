-- At a ratio that no row's number passes nothing gains, and the tree of one leaf shows it.
use Rattle.std.proofs.Common.{◌≡◌, ℕ, ◌<◌, ◌≤◌, inl, inr, sym, ap, ◌∙◌, subst, arith}
use Rattle.std.specs.Prelude.{ℤ, pos, ◌*ℤ◌, ◌≤ℤ◌}
use Rattle.std.proofs.lemmas.Int.{ints}
use Rattle.std.proofs.Math.IntN.{*ℤ_comm}
use Rattle.pc_model.specs.Aggregate.{Ratio}
use Rattle.pc_program_bound.specs.declared.program.Program.{Program}
use Rattle.pc_program_bound.specs.Sums.{nat_at, int_at}
use Rattle.pc_program_bound.specs.Allocation.{cells_of, constraints_of}
use Rattle.pc_program_bound.proofs.Ring.{mul_mono}
use Rattle.pc_agg_search.specs.Flat.{flat_tree}
use Rattle.pc_agg_search.proofs.FlatTrees.{flat_short}
use Rattle.pc_simplex_tableau.proofs.Listed.{at-table}
use Rattle.pc_simplex_tableau.proofs.Products.{mul-zero}
use Rattle.pc_avg_ratio.specs.declared.fractional.Fractional.{Fractional}
use Rattle.pc_avg_ratio.specs.Fractional.{IsFractional, IsOutermost, AddsOne, gain_over, program_at}
use Rattle.pc_avg_ratio.specs.Highest.{IsShown}
use Rattle.pc_avg_ratio.specs.Steps.{IsProgramAt}

module _ (f : Fractional) (fractional : IsFractional f) (outermost : ℤ) (outer : IsOutermost f outermost) (r : Ratio) (above : pos 0 ≤ℤ r.den) (reached : (outermost *ℤ r.den) ≤ℤ r.num) where
  gain_none : (i : ℕ) → i < cells_of f.rows → AddsOne f i → gain_over f r i ≤ℤ pos 0
  gain_none i lt (inl none) =
      let number : r.den *ℤ int_at f.sums.gain i ≡ pos 0 = ap (λ x. r.den *ℤ x) none.1 ∙ mul-zero r.den in
      let row : r.num *ℤ int_at f.rows.gain i ≡ pos 0 = ap (λ x. r.num *ℤ x) none.0 ∙ mul-zero r.num in
      omega (arith, ints, number, row)
  gain_none i lt (inr one) =
      let number = mul_mono r.den (int_at f.sums.gain i) outermost above (outer.within i lt one) in
      let row : r.num *ℤ int_at f.rows.gain i ≡ r.num = ap (λ x. r.num *ℤ x) one ∙ *ℤ_comm r.num (pos 1) ∙ omega (arith, ints) in
      omega (arith, ints, number, row, reached, *ℤ_comm outermost r.den)

  none_gains : (i : ℕ) → i < cells_of f.rows → (int_at (program_at f r).gain i *ℤ pos (nat_at f.rows.cap i)) ≤ℤ pos 0
  none_gains i lt =
      let gain = gain_none i lt (fractional.ones i lt) in
      let is = at-table (cells_of f.rows) (gain_over f r) i (pos 0) lt in
      let cap = pos (nat_at f.rows.cap i) in
      let product = mul_mono cap (gain_over f r i) (pos 0) (omega (arith, ints)) gain in
      subst (λ x. (x *ℤ cap) ≤ℤ pos 0) (sym is) (omega (arith, ints, product, *ℤ_comm cap (gain_over f r i), mul-zero cap))

  pub flat_shown : (p : Program) → IsProgramAt f r p → (budget n : ℕ) → constraints_of p ≡ n → 1 ≤ budget → IsShown f outermost budget r (flat_tree n)
  flat_shown p at budget n sized some =
      let program = subst (λ (q : Program). IsProgramAt f r q) at.same at in
      let same : constraints_of (program_at f r) ≡ n = subst (λ (q : Program). constraints_of q ≡ n) at.same sized in
      let short = flat_short (program_at f r) fractional.floors none_gains budget n program.program program.small same some in
      inr (reached, record { preorder = short.preorder; proves = short.proves; within = short.under; search = short.search; fits = short.fits })
