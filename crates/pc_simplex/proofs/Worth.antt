-- The point of a vertex is worth the most of all relaxed allocations.
use Rattle.std.proofs.Common.{◌≡◌, ℕ, List, sym, ap, ◌∙◌, arith}
use Rattle.std.specs.Prelude.{ℤ, pos, ◌*ℤ◌, ◌<ℤ◌, ◌≤ℤ◌}
use Rattle.std.proofs.lemmas.Int.{ints}
use Rattle.std.proofs.Math.IntN.{*ℤ_comm}
use Rattle.pc_num.specs.declared.Frac.{Frac}
use Rattle.pc_model.specs.declared.tree.Mult.{Mult}
use Rattle.pc_program_bound.specs.declared.program.Program.{Program}
use Rattle.pc_program_bound.specs.Allocation.{worth, IsRelaxed}
use Rattle.pc_program_bound.specs.Bound.{raw_bound}
use Rattle.pc_program_bound.proofs.Ring.{mul_assoc, mul_mono}
use Rattle.pc_program_bound.proofs.Duality.{duality}
use Rattle.pc_simplex_tableau.proofs.Products.{le_cancel, mul_swap}
use Rattle.pc_simplex.specs.Vertices.{IsVertex}

-- what is under a bound over one denominator is under what reaches it over another
under_reached : (weight low reached bound : ℤ) (d e : ℕ) → pos 0 <ℤ weight → (weight *ℤ low) ≤ℤ (pos d *ℤ bound) → weight *ℤ reached ≡ pos e *ℤ bound
    → (low *ℤ pos e) ≤ℤ (reached *ℤ pos d)
under_reached weight low reached bound d e above under same =
    le_cancel weight (low *ℤ pos e) (reached *ℤ pos d) above
    (let more : (pos e *ℤ (weight *ℤ low)) ≤ℤ (pos e *ℤ (pos d *ℤ bound)) = mul_mono (pos e) (weight *ℤ low) (pos d *ℤ bound) (omega (arith, ints)) under in
    let left : weight *ℤ (low *ℤ pos e) ≡ pos e *ℤ (weight *ℤ low) = sym (mul_assoc weight low (pos e)) ∙ *ℤ_comm (weight *ℤ low) (pos e) in
    let right : weight *ℤ (reached *ℤ pos d) ≡ pos e *ℤ (pos d *ℤ bound) =
    sym (mul_assoc weight reached (pos d)) ∙ ap (λ n. n *ℤ pos d) same ∙ *ℤ_comm (pos e *ℤ bound) (pos d) ∙ mul_swap (pos d) (pos e) bound in
    omega (arith, ints, more, left, right))

pub worth_most : (p : Program) (floors caps : List ℕ) (point : List Frac) (mult : Mult) (v : IsVertex p floors caps point mult) (den : ℕ) (counts : List ℕ)
    → IsRelaxed p floors caps den counts → (worth p counts *ℤ pos v.den) ≤ℤ (worth p v.counts *ℤ pos den)
worth_most p floors caps point mult v den counts relaxed =
    let positive = v.by.positive in
    under_reached mult.den (worth p counts) (worth p v.counts) (raw_bound p floors caps mult) den v.den (omega (arith, ints, positive))
    (duality p floors caps den counts mult relaxed) v.greatest
