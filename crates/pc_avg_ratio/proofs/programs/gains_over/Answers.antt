use Rattle.std.proofs.Common.{◌≡◌, ℤ, pos, length, refl, ◌∙◌, to_z, of_z, arith}
use Rattle.std.specs.Prelude.{slice_index_or}
use Rattle.std.specs.Int.{w128}
use Rattle.std.proofs.lemmas.Int.{ints}
use Rattle.pc_proof.specs.Table.{ratio_of}
use Rattle.pc_program_bound.specs.Allocation.{cells_of}
use Rattle.pc_simplex_tableau.proofs.Tables.{table_made}
use Rattle.pc_avg_ratio.specs.Fractional.{gain_over}
use Rattle.pc_avg_ratio.proofs.programs.gains_over.Goals as goal

pub loop-cell-preserved : goal.loop-cell-preserved
loop-cell-preserved c =
    let l = c.loop-cell in
    let number : ℤ = slice_index_or c.as_slice-numbers.result.now l.cell (pos 0) in
    let row : ℤ = slice_index_or c.as_slice-rows.result.now l.cell (pos 0) in
    let number_is : to_z w128 (of_z w128 number) ≡ number = omega (arith, ints) in
    let row_is : to_z w128 (of_z w128 row) ≡ row = omega (arith, ints) in
    let made : to_z w128 (of_z w128 c.gain_over.result) ≡ c.gain_over.result = omega (arith, ints) in
    rw c.in_ok-push.ensures.ok
    (table_made l.gains l.cell (gain_over c.args.f.now (ratio_of c.args.ratio)) _ l.invariant
    (made ∙ (rw (number_is, row_is, c.as_slice-numbers.ensures, c.as_slice-rows.ensures) at c.gain_over.ensures)))

pub returns : goal.returns
returns c =
    let l = c.loop-cell in
    let past = c.loop-cell-test.false in
    let long : length c.as_slice-numbers.result.now ≡ cells_of c.args.f.now.rows = rw c.as_slice-numbers.ensures c.requires.fractional.sized in
    let whole : l.cell ≡ cells_of c.args.f.now.rows = omega (arith, past, long) in
    l.invariant ∙ (rw whole refl)
