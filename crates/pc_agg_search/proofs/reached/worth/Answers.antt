use Rattle.std.proofs.Common.{◌≡◌, ◌<◌, ℤ, pos, sym, to_z, of_z, arith}
use Rattle.std.specs.Prelude.{slice_index_or}
use Rattle.std.specs.Int.{w128}
use Rattle.std.proofs.lemmas.Int.{ints}
use Rattle.pc_program_bound.specs.Allocation.{cells_of}
use Rattle.pc_program_bound.proofs.SumBelow.{sum_below-zero}
use Rattle.pc_agg_search.proofs.Sizes.{part_small, term_small, next_sum}
use Rattle.pc_agg_search.proofs.reached.worth.Goals as goal

pub loop-cell-init : goal.loop-cell-init
loop-cell-init c = sym (sum_below-zero _)

pub with_term-total-requires-clause-total : goal.with_term-total-requires-clause-total
with_term-total-requires-clause-total c =
    let inside : c.loop-cell.cell < cells_of c.args.p.now = omega (arith, (rw c.as_slice-gains.ensures at c.loop-cell-test.true), c.requires.program.gains) in
    rw c.loop-cell.invariant (part_small c.args.p.now c.requires.small c.args.counts.now c.requires.allowed c.loop-cell.cell (omega (arith, inside)))

pub with_term-total-requires-clause-term : goal.with_term-total-requires-clause-term
with_term-total-requires-clause-term c =
    let inside : c.loop-cell.cell < cells_of c.args.p.now = omega (arith, (rw c.as_slice-gains.ensures at c.loop-cell-test.true), c.requires.program.gains) in
    let gain : ℤ = slice_index_or c.as_slice-gains.result.now c.loop-cell.cell (pos 0) in
    let same : to_z w128 (of_z w128 gain) ≡ gain = omega (arith, ints) in
    rw (same, c.as_slice-gains.ensures) (term_small c.args.p.now c.requires.small c.args.counts.now c.requires.allowed c.loop-cell.cell inside)

pub loop-cell-preserved : goal.loop-cell-preserved
loop-cell-preserved c =
    let gain : ℤ = slice_index_or c.as_slice-gains.result.now c.loop-cell.cell (pos 0) in
    let same : to_z w128 (of_z w128 gain) ≡ gain = omega (arith, ints) in
    let result : to_z w128 (of_z w128 c.with_term-total.result) ≡ c.with_term-total.result = omega (arith, ints) in
    rw result
    (next_sum c.args.p.now c.requires.small c.args.counts.now c.requires.allowed c.loop-cell.cell (to_z w128 c.loop-cell.total-bits) c.with_term-total.result c.loop-cell.invariant
    (rw (same, c.as_slice-gains.ensures) at c.with_term-total.ensures))
