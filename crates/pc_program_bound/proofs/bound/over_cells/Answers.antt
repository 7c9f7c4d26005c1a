use Rattle.std.proofs.Common.{arith, ◌≡◌, ap, ◌∙◌, sym, refl, get_or, to_z, of_z, length}
use Rattle.std.specs.Int.{w128}
use Rattle.std.proofs.lemmas.Int.{ints}
use Rattle.pc_program_bound.specs.Allocation.{cells_of}
use Rattle.pc_program_bound.specs.Bound.{cell_share, cell_size}
use Rattle.pc_program_bound.proofs.Steps.{after_none}
use Rattle.pc_program_bound.proofs.Widths.{no_cells, cell_step, cell_stops, cells_end}
use Rattle.pc_program_bound.proofs.bound.over_cells.Goals as goal

pub loop-cell-init : goal.loop-cell-init
loop-cell-init c = record {
  shares = sym (after_none c.args.first.share (cell_share c.args.p.now c.args.floor.now c.args.cap.now c.args.mult.now));
  sizes = sym (after_none c.args.first.size (cell_size c.args.p.now c.args.mult.now));
  around = c.requires.around;
  fits = no_cells c.args.p.now c.args.mult.now c.args.first.size c.requires.fits;
}

pub loop-cell-preserved : goal.loop-cell-preserved
loop-cell-preserved c =
    let cell = c.loop-cell.cell in
    let now = c.loop-cell.invariant in
    let same : to_z w128 (of_z w128 c.in_ok-rest.rest) ≡ c.in_ok-rest.rest = omega (arith, ints) in
    let e = c.in_ok-running.ensures.value in
    let next = cell_step c.args.p.now c.args.floor.now c.args.cap.now c.args.mult.now cell c.args.first c.loop-cell.running _ _ _ _ _
    (same ∙ c.in_ok-rest.ensures.1) refl refl (ap (λ xs. get_or xs cell 0) c.as_slice-most.ensures)
    now.shares now.sizes now.fits c.in_ok-rest.ensures.0 e.0 e.1 in
    record { shares = next.0; sizes = next.1; around = c.in_ok-running.ensures.around; fits = next.2 }

pub returns-in_err-running : goal.returns-in_err-running
returns-in_err-running c =
    let cell = c.loop-cell.cell in
    let same : to_z w128 (of_z w128 c.in_ok-rest.rest) ≡ c.in_ok-rest.rest = omega (arith, ints) in
    let inside = c.loop-cell-test.true in
    let long = c.as_slice-most.ensures in
    rw c.from_residual-in_err-running.ensures (λ h. c.in_err-running.ensures.value
    (cell_stops c.args.p.now c.args.mult.now cell _ c.args.first.size _ _ _ (same ∙ c.in_ok-rest.ensures.1)
    (ap (λ xs. get_or xs cell 0) long) c.loop-cell.invariant.sizes
    (let l = rw (long, c.requires.program.caps) at inside in l) h))

pub returns : goal.returns
returns c =
    let long = ap length c.as_slice-most.ensures ∙ c.requires.program.caps in
    let end : c.loop-cell.cell ≡ cells_of c.args.p.now = omega (arith, long, c.loop-cell-test.false, c.loop-cell.auto.cell-end) in
    let now = c.loop-cell.invariant in
    cells_end c.args.p.now c.args.floor.now c.args.cap.now c.args.mult.now c.loop-cell.cell c.args.first c.loop-cell.running end now.shares now.sizes now.fits
