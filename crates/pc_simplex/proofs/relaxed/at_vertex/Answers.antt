use Rattle.std.proofs.Common.{◌≡◌, ap, arith, to_z, of_z}
use Rattle.std.specs.Int.{w128}
use Rattle.std.proofs.lemmas.Int.{ints}
use Rattle.pc_program_bound.specs.Allocation.{constraints_of}
use Rattle.pc_simplex_tableau.specs.Tableau.{Tableau}
use Rattle.pc_simplex_tableau.specs.Relaxation.{multiplier}
use Rattle.pc_simplex_tableau.proofs.Listed.{length-table}
use Rattle.pc_simplex_tableau.proofs.WholeEnds.{vertex_stands}
use Rattle.pc_simplex.proofs.relaxed.at_vertex.Goals as goal

pub fits_width-requires-clause-sized : goal.fits_width-requires-clause-sized
fits_width-requires-clause-sized c = rw c.in_ok-mult.ensures.value (length-table (constraints_of c.args.p.now) (multiplier c.args.p.now c.args.tableau.now))

pub fits_width-requires-clause-positive : goal.fits_width-requires-clause-positive
fits_width-requires-clause-positive c =
    let above = (vertex_stands c.args.p.now c.args.floor.now c.args.cap.now c.args.steps c.args.tableau.now c.requires.program c.requires.inside c.requires.ending).0.meant.solved.weighed in
    let fits = c.requires.fits.weight in
    let seen : c.weight.result ≡ c.args.tableau.now.weight = c.weight.ensures in
    let same : to_z w128 (of_z w128 c.weight.result) ≡ c.weight.result = omega (arith, ints, seen, fits) in
    rw (c.in_ok-mult.ensures.value, same, seen) (omega (arith, ints, above))

pub point-requires-clause-stands : goal.point-requires-clause-stands
point-requires-clause-stands c =
    (vertex_stands c.args.p.now c.args.floor.now c.args.cap.now c.args.steps c.args.tableau.now c.requires.program c.requires.inside c.requires.ending).0

pub returns-in-Some-clause-fits : goal.returns-in-Some-clause-fits
returns-in-Some-clause-fits c =
    let fits = c.requires.fits.weight in
    let seen : c.weight.result ≡ c.args.tableau.now.weight = c.weight.ensures in
    let same : to_z w128 (of_z w128 c.weight.result) ≡ c.weight.result = omega (arith, ints, seen, fits) in
    (c.in_ok-mult.ensures.fits, rw (c.in_ok-mult.ensures.value, same, seen) fits)
