use Rattle.std.proofs.Common.{◌≡◌, ◌<◌, arith, to_z, of_z, ◌∙◌}
use Rattle.std.specs.Int.{w128}
use Rattle.std.proofs.lemmas.Int.{ints}
use Rattle.pc_program_bound.specs.Allocation.{cells_of}
use Rattle.pc_branch.proofs.Visits.{quotient-least, quotient-most, whole_has_counts}
use Rattle.pc_branch.proofs.visit.at_vertex.Goals as goal

pub returns-in_default-clause-counts : goal.returns-in_default-clause-counts
returns-in_default-clause-counts c =
    let same : to_z w128 (of_z w128 c.bound_of-bound.result) ≡ c.bound_of-bound.result = omega (arith, ints) in
    whole_has_counts c.args.p.now c.args.floor.now c.args.cap.now c.args.point.now c.args.mult c.requires.vertex c.visit_of.result c.in_ok-counts.counts
    (to_z w128 (of_z w128 c.bound_of-bound.result)) c.in_default.ensures.broken c.in_ok-counts.ensures (same ∙ c.bound_of-bound.ensures) c.visit_of.ensures

pub parted-requires-clause-low : goal.parted-requires-clause-low
parted-requires-clause-low c =
    let sized = c.requires.vertex.sized in
    let there = c.in-Some.ensures.broken.0 in
    let inside : c.in-Some.cell < cells_of c.args.p.now = omega (arith, sized, there) in
    quotient-least c.args.p.now c.args.floor.now c.args.cap.now c.args.point.now c.args.mult c.requires.vertex c.in-Some.cell inside

pub parted-requires-clause-high : goal.parted-requires-clause-high
parted-requires-clause-high c =
    let sized = c.requires.vertex.sized in
    let there = c.in-Some.ensures.broken.0 in
    let inside : c.in-Some.cell < cells_of c.args.p.now = omega (arith, sized, there) in
    quotient-most c.args.p.now c.args.floor.now c.args.cap.now c.args.point.now c.args.mult c.requires.vertex c.in-Some.cell inside c.requires.program c.requires.inside
