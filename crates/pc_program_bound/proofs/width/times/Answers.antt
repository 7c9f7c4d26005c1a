use Rattle.std.proofs.Common.{arith, to_z, of_z, ◌≡◌, pos}
use Rattle.std.specs.Int.{w128}
use Rattle.std.proofs.lemmas.Int.{ints, fits_signed_from_abs}
use Rattle.pc_program_bound.proofs.Steps.{passed}
use Rattle.pc_program_bound.proofs.Around.{around-product, fit-around}
use Rattle.pc_program_bound.proofs.width.times.Goals as goal

pub overflow_mul-result : goal.overflow_mul-result
overflow_mul-result c =
    let fits = fit-around _ _ (around-product c.args.number c.args.count c.args.most c.requires.within) c.requires.fits in
    let same : to_z w128 (of_z w128 c.args.number) ≡ c.args.number = omega (arith, ints) in
    let cast : to_z w128 c.args.count ≡ pos c.args.count = omega (arith, ints) in
    rw (same, cast) (fits_signed_from_abs w128 _ fits)

pub returns-clause-value : goal.returns-clause-value
returns-clause-value c =
    let fits = fit-around _ _ (around-product c.args.number c.args.count c.args.most c.requires.within) c.requires.fits in
    let same : to_z w128 (of_z w128 c.args.number) ≡ c.args.number = omega (arith, ints) in
    let cast : to_z w128 c.args.count ≡ pos c.args.count = omega (arith, ints) in
    rw (same, cast) (passed _ fits)

pub returns-clause-around : goal.returns-clause-around
returns-clause-around c =
    let around = around-product c.args.number c.args.count c.args.most c.requires.within in
    let fits = fit-around _ _ around c.requires.fits in
    let same : to_z w128 (of_z w128 c.args.number) ≡ c.args.number = omega (arith, ints) in
    let cast : to_z w128 c.args.count ≡ pos c.args.count = omega (arith, ints) in
    rw (same, cast, passed _ fits) around
