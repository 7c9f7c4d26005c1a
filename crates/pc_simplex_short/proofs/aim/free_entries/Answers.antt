use Rattle.std.proofs.Common.{◌∙◌, arith, to_z-of_z}
use Rattle.pc_program_bound.specs.Bound.{IsFit}
use Rattle.pc_num.proofs.Signed.{passed}
use Rattle.pc_simplex_tableau.proofs.Aims.{entries_are, weight_is}
use Rattle.pc_simplex_short.proofs.aim.free_entries.Goals as goal

pub returns-clause-entries : goal.returns-clause-entries
returns-clause-entries c =
    let weight : IsFit c.args.weight.now = omega (arith, c.requires.weight) in
    let made = rw (to_z-of_z c.ranges.scale, to_z-of_z c.ranges.entry) at c.combine.ensures.combined in
    let product = rw (to_z-of_z c.ranges.scale, passed c.args.weight.now weight) at c.weighed-product.ensures.value in
    entries_are c.args.scale c.args.entry c.args.weight.now c.weighed-product.result c.args.entries.now c.combine.new.row c.args.other.now
    (rw product at c.weighed-product.ensures.fits) product made c.divide_together.new.entries c.divide_together.ensures.entries

pub returns-clause-weight : goal.returns-clause-weight
returns-clause-weight c =
    let weight : IsFit c.args.weight.now = omega (arith, c.requires.weight) in
    let made = rw (to_z-of_z c.ranges.scale, to_z-of_z c.ranges.entry) at c.combine.ensures.combined in
    let product = rw (to_z-of_z c.ranges.scale, passed c.args.weight.now weight) at c.weighed-product.ensures.value in
    passed c.divide_together.result c.divide_together.ensures.weight_fits
    ∙ weight_is c.args.scale c.args.entry c.args.weight.now c.weighed-product.result c.args.entries.now c.combine.new.row c.args.other.now
    (rw product at c.weighed-product.ensures.fits) product made c.divide_together.result c.divide_together.ensures.weight
