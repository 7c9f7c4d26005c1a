use Rattle.std.proofs.Common.{◌*ℤ◌, ◌∙◌, refl, to_z-of_z}
use Rattle.pc_num.proofs.Signed.{passed}
use Rattle.pc_simplex_tableau.proofs.Aims.{take_fit, first_fails, second_fits, entries_are, weight_is}
use Rattle.pc_simplex_tableau.proofs.aim.free_entries.Goals as goal

pub returns-then-not-combine-clause-value : goal.returns-then-not-combine-clause-value
returns-then-not-combine-clause-value c =
    let first = rw (to_z-of_z c.ranges.scale, to_z-of_z c.ranges.entry, take_fit) at c.if-not-combine.ensures.value in
    first_fails _ _ first

pub returns-in-Some-clause-value : goal.returns-in-Some-clause-value
returns-in-Some-clause-value c =
    let first = rw (to_z-of_z c.ranges.scale, to_z-of_z c.ranges.entry, take_fit) at c.if-not-combine.ensures.value in
    let second = rw (to_z-of_z c.ranges.scale, passed c.args.weight.now c.requires.weight) at c.in-Some.ensures.0 in
    second_fits _ (c.args.scale *ℤ c.args.weight.now) _ refl first second

pub returns-in-Some-clause-entries : goal.returns-in-Some-clause-entries
returns-in-Some-clause-entries c true_result =
    let made = rw (to_z-of_z c.ranges.scale, to_z-of_z c.ranges.entry) at (c.if-not-combine.ensures.combined refl) in
    let found = rw (to_z-of_z c.ranges.scale, passed c.args.weight.now c.requires.weight) at c.in-Some.ensures in
    entries_are c.args.scale c.args.entry c.args.weight.now c.in-Some.product c.args.entries.now c.combine.new.row c.args.other.now found.0 found.1 made
    c.divide_together.new.entries c.divide_together.ensures.entries

pub returns-in-Some-clause-weight : goal.returns-in-Some-clause-weight
returns-in-Some-clause-weight c true_result =
    let made = rw (to_z-of_z c.ranges.scale, to_z-of_z c.ranges.entry) at (c.if-not-combine.ensures.combined refl) in
    let found = rw (to_z-of_z c.ranges.scale, passed c.args.weight.now c.requires.weight) at c.in-Some.ensures in
    passed c.divide_together.result c.divide_together.ensures.weight_fits
    ∙ weight_is c.args.scale c.args.entry c.args.weight.now c.in-Some.product c.args.entries.now c.combine.new.row c.args.other.now found.0 found.1 made
    c.divide_together.result c.divide_together.ensures.weight
