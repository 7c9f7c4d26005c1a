use Rattle.std.proofs.Common.{◌≡◌, arith, to_z, of_z, w64}
use Rattle.std.proofs.lemmas.Int.{ints}
use Rattle.pc_cells.proofs.Lowest.{lowest_row, lowest_row_with}
use Rattle.pc_cells.proofs.Picks.{cell_inside, row_held, row_with_held, number_there}
use Rattle.pc_cells.proofs.pick.row_in.Goals as goal

pub with_number-requires : goal.with_number-requires
with_number-requires c = cell_inside c.args.region.now c.as_slice.result.now c.in_ok-cells.cells.items c.as_slice.ensures c.in_ok-cells.ensures.held c.args.column c.in-Some.named c.args.value c.in-Some.is c.requires.held

pub returns-in-None-clause-row : goal.returns-in-None-clause-row
returns-in-None-clause-row c = row_held c.args.region.now c.as_slice.result.now c.in_ok-cells.cells.items c.as_slice.ensures c.in_ok-cells.ensures.held c.row_of.result c.row_of.ensures

pub returns-in-Some-clause-row : goal.returns-in-Some-clause-row
returns-in-Some-clause-row c =
    let same : to_z w64 (of_z w64 c.args.value) ≡ c.args.value = omega (arith, ints) in
    row_with_held c.args.region.now c.as_slice.result.now c.in_ok-cells.cells.items c.as_slice.ensures c.in_ok-cells.ensures.held c.args.column c.in-Some.named c.args.value c.in-Some.is c.requires.held
    c.row_of-in-Some.result (to_z w64 (of_z w64 c.args.value)) c.with_number.result.items same c.with_number.ensures c.row_of-in-Some.ensures

pub returns-in-Some-clause-number : goal.returns-in-Some-clause-number
returns-in-Some-clause-number c =
    let same : to_z w64 (of_z w64 c.args.value) ≡ c.args.value = omega (arith, ints) in
    number_there c.args.region.now c.as_slice.result.now c.in_ok-cells.cells.items c.as_slice.ensures c.in_ok-cells.ensures.held c.args.column c.in-Some.named c.args.value c.in-Some.is c.requires.held
    c.row_of-in-Some.result (to_z w64 (of_z w64 c.args.value)) c.with_number.result.items same c.with_number.ensures c.row_of-in-Some.ensures

pub returns-in-None-clause-lowest : goal.returns-in-None-clause-lowest
returns-in-None-clause-lowest c = lowest_row c.args.region.now c.as_slice.result.now c.in_ok-cells.cells.items c.as_slice.ensures c.in_ok-cells.ensures.least c.args.column c.row_of.result c.row_of.ensures

pub returns-in-Some-clause-lowest : goal.returns-in-Some-clause-lowest
returns-in-Some-clause-lowest c =
    let same : to_z w64 (of_z w64 c.args.value) ≡ c.args.value = omega (arith, ints) in
    lowest_row_with c.args.region.now c.as_slice.result.now c.in_ok-cells.cells.items c.as_slice.ensures c.in_ok-cells.ensures.least c.args.column c.in-Some.named (to_z w64 (of_z w64 c.args.value)) c.in-Some.is
    c.row_of-in-Some.result c.with_number.result.items c.with_number.ensures c.row_of-in-Some.ensures
