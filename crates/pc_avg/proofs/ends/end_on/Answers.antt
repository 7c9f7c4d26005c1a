use Rattle.std.proofs.Common.{◌≡◌, to_z, of_z, sym, subst, [], arith}
use Rattle.std.specs.Prelude.{slice_index_or}
use Rattle.std.specs.Int.{w128}
use Rattle.std.proofs.lemmas.Int.{ints}
use Rattle.pc_avg_ratio.specs.Fractional.{ratio_with, IsLawful}
use Rattle.pc_avg_ratio.specs.Highest.{IsHighest}
use Rattle.pc_avg.proofs.SearchedEnds.{all_lawful, found_lawful, outermost_at, can_turn, unvalued_end, unvalued_surely, sought_end, sought_surely}
use Rattle.pc_avg.proofs.ends.end_on.Goals as goal

pub highest_of-requires-clause-fractional : goal.highest_of-requires-clause-fractional
highest_of-requires-clause-fractional c = c.requires.side.2.fractional

pub highest_of-requires-clause-lawful : goal.highest_of-requires-clause-lawful
highest_of-requires-clause-lawful c = let side = c.requires.side in all_lawful side.0 side.1 c.args.extreme c.args.side.now side.2 c.args.found.now side.3

pub returns-in_default-clause-end : goal.returns-in_default-clause-end
returns-in_default-clause-end c u seen is = (c.args.side.now, is, c.in_default.is)

pub returns-in_default-highest_of-clause-end : goal.returns-in_default-highest_of-clause-end
returns-in_default-highest_of-clause-end c u seen is =
    let same : to_z w128 (of_z w128 c.in-Some.outermost) ≡ c.in-Some.outermost = omega (arith, ints) in
    unvalued_end u seen c.args.extreme c.args.side.now is c.args.nodes c.args.found.now c.in-Some.outermost c.in-Some.is c.end_by_values.result c.in_default-highest_of.ensures (rw same at c.end_by_values.ensures)

pub returns-in_default-highest_of-clause-nested : goal.returns-in_default-highest_of-clause-nested
returns-in_default-highest_of-clause-nested c u seen is nested =
    let same : to_z w128 (of_z w128 c.in-Some.outermost) ≡ c.in-Some.outermost = omega (arith, ints) in
    unvalued_surely u seen c.args.extreme c.args.side.now is c.args.found.now c.in-Some.outermost c.end_by_values.result c.in_default-highest_of.ensures (rw same at c.end_by_values.ensures)

pub greatest_ratio-requires-clause-fractional : goal.greatest_ratio-requires-clause-fractional
greatest_ratio-requires-clause-fractional c = c.requires.side.2.fractional

pub greatest_ratio-requires-clause-outermost : goal.greatest_ratio-requires-clause-outermost
greatest_ratio-requires-clause-outermost c =
    let side = c.requires.side in
    let same : to_z w128 (of_z w128 c.in-Some.outermost) ≡ c.in-Some.outermost = omega (arith, ints) in
    rw same (outermost_at side.0 side.1 c.args.extreme c.args.side.now side.2 c.in-Some.outermost c.in-Some.is)

pub greatest_ratio-requires-clause-lawful : goal.greatest_ratio-requires-clause-lawful
greatest_ratio-requires-clause-lawful c =
    let side = c.requires.side in
    let start : c.in_ok-start.start ≡ slice_index_or c.args.found.now c.in-Some-highest_of.place [] = c.in_ok-start.ensures in
    subst (IsLawful c.args.side.now.fraction) (sym start) (found_lawful side.0 side.1 c.args.extreme c.args.side.now side.2 c.args.found.now c.in-Some-highest_of.place side.3 c.in-Some-highest_of.ensures.inside)

pub end_of-requires : goal.end_of-requires
end_of-requires c =
    let side = c.requires.side in
    let same : to_z w128 (of_z w128 c.in-Some.outermost) ≡ c.in-Some.outermost = omega (arith, ints) in
    let at = rw same at c.in_ok-highest.ensures.highest in
    rw c.as_slice.ensures (can_turn side.0 side.1 c.args.extreme c.args.side.now side.2 c.in-Some.outermost c.args.nodes (ratio_with c.args.side.now.fraction c.in_ok-start.start) c.in_ok-highest.highest at)

pub returns-clause-end : goal.returns-clause-end
returns-clause-end c u seen is =
    let same : to_z w128 (of_z w128 c.in-Some.outermost) ≡ c.in-Some.outermost = omega (arith, ints) in
    let start : c.in_ok-start.start ≡ slice_index_or c.args.found.now c.in-Some-highest_of.place [] = c.in_ok-start.ensures in
    let at = rw same at c.in_ok-highest.ensures.highest in
    sought_end u seen c.args.extreme c.args.side.now is c.args.nodes c.args.found.now c.in-Some.outermost c.in-Some.is c.in_ok-end.end c.in-Some-highest_of.place c.in_ok-highest.highest c.in-Some-highest_of.ensures
    (subst (λ counts. IsHighest c.args.side.now.fraction c.in-Some.outermost c.args.nodes (ratio_with c.args.side.now.fraction counts) c.in_ok-highest.highest) start at) (rw c.as_slice.ensures at c.in_ok-end.ensures)

pub returns-clause-nested : goal.returns-clause-nested
returns-clause-nested c u seen is nested =
    sought_surely u seen c.args.extreme c.args.side.now is c.args.found.now c.in_ok-highest.highest c.in_ok-end.end (c.in_ok-highest.ensures.nested nested) (rw c.as_slice.ensures at c.in_ok-end.ensures)
