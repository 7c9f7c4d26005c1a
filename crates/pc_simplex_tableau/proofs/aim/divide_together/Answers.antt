use Rattle.std.proofs.Common.{◌∙◌, to_z-of_z}
use Rattle.pc_simplex_tableau.proofs.Aims.{divided_entries, divided_fit, nothing_common, some_common, undivided_entries, undivided_weight}
use Rattle.pc_simplex_tableau.proofs.aim.divide_together.Goals as goal

pub returns-then-divisor-eq0-clause-entries : goal.returns-then-divisor-eq0-clause-entries
returns-then-divisor-eq0-clause-entries c =
    let found = rw (to_z-of_z c.ranges.weight) at c.divisor_of-divisor.ensures.value in
    undivided_entries c.args.weight c.args.entries.now (nothing_common _ _ c.divisor_of-divisor.ensures.fits c.if-divisor-eq0.true found)

pub returns-then-divisor-eq0-clause-weight : goal.returns-then-divisor-eq0-clause-weight
returns-then-divisor-eq0-clause-weight c =
    let found = rw (to_z-of_z c.ranges.weight) at c.divisor_of-divisor.ensures.value in
    to_z-of_z c.ranges.weight
    ∙ undivided_weight c.args.weight c.args.entries.now (nothing_common _ _ c.divisor_of-divisor.ensures.fits c.if-divisor-eq0.true found)

pub returns-clause-entries : goal.returns-clause-entries
returns-clause-entries c =
    let found = rw (to_z-of_z c.ranges.weight) at c.divisor_of-divisor.ensures.value in
    divided_entries c.args.weight c.divisor_of-divisor.result c.args.entries.now c.divide.new.row c.divisor_of-divisor.ensures.fits found c.divide.ensures
    (some_common _ _ c.divisor_of-divisor.ensures.fits c.if-divisor-eq0.false found)

pub returns-clause-entries_fit : goal.returns-clause-entries_fit
returns-clause-entries_fit c =
    let found = rw (to_z-of_z c.ranges.weight) at c.divisor_of-divisor.ensures.value in
    divided_fit c.args.weight c.divisor_of-divisor.result c.args.entries.now c.divide.new.row c.divisor_of-divisor.ensures.fits found c.divide.ensures
    (some_common _ _ c.divisor_of-divisor.ensures.fits c.if-divisor-eq0.false found) c.requires.entries
