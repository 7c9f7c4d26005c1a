use Rattle.std.proofs.Common.{◌≡◌, pos}
use Rattle.pc_check_rules.proofs.Passing.{count_fits, sum_fits, above_fits, observed_is, observed_small}
use Rattle.pc_check_rules.proofs.ratios.observed_above.Goals as goal

pub overflow_mul-result : goal.overflow_mul-result
overflow_mul-result c =
    let seen = c.args.seen.now in
    let ratio = c.args.ratio.now in
    sum_fits ratio.num ratio.den seen.sum seen.count c.requires.measured.positive c.requires.measured.few c.requires.measured.small c.requires.seen.small c.requires.seen.few

pub overflow_mul-result-2 : goal.overflow_mul-result-2
overflow_mul-result-2 c =
    let seen = c.args.seen.now in
    let ratio = c.args.ratio.now in
    let from_is : c.from.result ≡ pos seen.count = c.from.ensures in
    rw from_is (count_fits ratio.num ratio.den seen.sum seen.count c.requires.measured.positive c.requires.measured.few c.requires.measured.small c.requires.seen.small c.requires.seen.few)

pub overflow_sub-result : goal.overflow_sub-result
overflow_sub-result c =
    let seen = c.args.seen.now in
    let ratio = c.args.ratio.now in
    let from_is : c.from.result ≡ pos seen.count = c.from.ensures in
    rw from_is (above_fits ratio.num ratio.den seen.sum seen.count c.requires.measured.positive c.requires.measured.few c.requires.measured.small c.requires.seen.small c.requires.seen.few)

pub returns-clause-above : goal.returns-clause-above
returns-clause-above c =
    let seen = c.args.seen.now in
    let ratio = c.args.ratio.now in
    let from_is : c.from.result ≡ pos seen.count = c.from.ensures in
    rw from_is (observed_is ratio.num ratio.den seen.sum seen.count c.requires.measured.positive c.requires.measured.few c.requires.measured.small c.requires.seen.small c.requires.seen.few)

pub returns-clause-small : goal.returns-clause-small
returns-clause-small c =
    let seen = c.args.seen.now in
    let ratio = c.args.ratio.now in
    let from_is : c.from.result ≡ pos seen.count = c.from.ensures in
    rw from_is (observed_small ratio.num ratio.den seen.sum seen.count c.requires.measured.positive c.requires.measured.few c.requires.measured.small c.requires.seen.small c.requires.seen.few)
