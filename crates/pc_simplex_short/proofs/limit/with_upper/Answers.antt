use Rattle.std.proofs.Common.{◌≡◌, ◌-ℤ◌, ◌∙◌, pos, neg_ℤ, arith, to_z-of_z}
use Rattle.std.proofs.lemmas.Int.{ints}
use Rattle.pc_program_bound.specs.Bound.{IsFit}
use Rattle.pc_num.proofs.Signed.{passed}
use Rattle.pc_simplex_short.proofs.limit.with_upper.Goals as goal

pub returns-clause-value : goal.returns-clause-value
returns-clause-value c =
    let own = c.from.ensures ∙ to_z-of_z c.ranges.own in
    let same : pos 0 -ℤ c.args.own ≡ neg_ℤ c.args.own = omega (arith, ints) in
    let own_fits : IsFit c.args.own = omega (arith, c.requires.own) in
    let fits : IsFit (neg_ℤ c.args.own) = omega (arith, ints, c.requires.own) in
    rw (to_z-of_z c.ranges.over, own, passed c.args.own own_fits, same, passed (neg_ℤ c.args.own) fits) at c.lesser_limit.ensures.value
