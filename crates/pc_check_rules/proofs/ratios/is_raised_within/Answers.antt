use Rattle.std.proofs.Common.{◌≡◌, ◌+ℤ◌, ◌*ℤ◌, to_z, of_z, ap, ◌∙◌, arith}
use Rattle.std.specs.Int.{w128}
use Rattle.std.proofs.lemmas.Int.{ints}
use Rattle.pc_proof.specs.Table.{ratio_of}
use Rattle.pc_check_rules.specs.Shown.{fewest_rows, observed_above, rest_over}
use Rattle.pc_check_rules.proofs.Passing.{as_it_is}
use Rattle.pc_check_rules.proofs.ratios.is_raised_within.Goals as goal

pub is_at_most-requires-clause-num : goal.is_at_most-requires-clause-num
is_at_most-requires-clause-num c = omega (arith, ints, c.num_over.ensures.small, c.rest_over-rest.ensures.some, c.rest_over-rest.ensures.small)

pub returns : goal.returns
returns c =
    let seen = c.args.seen.now in
    let ratio = c.args.ratio.now in
    let num = c.num_over.result in
    let den = c.den_over.result in
    let rest = c.rest_over-rest.result in
    let fewest_as : to_z w128 (of_z w128 c.fewest_rows-fewest.result) ≡ c.fewest_rows-fewest.result = omega (arith, ints, c.fewest_rows-fewest.ensures.some, c.fewest_rows-fewest.ensures.few) in
    let num_is : num ≡ ratio.num *ℤ fewest_rows seen = c.num_over.ensures.num ∙ ap (λ rows. ratio.num *ℤ rows) (fewest_as ∙ c.fewest_rows-fewest.ensures.fewest) in
    let den_is : den ≡ ratio.den *ℤ fewest_rows seen = c.den_over.ensures.den ∙ ap (λ rows. ratio.den *ℤ rows) (fewest_as ∙ c.fewest_rows-fewest.ensures.fewest) in
    let above_as : to_z w128 (of_z w128 c.observed_above.result) ≡ c.observed_above.result = omega (arith, ints, c.observed_above.ensures.small) in
    let rest_is : rest ≡ rest_over (observed_above seen (ratio_of ratio)) c.args.bound =
    c.rest_over-rest.ensures.rest ∙ ap (λ before. rest_over before c.args.bound) (above_as ∙ c.observed_above.ensures.above) in
    let num_as : to_z w128 (of_z w128 num) ≡ num = omega (arith, ints, c.num_over.ensures.small) in
    let rest_as : to_z w128 (of_z w128 rest) ≡ rest = omega (arith, ints, c.rest_over-rest.ensures.some, c.rest_over-rest.ensures.small) in
    let both_as : to_z w128 (of_z w128 (num +ℤ rest)) ≡ num +ℤ rest = omega (arith, ints, c.num_over.ensures.small, c.rest_over-rest.ensures.some, c.rest_over-rest.ensures.small) in
    let den_as : to_z w128 (of_z w128 den) ≡ den = as_it_is den (omega (arith, c.den_over.ensures.small)) in
    rw (← num_is, ← den_is, ← rest_is) (rw (num_as, rest_as, both_as, den_as) at c.is_at_most.ensures)
