use Rattle.std.proofs.Common.{◌≡◌, ◌∙◌, to_z, of_z, w64, arith}
use Rattle.std.specs.Int.{w128}
use Rattle.std.proofs.lemmas.Int.{ints, to_z-of_z}
use Rattle.pc_witness.proofs.RunFolds.{with_some}
use Rattle.pc_witness.proofs.fold.with_chosen.Goals as goal

pub returns-clause-more : goal.returns-clause-more
returns-clause-more c =
    let same : to_z w128 (of_z w128 c.sum_with.result) ≡ c.sum_with.result = omega (arith, ints) in
    let number : to_z w64 (of_z w64 c.number_at-number.result) ≡ c.number_at-number.result = omega (arith, ints) in
    let sum = rw number at c.sum_with.ensures.sum in
    with_some _ _ _ _ _ _ _ _ c.in-Some.is c.number_at-number.ensures (same ∙ sum) (grind (arith, to_z-of_z)) (grind (arith, to_z-of_z))
