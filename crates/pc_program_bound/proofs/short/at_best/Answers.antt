use Rattle.std.proofs.Common.{arith, ◌≡◌, ◌∙◌, to_z, of_z}
use Rattle.std.specs.Int.{w64, w128}
use Rattle.std.proofs.lemmas.Int.{ints}
use Rattle.pc_program_bound.proofs.ShortWidths.{best_above, best_below}
use Rattle.pc_program_bound.proofs.short.at_best.Goals as goal

pub returns-then-rest-gt0-clause-value : goal.returns-then-rest-gt0-clause-value
returns-then-rest-gt0-clause-value c =
    let same : to_z w128 (of_z w128 c.product.result) ≡ c.product.result = omega (arith, ints) in
    let rest : to_z w64 (of_z w64 c.args.rest) ≡ c.args.rest = omega (arith, ints) in
    let value = rw rest at c.product.ensures.value in
    let above = rw rest at c.if-rest-gt0.true in
    same ∙ value ∙ best_above c.args.rest c.args.floor c.args.cap c.requires.ordered (omega (arith, ints, above))

pub returns-clause-value : goal.returns-clause-value
returns-clause-value c =
    let same : to_z w128 (of_z w128 c.product-2.result) ≡ c.product-2.result = omega (arith, ints) in
    let rest : to_z w64 (of_z w64 c.args.rest) ≡ c.args.rest = omega (arith, ints) in
    let value = rw rest at c.product-2.ensures.value in
    let below = rw rest at c.if-rest-gt0.false in
    same ∙ value ∙ best_below c.args.rest c.args.floor c.args.cap c.requires.ordered (omega (arith, ints, below))
