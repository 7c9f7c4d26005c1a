use Rattle.std.proofs.Common.{to_z-of_z, arith}
use Rattle.std.proofs.lemmas.Int.{ints}
use Rattle.pc_simplex_short.proofs.Sizes.{narrow_weight}
use Rattle.pc_simplex_short.proofs.Words.{FitsWord, passed_word}
use Rattle.pc_simplex_short.proofs.choice.narrow_weight.Goals as goal

pub overflow_cast-result : goal.overflow_cast-result
overflow_cast-result c =
    let small = narrow_weight c.args.top c.args.weight c.requires.some c.requires.light in
    omega (arith, ints, small)

pub returns : goal.returns
returns c =
    let small = narrow_weight c.args.top c.args.weight c.requires.some c.requires.light in
    let fits : FitsWord c.args.weight = omega (arith, small) in
    rw (to_z-of_z c.ranges.weight) (passed_word c.args.weight fits)
