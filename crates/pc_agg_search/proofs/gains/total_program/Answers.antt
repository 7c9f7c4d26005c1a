use Rattle.std.proofs.Common.{◌≡◌, to_z, of_z, arith}
use Rattle.std.specs.Int.{w128}
use Rattle.std.proofs.lemmas.Int.{ints}
use Rattle.std.proofs.lemmas.Result.{IfOk-weaker}
use Rattle.pc_agg_search.proofs.ListedPrograms.{even_for, even_formed, even_small, even_easy}
use Rattle.pc_agg_search.proofs.gains.total_program.Goals as goal

pub returns-clause-program : goal.returns-clause-program
returns-clause-program c =
    let same : to_z w128 (of_z w128 c.args.gain) ≡ c.args.gain = omega (arith, ints) in
    IfOk-weaker c.total_alone.result _ _
    (even_for c.args.problem.now c.requires.posed c.args.gain)
    (rw same at c.total_alone.ensures)

pub returns-clause-is_program : goal.returns-clause-is_program
returns-clause-is_program c =
    let same : to_z w128 (of_z w128 c.args.gain) ≡ c.args.gain = omega (arith, ints) in
    IfOk-weaker c.total_alone.result _ _
    (even_formed c.args.problem.now c.requires.posed c.args.gain)
    (rw same at c.total_alone.ensures)

pub returns-clause-small : goal.returns-clause-small
returns-clause-small c =
    let same : to_z w128 (of_z w128 c.args.gain) ≡ c.args.gain = omega (arith, ints) in
    IfOk-weaker c.total_alone.result _ _
    (λ p is. even_small c.args.problem.now c.requires.posed c.args.gain p is c.requires.gain)
    (rw same at c.total_alone.ensures)

pub returns-clause-nested : goal.returns-clause-nested
returns-clause-nested c =
    let same : to_z w128 (of_z w128 c.args.gain) ≡ c.args.gain = omega (arith, ints) in
    λ nested.
    IfOk-weaker c.total_alone.result _ _
    (λ p is. even_easy c.args.problem.now c.requires.posed c.args.gain p is c.requires.gain nested)
    (rw same at c.total_alone.ensures)
