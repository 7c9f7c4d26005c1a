use Rattle.std.proofs.lemmas.Result.{IfOk-weaker}
use Rattle.pc_agg.proofs.RungPrograms.{ladder_long, at_is, at_formed, at_small, at_easy}
use Rattle.pc_agg.proofs.rungs.program_at.Goals as goal

pub tested-requires-clause-keyed : goal.tested-requires-clause-keyed
tested-requires-clause-keyed c =
    ladder_long c.args.problem.now c.requires.posed c.args.ladder.now c.requires.keyed

pub returns-clause-program : goal.returns-clause-program
returns-clause-program c =
    IfOk-weaker c.tested.result _ _
    (at_is c.args.problem.now c.requires.posed c.args.ladder.now c.requires.keyed c.args.place)
    c.tested.ensures

pub returns-clause-is_program : goal.returns-clause-is_program
returns-clause-is_program c =
    IfOk-weaker c.tested.result _ _
    (at_formed c.args.problem.now c.requires.posed c.args.ladder.now c.requires.keyed c.args.place)
    c.tested.ensures

pub returns-clause-small : goal.returns-clause-small
returns-clause-small c =
    IfOk-weaker c.tested.result _ _
    (at_small c.args.problem.now c.requires.posed c.args.ladder.now c.requires.keyed c.args.place)
    c.tested.ensures

pub returns-clause-nested : goal.returns-clause-nested
returns-clause-nested c =
    λ nested.
    IfOk-weaker c.tested.result _ _
    (λ p is. at_easy c.args.problem.now c.requires.posed c.args.ladder.now c.requires.keyed c.args.place p is nested)
    c.tested.ensures
