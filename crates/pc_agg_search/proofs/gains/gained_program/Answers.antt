use Rattle.std.proofs.lemmas.Result.{IfOk-weaker}
use Rattle.pc_agg_search.proofs.PosedPrograms.{gained_is, gained_formed, gained_small, gained_easy}
use Rattle.pc_agg_search.proofs.gains.gained_program.Goals as goal

pub returns-clause-program : goal.returns-clause-program
returns-clause-program c = IfOk-weaker c.program_of.result _ _ (gained_is c.args.problem.now c.requires.posed c.args.gains) (rw (← c.as_slice.ensures) c.program_of.ensures)

pub returns-clause-is_program : goal.returns-clause-is_program
returns-clause-is_program c =
    IfOk-weaker c.program_of.result _ _
    (λ p is. gained_formed c.args.problem.now c.requires.posed c.args.gains p is c.requires.sized)
    (rw (← c.as_slice.ensures) c.program_of.ensures)

pub returns-clause-small : goal.returns-clause-small
returns-clause-small c =
    IfOk-weaker c.program_of.result _ _
    (λ p is. gained_small c.args.problem.now c.requires.posed c.args.gains p is c.requires.sized c.requires.small_gains)
    (rw (← c.as_slice.ensures) c.program_of.ensures)

pub returns-clause-nested : goal.returns-clause-nested
returns-clause-nested c =
    λ easy.
    IfOk-weaker c.program_of.result _ _
    (λ p is. gained_easy c.args.problem.now c.requires.posed c.args.gains p is c.requires.sized c.requires.small_gains easy)
    (rw (← c.as_slice.ensures) c.program_of.ensures)
