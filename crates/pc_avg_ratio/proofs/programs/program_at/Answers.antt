use Rattle.std.proofs.Common.{rules, sym, subst}
use Rattle.pc_program_bound.specs.Allocation.{IsProgram}
use Rattle.pc_branch.specs.Ends.{HasSmallGains}
use Rattle.pc_branch.specs.Outcome.{IsEasyProgram}
use Rattle.pc_proof.specs.Table.{ratio_of}
use Rattle.pc_avg_ratio.proofs.Magnitudes.{program_small, program_formed, program_easy}
use Rattle.pc_avg_ratio.proofs.programs.program_at.Goals as goal

pub returns-clause-program : goal.returns-clause-program
returns-clause-program c = search rules

pub returns-clause-is_program : goal.returns-clause-is_program
returns-clause-is_program c =
    subst IsProgram (sym (returns-clause-program c))
    (program_formed c.args.f.now c.requires.fractional (ratio_of c.args.ratio) c.requires.positive c.requires.small_den c.requires.small_num)

pub returns-clause-small : goal.returns-clause-small
returns-clause-small c =
    subst HasSmallGains (sym (returns-clause-program c))
    (program_small c.args.f.now c.requires.fractional (ratio_of c.args.ratio) c.requires.positive c.requires.small_den c.requires.small_num)

pub returns-clause-nested : goal.returns-clause-nested
returns-clause-nested c =
    λ easy.
    subst IsEasyProgram (sym (returns-clause-program c))
    (program_easy c.args.f.now c.requires.fractional (ratio_of c.args.ratio) c.requires.positive c.requires.small_den c.requires.small_num easy)
