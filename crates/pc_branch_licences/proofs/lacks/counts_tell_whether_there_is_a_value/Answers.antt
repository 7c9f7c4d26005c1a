use Rattle.pc_branch_licences.proofs.Attaining.{lacking, giving}
use Rattle.pc_branch_licences.proofs.lacks.counts_tell_whether_there_is_a_value.Goals as goal

pub returns-clause-none : goal.returns-clause-none
returns-clause-none c s picks counts posed tree lacks none of_cells lawful few = lacking s picks counts posed tree of_cells lawful lacks none few

pub returns-clause-some : goal.returns-clause-some
returns-clause-some c s picks counts posed tree of_cells lawful enough = giving s picks counts posed tree of_cells lawful enough
