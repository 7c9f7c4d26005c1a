use Rattle.pc_check.specs.Premises.{case_of}
use Rattle.pc_check.proofs.document.judge_next.Goals as goal

pub returns-in-None-clause-found : goal.returns-in-None-clause-found
returns-in-None-clause-found c = rw c.in-None.is (c.judge_treeless.ensures (case_of c.args.premises.now))
