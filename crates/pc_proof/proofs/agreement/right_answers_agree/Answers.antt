use Rattle.pc_proof.proofs.Agreeing.{right_answers_agree}
use Rattle.pc_proof.proofs.agreement.right_answers_agree.Goals as goal

pub returns : goal.returns
returns c = right_answers_agree
