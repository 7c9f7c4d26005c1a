use Rattle.pc_quantile.proofs.Agreeing.{right_quantiles_agree}
use Rattle.pc_quantile.proofs.agreement.right_quantiles_agree.Goals as goal

pub returns : goal.returns
returns c = right_quantiles_agree
