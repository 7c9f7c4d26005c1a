use Rattle.pc_quantile.proofs.TextsBack.{texts_tell_their_quantiles}
use Rattle.pc_quantile.proofs.laws.texts_tell_their_quantiles.Goals as goal

pub returns : goal.returns
returns c = texts_tell_their_quantiles
