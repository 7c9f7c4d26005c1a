-- What a measure has.
use Rattle.pc_quantile.specs.declared.measure.Measure.{Measure}
use Rattle.pc_quantile.specs.Measure.{IsMeasured}
use Rattle.pc_quantile.specs.Passing.{IsShare}

pub share : (m : Measure) → IsMeasured m → IsShare m.asked.now
share m is = record { some = is.some; most = is.most; few = is.few }
