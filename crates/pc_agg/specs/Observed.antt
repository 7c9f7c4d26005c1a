-- What the observed rows of a count or a sum come to.
use Rattle.std.specs.Prelude.{ℤ, pos}
use Rattle.pc_model.specs.declared.query.Agg.{Agg}
use Rattle.pc_model.specs.declared.query.Agg.TheVariants.{Count, Sum}
use Rattle.pc_model.specs.declared.query.Folded.{Folded}

abbrev pub folded_value : Agg → Folded → ℤ
folded_value Count seen = pos seen.count
folded_value Sum seen = seen.sum
folded_value agg seen = pos 0
