-- What the observed rows of a count or a sum come to.
use Rattle.std.specs.Prelude.{ℤ, pos}
use Rattle.pc_model.specs.declared.query.Agg.{Agg}
use Rattle.pc_model.specs.declared.query.Agg.TheVariants.{Count, Sum, Min, Max, Avg}
use Rattle.pc_proof.specs.Setting.{Setting, seen_count, seen_sum}

-- nothing for the aggregates that are no totals
abbrev pub seen_value : Agg → Setting → ℤ
seen_value Count s = seen_count s.question
seen_value Sum s = seen_sum s.question
seen_value Min s = pos 0
seen_value Max s = pos 0
seen_value Avg s = pos 0
