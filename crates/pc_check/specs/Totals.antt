-- What observed and lost rows come to, and the value of the aggregate over them.
use Rattle.std.specs.Prelude.{ℕ, zero, suc, ℤ, pos, List, ◌++◌, Option, Some, None, option_map}
use Rattle.pc_model.specs.declared.row.Row.{Row}
use Rattle.pc_model.specs.declared.query.Agg.{Agg}
use Rattle.pc_model.specs.declared.query.Agg.TheVariants.{Count, Sum, Min, Max, Avg}
use Rattle.pc_model.specs.declared.query.Folded.{Folded}
use Rattle.pc_model.specs.Aggregate.{Ratio, whole}
use Rattle.pc_model.specs.Right.{Question}

-- the question as it is where these rows are observed
abbrev pub question_over : Question → List Row → Question
question_over q rows = record q { observed = rows }

-- the question as it is where the lost rows are observed too
abbrev pub question_with : Question → List Row → Question
question_with q lost = question_over q (q.observed ++ lost)

-- a sum over a number of rows, if there is a row
abbrev pub average_of : ℤ → ℕ → Option Ratio
average_of sum zero = None
average_of sum (suc n) = Some (record { num = sum; den = pos (suc n) })

-- the aggregate of rows that come to this, if it has a value
abbrev pub total_value : Agg → Folded → Option Ratio
total_value Count total = Some (whole (pos total.count))
total_value Sum total = Some (whole total.sum)
total_value Min total = option_map whole total.least
total_value Max total = option_map whole total.greatest
total_value Avg total = average_of total.sum total.count
