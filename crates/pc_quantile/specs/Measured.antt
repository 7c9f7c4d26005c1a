-- What is asked for, and the numbers that it is asked of.
use Rattle.std.specs.Prelude.{◌≡◌, ℤ, List, ◌++◌, map, Option, Some, None}
use Rattle.pc_model.specs.declared.row.Row.{Row}
use Rattle.pc_model.specs.declared.query.Agg.TheVariants.{Min}
use Rattle.pc_model.specs.declared.query.Query.{Query}
use Rattle.pc_model.specs.Aggregate.{asked as asked_of, kept}
use Rattle.pc_model.specs.Cells.{IsSettledTree}
use Rattle.pc_model.specs.Right.{Question, IsPossibleFor}
use Rattle.pc_proof.specs.Setting.{Setting, area_of}
use Rattle.pc_proof.specs.Unbroken.{IsWellPosed}
use Rattle.pc_lang.specs.declared.quantile.Quantile.{Quantile}
use Rattle.pc_lang.specs.Quantiles.{IsQuantile}
use Rattle.pc_quantile.specs.Quantile.{quantile}

-- the query of the least number of the same rows
abbrev pub least_of : Quantile → Query
least_of asked = record { agg = Min; column = Some asked.column; chosen = asked.chosen; group = None }

-- a setting in which the quantile is asked for
pub record IsAskedIn (s : Setting) (asked : Quantile) : Type 0 where
  pub posed : IsWellPosed s.question
  pub query : s.question.query ≡ least_of asked
  pub well : IsQuantile s.question.schema asked
  pub tree : IsSettledTree s.question.schema s.question.constraints (area_of s.question) s.nodes

-- a possible list of lost rows in such a setting
pub record IsListIn (s : Setting) (asked : Quantile) (lost : List Row) : Type 0 where
  pub setting : IsAskedIn s asked
  pub possible : IsPossibleFor s.question lost

-- the numbers of the chosen rows, of the observed ones and then of the lost ones
abbrev pub numbers_of : Question → List Row → List ℤ
numbers_of q lost = map (asked_of q.query) (kept q.query q.name (q.observed ++ lost))

-- their quantile
abbrev pub quantile_of : Question → Quantile → List Row → Option ℤ
quantile_of q asked lost = quantile asked.p asked.q (numbers_of q lost)
