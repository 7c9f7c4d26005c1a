-- What the cells gain towards the ends of a range, and the programs of that.
use Rattle.std.specs.Prelude.{◌≡◌, ℤ, pos, neg_ℤ, cond}
use Rattle.pc_model.specs.declared.row.Row.{Row}
use Rattle.pc_model.specs.declared.query.Agg.{Agg}
use Rattle.pc_model.specs.declared.query.Agg.TheVariants.{Count, Sum}
use Rattle.pc_model.specs.declared.query.Query.{Query}
use Rattle.pc_model.specs.Membership.{is_in}
use Rattle.pc_model.specs.Aggregate.{asked}
use Rattle.pc_model.specs.Cells.{Class, IsRowOf, boxes_of}
use Rattle.pc_program_bound.specs.declared.program.Program.{Program}
use Rattle.pc_proof.specs.Setting.{Setting, leaves, high_in, on_chosen, program_for}
use Rattle.pc_proof.specs.Table.{one, minus_one, minus_low}
use Rattle.pc_proof.specs.Unbroken.{HoldsLow, HoldsHigh}
use Rattle.pc_proof.specs.declared.answer.End.{End as AnswerEnd}
use Rattle.pc_agg_search.specs.declared.extreme.Extreme.{Extreme}
use Rattle.pc_agg_search.specs.declared.extreme.Extreme.TheVariants.{Low, High}
use Rattle.pc_agg_search.specs.FirstRows.{IsFirstRow}

-- what a row of a cell gains towards an end of a count or a sum; nothing for other aggregates
abbrev pub gain_towards : Setting → Agg → Extreme → Class → ℤ
gain_towards s Count High class = on_chosen one class
gain_towards s Count Low class = on_chosen minus_one class
gain_towards s Sum High class = on_chosen (high_in s) class
gain_towards s Sum Low class = on_chosen (minus_low s) class
gain_towards s agg extreme class = pos 0

-- what a row adds to the aggregate
abbrev pub adds : Agg → Query → Row → ℤ
adds Count query row = cond (is_in query.chosen row) (pos 1) (pos 0)
adds Sum query row = cond (is_in query.chosen row) (asked query row) (pos 0)
adds agg query row = pos 0

-- towards the low end a row gains what it does not add
abbrev pub signed : Extreme → ℤ → ℤ
signed High number = number
signed Low number = neg_ℤ number

-- the row of the cell that is shown, which adds what the cell gains
pub record IsPick (s : Setting) (agg : Agg) (extreme : Extreme) (class : Class) (row : Row) : Type 0 where
  pub of_cell : IsRowOf s.question.schema s.question.constraints s.question.query.chosen class row
  pub adds : signed extreme (adds agg s.question.query row) ≡ gain_towards s agg extreme class
  pub shown : IsFirstRow s.question.query.column extreme (boxes_of (leaves s) class) row

-- an end that breaks no rule
abbrev pub HoldsEnd : Setting → Extreme → AnswerEnd → Type 0
HoldsEnd s Low end = HoldsLow s end
HoldsEnd s High end = HoldsHigh s end

-- the program of an end
abbrev pub program_towards : Setting → Agg → Extreme → Program
program_towards s agg extreme = program_for s (gain_towards s agg extreme)
