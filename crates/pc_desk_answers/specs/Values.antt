-- What is shown of the values of answers.
use Rattle.std.specs.Prelude.{ℕ, ℤ, pos, ◌-◌, ◌^◌, ◌*ℤ◌, ◌-ℤ◌, Bool, true, false, nat_le, bytes_eq, unsigned_abs, List, [], ◌∷◌, map, Option, Some, None, if◌then◌else◌}
use Rattle.pc_num.specs.Put.{scaled_text}
use Rattle.pc_num.specs.declared.fraction.Frac.{Frac}
use Rattle.pc_model.specs.declared.schema.Kind.{Kind}
use Rattle.pc_model.specs.declared.schema.Kind.TheVariants.{Int, Dec, Cat}
use Rattle.pc_model.specs.declared.schema.Column.{Column}
use Rattle.pc_model.specs.declared.schema.Schema.{Schema}
use Rattle.pc_model.specs.declared.row.Run.{Run}
use Rattle.pc_model.specs.declared.query.Agg.{Agg}
use Rattle.pc_model.specs.declared.query.Agg.TheVariants as aggs
use Rattle.pc_model.specs.declared.query.Query.{Query}
use Rattle.pc_model.specs.Right.{End, Mark, exact, outer}
use Rattle.pc_report.specs.Report.{scale_for, value_text}
use Rattle.pc_report.specs.RunLines.{name_at}
use Rattle.pc_report.specs.Units.{frac_of, in_column}
use Rattle.pc_desk_table.specs.declared.entry.End.{End as Shown}
use Rattle.pc_desk_table.specs.declared.entry.Field.{Field}
use Rattle.pc_desk_table.specs.declared.entry.Mark.{Mark as ShownMark}
use Rattle.pc_desk_table.specs.declared.entry.Mark.TheVariants as marks
use Rattle.pc_desk_table.specs.declared.entry.Range.{Range}
use Rattle.pc_desk_table.specs.declared.entry.Repeated.{Repeated}
use Rattle.pc_desk_table.specs.declared.entry.Value.{Value}
use Rattle.pc_desk_answers.specs.declared.question.Question.{Question}
use Rattle.pc_desk_answers.specs.declared.question.Question.TheVariants.{Plain, Share}
use Rattle.pc_desk_answers.specs.declared.rounding.Rounding.{Rounding}
use Rattle.pc_desk_answers.specs.declared.rounding.Rounding.TheVariants as roundings
use Rattle.pc_desk_table.specs.Texts.{shown}
use Rattle.pc_desk_answers.specs.Rounded.{limit, millionths_of}

-- ---- values

abbrev pub is_average : Agg → Bool
is_average aggs.Count = false
is_average aggs.Sum = false
is_average aggs.Min = false
is_average aggs.Max = false
is_average aggs.Avg = true

-- a value as it is printed
abbrev pub printed : Schema → Query → Frac → List ℕ
printed schema query value = shown (value_text schema query.agg query.column value)

-- the decimals of a query's values
abbrev pub places_for : Agg → ℕ → ℕ
places_for aggs.Count scale = 0
places_for aggs.Sum scale = scale
places_for aggs.Min scale = scale
places_for aggs.Max scale = scale
places_for aggs.Avg scale = 6

abbrev pub places_of : Schema → Query → ℕ
places_of schema query = places_for query.agg (scale_for schema query.column)

-- .. of a question's; those of a quantile are of its column
abbrev pub places_in : Schema → Question → ℕ
places_in schema (Plain query) = places_of schema query
places_in schema (Share asked) = scale_for schema (Some asked.column)

abbrev pub within : ℤ → Option ℤ
within number = if nat_le (unsigned_abs number) limit then Some number else None

-- a value in units of its last decimal, where it is not too great
unfoldable pub units_of : Schema → Query → Rounding → Frac → Option ℤ
units_of schema query rounding value =
    if is_average query.agg then millionths_of rounding (in_column (scale_for schema query.column) value) else within value.num

-- an average as a decimal, or as it is printed
abbrev pub decimal_of : List ℕ → Option ℤ → List ℕ
decimal_of text None = text
decimal_of text (Some units) = shown (scaled_text units 6)

abbrev pub average_value : List ℕ → Option ℤ → Value
average_value text units = record { text = text; decimal = decimal_of text units; millionths = units }

abbrev pub in_millionths : ℕ → Option ℤ → Option ℤ
in_millionths places None = None
in_millionths places (Some units) = Some (units *ℤ pos (10 ^ (6 - places)))

-- other values are printed as decimals
abbrev pub plain_value : ℕ → List ℕ → Option ℤ → Value
plain_value places text units = record { text = text; decimal = text; millionths = in_millionths places units }

-- a value of a query
unfoldable pub value_of : Schema → Query → Rounding → Frac → Value
value_of schema query rounding value =
    if is_average query.agg then average_value (printed schema query value) (units_of schema query rounding value)
    else plain_value (places_of schema query) (printed schema query value) (units_of schema query rounding value)

-- ---- rows

-- a number of a column with its decimals, or the name that stands at its place
abbrev pub cell_text : Kind → ℤ → List ℕ
cell_text (Int low high) cell = shown (scaled_text cell 0)
cell_text (Dec scale low high) cell = shown (scaled_text cell scale)
cell_text (Cat names) cell = name_at names cell

abbrev pub field_of : Column → ℤ → Field
field_of column cell = record { column = column.name; text = cell_text column.kind cell }

-- the fields of a row in the order of the columns
unfoldable pub fields_of : List Column → List ℤ → List Field
fields_of [] cells = []
fields_of (column ∷ columns) [] = []
fields_of (column ∷ columns) (cell ∷ cells) = field_of column cell ∷ fields_of columns cells

unfoldable pub repeated_of : Schema → Run → Repeated
repeated_of schema run = record { times = run.times; fields = fields_of schema.columns run.row.cells }

-- ---- ranges

abbrev pub mark_of : Mark → ShownMark
mark_of (exact runs) = marks.Exact
mark_of outer = marks.Outer

abbrev pub rows_of : Schema → Mark → List Repeated
rows_of schema (exact runs) = map (repeated_of schema) runs
rows_of schema outer = []

unfoldable pub end_of : Schema → Query → Rounding → End → Shown
end_of schema query rounding end =
    record { value = value_of schema query rounding (frac_of end.value); mark = mark_of end.mark; rows = rows_of schema end.mark }

-- ends that are printed alike are shown as one number; others are rounded outward
abbrev pub are_alike : Schema → Query → End × End → Bool
are_alike schema query ends = bytes_eq (printed schema query (frac_of ends.0.value)) (printed schema query (frac_of ends.1.value))

abbrev pub low_rounding : Bool → Rounding
low_rounding true = roundings.Nearest
low_rounding false = roundings.Down

abbrev pub high_rounding : Bool → Rounding
high_rounding true = roundings.Nearest
high_rounding false = roundings.Up

-- how far apart two numbers of units are
abbrev pub width_between : ℕ → Option ℤ → Option ℤ → List ℕ
width_between places None high = []
width_between places (Some low) None = []
width_between places (Some low) (Some high) = shown (scaled_text (high -ℤ low) places)

abbrev pub range_with : Schema → Query → Rounding → Rounding → End × End → Range
range_with schema query down up ends = record {
  low = end_of schema query down ends.0;
  high = end_of schema query up ends.1;
  width = width_between (places_of schema query) (units_of schema query down (frac_of ends.0.value)) (units_of schema query up (frac_of ends.1.value));
}

abbrev pub range_by : Schema → Query → Bool → End × End → Range
range_by schema query alike ends = range_with schema query (low_rounding alike) (high_rounding alike) ends

unfoldable pub range_of : Schema → Query → End × End → Range
range_of schema query ends = range_by schema query (are_alike schema query ends) ends
