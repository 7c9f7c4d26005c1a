-- The text of constraints from history, and why there are none.
use Rattle.std.specs.Prelude.{ℕ, ◌==◌, List, [], ◌∷◌, ◌++◌, codes, decimal, map, Option, Some, None, if◌then◌else◌}
use Rattle.std.specs.List.{concat}
use Rattle.pc_lang.specs.Canonical.{constraints_text}
use Rattle.pc_model.specs.declared.constraint.Constraint.{Constraint}
use Rattle.pc_model.specs.declared.schema.Column.{Column}
use Rattle.pc_model.specs.declared.schema.Schema.{Schema}
use Rattle.pc_desk_divide.specs.declared.fault.DivisionFault.{DivisionFault}
use Rattle.pc_desk_divide.specs.declared.fault.DivisionFault.TheVariants as divisions
use Rattle.pc_desk_records.specs.Shown.{choice_text, shown}
use Rattle.pc_desk_words.specs.Words.{HistoryNames}
use Rattle.pc_desk_past.specs.declared.fault.PastFault.{PastFault}
use Rattle.pc_desk_past.specs.declared.fault.PastFault.TheVariants as faults

-- ---- constraints, below a line on where they come from

abbrev pub chosen_text : Option (List ℕ) → List ℕ
chosen_text None = []
chosen_text (Some text) = codes " where " ++ shown text

abbrev pub period_text : Option (List ℕ) → List ℕ
period_text None = codes ", all rows as one period"
period_text (Some name) = codes ", a period for each " ++ shown name

abbrev pub widen_text : ℕ → List ℕ
widen_text percent = if percent == 0 then [] else concat (codes ", widened by " ∷ decimal percent ∷ codes " per cent" ∷ [])

abbrev pub lost_text : Option ℕ → List ℕ
lost_text None = []
lost_text (Some lost) = concat (codes ", for " ∷ decimal lost ∷ codes " lost rows" ∷ [])

unfoldable pub source_text : HistoryNames → List ℕ
source_text names = concat (codes "# drafted from " ∷ shown names.files.rows ∷ codes " by " ∷ shown names.by ∷ [])

unfoldable pub meant_text : HistoryNames → List ℕ
meant_text names = concat (chosen_text names.chosen ∷ period_text names.per ∷ widen_text names.widen ∷ lost_text names.lost ∷ [])

-- which rows, by which columns, and how
unfoldable pub past_line : HistoryNames → List ℕ
past_line names = concat (source_text names ∷ meant_text names ∷ (10 ∷ []) ∷ [])

abbrev pub past_text : Schema → HistoryNames → List Constraint → List ℕ
past_text schema names drafted = past_line names ++ constraints_text schema drafted

-- ---- why there are none

abbrev pub by_title : DivisionFault → List ℕ
by_title divisions.Empty = codes "--by: a column is missing"
by_title (divisions.NoColumn text) = codes "--by: no column is called " ++ shown text
by_title (divisions.Twice text) = codes "--by: a column stands there twice: " ++ shown text
by_title (divisions.NoParts text) = codes "--by: a column of numbers without parts: " ++ shown text
by_title (divisions.WrongParts text) = codes "--by: no number of parts from 1 to 20: " ++ shown text
by_title (divisions.NamesWithParts text) = codes "--by: parts of a column of names: " ++ shown text
by_title divisions.Memory = []

abbrev pub title_of : PastFault → List ℕ
title_of faults.Grouped = codes "--where: a predicate with `group` behind it"
title_of (faults.By fault) = by_title fault
title_of (faults.NoPeriod name) = codes "--per: no column is called " ++ shown name
title_of (faults.TooMany count) = concat (codes "--by: " ∷ decimal count ∷ codes " cells" ∷ [])
title_of faults.NoRows = codes "no row is meant"

abbrev pub called_in : List Column → List (List ℕ)
called_in columns = map (λ (column : Column). column.name) columns

-- the columns of a schema, and which is nearest to a name
unfoldable pub columns_text : Schema → HistoryNames → List ℕ → List ℕ
columns_text schema names name =
    (names.files.schema ++ codes ": the schema has ") ++ choice_text (codes " columns") name (called_in schema.columns)

abbrev pub by_advice : Schema → HistoryNames → DivisionFault → List ℕ
by_advice schema names divisions.Empty = codes "COLUMN for one of names, COLUMN/PARTS for one of numbers, with commas between"
by_advice schema names (divisions.NoColumn text) = columns_text schema names text
by_advice schema names (divisions.Twice text) = codes "each column divides the rows once"
by_advice schema names (divisions.NoParts text) = codes "COLUMN/PARTS, which cuts its numbers into so many ranges, from 1 to 20"
by_advice schema names (divisions.WrongParts text) = codes "COLUMN/PARTS, which cuts its numbers into so many ranges, from 1 to 20"
by_advice schema names (divisions.NamesWithParts text) = codes "COLUMN alone: each of its names is a part"
by_advice schema names divisions.Memory = []

abbrev pub advice_of : Schema → HistoryNames → PastFault → List ℕ
advice_of schema names faults.Grouped = codes "--by says by which columns the rows are divided"
advice_of schema names (faults.By fault) = by_advice schema names fault
advice_of schema names (faults.NoPeriod name) = columns_text schema names name
advice_of schema names (faults.TooMany count) = codes "a file of constraints has at most 20 lines, and each cell is one"
advice_of schema names faults.NoRows = names.files.rows ++ codes ": constraints from no row would say that nothing can be lost"

unfoldable pub line_of : List ℕ → List ℕ → List ℕ
line_of before text = concat (before ∷ text ∷ (10 ∷ []) ∷ [])

abbrev pub refusal_lines : Schema → HistoryNames → PastFault → List ℕ
refusal_lines schema names fault =
    line_of (codes "words refused: ") (title_of fault) ++ line_of (codes "  ") (advice_of schema names fault)
