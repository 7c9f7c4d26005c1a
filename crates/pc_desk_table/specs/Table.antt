-- The text of a table.
use Rattle.std.specs.Prelude.{ℕ, Bool, true, false, List, [], ◌∷◌, ◌++◌, codes, decimal, Option, Some, None}
use Rattle.std.specs.List.{flat_map, list_any}
use Rattle.csv.specs.Writing.{default_writer, row_text}
use Rattle.pc_desk_table.specs.declared.entry.Entry.{Entry}
use Rattle.pc_desk_table.specs.declared.entry.Group.{Group}
use Rattle.pc_desk_table.specs.declared.entry.Range.{Range}
use Rattle.pc_desk_table.specs.declared.entry.SaidLack.{SaidLack}
use Rattle.pc_desk_table.specs.declared.entry.Value.{Value}
use Rattle.pc_desk_table.specs.Names.{lack_text, mark_text, said_text}

abbrev pub is_lined : Option ℕ → Bool
is_lined None = false
is_lined (Some line) = true

abbrev pub has_line : Entry → Bool
has_line entry = is_lined entry.line

-- whether a first column tells the lines of questions
abbrev pub has_lines : List Entry → Bool
has_lines entries = list_any has_line entries

abbrev pub line_text : Option ℕ → List ℕ
line_text None = []
line_text (Some line) = decimal line

abbrev pub group_column : Option Group → List ℕ
group_column None = []
group_column (Some group) = group.column

abbrev pub group_name : Option Group → List ℕ
group_name None = []
group_name (Some group) = group.name

abbrev pub lack_field : Option SaidLack → List ℕ
lack_field None = []
lack_field (Some lack) = lack_text lack

abbrev pub observed_text : Option Value → List ℕ
observed_text None = []
observed_text (Some value) = value.text

-- low, low_mark, high, high_mark, width, low_decimal, high_decimal
abbrev pub range_fields : Option Range → List (List ℕ)
range_fields None = [] ∷ [] ∷ [] ∷ [] ∷ [] ∷ [] ∷ [] ∷ []
range_fields (Some range) =
    range.low.value.text ∷ mark_text range.low.mark ∷ range.high.value.text ∷ mark_text range.high.mark ∷ range.width
    ∷ range.low.value.decimal ∷ range.high.value.decimal ∷ []

-- the names of the columns that each table has
abbrev pub names : List (List ℕ)
names =
    codes "query" ∷ codes "group_column" ∷ codes "group" ∷ codes "relation" ∷ codes "none" ∷ codes "observed" ∷ codes "low" ∷ codes "low_mark"
    ∷ codes "high" ∷ codes "high_mark" ∷ codes "width" ∷ codes "low_decimal" ∷ codes "high_decimal" ∷ []

-- .. and what stands in them
abbrev pub answer_fields : Entry → List (List ℕ)
answer_fields entry =
    entry.query ∷ group_column entry.group ∷ group_name entry.group ∷ said_text entry.relation ∷ lack_field entry.lack ∷ observed_text entry.observed
    ∷ range_fields entry.range

abbrev pub header : Bool → List (List ℕ)
header true = codes "line" ∷ names
header false = names

-- the fields of an entry, where the table has the column of lines or not
abbrev pub fields_of : Bool → Entry → List (List ℕ)
fields_of true entry = line_text entry.line ∷ answer_fields entry
fields_of false entry = answer_fields entry

abbrev pub record_text : Bool → Entry → List ℕ
record_text lined entry = row_text default_writer (fields_of lined entry)

abbrev pub table_with : Bool → List Entry → List ℕ
table_with lined entries = row_text default_writer (header lined) ++ flat_map (record_text lined) entries

-- a header, and a record for each entry
unfoldable pub table_text : List Entry → List ℕ
table_text entries = table_with (has_lines entries) entries
