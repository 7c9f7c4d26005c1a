-- What is shown, as data of JSON, and its text.
use Rattle.std.specs.Prelude.{ℕ, List, [], ◌∷◌, ◌++◌, map, fold, codes, Option, Some, None}
use Rattle.serde_json.specs.Data.{Data, null, number, unsigned, string, array, object, Members, no_members, put}
use Rattle.serde_json.specs.View.{items_of}
use Rattle.serde_json.specs.Written.{compact_text}
use Rattle.pc_desk_table.specs.declared.entry.End.{End}
use Rattle.pc_desk_table.specs.declared.entry.Entry.{Entry}
use Rattle.pc_desk_table.specs.declared.entry.Field.{Field}
use Rattle.pc_desk_table.specs.declared.entry.Group.{Group}
use Rattle.pc_desk_table.specs.declared.entry.Range.{Range}
use Rattle.pc_desk_table.specs.declared.entry.Repeated.{Repeated}
use Rattle.pc_desk_table.specs.declared.entry.SaidLack.{SaidLack}
use Rattle.pc_desk_table.specs.declared.entry.Value.{Value}
use Rattle.pc_desk_table.specs.Names.{lack_text, mark_text, said_text}

abbrev pub put_pair : Members → List ℕ × Data → Members
put_pair found pair = put pair.0 pair.1 found

-- an object of these members, put in turn; where a name comes twice its last value stays
abbrev pub object_of : List (List ℕ × Data) → Data
object_of pairs = object (fold put_pair no_members pairs)

abbrev pub put_field : Members → Field → Members
put_field found field = put field.column (string field.text) found

abbrev pub row_data : List Field → Data
row_data fields = object (fold put_field no_members fields)

abbrev pub repeated_pairs : Repeated → List (List ℕ × Data)
repeated_pairs repeated = (codes "times", number (unsigned repeated.times)) ∷ (codes "row", row_data repeated.fields) ∷ []

abbrev pub repeated_data : Repeated → Data
repeated_data repeated = object_of (repeated_pairs repeated)

abbrev pub rows_data : List Repeated → Data
rows_data rows = array (items_of (map repeated_data rows))

abbrev pub end_pairs : End → List (List ℕ × Data)
end_pairs end = (codes "value", string end.value.text) ∷ (codes "mark", string (mark_text end.mark)) ∷ (codes "rows", rows_data end.rows) ∷ []

abbrev pub end_data : End → Data
end_data end = object_of (end_pairs end)

abbrev pub lack_data : Option SaidLack → Data
lack_data None = null
lack_data (Some lack) = string (lack_text lack)

abbrev pub observed_data : Option Value → Data
observed_data None = null
observed_data (Some value) = string value.text

abbrev pub group_pairs : Option Group → List (List ℕ × Data)
group_pairs None = (codes "group_column", null) ∷ (codes "group", null) ∷ []
group_pairs (Some group) = (codes "group_column", string group.column) ∷ (codes "group", string group.name) ∷ []

abbrev pub range_pairs : Option Range → List (List ℕ × Data)
range_pairs None =
    (codes "low", null) ∷ (codes "high", null) ∷ (codes "width", null) ∷ (codes "low_decimal", null) ∷ (codes "high_decimal", null) ∷ []
range_pairs (Some range) =
    (codes "low", end_data range.low) ∷ (codes "high", end_data range.high) ∷ (codes "width", string range.width)
    ∷ (codes "low_decimal", string range.low.value.decimal) ∷ (codes "high_decimal", string range.high.value.decimal) ∷ []

abbrev pub question_pairs : Entry → List (List ℕ × Data)
question_pairs entry =
    (codes "query", string entry.query) ∷ (codes "relation", string (said_text entry.relation)) ∷ (codes "none", lack_data entry.lack)
    ∷ (codes "observed", observed_data entry.observed) ∷ []

-- the line of a question is a member only where there is one
abbrev pub line_pairs : Option ℕ → List (List ℕ × Data)
line_pairs None = []
line_pairs (Some line) = (codes "line", number (unsigned line)) ∷ []

unfoldable pub entry_data : Entry → Data
entry_data entry = object_of (((line_pairs entry.line ++ question_pairs entry) ++ group_pairs entry.group) ++ range_pairs entry.range)

-- what is shown: an object for each entry
unfoldable pub data_of : List Entry → Data
data_of entries = array (items_of (map entry_data entries))

-- the data without a space, and a line feed
unfoldable pub json_text : List Entry → List ℕ
json_text entries = compact_text (data_of entries) ++ 10 ∷ []
