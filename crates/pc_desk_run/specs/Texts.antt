-- The texts that a run writes.
use Rattle.std.specs.Prelude.{◌≡◌, ℕ, ◌-◌, ◌==◌, ◌||◌, Bool, bytes_eq, true, false, List, [], ◌∷◌, ◌++◌, codes, decimal, get_or, length, map, nat_lt, Option, Some, None, if◌then◌else◌}
use Rattle.std.specs.List.{concat}
use Rattle.pc_model.specs.declared.constraint.Constraint.{Constraint}
use Rattle.pc_model.specs.declared.constraint.When.{When}
use Rattle.pc_model.specs.declared.constraint.When.TheVariants.{Boxes, Outside}
use Rattle.pc_model.specs.declared.fault.Fault.{Fault}
use Rattle.pc_model.specs.declared.fault.FileKind.{FileKind}
use Rattle.pc_model.specs.declared.fault.FileKind.TheVariants as kinds
use Rattle.pc_model.specs.declared.schema.Schema.{Schema}
use Rattle.pc_model.specs.FaultTexts.{file_name_of}
use Rattle.pc_files.specs.declared.kept.Kept.{Kept}
use Rattle.pc_files.specs.Texts.{line_break, malformed_line}
use Rattle.pc_desk_fault.specs.Explained.{IsExplained}
use Rattle.pc_desk_draw.specs.Charts.{chart_text}
use Rattle.pc_desk_draw.specs.Stacked.{bars_text}
use Rattle.pc_desk_draw.specs.Pictures.{picture_text}
use Rattle.pc_desk_table.specs.declared.entry.Entry.{Entry}
use Rattle.pc_desk_table.specs.Json.{json_text}
use Rattle.pc_desk_table.specs.Lines.{lines_text}
use Rattle.pc_desk_table.specs.declared.sheet.Sheet.{Sheet}
use Rattle.pc_desk_table.specs.Sheets.{sheet_json, sheet_lines, sheet_table}
use Rattle.pc_desk_table.specs.Table.{table_text}
use Rattle.pc_desk_try.specs.Beside.{AreBeside}
use Rattle.pc_desk_try.specs.Written.{written_name}
use Rattle.pc_desk_words.specs.Calls.{file_names}
use Rattle.pc_desk_words.specs.Words.{Asked, FileNames, ask, draft, history, limit, opens, session, sql, trial, weigh, why, with_files}
use Rattle.pc_desk_words.specs.declared.form.Form.{Form}
use Rattle.pc_desk_words.specs.declared.form.Form.TheVariants as forms
use Rattle.pc_desk_words.specs.declared.form.SheetForm.{SheetForm}
use Rattle.pc_desk_words.specs.declared.form.SheetForm.TheVariants as sheet_forms
use Rattle.pc_desk_words.specs.declared.form.DrawnForm.{DrawnForm}
use Rattle.pc_desk_words.specs.declared.form.DrawnForm.TheVariants as drawn_forms
use Rattle.pc_desk_short.specs.declared.clash_line.ClashLine.{ClashLine}
use Rattle.pc_desk_why.specs.declared.explained.Explained.{Explained}
use Rattle.pc_desk_why.specs.Bars.{why_bars, why_legend}
use Rattle.pc_desk_why.specs.Shown.{why_sheet}
use Rattle.pc_desk_records.specs.Shown.{choice_text, shown}
use Rattle.pc_desk_weigh.specs.declared.weighed.Weighed.{Weighed}
use Rattle.pc_desk_widths.specs.Shown.{weigh_sheet}
use Rattle.pc_desk_widths.specs.Tornado.{tornado, tornado_legend}
use Rattle.pc_desk_run.specs.declared.line.Sources.{Sources}

-- what is shown, in a form
abbrev pub text_of : Form → List Entry → List ℕ
text_of forms.Text entries = lines_text entries
text_of forms.Table entries = table_text entries
text_of forms.Json entries = json_text entries
text_of forms.Chart entries = chart_text entries
text_of forms.Picture entries = picture_text entries

abbrev pub sheet_text : SheetForm → Sheet → List ℕ
sheet_text sheet_forms.Text sheet = sheet_lines sheet
sheet_text sheet_forms.Table sheet = sheet_table sheet
sheet_text sheet_forms.Json sheet = sheet_json sheet

-- explanations, with the lines on constraints that are impossible
abbrev pub why_text : DrawnForm → List Constraint → List ClashLine → List Explained → List ℕ
why_text drawn_forms.Text constraints lines all = sheet_lines (why_sheet constraints lines all)
why_text drawn_forms.Table constraints lines all = sheet_table (why_sheet constraints lines all)
why_text drawn_forms.Json constraints lines all = sheet_json (why_sheet constraints lines all)
why_text drawn_forms.Picture constraints lines all = bars_text why_legend (why_bars constraints lines all)

-- what changes of constraints do to a range
abbrev pub weigh_text : DrawnForm → List Constraint → ℕ → List Weighed → List (List ℕ) → List ℕ
weigh_text drawn_forms.Text constraints places all orders = sheet_lines (weigh_sheet constraints places all orders)
weigh_text drawn_forms.Table constraints places all orders = sheet_table (weigh_sheet constraints places all orders)
weigh_text drawn_forms.Json constraints places all orders = sheet_json (weigh_sheet constraints places all orders)
weigh_text drawn_forms.Picture constraints places all orders = bars_text tornado_legend (tornado constraints places all orders)

-- in a picture what moves the range most stands on top
abbrev pub is_picture : DrawnForm → Bool
is_picture drawn_forms.Text = false
is_picture drawn_forms.Table = false
is_picture drawn_forms.Json = false
is_picture drawn_forms.Picture = true

abbrev pub is_ordered : DrawnForm → Bool → Bool
is_ordered form sorted = sorted || is_picture form

-- ---- why nothing is shown

-- what a call reads: the names of its files, its script, its limits and its queries
pub record Named : Type 0 where
  pub files : FileNames
  pub script : List ℕ
  pub limits : List ℕ
  pub queries : List (List ℕ)

abbrev pub named_files : FileNames → Named
named_files files = record { files = files; script = []; limits = []; queries = [] }

-- the query that counts the rows which are meant
abbrev pub where_text : Option (List ℕ) → List ℕ
where_text None = codes "count"
where_text (Some text) = codes "count where " ++ text

abbrev pub named_in : Asked → Named
named_in (ask names) = record (named_files names.files) { queries = names.queries }
named_in (session names) = record (named_files names.files) { script = names.script }
named_in (why names) = record (named_files names.files) { queries = names.queries }
named_in (weigh names) = record (named_files names.files) { queries = names.query ∷ [] }
named_in (trial names) = named_files names.files
named_in (opens names) = named_files names.files
named_in (limit names) = record (named_files names.files) { limits = names.limits }
named_in (sql names) = named_files names.files
named_in (draft names) = named_files (with_files [] names.rows [])
named_in (history names) = record (named_files names.files) { queries = where_text names.chosen ∷ [] }

abbrev pub named_of : Sources → Named
named_of sources = record { files = file_names sources.files; script = sources.script.now; limits = sources.limits.now; queries = map (λ text. text.now) sources.queries.now }

-- a file as it was named, or the text of the query at a place
abbrev pub name_of : Named → FileKind → ℕ → List ℕ
name_of named kinds.Schema place = named.files.schema
name_of named kinds.Rows place = named.files.rows
name_of named kinds.Constraints place = named.files.constraints
name_of named kinds.Query place = get_or named.queries (place - 1) []
name_of named kinds.Script place = named.script
name_of named kinds.Limits place = named.limits
name_of named kinds.Document place = []

-- what the places of a file count, which is asked of those that have places
abbrev pub part_name : FileKind → List ℕ
part_name kinds.Rows = codes "record"
part_name kinds.Schema = codes "record"
part_name kinds.Constraints = codes "line"
part_name kinds.Script = codes "line"
part_name kinds.Limits = codes "line"
part_name kinds.Document = codes "line"
part_name kinds.Query = codes "line"

abbrev pub is_query : FileKind → Bool
is_query kinds.Query = true
is_query kinds.Schema = false
is_query kinds.Rows = false
is_query kinds.Constraints = false
is_query kinds.Script = false
is_query kinds.Limits = false
is_query kinds.Document = false

-- the file, with the line or record where it has one; or the query
abbrev pub place_text : Named → FileKind → ℕ → List ℕ
place_text named kind place =
    if is_query kind || (place == 0) then concat (codes "  " ∷ name_of named kind place ∷ [])
    else concat (codes "  " ∷ name_of named kind place ∷ codes ", " ∷ part_name kind ∷ codes " " ∷ decimal place ∷ [])

-- The line of a refusal; below it what it speaks of; and behind that where the fault is and what is to stand there, which is told
-- of the bytes that are kept.
pub record AreRefusedLines (named : Named) (kept : Kept) (fault : Fault) (text : List ℕ) : Type 0 where
  pub below : List ℕ
  pub explains : IsExplained kept.schema fault kept.last (get_or named.queries (fault.place - 1) []) below
  pub told : text ≡ malformed_line fault ++ (place_text named fault.file fault.place ++ below)

abbrev pub unread_line : Named → FileKind → List ℕ
unread_line named kind = concat (codes "read fault: " ∷ file_name_of kind ∷ codes ": " ∷ name_of named kind 0 ∷ line_break ∷ [])

-- ---- why nothing is written of files that are accepted

-- the file in which a constraint stands, of which so many are before the limits
abbrev pub list_name : Named → ℕ → ℕ → List ℕ
list_name named opening place = if nat_lt place opening then named.files.constraints else named.limits

abbrev pub outside_lines : Named → ℕ → ℕ → List ℕ
outside_lines named opening place =
    concat
    (codes "limits refused: a line `outside`" ∷ line_break ∷ codes "  " ∷ list_name named opening place
    ∷ codes ": the line speaks of the rows of no predicate, and a line that is added would take rows from it" ∷ line_break ∷ [])

abbrev pub too_many_lines : Named → ℕ → List ℕ
too_many_lines named lines =
    concat
    (codes "limits refused: " ∷ decimal lines ∷ codes " lines" ∷ line_break ∷ codes "  " ∷ named.limits ∷ codes ", after the lines of "
    ∷ named.files.constraints ∷ codes ": with the lines that close them there would be " ∷ decimal lines ∷ codes ", and a file has at most 20" ∷ line_break ∷ [])

abbrev pub no_column_lines : Named → List ℕ
no_column_lines named = concat (codes "schema refused: no column fits" ∷ line_break ∷ codes "  " ∷ named.files.rows ∷ line_break ∷ [])

-- what calls a constraint: its name, or `outside`
abbrev pub called_by : When → List ℕ → List ℕ
called_by (Boxes area) name = name
called_by Outside name = codes "outside"

abbrev pub called_as : Constraint → List ℕ
called_as c = called_by c.when c.name

abbrev pub is_called : List ℕ → Constraint → Bool
is_called name c = bytes_eq (called_as c) name

abbrev pub called_in : List Constraint → List (List ℕ)
called_in constraints = map called_as constraints

-- the names of constraints, and which of them is nearest to a name
abbrev pub constraints_near : List Constraint → List ℕ → List ℕ
constraints_near constraints name =
    if length constraints == 0 then codes "none" else choice_text (codes " constraints") name (called_in constraints)

unfoldable pub uncalled_line : List ℕ → List ℕ
uncalled_line name = concat (codes "words refused: no constraint is called " ∷ shown name ∷ line_break ∷ [])

unfoldable pub names_line : Named → List Constraint → List ℕ → List ℕ
names_line named constraints name =
    concat (codes "  " ∷ named.files.constraints ∷ codes ": the file has " ∷ constraints_near constraints name ∷ line_break ∷ [])

abbrev pub no_constraint_lines : Named → List Constraint → List ℕ → List ℕ
no_constraint_lines named constraints name = uncalled_line name ++ names_line named constraints name

-- ---- what is said beside

abbrev pub note_if : Bool → List ℕ
note_if true = codes "no constraints: no row is taken as lost" ++ line_break
note_if false = []

abbrev pub note_on : List Constraint → List ℕ
note_on constraints = note_if (length constraints == 0)

-- of a constraint that is told
unfoldable pub name_if : Constraint → Bool → List ℕ
name_if c true = 32 ∷ written_name c.when c.name
name_if c false = []

-- the names of those constraints whose truth is told, each after a blank
unfoldable pub beside_names : List Constraint → List Bool → List ℕ
beside_names [] truths = []
beside_names (c ∷ constraints) [] = []
beside_names (c ∷ constraints) (told ∷ truths) = name_if c told ++ beside_names constraints truths

unfoldable pub titled_line : List ℕ → List ℕ → List ℕ
titled_line title names = (title ++ names) ++ line_break

-- nothing is said of no names
abbrev pub beside_line : List ℕ → List ℕ
beside_line [] = []
beside_line (byte ∷ names) =
    titled_line (codes "rows may be lost that one constraint alone speaks of, beside others that it crosses (see pc_desk opens):") (byte ∷ names)

abbrev pub note_with : List Constraint → List Bool → List ℕ
note_with constraints truths = note_on constraints ++ beside_line (beside_names constraints truths)

-- .. which constraints let rows be lost that no other speaks of, beside constraints that they cross
abbrev pub IsNoteBeside : Schema → List Constraint → List ℕ → Type 0
IsNoteBeside schema constraints note = (truths : List Bool) × AreBeside schema constraints truths × (note ≡ note_with constraints truths)

abbrev pub write_fault_line : List ℕ
write_fault_line = codes "write fault: standard output" ++ line_break

abbrev pub memory_line : List ℕ
memory_line = codes "out of memory" ++ line_break
