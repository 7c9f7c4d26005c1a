-- Which words are a call.
use Rattle.std.specs.Prelude.{◌≡◌, ℕ, ◌≤◌, nat_le, ◌&&◌, ◌==◌, not, ℤ, pos, int_le, unsigned_abs, Bool, true, false, List, [], ◌∷◌, codes, bytes_eq, Option, Some, None, option_map, option_and_then, unwrap_or, if◌then◌else◌}
use Rattle.std.specs.List.{list_all, list_any}
use Rattle.std.specs.Option.{option_map_or}
use Rattle.std.specs.Result.{result_ok}
use Rattle.std.specs.Str.Parse.{digits_value, without_leading_plus}
use Rattle.clap.specs.Walk.{Row, Text, all_of, first_of, is_empty}
use Rattle.clap.specs.Words.{Kinds, fault_of, subcommand_of}
use Rattle.clap.specs.ValueTests.{is_unsigned_in}
use Rattle.clap.specs.declared.error.kind.ErrorKind.{ErrorKind}
use Rattle.clap.specs.declared.error.kind.ErrorKind.TheVariants.{DisplayHelp, DisplayVersion}
use Rattle.pc_num.specs.Scaled.{scaled_of}
use Rattle.pc_desk_words.specs.Program.{desk_app, most_lost, most_nodes, most_widen}
use Rattle.pc_desk_words.specs.declared.form.Form.{Form}
use Rattle.pc_desk_words.specs.declared.form.Form.TheVariants as forms
use Rattle.pc_desk_words.specs.declared.form.SheetForm.{SheetForm}
use Rattle.pc_desk_words.specs.declared.form.SheetForm.TheVariants as sheets
use Rattle.pc_desk_words.specs.declared.form.DrawnForm.{DrawnForm}
use Rattle.pc_desk_words.specs.declared.form.DrawnForm.TheVariants as drawn

-- the names of the three files
pub record FileNames : Type 0 where
  pub schema : List ℕ
  pub rows : List ℕ
  pub constraints : List ℕ

-- of `ask`: how answers are shown, how many nodes each search may have, the files, and the texts of the queries
pub record AskNames : Type 0 where
  pub form : Form
  pub nodes : ℕ
  pub files : FileNames
  pub queries : List (List ℕ)

-- of `why`: how explanations are shown, and the same
pub record WhyNames : Type 0 where
  pub form : DrawnForm
  pub nodes : ℕ
  pub files : FileNames
  pub queries : List (List ℕ)

-- of `weigh`: how changes are shown, how many nodes each search may have, the constraint whose changes alone are weighed,
-- whether what moves the range most comes first, the files, and the text of the query
pub record WeighNames : Type 0 where
  pub form : DrawnForm
  pub nodes : ℕ
  pub by : Option (List ℕ)
  pub sorted : Bool
  pub files : FileNames
  pub query : List ℕ

-- of `session`: what `ask` has, with the name of the script in place of queries
pub record SessionNames : Type 0 where
  pub form : Form
  pub nodes : ℕ
  pub files : FileNames
  pub script : List ℕ

-- of `try`: how what is found is shown, by what each number of rows is multiplied, in millionths, and the files
pub record TrialNames : Type 0 where
  pub form : SheetForm
  pub scale : ℕ
  pub files : FileNames

-- of `opens`: how what is found is shown, and the files; there are no rows
pub record OpensNames : Type 0 where
  pub form : SheetForm
  pub files : FileNames

-- of `history`: the files, of which there are no constraints; by which columns the rows are divided, which rows are meant,
-- the column of the periods, by how many per cent limits are widened, and how many rows are lost
pub record HistoryNames : Type 0 where
  pub files : FileNames
  pub by : List ℕ
  pub chosen : Option (List ℕ)
  pub per : Option (List ℕ)
  pub widen : ℕ
  pub lost : Option ℕ

-- of `limit`: the files, of which there are no rows, and the name of the limits
pub record LimitNames : Type 0 where
  pub files : FileNames
  pub limits : List ℕ

-- of `sql`: the files, of which there are no rows, and the name of the table
pub record SqlNames : Type 0 where
  pub files : FileNames
  pub table : List ℕ

-- of `schema`: the rows, and the columns that are wanted
pub record DraftNames : Type 0 where
  pub rows : List ℕ
  pub columns : List (List ℕ)

-- a verb with its values
pub data Asked : Type 0 where
  ask : AskNames → Asked
  session : SessionNames → Asked
  why : WhyNames → Asked
  weigh : WeighNames → Asked
  trial : TrialNames → Asked
  opens : OpensNames → Asked
  history : HistoryNames → Asked
  limit : LimitNames → Asked
  sql : SqlNames → Asked
  draft : DraftNames → Asked

-- ---- values

-- the form that `--as` names
abbrev pub form_named : List ℕ → Option Form
form_named name =
    if bytes_eq name (codes "text") then Some forms.Text
    else (if bytes_eq name (codes "table") then Some forms.Table
    else (if bytes_eq name (codes "json") then Some forms.Json
    else (if bytes_eq name (codes "chart") then Some forms.Chart
    else (if bytes_eq name (codes "svg") then Some forms.Picture
    else None))))

-- the form that `--as` of `why` and of `weigh` names
abbrev pub drawn_form_named : List ℕ → Option DrawnForm
drawn_form_named name =
    if bytes_eq name (codes "text") then Some drawn.Text
    else (if bytes_eq name (codes "table") then Some drawn.Table
    else (if bytes_eq name (codes "json") then Some drawn.Json
    else (if bytes_eq name (codes "svg") then Some drawn.Picture
    else None)))

-- the form that `--as` of `try` and of `opens` names
abbrev pub sheet_form_named : List ℕ → Option SheetForm
sheet_form_named name =
    if bytes_eq name (codes "text") then Some sheets.Text
    else (if bytes_eq name (codes "table") then Some sheets.Table
    else (if bytes_eq name (codes "json") then Some sheets.Json
    else None))

-- the number from a least to a greatest one that a text spells, as `clap` reads numbers: a `+` may lead it
unfoldable pub number_of : ℕ → ℕ → List ℕ → Option ℕ
number_of least most text = if is_unsigned_in least most text then Some (digits_value 10 (without_leading_plus text)) else None

-- how many nodes each search may have where the words do not say it
abbrev pub usual_nodes : ℕ
usual_nodes = 10_000

-- the greatest factor, in millionths
abbrev pub most_scale : ℕ
most_scale = 1_000_000_000_000

-- a number of millionths, where it is one of a factor
abbrev pub scale_within : ℤ → Option ℕ
scale_within number = if int_le (pos 1) number && int_le number (pos most_scale) then Some (unsigned_abs number) else None

-- the factor that a text spells, in millionths
unfoldable pub scale_of : List ℕ → Option ℕ
scale_of text = option_and_then scale_within (result_ok (scaled_of 6 text))

-- the factor where the words do not say it, which is 1
abbrev pub usual_scale : ℕ
usual_scale = 1_000_000

-- begins with `-`
abbrev pub is_dashed : List ℕ → Bool
is_dashed [] = false
is_dashed (byte ∷ rest) = byte == 45

-- a number, where it lies from a least to a greatest one
abbrev pub within : ℕ → ℕ → ℕ → Option ℕ
within least most number = if nat_le least number && nat_le number most then Some number else None

-- ---- what was found of a verb

-- what `ask`, `session`, `why` and `weigh` have beside a form
pub record HeadNames : Type 0 where
  pub nodes : ℕ
  pub files : FileNames

abbrev pub with_files : List ℕ → List ℕ → List ℕ → FileNames
with_files schema rows constraints = record { schema = schema; rows = rows; constraints = constraints }

abbrev pub files_in : List Row → Option FileNames
files_in found = option_and_then (λ schema. option_and_then (λ rows. option_map (with_files schema rows)
    (first_of (codes "constraints") found)) (first_of (codes "rows") found)) (first_of (codes "schema") found)

abbrev pub with_head : ℕ → FileNames → HeadNames
with_head nodes files = record { nodes = nodes; files = files }

abbrev pub form_in : List Row → Option Form
form_in found = option_and_then form_named (first_of (codes "as") found)

abbrev pub nodes_in : List Row → Option ℕ
nodes_in found = option_and_then (number_of 1 most_nodes) (first_of (codes "nodes") found)

abbrev pub head_in : List Row → Option HeadNames
head_in found = option_and_then (λ nodes. option_map (with_head nodes) (files_in found)) (nodes_in found)

-- at least one query has to stand there
abbrev pub some_of : List (List ℕ) → Option (List (List ℕ))
some_of [] = None
some_of (query ∷ queries) = Some (query ∷ queries)

abbrev pub queries_in : List Row → Option (List (List ℕ))
queries_in found = option_and_then some_of (all_of (codes "query") found)

abbrev pub with_queries : Form → HeadNames → List (List ℕ) → AskNames
with_queries form head queries = record { form = form; nodes = head.nodes; files = head.files; queries = queries }

abbrev pub ask_in : List Row → Option AskNames
ask_in found = option_and_then (λ form. option_and_then (λ head. option_map (with_queries form head)
    (queries_in found)) (head_in found)) (form_in found)

abbrev pub with_script : Form → HeadNames → List ℕ → SessionNames
with_script form head script = record { form = form; nodes = head.nodes; files = head.files; script = script }

abbrev pub session_in : List Row → Option SessionNames
session_in found = option_and_then (λ form. option_and_then (λ head. option_map (with_script form head)
    (first_of (codes "script") found)) (head_in found)) (form_in found)

abbrev pub drawn_form_in : List Row → Option DrawnForm
drawn_form_in found = option_and_then drawn_form_named (first_of (codes "as") found)

abbrev pub with_questions : DrawnForm → HeadNames → List (List ℕ) → WhyNames
with_questions form head queries = record { form = form; nodes = head.nodes; files = head.files; queries = queries }

abbrev pub why_in : List Row → Option WhyNames
why_in found = option_and_then (λ form. option_and_then (λ head. option_map (with_questions form head)
    (queries_in found)) (head_in found)) (drawn_form_in found)

-- whether the flag `--sort` stands there
abbrev pub sorted_in : List Row → Bool
sorted_in found = option_map_or (λ text. bytes_eq text (codes "true")) (first_of (codes "sort") found) false

abbrev pub with_query : DrawnForm → HeadNames → Option (List ℕ) → Bool → List ℕ → WeighNames
with_query form head by sorted query =
    record { form = form; nodes = head.nodes; by = by; sorted = sorted; files = head.files; query = query }

abbrev pub weigh_in : List Row → Option WeighNames
weigh_in found = option_and_then (λ form. option_and_then (λ head.
    option_map (with_query form head (first_of (codes "by") found) (sorted_in found))
    (first_of (codes "query") found)) (head_in found)) (drawn_form_in found)

abbrev pub sheet_form_in : List Row → Option SheetForm
sheet_form_in found = option_and_then sheet_form_named (first_of (codes "as") found)

abbrev pub scale_in : List Row → Option ℕ
scale_in found = option_and_then scale_of (first_of (codes "scale") found)

abbrev pub with_scale : SheetForm → ℕ → FileNames → TrialNames
with_scale form scale files = record { form = form; scale = scale; files = files }

abbrev pub trial_in : List Row → Option TrialNames
trial_in found = option_and_then (λ form. option_and_then (λ scale. option_map (with_scale form scale)
    (files_in found)) (scale_in found)) (sheet_form_in found)

-- the files where no rows are named
abbrev pub rowless_files_in : List Row → Option FileNames
rowless_files_in found = option_and_then (λ schema. option_map (with_files schema [])
    (first_of (codes "constraints") found)) (first_of (codes "schema") found)

abbrev pub with_form : SheetForm → FileNames → OpensNames
with_form form files = record { form = form; files = files }

abbrev pub opens_in : List Row → Option OpensNames
opens_in found = option_and_then (λ form. option_map (with_form form) (rowless_files_in found)) (sheet_form_in found)

abbrev pub widen_in : List Row → Option ℕ
widen_in found = option_and_then (number_of 0 most_widen) (first_of (codes "widen") found)

-- a text that spells no number of rows `clap` does not take
abbrev pub lost_in : List Row → Option ℕ
lost_in found = option_and_then (number_of 1 most_lost) (first_of (codes "lost") found)

abbrev pub with_widen : FileNames → List ℕ → List Row → ℕ → HistoryNames
with_widen files by found widen = record {
  files = files;
  by = by;
  chosen = first_of (codes "where") found;
  per = first_of (codes "per") found;
  widen = widen;
  lost = lost_in found;
}

abbrev pub history_in : List Row → Option HistoryNames
history_in found = option_and_then (λ schema. option_and_then (λ rows. option_and_then (λ by.
    option_map (with_widen (with_files schema rows []) by found) (widen_in found))
    (first_of (codes "by") found)) (first_of (codes "rows") found)) (first_of (codes "schema") found)

abbrev pub with_limits : FileNames → List ℕ → LimitNames
with_limits files limits = record { files = files; limits = limits }

abbrev pub limit_in : List Row → Option LimitNames
limit_in found = option_and_then (λ files. option_map (with_limits files) (first_of (codes "limits") found)) (rowless_files_in found)

abbrev pub with_table : FileNames → List ℕ → SqlNames
with_table files table = record { files = files; table = table }

abbrev pub sql_in : List Row → Option SqlNames
sql_in found = option_and_then (λ files. option_map (with_table files) (first_of (codes "table") found)) (rowless_files_in found)

abbrev pub with_columns : List (List ℕ) → List ℕ → DraftNames
with_columns columns rows = record { rows = rows; columns = columns }

-- all columns are wanted where none is named
abbrev pub draft_in : List Row → Option DraftNames
draft_in found = option_map (with_columns (unwrap_or (all_of (codes "column") found) [])) (first_of (codes "rows") found)

-- the verb of a name, by what was found of it
abbrev pub asked_in : List ℕ → List Row → Option Asked
asked_in name found =
    if bytes_eq name (codes "ask") then option_map ask (ask_in found)
    else (if bytes_eq name (codes "session") then option_map session (session_in found)
    else (if bytes_eq name (codes "why") then option_map why (why_in found)
    else (if bytes_eq name (codes "weigh") then option_map weigh (weigh_in found)
    else (if bytes_eq name (codes "try") then option_map trial (trial_in found)
    else (if bytes_eq name (codes "opens") then option_map opens (opens_in found)
    else (if bytes_eq name (codes "history") then option_map history (history_in found)
    else (if bytes_eq name (codes "limit") then option_map limit (limit_in found)
    else (if bytes_eq name (codes "sql") then option_map sql (sql_in found)
    else (if bytes_eq name (codes "schema") then option_map draft (draft_in found)
    else None)))))))))

abbrev pub asked_by : Option (Text × List Row) → Option Asked
asked_by = option_and_then (λ (verb : Text × List Row). asked_in verb.0 verb.1)

-- ---- the words after the program's name

-- what `clap` finds in words that it takes
abbrev pub asked_without : Kinds → Option (Text × List Row) → Option Asked
asked_without [] found = asked_by found
asked_without (fault ∷ faults) found = None

abbrev pub asked_of : List (List ℕ) → Option Asked
asked_of words = asked_without (fault_of desk_app words) (subcommand_of desk_app words)

-- help or the version was asked for
abbrev pub is_request : ErrorKind → Bool
is_request DisplayHelp = true
is_request DisplayVersion = true
is_request _ = false

-- some of the kinds are requests, and all are
abbrev pub may_show : Kinds → Bool
may_show = list_any is_request

abbrev pub only_shows : Kinds → Bool
only_shows kinds = not (is_empty kinds) && list_all is_request kinds

-- help may be told of words that are no call: they ask for it, whatever else is wrong with them
abbrev pub MayHelp : List (List ℕ) → Type 0
MayHelp words = may_show (fault_of desk_app words) ≡ true

-- .. and they may be refused: something is wrong with them that is no request
abbrev pub MayRefuse : List (List ℕ) → Type 0
MayRefuse words = only_shows (fault_of desk_app words) ≡ false

-- ---- what holds of the numbers of a call

-- a number of nodes that words may ask for
pub record IsBudget (nodes : ℕ) : Type 0 where
  pub some : 1 ≤ nodes
  pub few : nodes ≤ most_nodes

-- a number of lost rows that words may tell of
pub record IsLoss (lost : ℕ) : Type 0 where
  pub some : 1 ≤ lost
  pub few : lost ≤ most_lost

-- a factor that words may ask for, in millionths
pub record IsScale (scale : ℕ) : Type 0 where
  pub some : 1 ≤ scale
  pub few : scale ≤ most_scale
