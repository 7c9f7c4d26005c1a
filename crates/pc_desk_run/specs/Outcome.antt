-- What the files of a call come to, or what stands in the way.
use Rattle.std.specs.Prelude.{◌≡◌, ℕ, List, [], ◌∷◌, Option, Result, Ok, IfSome}
use Rattle.pc_model.specs.declared.fault.FileKind.TheVariants as kinds
use Rattle.pc_model.specs.declared.fault.Fault.{Fault}
use Rattle.pc_model.specs.Refusals.{◌>>=◌}
use Rattle.pc_base.specs.Files.{Files}
use Rattle.pc_desk_answers.specs.Questions.{questions_of}
use Rattle.pc_desk_schema.specs.Draft.{drafted_of}
use Rattle.pc_desk_schema.specs.declared.draft.Draft.{Draft}
use Rattle.pc_desk_words.specs.Words.{AskNames, Asked, DraftNames, FileNames, HistoryNames, OpensNames, SessionNames, SqlNames, TrialNames, WeighNames, WhyNames, ask, draft, history, limit, opens, session, sql, trial, weigh, why}
use Rattle.pc_desk_words.specs.declared.form.Form.{Form}
use Rattle.pc_desk_words.specs.declared.form.SheetForm.{SheetForm}
use Rattle.pc_desk_words.specs.declared.form.DrawnForm.{DrawnForm}
use Rattle.pc_files.specs.declared.reading.Limited.{Limited}
use Rattle.pc_files.specs.declared.reading.Listing.{Listing}
use Rattle.pc_files.specs.declared.reading.Observed.{Observed}
use Rattle.pc_files.specs.declared.reading.Scripted.{Scripted}
use Rattle.pc_files.specs.Outcome.{Found, NamedFile, Obstacle, limit_files, limited_in, listed_files, listing_in, mapped, observed_files, observed_in, or_refused, outcome_of, script_files, scripted_in, value_under}
use Rattle.pc_lang.specs.Files.{query_at}
use Rattle.pc_desk_past.specs.declared.past.Known.{Known}
use Rattle.pc_desk_run.specs.Texts.{where_text}
use Rattle.pc_desk_run.specs.declared.input.Asking.{Asking}

-- What is asked, a script that is followed, answers that are explained, or changes of constraints that are weighed, by searches of at
-- most so many nodes each; constraints that are held against the rows, whose numbers are multiplied by so many millionths; constraints of which is asked what they open. Each with the form in
-- which it is shown. Or limits behind constraints; constraints that a table of this name is tested by; a draft of a schema; or rows by
-- which constraints are drafted.
pub data Input : Type 0 where
  asks : Form → ℕ → Asking → Input
  follows : Form → ℕ → Scripted → Input
  explains : DrawnForm → ℕ → Asking → Input
  weighs : WeighNames → Asking → Input
  tries : SheetForm → ℕ → Observed → Input
  lists : SheetForm → Listing → Input
  limits : Limited → Input
  tests : List ℕ → Listing → Input
  drafts : Draft → Input
  recalls : HistoryNames → Known → Input

abbrev pub data_files : FileNames → List NamedFile
data_files names = observed_files names.schema names.rows names.constraints

abbrev pub table_files : FileNames → List NamedFile
table_files names = (kinds.Schema, names.schema) ∷ (kinds.Rows, names.rows) ∷ []

-- the files of a call, in the order in which they are read
abbrev pub files_of : Asked → List NamedFile
files_of (ask names) = data_files names.files
files_of (why names) = data_files names.files
files_of (weigh names) = data_files names.files
files_of (trial names) = data_files names.files
files_of (opens names) = listed_files names.files.schema names.files.constraints
files_of (session names) = script_files names.files.schema names.files.rows names.files.constraints names.script
files_of (limit names) = limit_files names.files.schema names.files.constraints names.limits
files_of (sql names) = listed_files names.files.schema names.files.constraints
files_of (draft names) = (kinds.Rows, names.rows) ∷ []
files_of (history names) = table_files names.files

-- the questions of texts, with what was found
abbrev pub asking_in : List (List ℕ) → Found → Result Asking Obstacle
asking_in texts found = do
  questions ← or_refused (questions_of found.schema texts)
  Ok (record { observed = observed_in found; questions = questions })

-- a schema and rows, and which of them a text means
abbrev pub known_in : List ℕ → Found → Result Known Obstacle
known_in text found = do
  query ← or_refused (query_at found.schema 1 text)
  Ok (record { schema = found.schema; rows = found.rows; query = query })

-- ---- what was found in the files of each verb

abbrev pub asks_in : AskNames → Found → Result Input Obstacle
asks_in names found = mapped (asks names.form names.nodes) (asking_in names.queries found)

abbrev pub follows_in : SessionNames → Found → Result Input Obstacle
follows_in names found = Ok (follows names.form names.nodes (scripted_in found))

abbrev pub explains_in : WhyNames → Found → Result Input Obstacle
explains_in names found = mapped (explains names.form names.nodes) (asking_in names.queries found)

abbrev pub weighs_in : WeighNames → Found → Result Input Obstacle
weighs_in names found = mapped (weighs names) (asking_in (names.query ∷ []) found)

abbrev pub tries_in : TrialNames → Found → Result Input Obstacle
tries_in names found = Ok (tries names.form names.scale (observed_in found))

abbrev pub lists_in : OpensNames → Found → Result Input Obstacle
lists_in names found = Ok (lists names.form (listing_in found))

abbrev pub limits_in : Found → Result Input Obstacle
limits_in found = Ok (limits (limited_in found))

abbrev pub tests_in : SqlNames → Found → Result Input Obstacle
tests_in names found = Ok (tests names.table (listing_in found))

abbrev pub recalls_in : HistoryNames → Found → Result Input Obstacle
recalls_in names found = mapped (recalls names) (known_in (where_text names.chosen) found)

-- a draft is of the bytes of a row file, which are read with no schema
abbrev pub drafted_for : DraftNames → List ℕ → Result Draft Fault
drafted_for names bytes = drafted_of bytes names.columns

-- what the files that a shelf holds come to
abbrev pub comes_to : Asked → Files → Result Input Obstacle
comes_to (ask names) shelf = outcome_of (files_of (ask names)) (asks_in names) shelf
comes_to (session names) shelf = outcome_of (files_of (session names)) (follows_in names) shelf
comes_to (why names) shelf = outcome_of (files_of (why names)) (explains_in names) shelf
comes_to (weigh names) shelf = outcome_of (files_of (weigh names)) (weighs_in names) shelf
comes_to (trial names) shelf = outcome_of (files_of (trial names)) (tries_in names) shelf
comes_to (opens names) shelf = outcome_of (files_of (opens names)) (lists_in names) shelf
comes_to (limit names) shelf = outcome_of (files_of (limit names)) limits_in shelf
comes_to (sql names) shelf = outcome_of (files_of (sql names)) (tests_in names) shelf
comes_to (history names) shelf = outcome_of (files_of (history names)) (recalls_in names) shelf
comes_to (draft names) shelf = mapped drafts (value_under kinds.Rows names.rows (drafted_for names) shelf)

-- where the shelf tells its files, the call comes to this with them
abbrev pub ComesTo : Option Files → Asked → Result Input Obstacle → Type 0
ComesTo told asked outcome = IfSome told (λ shelf. comes_to asked shelf ≡ outcome)
