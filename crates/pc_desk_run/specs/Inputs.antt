-- What was read of the files of a call.
use Rattle.std.specs.Prelude.{◌≡◌, ◌≤◌, ℕ, ⊤, All, List, [], get_or, length, Ok, Err, Option, Result}
use Rattle.pc_model.specs.declared.fault.FileKind.{FileKind}
use Rattle.pc_model.specs.declared.fault.FileKind.TheVariants as kinds
use Rattle.std.specs.List.{AllPass}
use Rattle.pc_model.specs.Membership.{in_domain}
use Rattle.pc_model.specs.WellFormed.{IsWellFormed}
use Rattle.pc_base.specs.Files.{Files}
use Rattle.pc_files.specs.declared.kept.Kept.{Kept}
use Rattle.pc_files.specs.declared.stop.Stop.{Stop}
use Rattle.pc_files.specs.declared.stop.Stop.TheVariants as stops
use Rattle.pc_files.specs.Keeping.{AreBytesOf, ExplainsFault, KeptFrom, names_of}
use Rattle.pc_files.specs.Loading.{AreRead, IsLoaded, IsRead, Reading}
use Rattle.pc_files.specs.declared.reading.Limited.{Limited}
use Rattle.pc_files.specs.declared.reading.Scripted.{Scripted}
use Rattle.pc_files.specs.declared.reading.Listing.{Listing}
use Rattle.pc_files.specs.declared.reading.Observed.{Observed}
use Rattle.pc_files.specs.Outcome.{Found, listed_files, listing_in, no_script, observed_in}
use Rattle.pc_files.specs.Reads.{IsLimited, IsScripted, IsShowable, IsUsable, ReadsLimited, ReadsScripted}
use Rattle.pc_desk_answers.specs.Questions.{IsQuestion}
use Rattle.pc_desk_schema.specs.declared.draft.Draft.{Draft}
use Rattle.pc_desk_past.specs.Past.{IsHistory, IsKnown}
use Rattle.pc_desk_past.specs.declared.past.Known.{Known}
use Rattle.pc_desk_words.specs.Words.{Asked, DraftNames, FileNames, IsBudget, IsScale, LimitNames, SessionNames, TrialNames, ask, draft, history, limit, opens, session, sql, trial, weigh, why}
use Rattle.pc_desk_run.specs.declared.input.Asking.{Asking}
use Rattle.pc_desk_run.specs.declared.recalls.Table.{Table}
use Rattle.pc_desk_run.specs.Outcome.{Input, asking_in, asks, data_files, drafted_for, drafts, explains, follows, known_in, limits, lists, recalls, table_files, tests, tries, weighs}
use Rattle.pc_desk_run.specs.Texts.{Named, named_in}

-- what answers need of what was read
pub record IsAsking (asking : Asking) : Type 0 where
  pub usable : IsUsable asking.observed
  pub asked : All (IsQuestion asking.observed.schema) asking.questions

-- .. of a schema and rows alone
pub record IsTable (table : Table) : Type 0 where
  pub well_formed : IsWellFormed table.schema
  pub seen : AllPass (in_domain table.schema) table.rows

abbrev pub IsSoundInput : Input → Type 0
IsSoundInput (asks form nodes asking) = IsAsking asking × IsBudget nodes
IsSoundInput (follows form nodes scripted) = IsScripted scripted × IsBudget nodes
IsSoundInput (explains form nodes asking) = IsAsking asking × IsBudget nodes
IsSoundInput (weighs names asking) = IsAsking asking × (length asking.questions ≡ 1) × IsBudget names.nodes
IsSoundInput (tries form scale observed) = IsUsable observed × IsScale scale
IsSoundInput (lists form listing) = IsShowable listing
IsSoundInput (limits limited) = IsLimited limited
IsSoundInput (tests table listing) = IsShowable listing
IsSoundInput (recalls names known) = IsKnown known × IsHistory names
IsSoundInput (drafts drafted) = 1 ≤ length drafted.schema.columns → IsWellFormed drafted.schema

-- whether or not a shelf tells its files: what the words say of form, nodes, factor and table is as they say it
abbrev pub IsInputOf : Asked → Input → Type 0
IsInputOf (ask names) (asks form nodes asking) = (form ≡ names.form) × (nodes ≡ names.nodes)
IsInputOf (session names) (follows form nodes scripted) = (form ≡ names.form) × (nodes ≡ names.nodes)
IsInputOf (why names) (explains form nodes asking) = (form ≡ names.form) × (nodes ≡ names.nodes)
IsInputOf (weigh names) (weighs wish asking) = wish ≡ names
IsInputOf (trial names) (tries form scale observed) = (form ≡ names.form) × (scale ≡ names.scale)
IsInputOf (opens names) (lists form listing) = form ≡ names.form
IsInputOf (limit names) (limits limited) = ⊤
IsInputOf (sql names) (tests table listing) = table ≡ names.table
IsInputOf (draft names) (drafts drafted) = ⊤
IsInputOf (history names) (recalls wish known) = wish ≡ names
IsInputOf asked input = ⊥

-- what reading the files of a call answers
abbrev pub ReadsAsking : Reading → Named → Result Asking Stop → Type 0
ReadsAsking reading named result = IsRead reading (data_files named.files) (asking_in named.queries) result

-- a schema and rows alone, whatever files follow
abbrev pub found_table : Table → Found
found_table table = record { schema = table.schema; rows = table.rows; constraints = []; limited = []; bytes = []; script = no_script }

abbrev pub ReadsTable : Reading → FileNames → Result Table Stop → Type 0
ReadsTable reading files (Ok table) = AreRead reading (table_files files) (found_table table)
ReadsTable reading files (Err stop) = IsRead reading (table_files files) (λ (found : Found). Ok found) (Err stop)

-- .. and the query of a text
abbrev pub ReadsKnown : Reading → Named → Result Known Stop → Type 0
ReadsKnown reading named result = IsRead reading (table_files named.files) (known_in (get_or named.queries 0 [])) result

abbrev pub ReadsSession : Reading → SessionNames → Result Scripted Stop → Type 0
ReadsSession reading names result = ReadsScripted reading names.files.schema names.files.rows names.files.constraints names.script result

abbrev pub ReadsTrial : Reading → TrialNames → Result Observed Stop → Type 0
ReadsTrial reading names result = IsRead reading (data_files names.files) (λ (found : Found). Ok (observed_in found)) result

abbrev pub ReadsFiles : Reading → FileNames → Result Listing Stop → Type 0
ReadsFiles reading files result = IsRead reading (listed_files files.schema files.constraints) (λ (found : Found). Ok (listing_in found)) result

abbrev pub ReadsLimits : Reading → LimitNames → Result Limited Stop → Type 0
ReadsLimits reading names result = ReadsLimited reading names.files.schema names.files.constraints names.limits result

abbrev pub ReadsDraft : Reading → DraftNames → Result Draft Stop → Type 0
ReadsDraft reading names result = IsLoaded reading kinds.Rows names.rows (drafted_for names) result

-- the name of each kind of file that a call reads
abbrev pub names_in : Named → FileKind → List ℕ
names_in named = names_of named.files.schema named.files.rows named.files.constraints named.script named.limits

-- which bytes of them are kept where reading them answers this
abbrev pub KeepsAsked : {X : Type 0} → Option Files → Asked → Kept → Result X Stop → Type 0
KeepsAsked told asked kept result = KeptFrom told (names_in (named_in asked)) kept result

-- of a draft, for which no schema is read
abbrev pub KeepsDraft : Option Files → DraftNames → Kept → Type 0
KeepsDraft told names kept = (kept.schema ≡ []) × AreBytesOf told kinds.Rows names.rows kept.last

abbrev pub KeepsDraftUntil : {X : Type 0} → Option Files → DraftNames → Kept → Result X Stop → Type 0
KeepsDraftUntil told names kept (Ok x) = ⊤
KeepsDraftUntil told names kept (Err (stops.Refused fault)) = KeepsDraft told names kept
KeepsDraftUntil told names kept (Err (stops.Unread file)) = ⊤
KeepsDraftUntil told names kept (Err stops.Memory) = ⊤

-- a refusal of this kind of file is explained by what is kept
abbrev pub Explains : Option Files → Asked → Kept → FileKind → Type 0
Explains told (draft names) kept kind = KeepsDraft told names kept
Explains told asked kept kind = ExplainsFault told (names_in (named_in asked)) kept kind
