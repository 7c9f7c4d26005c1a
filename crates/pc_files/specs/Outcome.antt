-- What files stand for, or what stands in the way.
use Rattle.std.specs.Prelude.{◌≡◌, ◌+◌, ℕ, nat_lt, if◌then◌else◌, List, [], ◌∷◌, ◌++◌, length, Option, Some, None, Result, Ok, Err, IfSome}
use Rattle.pc_model.specs.declared.schema.Schema.{Schema}
use Rattle.pc_model.specs.declared.row.Row.{Row}
use Rattle.pc_model.specs.declared.constraint.Constraint.{Constraint}
use Rattle.pc_model.specs.declared.query.Query.{Query}
use Rattle.pc_model.specs.declared.fault.FileKind.{FileKind}
use Rattle.pc_model.specs.declared.fault.FileKind.TheVariants as kinds
use Rattle.pc_model.specs.declared.fault.Reason.TheVariants as reasons
use Rattle.pc_model.specs.declared.fault.Fault.{Fault}
use Rattle.pc_model.specs.Refusals.{fault_at, ◌>>=◌}
use Rattle.pc_model.specs.Texts.{file_limit}
use Rattle.pc_base.specs.Files.{Files, file_of}
use Rattle.pc_schema.specs.SchemaFile.{schema_of}
use Rattle.pc_rows.specs.RowFile.{rows_of}
use Rattle.pc_lang.specs.Files.{constraints_of, limits_of, query_at}
use Rattle.pc_session.specs.Edited.{Held}
use Rattle.pc_script.specs.Numbers.{said_lines}
use Rattle.pc_script.specs.Script.{script_of}
use Rattle.pc_files.specs.declared.reading.Limited.{Limited}
use Rattle.pc_files.specs.declared.reading.Listing.{Listing}
use Rattle.pc_files.specs.declared.reading.Observed.{Observed}
use Rattle.pc_files.specs.declared.reading.Script.{Script}
use Rattle.pc_files.specs.declared.reading.Scripted.{Scripted}

-- a file or query that is refused, or a file that is not held
pub data Obstacle : Type 0 where
  refused : Fault → Obstacle
  absent : FileKind → Obstacle

abbrev pub or_refused : {X : Type 0} → Result X Fault → Result X Obstacle
or_refused (Ok x) = Ok x
or_refused (Err fault) = Err (refused fault)

-- a document may be longer than other files
abbrev pub document_limit : ℕ
document_limit = 268435456

abbrev pub limit_of : FileKind → ℕ
limit_of kinds.Schema = file_limit
limit_of kinds.Rows = file_limit
limit_of kinds.Constraints = file_limit
limit_of kinds.Query = file_limit
limit_of kinds.Script = file_limit
limit_of kinds.Limits = file_limit
limit_of kinds.Document = document_limit

-- the bytes of a file that is held and not too long
abbrev pub bytes_in : FileKind → Option (List ℕ) → Result (List ℕ) Obstacle
bytes_in file None = Err (absent file)
bytes_in file (Some bytes) = if nat_lt (limit_of file) (length bytes) then Err (refused (fault_at file 0 reasons.TooLong)) else Ok bytes

-- ---- named files

-- the kind of a file, and its name
abbrev pub NamedFile : Type 0
NamedFile = FileKind × List ℕ

abbrev pub observed_files : List ℕ → List ℕ → List ℕ → List NamedFile
observed_files schema rows constraints = (kinds.Schema, schema) ∷ (kinds.Rows, rows) ∷ (kinds.Constraints, constraints) ∷ []

abbrev pub listed_files : List ℕ → List ℕ → List NamedFile
listed_files schema constraints = (kinds.Schema, schema) ∷ (kinds.Constraints, constraints) ∷ []

abbrev pub limit_files : List ℕ → List ℕ → List ℕ → List NamedFile
limit_files schema constraints limits = listed_files schema constraints ++ (kinds.Limits, limits) ∷ []

abbrev pub script_files : List ℕ → List ℕ → List ℕ → List ℕ → List NamedFile
script_files schema rows constraints script = observed_files schema rows constraints ++ (kinds.Script, script) ∷ []

-- ---- what they stand for

-- the value of the bytes of a file, by what its reader is to give
unfoldable pub value_under : {X : Type 0} → FileKind → List ℕ → (List ℕ → Result X Fault) → Files → Result X Obstacle
value_under kind name value_of shelf = do
  bytes ← bytes_in kind (file_of shelf name)
  or_refused (value_of bytes)

-- a file whose bytes are its value
abbrev pub whole : List ℕ → Result (List ℕ) Fault
whole bytes = Ok bytes

-- the lines of a script over what is held at its start, with their numbers
abbrev pub numbered_script : Schema → Held → List ℕ → Result Script Fault
numbered_script schema start bytes = do
  lines ← script_of schema start bytes
  Ok (record { lines = lines; numbers = said_lines bytes })

-- what was found in files; what none of them is for is empty
pub record Found : Type 0 where
  pub schema : Schema
  pub rows : List Row
  pub constraints : List Constraint
  pub limited : List Constraint
  pub bytes : List ℕ
  pub script : Script

abbrev pub no_script : Script
no_script = record { lines = []; numbers = [] }

abbrev pub nothing : Found
nothing = record { schema = record { columns = [] }; rows = []; constraints = []; limited = []; bytes = []; script = no_script }

abbrev pub held_in : Found → Held
held_in found = record { rows = found.rows; constraints = found.constraints }

-- One more file: rows and constraints are read with the schema that was found before them, limits after the constraints, and a script
-- with schema, rows and constraints; no file is for queries.
abbrev pub with_file : Found → FileKind → List ℕ → Files → Result Found Obstacle
with_file found kinds.Schema name shelf = do
  schema ← value_under kinds.Schema name schema_of shelf
  Ok (record found { schema = schema })
with_file found kinds.Rows name shelf = do
  rows ← value_under kinds.Rows name (rows_of found.schema) shelf
  Ok (record found { rows = rows })
with_file found kinds.Constraints name shelf = do
  constraints ← value_under kinds.Constraints name (constraints_of found.schema) shelf
  Ok (record found { constraints = constraints })
with_file found kinds.Document name shelf = do
  bytes ← value_under kinds.Document name whole shelf
  Ok (record found { bytes = bytes })
with_file found kinds.Script name shelf = do
  script ← value_under kinds.Script name (numbered_script found.schema (held_in found)) shelf
  Ok (record found { script = script })
with_file found kinds.Limits name shelf = do
  limited ← value_under kinds.Limits name (limits_of found.schema found.constraints) shelf
  Ok (record found { limited = limited })
with_file found kinds.Query name shelf = Err (absent kinds.Query)

-- what these files give after what was found, or the first obstacle in their order
unfoldable pub found_after : Found → List NamedFile → Files → Result Found Obstacle
found_after found [] shelf = Ok found
found_after found (file ∷ files) shelf = do
  more ← with_file found file.0 file.1 shelf
  found_after more files shelf

abbrev pub found_in : List NamedFile → Files → Result Found Obstacle
found_in files shelf = found_after nothing files shelf

-- the queries of texts, the first of which has this place among them
unfoldable pub queries_from : Schema → ℕ → List (List ℕ) → Result (List Query) Fault
queries_from schema place [] = Ok []
queries_from schema place (text ∷ texts) = do
  query ← query_at schema place text
  queries ← queries_from schema (place + 1) texts
  Ok (query ∷ queries)

abbrev pub queries_of : Schema → List (List ℕ) → Result (List Query) Fault
queries_of schema texts = queries_from schema 1 texts

abbrev pub mapped : {X Y E : Type 0} → (X → Y) → Result X E → Result Y E
mapped f (Ok x) = Ok (f x)
mapped f (Err stop) = Err stop

-- the schema, the observed rows and the constraints that were found
abbrev pub observed_in : Found → Observed
observed_in found = record { schema = found.schema; rows = found.rows; constraints = found.constraints }

abbrev pub listing_in : Found → Listing
listing_in found = record { schema = found.schema; constraints = found.constraints }

-- the list in which limits follow the constraints, of which there are so many
abbrev pub limited_in : Found → Limited
limited_in found = record { schema = found.schema; all = found.limited; opening = length found.constraints }

abbrev pub scripted_in : Found → Scripted
scripted_in found = record { observed = observed_in found; script = found.script }

-- what files come to, by what is made of what was found in them
abbrev pub outcome_of : {X : Type 0} → List NamedFile → (Found → Result X Obstacle) → Files → Result X Obstacle
outcome_of files meaning shelf = found_in files shelf >>= meaning

-- the files that a shelf tells, where some are needed
abbrev pub needed : List NamedFile → Option Files → Option Files
needed [] told = Some []
needed (file ∷ files) told = told

-- where the shelf tells the files, they come to this
abbrev pub FilesComeTo : {X : Type 0} → Option Files → List NamedFile → (Found → Result X Obstacle) → Result X Obstacle → Type 0
FilesComeTo told files meaning outcome = IfSome (needed files told) (λ shelf. outcome_of files meaning shelf ≡ outcome)
