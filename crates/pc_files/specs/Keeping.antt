-- Which bytes are kept of the files that were loaded.
use Rattle.std.specs.Prelude.{◌≡◌, ℕ, ◌⊎◌, ⊤, List, [], Option, Result, Ok, Err, IfSome}
use Rattle.pc_model.specs.declared.fault.FileKind.{FileKind}
use Rattle.pc_model.specs.declared.fault.FileKind.TheVariants as kinds
use Rattle.pc_base.specs.Files.{Files, file_of}
use Rattle.pc_files.specs.declared.kept.Kept.{Kept}
use Rattle.pc_files.specs.declared.stop.Stop.{Stop}
use Rattle.pc_files.specs.declared.stop.Stop.TheVariants as stops
use Rattle.pc_files.specs.Outcome.{Obstacle, bytes_in}

abbrev pub none_kept : Kept
none_kept = record { schema = []; last = [] }

abbrev pub set_apart : Kept → Kept
set_apart kept = record { schema = kept.last; last = [] }

-- ---- one file

abbrev pub or_no_bytes : Result (List ℕ) Obstacle → List ℕ
or_no_bytes (Ok bytes) = bytes
or_no_bytes (Err obstacle) = []

-- the bytes that a shelf holds under the name, but none of a file that is too long or absent
abbrev pub readable : FileKind → List ℕ → Files → List ℕ
readable kind name shelf = or_no_bytes (bytes_in kind (file_of shelf name))

-- where the shelf tells its files, these are the bytes of the one under the name
abbrev pub AreBytesOf : Option Files → FileKind → List ℕ → List ℕ → Type 0
AreBytesOf told kind name bytes = IfSome told (λ shelf. bytes ≡ readable kind name shelf)

-- .. unless it could not be loaded
abbrev pub KeepsInVain : Option Files → FileKind → List ℕ → List ℕ → Stop → Type 0
KeepsInVain told kind name bytes (stops.Refused fault) = AreBytesOf told kind name bytes
KeepsInVain told kind name bytes (stops.Unread file) = ⊤
KeepsInVain told kind name bytes stops.Memory = ⊤

-- what is kept of a file where reading it answers this
abbrev pub KeepsFile : {X : Type 0} → Option Files → FileKind → List ℕ → List ℕ → Result X Stop → Type 0
KeepsFile told kind name bytes (Ok x) = AreBytesOf told kind name bytes
KeepsFile told kind name bytes (Err stop) = KeepsInVain told kind name bytes stop

-- ---- several files

-- the name of each kind of file that is read
abbrev pub names_of : List ℕ → List ℕ → List ℕ → List ℕ → List ℕ → FileKind → List ℕ
names_of schema rows constraints script limits kinds.Schema = schema
names_of schema rows constraints script limits kinds.Rows = rows
names_of schema rows constraints script limits kinds.Constraints = constraints
names_of schema rows constraints script limits kinds.Script = script
names_of schema rows constraints script limits kinds.Limits = limits
names_of schema rows constraints script limits kinds.Query = []
names_of schema rows constraints script limits kinds.Document = []

-- where a file of this kind is refused, or a query after all files
pub record ExplainsFault (told : Option Files) (name_of : FileKind → List ℕ) (kept : Kept) (kind : FileKind) : Type 0 where
  pub last : (kind ≡ kinds.Query) ⊎ AreBytesOf told kind (name_of kind) kept.last
  pub schema : (kind ≡ kinds.Schema) ⊎ AreBytesOf told kinds.Schema (name_of kinds.Schema) kept.schema

abbrev pub KeptUntil : Option Files → (FileKind → List ℕ) → Kept → Stop → Type 0
KeptUntil told name_of kept (stops.Refused fault) = ExplainsFault told name_of kept fault.file
KeptUntil told name_of kept (stops.Unread file) = ⊤
KeptUntil told name_of kept stops.Memory = ⊤

-- What is kept where reading the files answers this. Queries are read after all files, and with the schema.
abbrev pub KeptFrom : {X : Type 0} → Option Files → (FileKind → List ℕ) → Kept → Result X Stop → Type 0
KeptFrom told name_of kept (Ok x) = AreBytesOf told kinds.Schema (name_of kinds.Schema) kept.schema
KeptFrom told name_of kept (Err stop) = KeptUntil told name_of kept stop
