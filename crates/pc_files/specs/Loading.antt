-- Which loads there were of files, and what was answered, against what the files stand for.
use Rattle.std.specs.Prelude.{◌≡◌, ℕ, ◌⊎◌, ⊤, List, [], ◌∷◌, ◌++◌, map, take, length, Result, Ok, Err, IsOk, IfSome}
use Rattle.pc_model.specs.declared.fault.FileKind.{FileKind}
use Rattle.pc_model.specs.declared.fault.FileKind.TheVariants as kinds
use Rattle.pc_model.specs.declared.fault.Fault.{Fault}
use Rattle.pc_base.specs.Counts.{Rose}
use Rattle.pc_base.specs.Files.{IsAbsent}
use Rattle.pc_base.specs.Loads.{Load, Chain}
use Rattle.pc_base.specs.Shelves.{ShelfState, AreLoads}
use Rattle.pc_base.specs.declared.outside.Loaded.{Loaded}
use Rattle.pc_base.specs.declared.outside.Loaded.TheVariants as loads
use Rattle.pc_files.specs.declared.stop.Stop.{Stop}
use Rattle.pc_files.specs.declared.stop.Stop.TheVariants as stops
use Rattle.pc_files.specs.Outcome.{Obstacle, refused, NamedFile, value_under, Found, found_in, FilesComeTo}

-- what a shelf tells before and after, and which loads led from the one to the other
pub record Reading : Type 1 where
  pub before : ShelfState
  pub after : ShelfState
  pub did : List Load → Type 0

abbrev pub reading_of : {S : Type 0} → (S → ShelfState) → (S → List ℕ → Loaded → S → Type 0) → S → S → Reading
reading_of told leads old new = record { before = told old; after = told new; did = Chain leads old new }

-- why a load of this name failed: the count of faults rose, or the shelf does not hold the name
abbrev pub HasCause : Reading → List ℕ → Type 0
HasCause reading name = Rose reading.before.faults reading.after.faults ⊎ IsAbsent reading.before.files name

-- what is answered is the outcome, but for want of memory and a load that failed
abbrev pub Agrees : {X : Type 0} → (Result X Obstacle → Type 0) → Result X Stop → Type 0
Agrees Is (Ok x) = Is (Ok x)
Agrees Is (Err (stops.Refused fault)) = Is (Err (refused fault))
Agrees Is (Err (stops.Unread kind)) = ⊤
Agrees Is (Err stops.Memory) = ⊤

-- ---- one file

-- it is loaded once, and gives nothing for this cause
abbrev pub LoadsInVain : Reading → FileKind → List ℕ → Stop → Type 0
LoadsInVain reading kind name (stops.Refused fault) = (fault.file ≡ kind) × (reading.did ((name, loads.Whole) ∷ []) ⊎ reading.did ((name, loads.Long) ∷ []))
LoadsInVain reading kind name (stops.Unread file) = (file ≡ kind) × reading.did ((name, loads.Failed) ∷ []) × HasCause reading name
LoadsInVain reading kind name stops.Memory = (loaded : Loaded) × reading.did ((name, loaded) ∷ [])

-- it is loaded once
abbrev pub LoadsFile : {X : Type 0} → Reading → FileKind → List ℕ → Result X Stop → Type 0
LoadsFile reading kind name (Ok x) = reading.did ((name, loads.Whole) ∷ [])
LoadsFile reading kind name (Err stop) = LoadsInVain reading kind name stop

-- it is loaded once, and what is answered is what its reader is to give
pub record IsLoaded {X : Type 0} (reading : Reading) (kind : FileKind) (name : List ℕ) (value_of : List ℕ → Result X Fault) (result : Result X Stop) : Type 0 where
  pub agrees : Agrees (λ outcome. IfSome reading.before.files (λ shelf. value_under kind name value_of shelf ≡ outcome)) result
  pub loads : LoadsFile reading kind name result
  pub one_load : AreLoads 1 reading.before reading.after

-- ---- several files

-- each of these files is loaded once, in this order, and is whole
abbrev pub wholes : List NamedFile → List Load
wholes files = map (λ file. (file.1, loads.Whole)) files

-- the loads were those of all these files
abbrev pub LoadsAll : Reading → List NamedFile → Type 0
LoadsAll reading files = reading.did (wholes files)

-- The loads were those of the files before the one of this kind, which were whole, and are accepted where the shelf tells them, and
-- one load of this file, which did this.
pub record StopsAt (reading : Reading) (files : List NamedFile) (kind : FileKind) (loaded : Loaded) : Type 0 where
  pub front : List NamedFile
  pub name : List ℕ
  pub rest : List NamedFile
  pub in_order : files ≡ front ++ (kind, name) ∷ rest
  pub accepted : IfSome reading.before.files (λ shelf. IsOk (found_in front shelf))
  pub loads : reading.did (wholes front ++ (name, loaded) ∷ [])

-- the last load failed, for a cause
pub record IsUnread (reading : Reading) (files : List NamedFile) (kind : FileKind) : Type 0 where
  pub stopped : StopsAt reading files kind loads.Failed
  pub cause : HasCause reading stopped.name

-- what is refused is the file that was loaded last, or a query after all files
abbrev pub EndsAt : Reading → List NamedFile → FileKind → Type 0
EndsAt reading files kind = (StopsAt reading files kind loads.Whole ⊎ StopsAt reading files kind loads.Long) ⊎ ((kind ≡ kinds.Query) × LoadsAll reading files)

-- no file was loaded twice, none before its turn, and none after one that was not whole
abbrev pub IsInOrder : Reading → List NamedFile → Type 0
IsInOrder reading files = ((count : ℕ) × reading.did (wholes (take count files))) ⊎ ((kind : FileKind) × (loaded : Loaded) × StopsAt reading files kind loaded)

-- which loads there were, where these files give nothing for this cause
abbrev pub LoadsUntil : Reading → List NamedFile → Stop → Type 0
LoadsUntil reading files (stops.Refused fault) = EndsAt reading files fault.file
LoadsUntil reading files (stops.Unread kind) = IsUnread reading files kind
LoadsUntil reading files stops.Memory = IsInOrder reading files

-- which loads there were, where reading these files answers this
abbrev pub LoadsFiles : {X : Type 0} → Reading → List NamedFile → Result X Stop → Type 0
LoadsFiles reading files (Ok x) = LoadsAll reading files
LoadsFiles reading files (Err stop) = LoadsUntil reading files stop

-- these files are read, each once and in their order, and this was found in them, where the shelf tells them
pub record AreRead (reading : Reading) (files : List NamedFile) (all : Found) : Type 0 where
  pub found : IfSome reading.before.files (λ shelf. found_in files shelf ≡ Ok all)
  pub loads : LoadsAll reading files
  pub few : AreLoads (length files) reading.before reading.after

-- these files are read, each once and in their order, and what is answered is what they come to
pub record IsRead {X : Type 0} (reading : Reading) (files : List NamedFile) (meaning : Found → Result X Obstacle) (result : Result X Stop) : Type 0 where
  pub agrees : Agrees (FilesComeTo reading.before.files files meaning) result
  pub loads : LoadsFiles reading files result
  pub few : AreLoads (length files) reading.before reading.after
