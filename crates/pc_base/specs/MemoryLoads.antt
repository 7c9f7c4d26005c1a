-- What a shelf in memory tells of itself, and what a load does to it.
use Rattle.std.specs.Prelude.{◌≡◌, ◌↔◌, ℕ, List, Some, None, Contains}
use Rattle.pc_base.specs.declared.memory_shelf.MemShelf.{MemShelf}
use Rattle.pc_base.specs.declared.outside.Loaded.{Loaded}
use Rattle.pc_base.specs.declared.outside.Loaded.TheVariants.{Failed}
use Rattle.pc_base.specs.Counts.{next_count}
use Rattle.pc_base.specs.Files.{file_of}
use Rattle.pc_base.specs.Shelves.{ShelfState}

-- it tells its files
abbrev pub told_of : MemShelf → ShelfState
told_of shelf = record { files = Some shelf.files; faults = shelf.faults; calls = shelf.calls }

-- A load that is to fail fails and is counted, and no other is. Any other fails exactly where the name is not held.
pub record IsMemoryLoad (old : MemShelf) (name : List ℕ) (loaded : Loaded) (new : MemShelf) : Type 0 where
  pub files_stay : new.files ≡ old.files
  pub fails_stay : new.fails ≡ old.fails
  pub call_counted : new.calls ≡ next_count old.calls
  pub fails_at : Contains old.fails old.calls → loaded ≡ Failed
  pub fault_counted : Contains old.fails old.calls → new.faults ≡ next_count old.faults
  pub else_stays : ¬ Contains old.fails old.calls → new.faults ≡ old.faults
  pub else_absent : ¬ Contains old.fails old.calls → (loaded ≡ Failed) ↔ (file_of old.files name ≡ None)
