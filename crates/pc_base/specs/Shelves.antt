-- What a shelf and a sink tell of themselves, and what a load and a put make of it.
use Rattle.std.specs.Prelude.{◌≡◌, ℕ, ◌≤◌, List, Option}
use Rattle.pc_base.specs.declared.outside.Loaded.{Loaded}
use Rattle.pc_base.specs.declared.outside.Put.{Put}
use Rattle.pc_base.specs.Counts.{RoseWithin}
use Rattle.pc_base.specs.Files.{Files}
use Rattle.pc_base.specs.Loads.{Gives, HasLoadCause}
use Rattle.pc_base.specs.Puts.{Leaves, HasPutCause}

-- the files, where the shelf tells them, and how many loads there were and failed; at the end of its type a count stays
pub record ShelfState : Type 0 where
  pub files : Option Files
  pub faults : ℕ
  pub calls : ℕ

-- the bytes written so far, where the sink tells them, and how many puts there were and failed; at the end of its type a count stays
pub record SinkState : Type 0 where
  pub kept : Option (List ℕ)
  pub faults : ℕ
  pub calls : ℕ

-- at most so many loads lead from the one to the other: no load changes the files, and no count falls
pub record AreLoads (most : ℕ) (before after : ShelfState) : Type 0 where
  pub files_stay : after.files ≡ before.files
  pub faults_stay : before.faults ≤ after.faults
  pub calls : RoseWithin most before.calls after.calls

-- a load of this name, which did this and left these bytes
pub record IsLoad (before : ShelfState) (name : List ℕ) (limit : ℕ) (loaded : Loaded) (into : List ℕ) (after : ShelfState) : Type 0 where
  pub gives : Gives before.files name limit loaded into
  pub cause : HasLoadCause before.files name before.faults after.faults loaded
  pub one_load : AreLoads 1 before after

-- a put of this piece, which did this
pub record IsPut (before : SinkState) (piece : List ℕ) (put : Put) (after : SinkState) : Type 0 where
  pub leaves : Leaves before.kept after.kept piece put
  pub cause : HasPutCause before.faults after.faults put
  pub one_fault : RoseWithin 1 before.faults after.faults
  pub one_put : RoseWithin 1 before.calls after.calls
