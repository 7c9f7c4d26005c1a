-- What was written by a put of a text.
use Rattle.std.specs.Prelude.{◌≡◌, ℕ, ◌⊎◌, ◌++◌, take, List, Some, IfSome}
use Rattle.pc_base.specs.declared.outside.Put.{Put}
use Rattle.pc_base.specs.declared.outside.Put.TheVariants as puts
use Rattle.pc_base.specs.Counts.{Rose, RoseWithin}
use Rattle.pc_base.specs.Shelves.{SinkState}

-- what a sink tells before and after
pub record Writing : Type 0 where
  pub before : SinkState
  pub after : SinkState

abbrev pub writing_of : {S : Type 0} → (S → SinkState) → S → S → Writing
writing_of told old new = record { before = told old; after = told new }

-- the whole text was written, and no put failed
pub record IsWritten (writing : Writing) (text : List ℕ) : Type 0 where
  pub no_fault : writing.after.faults ≡ writing.before.faults
  pub whole : IfSome writing.before.kept (λ kept. writing.after.kept ≡ Some (kept ++ text))

-- a front of the text was written, and a put failed
pub record IsCutOff (writing : Writing) (text : List ℕ) : Type 0 where
  pub rose : Rose writing.before.faults writing.after.faults
  pub front : IfSome writing.before.kept (λ kept. (n : ℕ) × (writing.after.kept ≡ Some (kept ++ take n text)))

-- nothing was written, and one put at most failed
pub record IsUntouched (writing : Writing) : Type 0 where
  pub nothing_put : writing.after.kept ≡ writing.before.kept
  pub one_fault : RoseWithin 1 writing.before.faults writing.after.faults

-- a line of a refusal stays what it says where the put of it fails
abbrev pub IsTold : Writing → List ℕ → Type 0
IsTold writing line = IsWritten writing line ⊎ IsCutOff writing line

-- what a put of the text did
abbrev pub Writes : Writing → List ℕ → Put → Type 0
Writes writing text puts.All = IsWritten writing text
Writes writing text puts.Failed = IsCutOff writing text
Writes writing text puts.Memory = IsUntouched writing
