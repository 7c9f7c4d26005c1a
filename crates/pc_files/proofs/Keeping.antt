-- Which bytes are kept of the files that were loaded.
use Rattle.std.proofs.Common.{◌≡◌, ℕ, inl, inr, List, [], Option, Some, None, Result, Ok, Err, refl, sym, ap, subst, ◌∙◌}
use Rattle.pc_model.specs.declared.fault.FileKind.{FileKind}
use Rattle.pc_model.specs.declared.fault.FileKind.TheVariants as kinds
use Rattle.pc_model.specs.declared.fault.Fault.{Fault}
use Rattle.pc_model.specs.declared.fault.Refusal.{Refusal}
use Rattle.pc_model.specs.declared.fault.Refusal.TheVariants as refusals
use Rattle.pc_model.specs.Refusals.{RefusesAs}
use Rattle.pc_base.specs.Files.{Files, file_of}
use Rattle.pc_files.specs.declared.kept.Kept.{Kept}
use Rattle.pc_files.specs.declared.stop.Stop.{Stop}
use Rattle.pc_files.specs.declared.stop.Stop.TheVariants as stops
use Rattle.pc_files.specs.Keeping.{AreBytesOf, KeepsInVain, KeptUntil, or_no_bytes}
use Rattle.pc_files.specs.Loading.{Agrees, LoadsInVain, Reading}
use Rattle.pc_files.specs.Outcome.{Obstacle, bytes_in, refused, value_under, whole}
use Rattle.pc_files.specs.Stops.{stop_of}
use Rattle.pc_files.proofs.FaultFiles.{IsOf, fault_of}
use Rattle.pc_files.proofs.Files.{Gave, same_bytes}

-- ---- one file

module _ (kind : FileKind) (name : List ℕ) where
  bytes_told : (told : Option Files) (outcome : Result (List ℕ) Obstacle) → Gave told kind name whole outcome → AreBytesOf told kind name (or_no_bytes outcome)
  unfolding value_under
  bytes_told None outcome is = tt
  bytes_told (Some shelf) outcome is = ap or_no_bytes (sym is ∙ same_bytes (bytes_in kind (file_of shelf name)))

  pub keeps_whole : (told : Option Files) (bytes : List ℕ) → Agrees (Gave told kind name whole) (Ok bytes) → AreBytesOf told kind name bytes
  keeps_whole told bytes is = bytes_told told (Ok bytes) is

  -- nothing is kept of a file that is too long
  pub keeps_none : (told : Option Files) (stop : Stop) → Agrees (Gave told kind name whole) (Err stop) → KeepsInVain told kind name [] stop
  keeps_none told (stops.Refused fault) is = bytes_told told (Err (refused fault)) is
  keeps_none told (stops.Unread file) is = tt
  keeps_none told stops.Memory is = tt

  -- what is kept of a file stays, whatever its reader answers
  pub keeps_read : (told : Option Files) (bytes : List ℕ) (refusal : Refusal) → AreBytesOf told kind name bytes → KeepsInVain told kind name bytes (stop_of refusal)
  keeps_read told bytes (refusals.Fault fault) is = is
  keeps_read told bytes refusals.Memory is = tt

-- ---- several files

module _ (told : Option Files) (name_of : FileKind → List ℕ) (kept : Kept) where
  pub schema_stops : (reading : Reading) (stop : Stop) → LoadsInVain reading kinds.Schema (name_of kinds.Schema) stop → KeepsInVain told kinds.Schema (name_of kinds.Schema) kept.last stop → KeptUntil told name_of kept stop
  schema_stops reading (stops.Refused fault) vain is = rw vain.0 (record { last = inr is; schema = inl refl })
  schema_stops reading (stops.Unread file) vain is = tt
  schema_stops reading stops.Memory vain is = tt

  -- a file after the schema, over files that stay as they were
  pub later_stops : (kind : FileKind) (reading : Reading) (now : Option Files) (stop : Stop) → now ≡ told → LoadsInVain reading kind (name_of kind) stop → KeepsInVain now kind (name_of kind) kept.last stop →
      AreBytesOf told kinds.Schema (name_of kinds.Schema) kept.schema → KeptUntil told name_of kept stop
  later_stops kind reading now (stops.Refused fault) same vain is schema =
      rw vain.0 (record { last = inr (subst (λ (t : Option Files). AreBytesOf t kind (name_of kind) kept.last) same is); schema = inr schema })
  later_stops kind reading now (stops.Unread file) same vain is schema = tt
  later_stops kind reading now stops.Memory same vain is schema = tt

  -- a query after all files
  pub query_stops : {X : Type 0} (wanted : Result X Fault) → IsOf kinds.Query wanted → (refusal : Refusal) → RefusesAs refusal wanted → AreBytesOf told kinds.Schema (name_of kinds.Schema) kept.schema → KeptUntil told name_of kept (stop_of refusal)
  query_stops wanted of (refusals.Fault fault) refuses schema = record { last = inl (fault_of kinds.Query wanted fault of refuses); schema = inr schema }
  query_stops wanted of refusals.Memory refuses schema = tt
