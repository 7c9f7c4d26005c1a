-- A file is loaded, and what is read of it is what its reader is to give.
use Rattle.std.proofs.Common.{◌≡◌, ℕ, ◌+◌, ◌<◌, ◌≤◌, inl, List, [], ◌∷◌, length, take, Option, Some, None, Result, Ok, Err, IfSome, IsSomeAnd, ap, refl, sym, ◌∙◌}
use Rattle.std.proofs.lemmas.Bool.{le-ltb, lt-ltb}
use Rattle.pc_model.specs.declared.fault.Fault.{Fault}
use Rattle.pc_model.specs.declared.fault.FileKind.{FileKind}
use Rattle.pc_model.specs.declared.fault.Reason.TheVariants as reasons
use Rattle.pc_model.specs.declared.fault.Refusal.{Refusal}
use Rattle.pc_model.specs.declared.fault.Refusal.TheVariants as refusals
use Rattle.pc_model.specs.Refusals.{fault_at, ◌>>=◌, Gives}
use Rattle.pc_base.specs.Files.{Files, file_of}
use Rattle.pc_base.specs.declared.outside.Loaded.TheVariants as loads
use Rattle.pc_files.specs.declared.stop.Stop.{Stop}
use Rattle.pc_files.specs.declared.stop.Stop.TheVariants as stops
use Rattle.pc_files.specs.Outcome.{Obstacle, refused, bytes_in, value_under, limit_of, or_refused, whole}
use Rattle.pc_files.specs.Loading.{Agrees, IsLoaded, LoadsFile, Reading}
use Rattle.pc_files.specs.Stops.{stop_of}
use Rattle.pc_files.proofs.FaultFiles.{IsOf, fault_of}

-- where the shelf tells its files, one under this name gives this, by this reader
abbrev pub Gave : {X : Type 0} → Option Files → FileKind → List ℕ → (List ℕ → Result X Fault) → Result X Obstacle → Type 0
Gave told kind name value_of outcome = IfSome told (λ shelf. value_under kind name value_of shelf ≡ outcome)

-- ---- the bytes of a file

-- those that are not too long
whole_in : (kind : FileKind) (held : Option (List ℕ)) (bytes : List ℕ) → held ≡ Some bytes → length bytes ≤ limit_of kind → bytes_in kind held ≡ Ok bytes
whole_in kind held bytes is short = rw is (rw (le-ltb (limit_of kind) (length bytes) short) refl)

long_in : (kind : FileKind) (held : Option (List ℕ)) → IsSomeAnd held (λ bytes. limit_of kind < length bytes) → bytes_in kind held ≡ Err (refused (fault_at kind 0 reasons.TooLong))
long_in kind None none = absurd none
long_in kind (Some bytes) long = rw (lt-ltb (limit_of kind) (length bytes) long) refl

pub gave_whole : (kind : FileKind) (told : Option Files) (name bytes : List ℕ) → length bytes ≤ limit_of kind → IfSome told (λ shelf. file_of shelf name ≡ Some bytes) → Gave told kind name whole (Ok bytes)
unfolding value_under
gave_whole kind None name bytes short is = tt
gave_whole kind (Some shelf) name bytes short is = rw (whole_in kind (file_of shelf name) bytes is short) refl

only_long : (held : Option (List ℕ)) (into : List ℕ) (limit : ℕ) → IsSomeAnd held (λ bytes. (into ≡ take (limit + 1) bytes) × (limit < length bytes)) → IsSomeAnd held (λ bytes. limit < length bytes)
only_long None into limit none = none
only_long (Some bytes) into limit both = both.1

pub gave_long : (kind : FileKind) (told : Option Files) (name into : List ℕ) → IfSome told (λ shelf. IsSomeAnd (file_of shelf name) (λ bytes. (into ≡ take (limit_of kind + 1) bytes) × (limit_of kind < length bytes))) →
    Gave told kind name whole (Err (refused (fault_at kind 0 reasons.TooLong)))
unfolding value_under
gave_long kind None name into is = tt
gave_long kind (Some shelf) name into is = rw (long_in kind (file_of shelf name) (only_long (file_of shelf name) into (limit_of kind) is)) refl

-- ---- what a reader answers for them

abbrev pub stopped : {X : Type 0} → Result X Refusal → Result X Stop
stopped (Ok x) = Ok x
stopped (Err refusal) = Err (stop_of refusal)

pub same_bytes : (held : Result (List ℕ) Obstacle) → (held >>= λ bytes. or_refused (whole bytes)) ≡ held
same_bytes (Ok bytes) = refl
same_bytes (Err obstacle) = refl

module _ {X : Type 0} (value_of : List ℕ → Result X Fault) (kind : FileKind) (name : List ℕ) where
  gave_value : (told : Option Files) (bytes : List ℕ) → Gave told kind name whole (Ok bytes) → Gave told kind name value_of (or_refused (value_of bytes))
  unfolding value_under
  gave_value None bytes is = tt
  gave_value (Some shelf) bytes is = ap (λ held. held >>= λ found. or_refused (value_of found)) (sym (same_bytes (bytes_in kind (file_of shelf name))) ∙ is)

  gave_none : (told : Option Files) (obstacle : Obstacle) → Gave told kind name whole (Err obstacle) → Gave told kind name value_of (Err obstacle)
  unfolding value_under
  gave_none None obstacle is = tt
  gave_none (Some shelf) obstacle is = ap (λ held. held >>= λ found. or_refused (value_of found)) (sym (same_bytes (bytes_in kind (file_of shelf name))) ∙ is)

  module _ (reading : Reading) where
    -- no bytes
    stop_agrees : (stop : Stop) → Agrees (Gave reading.before.files kind name whole) (Err stop) → Agrees (Gave reading.before.files kind name value_of) (Err stop)
    stop_agrees (stops.Refused fault) is = gave_none reading.before.files (refused fault) is
    stop_agrees (stops.Unread file) is = tt
    stop_agrees stops.Memory is = tt

    pub not_read : (stop : Stop) → IsLoaded reading kind name whole (Err stop) → IsLoaded reading kind name value_of (Err stop)
    not_read stop loaded = record { agrees = stop_agrees stop loaded.agrees; loads = loaded.loads; one_load = loaded.one_load }

    -- bytes, and what their reader answers
    read_agrees : (bytes : List ℕ) (read : Result X Refusal) → Gave reading.before.files kind name whole (Ok bytes) → Gives read (value_of bytes) → Agrees (Gave reading.before.files kind name value_of) (stopped read)
    read_agrees bytes (Ok x) is gives = rw gives at (gave_value reading.before.files bytes is)
    read_agrees bytes (Err (refusals.Fault fault)) is gives = rw gives at (gave_value reading.before.files bytes is)
    read_agrees bytes (Err refusals.Memory) is gives = tt

    read_loads : (bytes : List ℕ) (read : Result X Refusal) → IsOf kind (value_of bytes) → Gives read (value_of bytes) → reading.did ((name, loads.Whole) ∷ []) → LoadsFile reading kind name (stopped read)
    read_loads bytes (Ok x) of gives whole = whole
    read_loads bytes (Err (refusals.Fault fault)) of gives whole = (fault_of kind (value_of bytes) fault of gives, inl whole)
    read_loads bytes (Err refusals.Memory) of gives whole = (loads.Whole, whole)

    pub read_now : (bytes : List ℕ) (read : Result X Refusal) → IsOf kind (value_of bytes) → IsLoaded reading kind name whole (Ok bytes) → Gives read (value_of bytes) → IsLoaded reading kind name value_of (stopped read)
    read_now bytes read of loaded gives = record {
      agrees = read_agrees bytes read loaded.agrees gives;
      loads = read_loads bytes read of gives loaded.loads;
      one_load = loaded.one_load;
    }
