-- Reading the files of a command, file after file.
use Rattle.std.proofs.Common.{◌≡◌, ◌≤◌, ◌+◌, ℕ, ⊎_elim, inl, inr, List, [], ◌∷◌, ◌++◌, length, Option, Some, None, Result, Ok, Err, IfSome, IsOk, arith, refl, sym, ap, subst, ◌∙◌}
use Rattle.std.proofs.lemmas.List.{length-append, map-append}
use Rattle.pc_model.specs.Refusals.{◌>>=◌, RefusesAs}
use Rattle.pc_model.specs.declared.schema.Schema.{Schema}
use Rattle.pc_model.specs.declared.row.Row.{Row}
use Rattle.pc_model.specs.declared.constraint.Constraint.{Constraint}
use Rattle.pc_model.specs.declared.fault.Fault.{Fault}
use Rattle.pc_model.specs.declared.fault.FileKind.{FileKind}
use Rattle.pc_model.specs.declared.fault.FileKind.TheVariants as kinds
use Rattle.pc_model.specs.declared.fault.Refusal.{Refusal}
use Rattle.pc_model.specs.declared.fault.Refusal.TheVariants as refusals
use Rattle.pc_base.specs.Files.{Files}
use Rattle.pc_base.specs.Loads.{Load}
use Rattle.pc_base.specs.Shelves.{ShelfState, AreLoads}
use Rattle.pc_base.specs.declared.outside.Loaded.{Loaded}
use Rattle.pc_base.specs.declared.outside.Loaded.TheVariants as loads
use Rattle.pc_files.specs.declared.reading.Script.{Script}
use Rattle.pc_files.specs.declared.stop.Stop.{Stop}
use Rattle.pc_files.specs.declared.stop.Stop.TheVariants as stops
use Rattle.pc_files.specs.Outcome.{Obstacle, refused, NamedFile, Found, nothing, with_file, value_under, found_after, found_in, mapped, needed, outcome_of, FilesComeTo}
use Rattle.pc_files.specs.Loading.{Agrees, AreRead, HasCause, IsLoaded, IsRead, IsUnread, LoadsFiles, LoadsInVain, LoadsUntil, Reading, StopsAt, reading_of, wholes}
use Rattle.pc_files.specs.Stops.{stop_of}
use Rattle.pc_files.proofs.Chains.{all_in_order, more}
use Rattle.pc_files.proofs.FaultFiles.{IsOf, fault_of}
use Rattle.pc_files.proofs.Files.{Gave}

-- ---- what is found in files, and in those after them

then_joined : {A B C E : Type 0} (first : Result A E) (whole : A → Result C E) (f : A → Result B E) (g : B → Result C E) → ((x : A) → whole x ≡ (f x >>= g)) → (first >>= whole) ≡ ((first >>= f) >>= g)
then_joined (Ok x) whole f g same = same x
then_joined (Err e) whole f g same = refl

pub joined : (start : Found) (front rest : List NamedFile) (shelf : Files) → found_after start (front ++ rest) shelf ≡ (found_after start front shelf >>= λ found. found_after found rest shelf)
unfolding found_after
joined start [] rest shelf = refl
joined start (file ∷ front) rest shelf =
    then_joined (with_file start file.0 file.1 shelf) (λ found. found_after found (front ++ rest) shelf) (λ found. found_after found front shelf) (λ found. found_after found rest shelf)
    (λ found. joined found front rest shelf)

-- one more file
pub with_next : (front rest : List NamedFile) (kind : FileKind) (name : List ℕ) (found : Found) (shelf : Files) → found_in front shelf ≡ Ok found →
    found_in (front ++ (kind, name) ∷ rest) shelf ≡ (with_file found kind name shelf >>= λ next. found_after next rest shelf)
unfolding found_after
with_next front rest kind name found shelf is = joined nothing front ((kind, name) ∷ rest) shelf ∙ ap (λ read. read >>= λ found. found_after found ((kind, name) ∷ rest) shelf) is

abbrev pub with_schema : Found → Schema → Found
with_schema found schema = record found { schema = schema }

abbrev pub with_rows : Found → List Row → Found
with_rows found rows = record found { rows = rows }

abbrev pub with_constraints : Found → List Constraint → Found
with_constraints found constraints = record found { constraints = constraints }

abbrev pub with_limited : Found → List Constraint → Found
with_limited found limited = record found { limited = limited }

abbrev pub with_bytes : Found → List ℕ → Found
with_bytes found bytes = record found { bytes = bytes }

abbrev pub with_script : Found → Script → Found
with_script found script = record found { script = script }

-- what is made of what the file holds
abbrev Holds : {X : Type 0} → Found → FileKind → List ℕ → (List ℕ → Result X Fault) → (X → Found) → Type 0
Holds found kind name value_of with = (shelf : Files) → with_file found kind name shelf ≡ (value_under kind name value_of shelf >>= λ x. Ok (with x))

pub needs : (front rest : List NamedFile) (file : NamedFile) (told : Option Files) → needed (front ++ file ∷ rest) told ≡ told
needs [] rest file told = refl
needs (first ∷ front) rest file told = refl

module _ {X : Type 0} (found : Found) (kind : FileKind) (name : List ℕ) (value_of : List ℕ → Result X Fault) (with : X → Found) (holds : Holds found kind name value_of with) (front : List NamedFile) where
  found_next : (told : Option Files) (x : X) → IfSome told (λ shelf. found_in front shelf ≡ Ok found) → Gave told kind name value_of (Ok x) → IfSome told (λ shelf. found_in (front ++ (kind, name) ∷ []) shelf ≡ Ok (with x))
  unfolding found_after
  found_next None x before is = tt
  found_next (Some shelf) x before is = with_next front [] kind name found shelf before ∙ rw (holds shelf, is) refl

  told_refused : (told : Option Files) (fault : Fault) → IfSome told (λ shelf. found_in front shelf ≡ Ok found) → Gave told kind name value_of (Err (refused fault)) →
      (rest : List NamedFile) → IfSome told (λ shelf. found_in (front ++ (kind, name) ∷ rest) shelf ≡ Err (refused fault))
  told_refused None fault before is rest = tt
  told_refused (Some shelf) fault before is rest = with_next front rest kind name found shelf before ∙ rw (holds shelf, is) refl

no_outcome : {Y : Type 0} (told : Option Files) (files : List NamedFile) (meaning : Found → Result Y Obstacle) (obstacle : Obstacle) → IfSome told (λ shelf. found_in files shelf ≡ Err obstacle) → IfSome told (λ shelf. outcome_of files meaning shelf ≡ Err obstacle)
no_outcome None files meaning obstacle is = tt
no_outcome (Some shelf) files meaning obstacle is = rw is refl

are_accepted : (told : Option Files) (files : List NamedFile) (found : Found) → IfSome told (λ shelf. found_in files shelf ≡ Ok found) → IfSome told (λ shelf. IsOk (found_in files shelf))
are_accepted None files found is = tt
are_accepted (Some shelf) files found is = rw is refl

-- ---- loads

loads_more : (few many : ℕ) (before middle after : ShelfState) → AreLoads few before middle → AreLoads many middle after → AreLoads (few + many) before after
loads_more few many before middle after first later =
    let faults : before.faults ≤ after.faults = omega (arith, first.faults_stay, later.faults_stay) in
    let no_less : before.calls ≤ after.calls = omega (arith, first.calls.no_less, later.calls.no_less) in
    let no_more : after.calls ≤ before.calls + (few + many) = omega (arith, first.calls.no_more, later.calls.no_more) in
    record { files_stay = later.files_stay ∙ first.files_stay; faults_stay = faults; calls = record { no_less = no_less; no_more = no_more } }

fewer_loads : (few many : ℕ) (before after : ShelfState) → few ≤ many → AreLoads few before after → AreLoads many before after
fewer_loads few many before after within are =
    let no_more : after.calls ≤ before.calls + many = omega (arith, within, are.calls.no_more) in
    record { files_stay = are.files_stay; faults_stay = are.faults_stay; calls = record { no_less = are.calls.no_less; no_more = no_more } }

later_cause : (before middle after : ShelfState) (name : List ℕ) (few : ℕ) (did last : List Load → Type 0) → AreLoads few before middle →
    HasCause (record { before = middle; after = after; did = last }) name → HasCause (record { before = before; after = after; did = did }) name
later_cause before middle after name few did last first cause =
    ⊎_elim (λ rose. let earlier = first.faults_stay in inl (omega (arith, rose, earlier))) (λ is_absent. inr (rw first.files_stay at is_absent)) cause

-- ---- where reading has come to

none_found : (told : Option Files) → IfSome told (λ shelf. found_in [] shelf ≡ Ok nothing)
unfolding found_after
none_found None = tt
none_found (Some shelf) = refl

pub no_loads : (most : ℕ) (state : ShelfState) → AreLoads most state state
no_loads most state =
    let same : state.faults ≤ state.faults = omega arith in
    let no_less : state.calls ≤ state.calls = omega arith in
    let no_more : state.calls ≤ state.calls + most = omega arith in
    record { files_stay = refl; faults_stay = same; calls = record { no_less = no_less; no_more = no_more } }

pub at_start : {S : Type 0} (told : S → ShelfState) (leads : S → List ℕ → Loaded → S → Type 0) (old : S) → AreRead (reading_of told leads old old) [] nothing
at_start told leads old = record { found = none_found (told old).files; loads = refl; few = no_loads 0 (told old) }

module _ {S : Type 0} (told : S → ShelfState) (leads : S → List ℕ → Loaded → S → Type 0) (old now next : S) where
  abbrev before : Reading
  before = reading_of told leads old now

  abbrev last : Reading
  last = reading_of told leads now next

  abbrev both : Reading
  both = reading_of told leads old next

  module _ (front : List NamedFile) (found : Found) (here : AreRead before front found) {X : Type 0} (kind : FileKind) (name : List ℕ) (value_of : List ℕ → Result X Fault) (with : X → Found) (holds : Holds found kind name value_of with) where
    few_more : AreLoads 1 (told now) (told next) → (rest : List NamedFile) → AreLoads (length (front ++ (kind, name) ∷ rest)) (told old) (told next)
    few_more one rest =
        let size = length-append front ((kind, name) ∷ rest) in
        let within : length front + 1 ≤ length (front ++ (kind, name) ∷ rest) = omega (arith, size) in
        fewer_loads (length front + 1) (length (front ++ (kind, name) ∷ rest)) (told old) (told next) within (loads_more (length front) 1 (told old) (told now) (told next) here.few one)

    then_loaded : (loaded : Loaded) → last.did ((name, loaded) ∷ []) → both.did (wholes front ++ (name, loaded) ∷ [])
    then_loaded loaded did = more leads old now next (wholes front) ((name, loaded) ∷ []) here.loads did

    -- one more file is read
    pub at_next : (x : X) → IsLoaded last kind name value_of (Ok x) → AreRead both (front ++ (kind, name) ∷ []) (with x)
    at_next x loaded = record {
      found = found_next found kind name value_of with holds front (told old).files x here.found (subst (λ (t : Option Files). Gave t kind name value_of (Ok x)) here.few.files_stay loaded.agrees);
      loads = subst both.did (sym (map-append (λ (file : NamedFile). (file.1, loads.Whole)) front ((kind, name) ∷ []))) (then_loaded loads.Whole loaded.loads);
      few = few_more loaded.one_load [];
    }

    -- or reading stops at it
    abbrev stopped_at : (rest : List NamedFile) (loaded : Loaded) → last.did ((name, loaded) ∷ []) → StopsAt both (front ++ (kind, name) ∷ rest) kind loaded
    stopped_at rest loaded did = record {
      front = front;
      name = name;
      rest = rest;
      in_order = refl;
      accepted = are_accepted (told old).files front found here.found;
      loads = then_loaded loaded did;
    }

    unread_at : (rest : List NamedFile) → last.did ((name, loads.Failed) ∷ []) → HasCause last name → IsUnread both (front ++ (kind, name) ∷ rest) kind
    unread_at rest did cause = record { stopped = stopped_at rest loads.Failed did; cause = later_cause (told old) (told now) (told next) name (length front) both.did last.did here.few cause }

    until : (rest : List NamedFile) (stop : Stop) → LoadsInVain last kind name stop → LoadsUntil both (front ++ (kind, name) ∷ rest) stop
    until rest (stops.Refused fault) vain =
        rw vain.0 (inl (⊎_elim (λ whole. inl (stopped_at rest loads.Whole whole)) (λ long. inr (stopped_at rest loads.Long long)) vain.1))
    until rest (stops.Unread file) vain = rw vain.0 (unread_at rest vain.1 vain.2)
    until rest stops.Memory vain = inr (kind, vain.0, stopped_at rest vain.0 vain.1)

    comes_to : {Y : Type 0} (rest : List NamedFile) (meaning : Found → Result Y Obstacle) (stop : Stop) → Agrees (Gave (told now).files kind name value_of) (Err stop) →
        Agrees (FilesComeTo (told old).files (front ++ (kind, name) ∷ rest) meaning) (Err stop)
    comes_to rest meaning (stops.Refused fault) is =
        rw (needs front rest (kind, name) (told old).files) (no_outcome (told old).files (front ++ (kind, name) ∷ rest) meaning (refused fault)
        (told_refused found kind name value_of with holds front (told old).files fault here.found (subst (λ (t : Option Files). Gave t kind name value_of (Err (refused fault))) here.few.files_stay is) rest))
    comes_to rest meaning (stops.Unread file) is = tt
    comes_to rest meaning stops.Memory is = tt

    pub stops_here : {Y : Type 0} (rest : List NamedFile) (meaning : Found → Result Y Obstacle) (stop : Stop) → IsLoaded last kind name value_of (Err stop) → IsRead both (front ++ (kind, name) ∷ rest) meaning (Err stop)
    stops_here rest meaning stop loaded = record {
      agrees = comes_to rest meaning stop loaded.agrees;
      loads = until rest stop loaded.loads;
      few = few_more loaded.one_load rest;
    }

-- ---- all files are read

module _ {Y : Type 0} (meaning : Found → Result Y Obstacle) (file : NamedFile) (files : List NamedFile) where
  meant : (told : Option Files) (found : Found) → IfSome told (λ shelf. found_in (file ∷ files) shelf ≡ Ok found) → FilesComeTo told (file ∷ files) meaning (meaning found)
  meant None found is = tt
  meant (Some shelf) found is = rw is refl

  module _ (reading : Reading) (found : Found) (here : AreRead reading (file ∷ files) found) where
    pub whole_read : (y : Y) → meaning found ≡ Ok y → IsRead reading (file ∷ files) meaning (Ok y)
    whole_read y is = record { agrees = rw is at (meant reading.before.files found here.found); loads = here.loads; few = here.few }

    -- but the queries are refused
    module _ {Z : Type 0} (wanted : Result Z Fault) (of : IsOf kinds.Query wanted) (passed : (fault : Fault) → wanted ≡ Err fault → meaning found ≡ Err (refused fault)) where
      refusal_agrees : (refusal : Refusal) → RefusesAs refusal wanted → Agrees (FilesComeTo reading.before.files (file ∷ files) meaning) (Err (stop_of refusal))
      refusal_agrees (refusals.Fault fault) refuses = rw (passed fault refuses) at (meant reading.before.files found here.found)
      refusal_agrees refusals.Memory refuses = tt

      refusal_loads : (refusal : Refusal) → RefusesAs refusal wanted → LoadsUntil reading (file ∷ files) (stop_of refusal)
      refusal_loads (refusals.Fault fault) refuses = inr (fault_of kinds.Query wanted fault of refuses, here.loads)
      refusal_loads refusals.Memory refuses = all_in_order reading (file ∷ files) here.loads

      pub queries_refused : (refusal : Refusal) → RefusesAs refusal wanted → IsRead reading (file ∷ files) meaning (Err (stop_of refusal))
      queries_refused refusal refuses = record { agrees = refusal_agrees refusal refuses; loads = refusal_loads refusal refuses; few = here.few }

-- ---- files that give nothing mean nothing

told_still : {Y : Type 0} (told : Option Files) (files : List NamedFile) (meaning : Found → Result Y Obstacle) (fault : Fault) → IfSome told (λ shelf. outcome_of files (λ found. Ok found) shelf ≡ Err (refused fault)) →
    IfSome told (λ shelf. outcome_of files meaning shelf ≡ Err (refused fault))
told_still None files meaning fault is = tt
told_still (Some shelf) files meaning fault is = still (found_in files shelf) meaning fault is where
  still : {Y : Type 0} (read : Result Found Obstacle) (meaning : Found → Result Y Obstacle) (fault : Fault) → (read >>= λ found. Ok found) ≡ Err (refused fault) → (read >>= meaning) ≡ Err (refused fault)
  still (Ok found) meaning fault is = let no : ⊥ = cc in absurd no
  still (Err obstacle) meaning fault is = let same : obstacle ≡ refused fault = cc in rw same refl

module _ {Y : Type 0} (reading : Reading) (files : List NamedFile) (meaning : Found → Result Y Obstacle) where
  still_agrees : (stop : Stop) → Agrees (FilesComeTo reading.before.files files (λ found. Ok found)) (Err stop) → Agrees (FilesComeTo reading.before.files files meaning) (Err stop)
  still_agrees (stops.Refused fault) is = told_still (needed files reading.before.files) files meaning fault is
  still_agrees (stops.Unread kind) is = tt
  still_agrees stops.Memory is = tt

  pub still_stops : (stop : Stop) → IsRead reading files (λ found. Ok found) (Err stop) → IsRead reading files meaning (Err stop)
  still_stops stop read = record { agrees = still_agrees stop read.agrees; loads = read.loads; few = read.few }

-- ---- what is read, made into something else

module _ {X Y : Type 0} (f : X → Y) (files : List NamedFile) (meaning : Found → Result X Obstacle) where
  told_as : (told : Option Files) (outcome : Result X Obstacle) → IfSome told (λ shelf. outcome_of files meaning shelf ≡ outcome) → IfSome told (λ shelf. outcome_of files (λ found. mapped f (meaning found)) shelf ≡ mapped f outcome)
  told_as None outcome is = tt
  told_as (Some shelf) outcome is = through (found_in files shelf) ∙ ap (mapped f) is where
    through : (read : Result Found Obstacle) → (read >>= λ found. mapped f (meaning found)) ≡ mapped f (read >>= meaning)
    through (Ok found) = refl
    through (Err obstacle) = refl

  module _ (reading : Reading) where
    agrees_as : (result : Result X Stop) → Agrees (FilesComeTo reading.before.files files meaning) result → Agrees (FilesComeTo reading.before.files files (λ found. mapped f (meaning found))) (mapped f result)
    agrees_as (Ok x) is = told_as (needed files reading.before.files) (Ok x) is
    agrees_as (Err (stops.Refused fault)) is = told_as (needed files reading.before.files) (Err (refused fault)) is
    agrees_as (Err (stops.Unread kind)) is = tt
    agrees_as (Err stops.Memory) is = tt

    loads_as : (result : Result X Stop) → LoadsFiles reading files result → LoadsFiles reading files (mapped f result)
    loads_as (Ok x) loads = loads
    loads_as (Err stop) loads = loads

    pub read_as : (result : Result X Stop) → IsRead reading files meaning result → IsRead reading files (λ found. mapped f (meaning found)) (mapped f result)
    read_as result read = record { agrees = agrees_as result read.agrees; loads = loads_as result read.loads; few = read.few }

-- without files nothing is loaded
pub none_to_read : {S X : Type 0} (told : S → ShelfState) (leads : S → List ℕ → Loaded → S → Type 0) (shelf : S) (x : X) → IsRead (reading_of told leads shelf shelf) [] (λ found. Ok x) (Ok x)
unfolding found_after
none_to_read told leads shelf x = record { agrees = refl; loads = refl; few = no_loads 0 (told shelf) }
