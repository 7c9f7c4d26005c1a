-- What was read of files, and what reading them answers.
use Rattle.std.specs.Prelude.{List, [], ◌++◌, ℕ, Result, Ok, Err}
use Rattle.std.specs.List.{AllPass}
use Rattle.pc_model.specs.Membership.{in_domain}
use Rattle.pc_model.specs.Accepted.{AreConstraints}
use Rattle.pc_model.specs.WellFormed.{IsWellFormed}
use Rattle.pc_session.specs.Edited.{CanFollowAll, Held}
use Rattle.pc_files.specs.declared.stop.Stop.{Stop}
use Rattle.pc_files.specs.declared.reading.Limited.{Limited}
use Rattle.pc_files.specs.declared.reading.Listing.{Listing}
use Rattle.pc_files.specs.declared.reading.Observed.{Observed}
use Rattle.pc_files.specs.declared.reading.Scripted.{Scripted}
use Rattle.pc_files.specs.Loading.{Reading, AreRead, IsRead}
use Rattle.pc_files.specs.Outcome.{NamedFile, Found, limit_files, limited_in, listed_files, no_script, observed_files, script_files, scripted_in}

-- what answers need of what was observed
pub record IsUsable (observed : Observed) : Type 0 where
  pub well_formed : IsWellFormed observed.schema
  pub seen : AllPass (in_domain observed.schema) observed.rows
  pub accepted : AreConstraints observed.schema observed.constraints

-- what the text of constraints needs of what was read
pub record IsShowable (listing : Listing) : Type 0 where
  pub well_formed : IsWellFormed listing.schema
  pub accepted : AreConstraints listing.schema listing.constraints

-- what those who limit need of what was read
pub record IsLimited (limited : Limited) : Type 0 where
  pub well_formed : IsWellFormed limited.schema
  pub accepted : AreConstraints limited.schema limited.all

-- what is held before the first line of a script
abbrev pub start_of : Scripted → Held
start_of scripted = record { rows = scripted.observed.rows; constraints = scripted.observed.constraints }

-- what those who follow a script need of what was read
pub record IsScripted (scripted : Scripted) : Type 0 where
  pub usable : IsUsable scripted.observed
  pub can : CanFollowAll scripted.observed.schema (start_of scripted) scripted.script.lines

-- the schema, the observed rows and the constraints that were found
abbrev pub found_of : Observed → Found
found_of observed = record { schema = observed.schema; rows = observed.rows; constraints = observed.constraints; limited = []; bytes = []; script = no_script }

-- what reading a schema, observed rows and constraints answers: what was found in them, or why they give nothing, whatever files follow
abbrev pub ReadsObserved : Reading → List ℕ → List ℕ → List ℕ → Result Observed Stop → Type 0
ReadsObserved reading schema rows constraints (Ok observed) = AreRead reading (observed_files schema rows constraints) (found_of observed)
ReadsObserved reading schema rows constraints (Err stop) = (rest : List NamedFile) → IsRead reading (observed_files schema rows constraints ++ rest) (λ found. Ok found) (Err stop)

-- .. a schema and constraints alone
abbrev pub found_listed : Listing → Found
found_listed listing = record { schema = listing.schema; rows = []; constraints = listing.constraints; limited = []; bytes = []; script = no_script }

abbrev pub ReadsListing : Reading → List ℕ → List ℕ → Result Listing Stop → Type 0
ReadsListing reading schema constraints (Ok listing) = AreRead reading (listed_files schema constraints) (found_listed listing)
ReadsListing reading schema constraints (Err stop) = (rest : List NamedFile) → IsRead reading (listed_files schema constraints ++ rest) (λ found. Ok found) (Err stop)

-- .. a schema, constraints and limits
abbrev pub ReadsLimited : Reading → List ℕ → List ℕ → List ℕ → Result Limited Stop → Type 0
ReadsLimited reading schema constraints limits result = IsRead reading (limit_files schema constraints limits) (λ (found : Found). Ok (limited_in found)) result

-- .. a schema, observed rows, constraints and a script
abbrev pub ReadsScripted : Reading → List ℕ → List ℕ → List ℕ → List ℕ → Result Scripted Stop → Type 0
ReadsScripted reading schema rows constraints script result = IsRead reading (script_files schema rows constraints script) (λ (found : Found). Ok (scripted_in found)) result
