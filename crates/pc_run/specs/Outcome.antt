-- What the files of a command come to, or what stands in the way.
use Rattle.std.specs.Prelude.{ℕ, List, [], ◌∷◌, ◌++◌, length, Option, Some, None, Result, Ok, IsSomeAnd, IsOk}
use Rattle.pc_model.specs.declared.fault.FileKind.TheVariants as kinds
use Rattle.pc_model.specs.Refusals.{◌>>=◌}
use Rattle.pc_base.specs.Files.{Files}
use Rattle.pc_rows.specs.declared.case.Case.{Case}
use Rattle.pc_lang.specs.Quantiles.{quantile_at}
use Rattle.pc_files.specs.Loading.{Reading, IsInOrder}
use Rattle.pc_files.specs.Outcome.{Obstacle, NamedFile, observed_files, listed_files, Found, observed_in, listing_in, or_refused, queries_of, script_files, scripted_in, mapped, outcome_of, needed, FilesComeTo}
use Rattle.pc_run.specs.declared.input.Claim.{Claim}
use Rattle.pc_run.specs.declared.input.Input.{Input}
use Rattle.pc_run.specs.declared.input.Input.TheVariants.{Asks, Proves, Claims, Shows, Contradicts, Measures, Follows, Makes}
use Rattle.pc_run.specs.declared.input.Measured.{Measured}
use Rattle.pc_run_words.specs.Words.{GenNumbers, Asked, bound, prove, check, show, conflict, quantile, session, gen}

-- ---- the files of a command

-- in the order in which they are read
abbrev pub files_of : Asked → List NamedFile
files_of (bound names) = observed_files names.schema names.rows names.constraints
files_of (prove names) = observed_files names.schema names.rows names.constraints
files_of (check names) = observed_files names.schema names.rows names.constraints ++ (kinds.Document, names.document) ∷ []
files_of (show names) = listed_files names.schema names.constraints
files_of (conflict names) = listed_files names.files.schema names.files.constraints
files_of (quantile names) = observed_files names.schema names.rows names.constraints
files_of (session names) = script_files names.schema names.rows names.constraints names.script
files_of (gen numbers) = []

-- how many files a command has
abbrev pub file_count : Option Asked → ℕ
file_count None = 0
file_count (Some asked) = length (files_of asked)

-- ---- what they come to

-- a case of what was found and the queries of texts
abbrev pub case_in : List (List ℕ) → Found → Result Case Obstacle
case_in texts found = do
  queries ← or_refused (queries_of found.schema texts)
  Ok (record { schema = found.schema; rows = found.rows; constraints = found.constraints; queries = queries })

abbrev pub claim_in : Found → Claim
claim_in found = record { observed = observed_in found; bytes = found.bytes }

-- a quantile of what was found, and the query of a text
abbrev pub measured_in : List ℕ → Found → Result Measured Obstacle
measured_in text found = do
  asked ← or_refused (quantile_at found.schema 1 text)
  Ok (record { observed = observed_in found; asked = asked })

abbrev pub made : GenNumbers → Input
made numbers = Makes (record { seed = numbers.seed; size = numbers.size })

-- what a command comes to, with what was found in its files
abbrev pub input_in : Asked → Found → Result Input Obstacle
input_in (bound names) found = mapped (Asks names.nodes) (case_in names.queries found)
input_in (prove names) found = mapped (Proves names.nodes) (case_in names.queries found)
input_in (check names) found = Ok (Claims (claim_in found))
input_in (show names) found = Ok (Shows (listing_in found))
input_in (conflict names) found = Ok (Contradicts names.nodes (listing_in found))
input_in (quantile names) found = mapped (Measures names.nodes) (measured_in names.query found)
input_in (session names) found = Ok (Follows names.nodes (scripted_in found))
input_in (gen numbers) found = Ok (made numbers)

-- what a command comes to with its files
abbrev pub accepted_under : Asked → Files → Result Input Obstacle
accepted_under asked shelf = outcome_of (files_of asked) (input_in asked) shelf

-- where the shelf tells its files, the command comes to this with them; a case that is made needs none
abbrev pub ComesTo : Option Files → Asked → Result Input Obstacle → Type 0
ComesTo told asked outcome = FilesComeTo told (files_of asked) (input_in asked) outcome

-- the shelf tells files that are held and accepted; a case that is made needs none
abbrev pub AreAccepted : Option Files → Asked → Type 0
AreAccepted told asked = IsSomeAnd (needed (files_of asked) told) (λ shelf. IsOk (accepted_under asked shelf))

-- which loads there were, in order, of words that may be no command
abbrev pub AreInOrder : Reading → Option Asked → Type 0
AreInOrder reading None = reading.did []
AreInOrder reading (Some asked) = IsInOrder reading (files_of asked)
