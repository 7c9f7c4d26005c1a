-- What was read of the files of a command.
use Rattle.std.specs.Prelude.{All, Result}
use Rattle.std.specs.List.{AllPass}
use Rattle.pc_model.specs.Membership.{in_domain}
use Rattle.pc_model.specs.Accepted.{AreConstraints, IsQuery}
use Rattle.pc_model.specs.WellFormed.{IsWellFormed}
use Rattle.pc_lang.specs.Quantiles.{IsQuantile}
use Rattle.pc_rows.specs.declared.case.Case.{Case}
use Rattle.pc_files.specs.declared.stop.Stop.{Stop}
use Rattle.pc_files.specs.Loading.{Reading, IsRead}
use Rattle.pc_files.specs.Reads.{IsScripted, IsShowable, IsUsable}
use Rattle.pc_run_words.specs.declared.command.Bound.{Bound}
use Rattle.pc_run_words.specs.declared.command.Check.{Check}
use Rattle.pc_run_words.specs.declared.command.Quantile.{Quantile}
use Rattle.pc_run_words.specs.declared.command.Session.{Session}
use Rattle.pc_run_words.specs.declared.command.Command.{Command}
use Rattle.pc_run_words.specs.declared.command.Command.TheVariants as commands
use Rattle.pc_run_words.specs.Commands.{asked_in, bound_names, quantile_names}
use Rattle.pc_run_words.specs.Words.{bound, quantile, IsBudget, IsSize}
use Rattle.pc_run.specs.declared.input.Claim.{Claim}
use Rattle.pc_run.specs.declared.input.Input.{Input}
use Rattle.pc_run.specs.declared.input.Input.TheVariants.{Asks, Proves, Claims, Shows, Contradicts, Measures, Follows, Makes}
use Rattle.pc_run.specs.declared.input.Measured.{Measured}
use Rattle.pc_run.specs.Outcome.{files_of, case_in, measured_in, input_in}

-- what the answer and its report need of what was read
pub record IsSound (case : Case) : Type 0 where
  pub well_formed : IsWellFormed case.schema
  pub seen : AllPass (in_domain case.schema) case.rows
  pub accepted : AreConstraints case.schema case.constraints
  pub asked : All (IsQuery case.schema) case.queries

abbrev pub IsCheckable : Claim → Type 0
IsCheckable claim = IsUsable claim.observed

-- what the answer to a quantile and its text need of what was read
pub record IsMeasurable (measured : Measured) : Type 0 where
  pub usable : IsUsable measured.observed
  pub asked : IsQuantile measured.observed.schema measured.asked

-- what was read is as its command needs it
abbrev pub IsSoundInput : Input → Type 0
IsSoundInput (Asks nodes case) = IsSound case × IsBudget nodes
IsSoundInput (Proves nodes case) = IsSound case × IsBudget nodes
IsSoundInput (Claims claim) = IsCheckable claim
IsSoundInput (Shows listing) = IsShowable listing
IsSoundInput (Contradicts nodes listing) = IsShowable listing × IsBudget nodes
IsSoundInput (Measures nodes measured) = IsMeasurable measured × IsBudget nodes
IsSoundInput (Follows nodes scripted) = IsScripted scripted × IsBudget nodes
IsSoundInput (Makes numbers) = IsSize numbers.size

-- what reading the files of a command answers
abbrev pub ReadsCase : Reading → Bound → Result Case Stop → Type 0
ReadsCase reading command result = IsRead reading (files_of (bound (bound_names command))) (case_in (bound_names command).queries) result

abbrev pub ReadsCommand : Reading → Command → Result Input Stop → Type 0
ReadsCommand reading command result = IsRead reading (files_of (asked_in command)) (input_in (asked_in command)) result

abbrev pub ReadsClaim : Reading → Check → Result Input Stop → Type 0
ReadsClaim reading command result = ReadsCommand reading (commands.Check command) result

abbrev pub ReadsSession : Reading → Session → Result Input Stop → Type 0
ReadsSession reading command result = ReadsCommand reading (commands.Session command) result

abbrev pub ReadsMeasured : Reading → Quantile → Result Measured Stop → Type 0
ReadsMeasured reading command result = IsRead reading (files_of (quantile (quantile_names command))) (measured_in (quantile_names command).query) result
