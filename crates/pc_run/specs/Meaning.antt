-- What the status of a run means for the files, the words and what was written.
use Rattle.std.specs.Prelude.{◌≡◌, ℕ, ◌⊎◌, List, [], Some, None, Ok, Err, IsSomeAnd}
use Rattle.pc_model.specs.declared.fault.FileKind.{FileKind}
use Rattle.pc_model.specs.declared.fault.Fault.{Fault}
use Rattle.pc_base.specs.declared.status.Status.{Status}
use Rattle.pc_base.specs.declared.status.Status.TheVariants as ended
use Rattle.pc_base.specs.Counts.{Rose}
use Rattle.pc_run_words.specs.Words.{Asked, CheckNames, check, command_of}
use Rattle.pc_rows.specs.declared.case.Case.{Case}
use Rattle.pc_run.specs.declared.input.Claim.{Claim}
use Rattle.pc_run.specs.declared.input.Input.{Input}
use Rattle.pc_run.specs.declared.input.Input.TheVariants.{Claims}
use Rattle.pc_run.specs.Inputs.{IsSoundInput}
use Rattle.pc_files.specs.Loading.{Reading, IsUnread, LoadsAll, EndsAt}
use Rattle.pc_files.specs.Outcome.{refused}
use Rattle.pc_files.specs.Texts.{fault_line, malformed_line}
use Rattle.pc_files.specs.Writing.{Writing, IsCutOff, IsTold, IsUntouched, IsWritten}
use Rattle.pc_run.specs.Outcome.{files_of, accepted_under, AreInOrder, ComesTo, AreAccepted}
use Rattle.pc_run.specs.Replies.{BreaksFirst, SaysInput, SaysProof, SpellsUnbroken}
use Rattle.pc_run.specs.Reports.{usage_line}

-- what a run is given and what it leaves: the words, the shelf and the sink
pub record Call : Type 1 where
  pub words : List (List ℕ)
  pub reading : Reading
  pub writing : Writing

abbrev pub call_of : List (List ℕ) → Reading → Writing → Call
call_of words reading writing = record { words = words; reading = reading; writing = writing }

-- The words are a command whose files are accepted and come to this input, which is as the command needs it; and this is what is
-- said of it, with this status.
pub record IsAnswered (call : Call) (status : Status) (text : List ℕ) : Type 0 where
  pub asked : Asked
  pub command : command_of call.words ≡ Some asked
  pub input : Input
  pub agrees : ComesTo call.reading.before.files asked (Ok input)
  pub sound : IsSoundInput input
  pub loads : LoadsAll call.reading (files_of asked)
  pub says : SaysInput input status text

-- what is said was written
pub record HasEnded (call : Call) (status : Status) : Type 0 where
  pub text : List ℕ
  pub answered : IsAnswered call status text
  pub written : IsWritten call.writing text

pub record HasWriteFault (call : Call) : Type 0 where
  pub status : Status
  pub text : List ℕ
  pub answered : IsAnswered call status text
  pub cut_off : IsCutOff call.writing text

pub record IsNoCommand (call : Call) : Type 0 where
  pub no_command : command_of call.words ≡ None
  pub loads : call.reading.did []
  pub told : IsTold call.writing usage_line

-- a file or the query has a first fault, and nothing was loaded after that file
pub record IsRefused (call : Call) : Type 0 where
  pub asked : Asked
  pub command : command_of call.words ≡ Some asked
  pub fault : Fault
  pub agrees : ComesTo call.reading.before.files asked (Err (refused fault))
  pub loads : EndsAt call.reading (files_of asked) fault.file
  pub told : IsTold call.writing (malformed_line fault)

-- the last load failed, and no other
pub record HasReadFault (call : Call) : Type 0 where
  pub asked : Asked
  pub command : command_of call.words ≡ Some asked
  pub file : FileKind
  pub unread : IsUnread call.reading (files_of asked) file
  pub told : IsTold call.writing (fault_line file)

-- nothing was written
pub record HasNoMemory (call : Call) : Type 0 where
  pub untouched : IsUntouched call.writing
  pub in_order : AreInOrder call.reading (command_of call.words)

abbrev pub Means : Call → Status → Type 0
Means call ended.Done = HasEnded call ended.Done
Means call ended.SaidNo = HasEnded call ended.SaidNo
Means call ended.Usage = IsNoCommand call
Means call ended.Malformed = IsRefused call
Means call ended.ReadFault = HasReadFault call
Means call ended.WriteFault = HasWriteFault call
Means call ended.Memory = HasNoMemory call

-- the words are a command whose files are held and accepted, and no load and no put failed
pub record IsAnswerable (call : Call) : Type 0 where
  pub asked : Asked
  pub command : command_of call.words ≡ Some asked
  pub accepted : AreAccepted call.reading.before.files asked
  pub loads : ¬ Rose call.reading.before.faults call.reading.after.faults
  pub puts : ¬ Rose call.writing.before.faults call.writing.after.faults

-- such a run is done, or says no where a document is checked, or there was no memory for it
abbrev pub IsAnswer : Asked → Status → Type 0
IsAnswer (check names) status = (status ≡ ended.Done) ⊎ (status ≡ ended.SaidNo)
IsAnswer asked status = status ≡ ended.Done

abbrev pub IsAnswerUnlessMemory : Asked → Status → Type 0
IsAnswerUnlessMemory asked status = IsAnswer asked status ⊎ (status ≡ ended.Memory)

-- ---- what is checked

-- The words check bytes that are held and not too long, with a schema, observed rows and constraints that are accepted; and no
-- load and no put failed.
pub record ChecksClaim (call : Call) : Type 0 where
  pub names : CheckNames
  pub command : command_of call.words ≡ Some (check names)
  pub claim : Claim
  pub held : IsSomeAnd call.reading.before.files (λ shelf. accepted_under (check names) shelf ≡ Ok (Claims claim))
  pub loads : ¬ Rose call.reading.before.faults call.reading.after.faults
  pub puts : ¬ Rose call.writing.before.faults call.writing.after.faults

-- the bytes are a document that `prove` wrote for the same schema, observed rows and constraints, whatever the queries and the
-- budget were
pub record IsProved (claim : Claim) : Type 0 where
  pub nodes : ℕ
  pub case : Case
  pub same_schema : claim.observed.schema ≡ case.schema
  pub same_rows : claim.observed.rows ≡ case.rows
  pub same_constraints : claim.observed.constraints ≡ case.constraints
  pub proof : SaysProof nodes case claim.bytes

abbrev pub IsDoneUnlessMemory : Status → Type 0
IsDoneUnlessMemory status = (status ≡ ended.Done) ⊎ (status ≡ ended.Memory)

abbrev pub SaysNoUnlessMemory : Status → Type 0
SaysNoUnlessMemory status = (status ≡ ended.SaidNo) ⊎ (status ≡ ended.Memory)

-- What is promised of a call that ends with this status: what the status means; that input which can be answered is; what is
-- said of each document that is checked; and that what `prove` wrote gets a yes.
pub record KeepsPromise (call : Call) (status : Status) : Type 0 where
  pub means : Means call status
  pub answers : (can : IsAnswerable call) → IsAnswerUnlessMemory can.asked status
  pub says_yes : (checks : ChecksClaim call) → SpellsUnbroken checks.claim → IsDoneUnlessMemory status
  pub says_no : (checks : ChecksClaim call) (line rule : ℕ) → BreaksFirst checks.claim line rule → SaysNoUnlessMemory status
  pub agrees : (checks : ChecksClaim call) → IsProved checks.claim → IsDoneUnlessMemory status
