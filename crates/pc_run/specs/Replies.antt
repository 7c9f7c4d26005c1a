-- With which status and text a run replies to the files of a command.
use Rattle.std.specs.Prelude.{◌≡◌, ◌↔◌, ℕ, ◌⊎◌, ⊤, Bool, false, IsTrue, List, [], length, All, Some, None, Result, Ok, Err, IfOk}
use Rattle.std.specs.List.{AllZip, concat}
use Rattle.pc_model.specs.declared.fault.FileKind.{FileKind}
use Rattle.pc_model.specs.Membership.{AreDisjoint}
use Rattle.pc_model.specs.Right.{is_impossible}
use Rattle.pc_base.specs.declared.status.Status.{Status}
use Rattle.pc_base.specs.declared.status.Status.TheVariants as ended
use Rattle.pc_proof.specs.declared.document.Document.{Document}
use Rattle.pc_proof.specs.declared.document.Block.{Block}
use Rattle.pc_proof.specs.Documents.{AreRight, AreUnbroken, IsFirstBrokenIn, premises_of}
use Rattle.pc_proof.specs.Unbroken.{plain_relation}
use Rattle.pc_document.specs.DocumentLines.{document_text}
use Rattle.pc_document.specs.Told.{IsDocumentText, IsFaultLine}
use Rattle.pc_report.specs.Report.{report_text}
use Rattle.pc_report.specs.Summary.{summary_text}
use Rattle.pc_agg_search.specs.Easy.{IsEasy}
use Rattle.pc_conflict.specs.declared.conflict.Conflict.{Conflict}
use Rattle.pc_conflict.specs.Conflicts.{IsConflict, IsDecided}
use Rattle.pc_conflict.specs.Texts.{conflict_text}
use Rattle.pc_lang.specs.Quantiles.{quantile_text}
use Rattle.pc_quantile.specs.declared.answer.QuantileAnswer.{QuantileAnswer}
use Rattle.pc_quantile.specs.Licensed.{Owes}
use Rattle.pc_quantile.specs.Texts.{block_text}
use Rattle.pc_gen.specs.Generated.{generated_case}
use Rattle.pc_rows.specs.declared.case.Case.{Case}
use Rattle.pc_session.specs.Edited.{cases_of}
use Rattle.pc_files.specs.declared.stop.Stop.{Stop}
use Rattle.pc_files.specs.declared.stop.Stop.TheVariants as stops
use Rattle.pc_run_words.specs.declared.command.Gen.{Gen}
use Rattle.pc_run_words.specs.Words.{Asked, command_of, usual_nodes}
use Rattle.pc_files.specs.Outcome.{Obstacle, refused, absent}
use Rattle.pc_files.specs.Loading.{Reading, IsUnread, LoadsAll, EndsAt, IsInOrder}
use Rattle.pc_files.specs.Texts.{fault_line, malformed_line}
use Rattle.pc_files.specs.declared.reading.Listing.{Listing}
use Rattle.pc_files.specs.declared.reading.Scripted.{Scripted}
use Rattle.pc_files.specs.declared.reply.Reply.{Reply}
use Rattle.pc_files.specs.Reads.{start_of}
use Rattle.pc_run.specs.Outcome.{files_of, file_count, AreInOrder, ComesTo}
use Rattle.pc_run.specs.Inputs.{IsSoundInput}
use Rattle.pc_num.specs.declared.memory.Memory.{Memory}
use Rattle.pc_base.specs.Shelves.{ShelfState, AreLoads}
use Rattle.pc_run.specs.Reports.{usage_line, listing_of, yes_line, no_line}
use Rattle.pc_run.specs.Answers.{AnswersCase}
use Rattle.pc_check.specs.declared.verdict.Verdict.{Verdict}
use Rattle.pc_check.specs.declared.verdict.Verdict.TheVariants as verdicts
use Rattle.pc_run.specs.declared.input.Claim.{Claim}
use Rattle.pc_run.specs.declared.input.Input.{Input}
use Rattle.pc_run.specs.declared.input.Input.TheVariants.{Asks, Proves, Claims, Shows, Contradicts, Measures, Follows, Makes}
use Rattle.pc_run.specs.declared.input.Measured.{Measured}

-- the reply where files give nothing
abbrev pub RepliesToStop : Stop → Status → List ℕ → Type 0
RepliesToStop (stops.Refused fault) status text = (status ≡ ended.Malformed) × (text ≡ malformed_line fault)
RepliesToStop (stops.Unread file) status text = (status ≡ ended.ReadFault) × (text ≡ fault_line file)
RepliesToStop stops.Memory status text = ⊥

-- the text is the report of a document that answers the case, by searches of at most so many nodes each
pub record SaysReport (nodes : ℕ) (case : Case) (text : List ℕ) : Type 0 where
  pub document : Document
  pub answers : AnswersCase nodes case document
  pub reported : text ≡ report_text case.schema document

-- the text is that of a document that answers the case, by searches of at most so many nodes each
pub record SaysProof (nodes : ℕ) (case : Case) (text : List ℕ) : Type 0 where
  pub document : Document
  pub answers : AnswersCase nodes case document
  pub proved : text ≡ document_text case.schema document

-- ---- the verdict on a document

-- the bytes are the text of a document that breaks no rule
pub record SpellsUnbroken (claim : Claim) : Type 0 where
  pub document : Document
  pub spelled : IsDocumentText claim.observed.schema claim.bytes document
  pub unbroken : AreUnbroken (premises_of claim.observed.schema claim.observed.rows claim.observed.constraints) None document.blocks

-- the bytes are the text of a document that breaks no rule, and each of its blocks is right
pub record IsUnbrokenText (claim : Claim) : Type 0 where
  pub document : Document
  pub spelled : IsDocumentText claim.observed.schema claim.bytes document
  pub unbroken : AreUnbroken (premises_of claim.observed.schema claim.observed.rows claim.observed.constraints) None document.blocks
  pub right : AreRight (premises_of claim.observed.schema claim.observed.rows claim.observed.constraints) document.blocks

-- this line of the document that the bytes spell is the first that breaks a rule, which this is
pub record BreaksRule (claim : Claim) (line rule : ℕ) : Type 0 where
  pub document : Document
  pub spelled : IsDocumentText claim.observed.schema claim.bytes document
  pub first : IsFirstBrokenIn (premises_of claim.observed.schema claim.observed.rows claim.observed.constraints) None 2 line rule document.blocks

-- the bytes are the text of no document, and this is the line of the first fault
pub record IsNoDocument (claim : Claim) (line rule : ℕ) : Type 0 where
  pub fault : IsFaultLine claim.observed.schema claim.bytes line
  pub first_rule : rule ≡ 1

-- the first rule that is broken, with its line
abbrev pub BreaksFirst : Claim → ℕ → ℕ → Type 0
BreaksFirst claim line rule = IsNoDocument claim line rule ⊎ BreaksRule claim line rule

abbrev pub HasVerdict : Claim → Verdict → Type 0
HasVerdict claim verdicts.Yes = IsUnbrokenText claim
HasVerdict claim (verdicts.No line rule) = BreaksFirst claim line rule

abbrev pub status_of : Verdict → Status
status_of verdicts.Yes = ended.Done
status_of (verdicts.No line rule) = ended.SaidNo

abbrev pub verdict_line : Verdict → List ℕ
verdict_line verdicts.Yes = yes_line
verdict_line (verdicts.No line rule) = no_line line rule

-- the status and the text say what the verdict is
pub record SaysVerdict (claim : Claim) (status : Status) (text : List ℕ) : Type 0 where
  pub verdict : Verdict
  pub holds : HasVerdict claim verdict
  pub ended : status ≡ status_of verdict
  pub said : text ≡ verdict_line verdict

-- ---- made cases

-- a block that does not say that no relation is possible
abbrev pub IsPossibleBlock : Block → Type 0
IsPossibleBlock block = is_impossible (plain_relation block.answer.relation) ≡ false

-- the case that a seed and a size make
abbrev pub made_case : Gen → Case
made_case numbers = generated_case numbers.seed numbers.size

abbrev pub summary_of : Case → Document → List ℕ
summary_of case document = summary_text case.schema (length case.rows) (length case.constraints) document

-- the text is the summary of a document that answers the case, and says of no query that no relation is possible
pub record SaysSummary (case : Case) (text : List ℕ) : Type 0 where
  pub document : Document
  pub answers : AnswersCase usual_nodes case document
  pub possible : All IsPossibleBlock document.blocks
  pub summed : text ≡ summary_of case document

-- the text is that of the constraints, and then it says whether no two of them speak of one row
pub record SaysListing (listing : Listing) (text : List ℕ) : Type 0 where
  pub disjoint : Bool
  pub means : IsTrue disjoint ↔ AreDisjoint listing.schema listing.constraints
  pub listed : text ≡ listing_of listing disjoint

-- the text is that of an answer to which constraints contradict each other, by searches of at most so many nodes each
pub record SaysConflict (nodes : ℕ) (listing : Listing) (text : List ℕ) : Type 0 where
  pub answer : Conflict
  pub found : IsConflict listing.schema listing.constraints nodes answer
  pub decided : IsEasy listing.schema listing.constraints → IsDecided answer
  pub said : text ≡ conflict_text listing.schema listing.constraints answer

-- the text is that of the answer to a quantile, by searches of at most so many nodes each
pub record SaysQuantile (nodes : ℕ) (measured : Measured) (text : List ℕ) : Type 0 where
  pub answer : QuantileAnswer
  pub owes : Owes measured.observed.schema measured.observed.rows measured.observed.constraints measured.asked nodes answer
  pub said : text ≡ block_text measured.observed.schema (quantile_text measured.observed.schema measured.asked) measured.asked answer

-- the text is that of the reports of the cases, one after the other, and nothing else
pub record SaysReports (nodes : ℕ) (cases : List Case) (text : List ℕ) : Type 0 where
  pub texts : List (List ℕ)
  pub each : AllZip (SaysReport nodes) cases texts
  pub joined : text ≡ concat texts

-- .. of the cases that the lines of a session ask about
abbrev pub SaysSession : ℕ → Scripted → List ℕ → Type 0
SaysSession nodes scripted text = SaysReports nodes (cases_of scripted.observed.schema (start_of scripted) scripted.script.lines) text

abbrev pub SaysInput : Input → Status → List ℕ → Type 0
SaysInput (Asks nodes case) status text = (status ≡ ended.Done) × SaysReport nodes case text
SaysInput (Proves nodes case) status text = (status ≡ ended.Done) × SaysProof nodes case text
SaysInput (Claims claim) status text = SaysVerdict claim status text
SaysInput (Shows listing) status text = (status ≡ ended.Done) × SaysListing listing text
SaysInput (Contradicts nodes listing) status text = (status ≡ ended.Done) × SaysConflict nodes listing text
SaysInput (Measures nodes measured) status text = (status ≡ ended.Done) × SaysQuantile nodes measured text
SaysInput (Follows nodes scripted) status text = (status ≡ ended.Done) × SaysSession nodes scripted text
SaysInput (Makes numbers) status text = (status ≡ ended.Done) × SaysSummary (made_case numbers) text

-- the reply to files that are accepted, or refused
abbrev pub Says : Result Input Obstacle → Status → List ℕ → Type 0
Says (Ok input) status text = SaysInput input status text
Says (Err (refused fault)) status text = (status ≡ ended.Malformed) × (text ≡ malformed_line fault)
Says (Err (absent file)) status text = ⊥

-- which loads there were before this outcome
abbrev pub LoadsOutcome : Reading → Asked → Result Input Obstacle → Type 0
LoadsOutcome reading asked (Ok input) = LoadsAll reading (files_of asked)
LoadsOutcome reading asked (Err (refused fault)) = EndsAt reading (files_of asked) fault.file
LoadsOutcome reading asked (Err (absent file)) = ⊤

-- the reply to an outcome, which is that of the files where the shelf tells them
pub record SaysOutcome (reading : Reading) (asked : Asked) (status : Status) (text : List ℕ) : Type 0 where
  pub outcome : Result Input Obstacle
  pub sound : IfOk outcome IsSoundInput
  pub says : Says outcome status text
  pub agrees : ComesTo reading.before.files asked outcome
  pub loads : LoadsOutcome reading asked outcome

-- the reply to a load that failed, which was the last one
pub record SaysFault (reading : Reading) (asked : Asked) (status : Status) (text : List ℕ) : Type 0 where
  pub file : FileKind
  pub unread : IsUnread reading (files_of asked) file
  pub ended : status ≡ ended.ReadFault
  pub line : text ≡ fault_line file

abbrev pub RepliesTo : Reading → Asked → Status → List ℕ → Type 0
RepliesTo reading asked status text = SaysFault reading asked status text ⊎ SaysOutcome reading asked status text

pub record RepliesToCommand (reading : Reading) (words : List (List ℕ)) (status : Status) (text : List ℕ) : Type 0 where
  pub asked : Asked
  pub command : command_of words ≡ Some asked
  pub replies : RepliesTo reading asked status text

-- the words are no command, and nothing is loaded
pub record RepliesToNone (reading : Reading) (words : List (List ℕ)) (status : Status) (text : List ℕ) : Type 0 where
  pub none : command_of words ≡ None
  pub ended : status ≡ ended.Usage
  pub line : text ≡ usage_line
  pub loads : reading.did []

-- the reply to any words
abbrev pub Responds : Reading → List (List ℕ) → Status → List ℕ → Type 0
Responds reading words status text = RepliesToNone reading words status text ⊎ RepliesToCommand reading words status text

-- at most as many loads as the command that the words are has files
abbrev pub AreLoadsFor : List (List ℕ) → ShelfState → ShelfState → Type 0
AreLoadsFor words before after = AreLoads (file_count (command_of words)) before after

-- what is answered to a command, and which loads there were
pub record AnswersCommand (reading : Reading) (asked : Asked) (result : Result (Reply Status) Memory) : Type 0 where
  pub replies : IfOk result (λ reply. RepliesTo reading asked reply.status reply.text)
  pub in_order : IsInOrder reading (files_of asked)
  pub few : AreLoads (length (files_of asked)) reading.before reading.after

-- what is answered to any words
pub record AnswersWords (reading : Reading) (words : List (List ℕ)) (result : Result (Reply Status) Memory) : Type 0 where
  pub responds : IfOk result (λ reply. Responds reading words reply.status reply.text)
  pub in_order : AreInOrder reading (command_of words)
  pub few : AreLoadsFor words reading.before reading.after
