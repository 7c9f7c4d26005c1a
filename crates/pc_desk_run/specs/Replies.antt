-- What is replied to words, by what the files hold.
use Rattle.std.specs.Prelude.{◌≡◌, ◌⊎◌, ℕ, Bool, true, false, List, [], ◌∷◌, ◌++◌, drop, length, position, take, Option, Some, None, Ok, Err}
use Rattle.pc_model.specs.declared.constraint.Constraint.{Constraint}
use Rattle.pc_model.specs.declared.fault.Fault.{Fault}
use Rattle.pc_model.specs.declared.fault.FileKind.{FileKind}
use Rattle.pc_files.specs.declared.kept.Kept.{Kept}
use Rattle.pc_files.specs.declared.stop.Stop.{Stop}
use Rattle.pc_files.specs.declared.stop.Stop.TheVariants as stops
use Rattle.pc_files.specs.Loading.{EndsAt, IsUnread, LoadsAll, Reading}
use Rattle.pc_files.specs.Outcome.{refused}
use Rattle.pc_files.specs.declared.reading.Limited.{Limited}
use Rattle.pc_files.specs.declared.reading.Listing.{Listing}
use Rattle.pc_files.specs.declared.reading.Observed.{Observed}
use Rattle.pc_lang.specs.Canonical.{constraints_text}
use Rattle.pc_schema.specs.Plain.{plain_text}
use Rattle.pc_files.specs.Reads.{start_of}
use Rattle.pc_desk_answers.specs.Blocks.{ArePosed, AreShown, asked, asked_by, ground_of, posed_by}
use Rattle.pc_desk_answers.specs.Values.{places_in}
use Rattle.pc_desk_answers.specs.declared.question.Question.{Question}
use Rattle.pc_desk_limit.specs.declared.limiting.Limiting.{Limiting}
use Rattle.pc_desk_limit.specs.declared.limiting.Limiting.TheVariants.{Outside, TooMany, Written}
use Rattle.pc_desk_limit.specs.Limiting.{IsClosed, IsLimiting}
use Rattle.pc_desk_schema.specs.Texts.{remark_lines}
use Rattle.pc_desk_sql.specs.Spelled.{sql_text}
use Rattle.pc_desk_short.specs.ClashTexts.{clash_lines}
use Rattle.pc_desk_short.specs.Clashes.{IsClash}
use Rattle.pc_desk_short.specs.declared.clash.Clash.{Clash}
use Rattle.pc_desk_short.specs.declared.clash_line.ClashLine.{ClashLine}
use Rattle.pc_desk_table.specs.declared.entry.Entry.{Entry}
use Rattle.pc_desk_weigh.specs.Weighed.{AreWeighed}
use Rattle.pc_desk_weigh.specs.declared.weighed.Weighed.{Weighed}
use Rattle.pc_desk_widths.specs.Orders.{AreOrders}
use Rattle.pc_desk_why.specs.Explained.{AreExplained}
use Rattle.pc_desk_why.specs.declared.explained.Explained.{Explained}
use Rattle.pc_desk_words.specs.declared.form.Form.{Form}
use Rattle.pc_desk_words.specs.Words.{Asked, MayHelp, MayRefuse, WeighNames, asked_of}
use Rattle.pc_desk_run.specs.declared.ended.Ended.{Ended}
use Rattle.pc_desk_run.specs.declared.ended.Ended.TheVariants as ends
use Rattle.pc_desk_run.specs.declared.reply.Reply.{Reply}
use Rattle.pc_desk_run.specs.declared.reply.Reply.TheVariants as replies
use Rattle.pc_desk_try.specs.declared.opening.Opening.{Opening}
use Rattle.pc_desk_try.specs.declared.tried.Trial.{Trial}
use Rattle.pc_desk_try.specs.Opened.{openings_sheet}
use Rattle.pc_desk_try.specs.Openings.{AreOpenings}
use Rattle.pc_desk_try.specs.Shown.{sheet_of}
use Rattle.pc_desk_try.specs.Trials.{trial_of}
use Rattle.pc_desk_words.specs.declared.form.SheetForm.{SheetForm}
use Rattle.pc_desk_words.specs.declared.form.DrawnForm.{DrawnForm}
use Rattle.pc_desk_run.specs.Endings.{ended_of, ended_of_draft, ended_of_reasons, ended_of_trial, ended_of_widths, has_impossible}
use Rattle.pc_desk_run.specs.declared.input.Asking.{Asking}
use Rattle.pc_desk_run.specs.Inputs.{Explains, IsInputOf, IsSoundInput}
use Rattle.pc_desk_past.specs.Past.{past_of}
use Rattle.pc_desk_past.specs.Texts.{past_text, refusal_lines}
use Rattle.pc_desk_past.specs.declared.fault.PastFault.{PastFault}
use Rattle.pc_desk_past.specs.declared.past.Past.TheVariants.{Drafted, Refused}
use Rattle.pc_desk_run.specs.Outcome.{ComesTo, Input, asks, drafts, explains, files_of, follows, limits, lists, recalls, tests, tries, weighs}
use Rattle.pc_desk_run.specs.Texts.{AreRefusedLines, IsNoteBeside, Named, is_called, is_ordered, named_in, no_column_lines, no_constraint_lines, note_on, outside_lines, sheet_text, text_of, too_many_lines, unread_line, weigh_text, why_text}

-- what a text is of, with a status and a note beside it
abbrev pub Saying : Type 1
Saying = Ended → List ℕ → List ℕ → Type 0

-- the text of entries in a form, which have this status, and this note
abbrev pub IsShown : Form → List Entry → List ℕ → Saying
IsShown form entries note ended text said = (ended ≡ ended_of entries) × (text ≡ text_of form entries) × (said ≡ note)

-- the lines on constraints of which an answer says that they are impossible; of others there are none
abbrev pub AreClashLines : Observed → ℕ → Bool → List ClashLine → Type 0
AreClashLines observed nodes false lines = lines ≡ []
AreClashLines observed nodes true lines =
    (clash : Clash) × IsClash observed.schema observed.constraints nodes clash
    × (lines ≡ clash_lines observed.schema observed.constraints clash)

-- .. of explanations
abbrev pub AreReasonsShown : DrawnForm → List Constraint → List ClashLine → List Explained → List ℕ → Saying
AreReasonsShown form constraints lines all note ended text said =
    (ended ≡ ended_of_reasons all) × (text ≡ why_text form constraints lines all) × (said ≡ note)

-- the constraint whose changes are wanted: the first that the name calls, or all where no name is given
abbrev pub IsWanted : Option (List ℕ) → List Constraint → Option ℕ → Type 0
IsWanted None constraints wanted = wanted ≡ None
IsWanted (Some name) constraints wanted = (place : ℕ) × (position (is_called name) constraints ≡ Some place) × (wanted ≡ Some place)

-- .. of changes of one limit each: the answers to the question as constraints stand and under each change that is wanted, in their
-- order
pub record AreWidthsShown (names : WeighNames) (asking : Asking) (ended : Ended) (text note : List ℕ) : Type 0 where
  pub question : Question
  pub one : asking.questions ≡ question ∷ []
  pub wanted : Option ℕ
  pub named : IsWanted names.by asking.observed.constraints wanted
  pub all : List Weighed
  pub weighed : AreWeighed (ground_of asking.observed names.nodes) (asked_by asking.observed.schema question) wanted all
  pub orders : List (List ℕ)
  pub ordered : AreOrders (is_ordered names.form names.sorted) all orders
  pub settled : ended ≡ ended_of_widths all
  pub shown : text ≡ weigh_text names.form asking.observed.constraints (places_in asking.observed.schema question) all orders
  pub beside : IsNoteBeside asking.observed.schema asking.observed.constraints note

-- .. of a trial
abbrev pub IsTrialShown : SheetForm → Trial → List ℕ → Saying
IsTrialShown form trial note ended text said = (ended ≡ ended_of_trial trial) × (text ≡ sheet_text form (sheet_of trial)) × (said ≡ note)

-- .. of the classes that constraints open
abbrev pub AreOpeningsShown : SheetForm → Listing → List Opening → Saying
AreOpeningsShown form listing openings ended text said =
    (ended ≡ ends.Settled) × (text ≡ sheet_text form (openings_sheet listing.schema listing.constraints openings)) × (said ≡ note_on listing.constraints)

-- .. of what is written with no form
abbrev pub IsWritten : Ended → List ℕ → List ℕ → Saying
IsWritten status written note ended text said = (ended ≡ status) × (text ≡ written) × (said ≡ note)

-- the constraints among a list that limits follow, and these
abbrev pub opening_of : Limited → List Constraint
opening_of limited = take limited.opening limited.all

abbrev pub limits_of : Limited → List Constraint
limits_of limited = drop limited.opening limited.all

-- What is said of an input. Entries show answers to what is asked: each is right, by searches of at most so many nodes, and stands
-- beside the answer to the same where nothing is lost; the note names constraints that open rows beside others that they cross. Of a
-- script, which may add constraints, each has the number of its line in the file. What is explained is so of the answers that are owed,
-- and of constraints that are impossible a clash of them is told. A question is weighed as constraints stand and under each change of
-- one limit of them. A trial is that of the constraints over the rows; and each row that can be lost is in one of the classes that are shown. A
-- list that is written allows what its constraints allow as far as it meets the limits; a statement is that for the constraints, and
-- a draft that of the file, with what is said of columns beside it. Constraints from history are those of the rows that are meant.
abbrev pub IsSaid : Input → Saying
IsSaid (asks form nodes asking) ended text note =
    (entries : List Entry) × AreShown (ground_of asking.observed nodes) (asked asking.observed.schema asking.questions) entries
    × (said : List ℕ) × IsNoteBeside asking.observed.schema asking.observed.constraints said × IsShown form entries said ended text note
IsSaid (follows form nodes scripted) ended text note =
    (entries : List Entry) × ArePosed (posed_by scripted.observed.schema nodes (start_of scripted) scripted.script) entries × IsShown form entries [] ended text note
IsSaid (explains form nodes asking) ended text note =
    (all : List Explained) × AreExplained (ground_of asking.observed nodes) (asked asking.observed.schema asking.questions) all
    × (lines : List ClashLine) × AreClashLines asking.observed nodes (has_impossible all) lines
    × (said : List ℕ) × IsNoteBeside asking.observed.schema asking.observed.constraints said
    × AreReasonsShown form asking.observed.constraints lines all said ended text note
IsSaid (weighs names asking) ended text note = AreWidthsShown names asking ended text note
IsSaid (tries form scale observed) ended text note =
    IsTrialShown form (trial_of scale observed.constraints observed.rows) (note_on observed.constraints) ended text note
IsSaid (lists form listing) ended text note =
    (openings : List Opening) × AreOpenings listing.schema listing.constraints openings × AreOpeningsShown form listing openings ended text note
IsSaid (limits limited) ended text note =
    (written : List Constraint) × IsClosed limited.schema (opening_of limited) (limits_of limited) written
    × IsWritten ends.Settled (constraints_text limited.schema written) [] ended text note
IsSaid (tests table listing) ended text note =
    IsWritten ends.Settled (sql_text listing.schema listing.constraints table) (note_on listing.constraints) ended text note
IsSaid (drafts draft) ended text note = IsWritten (ended_of_draft draft) (plain_text draft.schema.columns) (remark_lines draft) ended text note
IsSaid (recalls names known) ended text note =
    (drafted : List Constraint) × (past_of known names ≡ Drafted drafted) × IsWritten ends.Settled (past_text known.schema names drafted) [] ended text note

-- the reply is what is said
abbrev pub Says : Saying → Reply → Type 0
Says Said (replies.Says ended text note) = Said ended text note
Says Said (replies.Refuses ended text) = ⊥

-- why limits are not written
abbrev pub IsLimitRefusal : Named → Limited → Limiting → List ℕ → Type 0
IsLimitRefusal named limited (Written written) text = ⊥
IsLimitRefusal named limited (Outside place) text = text ≡ outside_lines named limited.opening place
IsLimitRefusal named limited (TooMany lines) text = text ≡ too_many_lines named lines

-- why nothing is written of an input
abbrev pub IsUnwritten : Named → Input → List ℕ → Type 0
IsUnwritten named (limits limited) text =
    (limiting : Limiting) × IsLimiting limited.schema (opening_of limited) (limits_of limited) limiting × IsLimitRefusal named limited limiting text
IsUnwritten named (drafts draft) text = (length draft.schema.columns ≡ 0) × (text ≡ no_column_lines named ++ remark_lines draft)
IsUnwritten named (weighs names asking) text =
    (name : List ℕ) × (names.by ≡ Some name) × (position (is_called name) asking.observed.constraints ≡ None)
    × (text ≡ no_constraint_lines named asking.observed.constraints name)
IsUnwritten named (recalls names known) text =
    (fault : PastFault) × (past_of known names ≡ Refused fault) × (text ≡ refusal_lines known.schema names fault)
IsUnwritten named input text = ⊥

-- the reply is what is said of an input, or why nothing is
abbrev pub Answers : Named → Input → Reply → Type 0
Answers named input (replies.Says ended text note) = IsSaid input ended text note
Answers named input (replies.Refuses ended text) = (ended ≡ ends.Refused) × IsUnwritten named input text

-- why files give nothing; without memory there is no reply
abbrev pub IsStopReply : Named → Kept → Stop → Reply → Type 0
IsStopReply named kept (stops.Refused fault) reply = (text : List ℕ) × AreRefusedLines named kept fault text × (reply ≡ replies.Refuses ends.Refused text)
IsStopReply named kept (stops.Unread kind) reply = reply ≡ replies.Refuses ends.ReadFault (unread_line named kind)
IsStopReply named kept stops.Memory reply = ⊥

-- the files are accepted and come to this input, of which form, nodes, factor and table are those of the words
pub record IsPosed (reading : Reading) (asked : Asked) (input : Input) : Type 0 where
  pub agrees : ComesTo reading.before.files asked (Ok input)
  pub posed : IsInputOf asked input
  pub sound : IsSoundInput input
  pub loads : LoadsAll reading (files_of asked)

-- .. and this is the text of what is shown of its answers, with this status and note
pub record SaysAnswers (reading : Reading) (asked : Asked) (ended : Ended) (text note : List ℕ) : Type 0 where
  pub input : Input
  pub posed : IsPosed reading asked input
  pub said : IsSaid input ended text note

-- .. or why nothing is written of it
pub record RefusesInput (reading : Reading) (asked : Asked) (text : List ℕ) : Type 0 where
  pub input : Input
  pub posed : IsPosed reading asked input
  pub unwritten : IsUnwritten (named_in asked) input text

-- A file or a query has a first fault, and nothing was loaded after that file. What explains it is told of the bytes that the shelf
-- holds under the names of the schema and of the refused file.
pub record RefusesFault (reading : Reading) (asked : Asked) (text : List ℕ) : Type 0 where
  pub fault : Fault
  pub agrees : ComesTo reading.before.files asked (Err (refused fault))
  pub loads : EndsAt reading (files_of asked) fault.file
  pub kept : Kept
  pub explains : Explains reading.before.files asked kept fault.file
  pub told : AreRefusedLines (named_in asked) kept fault text

-- the last load failed, and no other
pub record RefusesLoad (reading : Reading) (asked : Asked) (text : List ℕ) : Type 0 where
  pub kind : FileKind
  pub unread : IsUnread reading (files_of asked) kind
  pub told : text ≡ unread_line (named_in asked) kind

abbrev pub RefusesAsked : Reading → Asked → Ended → List ℕ → Type 0
RefusesAsked reading asked ends.Refused text = RefusesFault reading asked text ⊎ RefusesInput reading asked text
RefusesAsked reading asked ends.ReadFault text = RefusesLoad reading asked text
RefusesAsked reading asked ends.Settled text = ⊥
RefusesAsked reading asked ends.Open text = ⊥
RefusesAsked reading asked ends.Impossible text = ⊥
RefusesAsked reading asked ends.WriteFault text = ⊥
RefusesAsked reading asked ends.Memory text = ⊥

-- the reply to a call
abbrev pub RepliesTo : Reading → Asked → Reply → Type 0
RepliesTo reading asked (replies.Says ended text note) = SaysAnswers reading asked ended text note
RepliesTo reading asked (replies.Refuses ended text) = RefusesAsked reading asked ended text

-- the words are no call, and nothing was loaded
pub record IsNoCall (reading : Reading) (words : List (List ℕ)) : Type 0 where
  pub none : asked_of words ≡ None
  pub loads : reading.did []

-- help that was asked for has no note; else the words are refused
abbrev pub RepliesToNone : List (List ℕ) → Reply → Type 0
RepliesToNone words (replies.Says ended text note) = MayHelp words × (ended ≡ ends.Settled) × (note ≡ [])
RepliesToNone words (replies.Refuses ended text) = MayRefuse words × (ended ≡ ends.Refused)

abbrev pub RespondsTo : Reading → List (List ℕ) → Reply → Type 0
RespondsTo reading words reply = (asked : Asked) × (asked_of words ≡ Some asked) × RepliesTo reading asked reply

-- the reply to any words
abbrev pub Responds : Reading → List (List ℕ) → Reply → Type 0
Responds reading words reply = RespondsTo reading words reply ⊎ (IsNoCall reading words × RepliesToNone words reply)
