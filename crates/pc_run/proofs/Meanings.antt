-- What the status of a run means, from the reply and what the put of it left.
use Rattle.std.proofs.Common.{◌≡◌, ℕ, ⊎_elim, inl, inr, List, Some, Result, Ok, Err, IfOk, ◌⊎◌, sym, subst, refl}
use Rattle.pc_base.specs.declared.status.Status.{Status}
use Rattle.pc_base.specs.declared.status.Status.TheVariants as ended
use Rattle.pc_run_words.specs.Words.{Asked, command_of}
use Rattle.pc_check.specs.declared.verdict.Verdict.{Verdict}
use Rattle.pc_check.specs.declared.verdict.Verdict.TheVariants as verdicts
use Rattle.pc_run.specs.declared.input.Input.{Input}
use Rattle.pc_run.specs.declared.input.Input.TheVariants.{Asks, Proves, Claims, Shows, Contradicts, Measures, Follows, Makes}
use Rattle.pc_run.specs.Inputs.{IsSoundInput}
use Rattle.pc_files.specs.Loading.{LoadsAll, EndsAt}
use Rattle.pc_files.specs.Outcome.{Obstacle, refused, absent}
use Rattle.pc_files.specs.Replies.{after_failed_put}
use Rattle.pc_files.specs.Texts.{malformed_line}
use Rattle.pc_files.specs.Writing.{IsWritten, IsCutOff, IsTold}
use Rattle.pc_run.specs.Outcome.{files_of, ComesTo}
use Rattle.pc_model.specs.declared.fault.Fault.{Fault}
use Rattle.pc_run.specs.Replies.{SaysInput, Says, status_of, SaysOutcome, SaysFault, RepliesToCommand, RepliesToNone, LoadsOutcome, Responds}
use Rattle.pc_run.specs.Meaning.{Call, IsAnswered, HasEnded, HasWriteFault, IsNoCommand, IsRefused, HasReadFault, Means}

abbrev RespondsIn : Call → Status → List ℕ → Type 0
RespondsIn call status text = Responds call.reading call.words status text

-- the reply to no command, to files that are not read, and to an outcome
told_usage : (call : Call) (status : Status) (text : List ℕ) → RepliesToNone call.reading call.words status text → IsTold call.writing text → IsNoCommand call
told_usage call status text none told = record { no_command = none.none; loads = none.loads; told = subst (λ (t : List ℕ). IsTold call.writing t) none.line told }

told_fault : (call : Call) (asked : Asked) (status : Status) (text : List ℕ) → command_of call.words ≡ Some asked → SaysFault call.reading asked status text → IsTold call.writing text → HasReadFault call
told_fault call asked status text command says told = record {
  asked = asked;
  command = command;
  file = says.file;
  unread = says.unread;
  told = subst (λ (t : List ℕ). IsTold call.writing t) says.line told;
}

answered : (call : Call) (asked : Asked) (status : Status) (text : List ℕ) (input : Input) → command_of call.words ≡ Some asked → ComesTo call.reading.before.files asked (Ok input) → IsSoundInput input → LoadsAll call.reading (files_of asked) → SaysInput input status text → IsAnswered call status text
answered call asked status text input command agrees sound loads says =
    record { asked = asked; command = command; input = input; agrees = agrees; sound = sound; loads = loads; says = says }

-- what is said of an input is done, or no
abbrev IsEnd : Status → Type 0
IsEnd status = (status ≡ ended.Done) ⊎ (status ≡ ended.SaidNo)

verdict_ends : (verdict : Verdict) → IsEnd (status_of verdict)
verdict_ends verdicts.Yes = inl refl
verdict_ends (verdicts.No line rule) = inr refl

ends : (input : Input) (status : Status) (text : List ℕ) → SaysInput input status text → IsEnd status
ends (Asks nodes case) status text says = inl says.0
ends (Proves nodes case) status text says = inl says.0
ends (Claims claim) status text says = subst IsEnd (sym says.ended) (verdict_ends says.verdict)
ends (Shows listing) status text says = inl says.0
ends (Contradicts nodes listing) status text says = inl says.0
ends (Measures nodes measured) status text says = inl says.0
ends (Follows nodes scripted) status text says = inl says.0
ends (Makes numbers) status text says = inl says.0

ended_whole : (call : Call) (status : Status) → HasEnded call status → IsEnd status → Means call status
ended_whole call status has end = ⊎_elim (λ done. rw done (rw done at has)) (λ no. rw no (rw no at has)) end

ended_cut_off : (call : Call) (status : Status) → HasWriteFault call → IsEnd status → Means call (after_failed_put status)
ended_cut_off call status fault end = ⊎_elim (λ done. rw done fault) (λ no. rw no fault) end

told_refusal : (call : Call) (asked : Asked) (text : List ℕ) (fault : Fault) → command_of call.words ≡ Some asked → ComesTo call.reading.before.files asked (Err (refused fault)) → EndsAt call.reading (files_of asked) fault.file → text ≡ malformed_line fault → IsTold call.writing text → IsRefused call
told_refusal call asked text fault command agrees loads is told = record {
  asked = asked;
  command = command;
  fault = fault;
  agrees = agrees;
  loads = loads;
  told = subst (λ (t : List ℕ). IsTold call.writing t) is told;
}

-- the whole text was put
outcome_whole : (call : Call) (asked : Asked) (status : Status) (text : List ℕ) → command_of call.words ≡ Some asked → (outcome : Result Input Obstacle) → IfOk outcome IsSoundInput → Says outcome status text → ComesTo call.reading.before.files asked outcome → LoadsOutcome call.reading asked outcome → IsWritten call.writing text → Means call status
outcome_whole call asked status text command (Ok input) sound says agrees loads written =
    ended_whole call status (record { text = text; answered = answered call asked status text input command agrees sound loads says; written = written }) (ends input status text says)
outcome_whole call asked status text command (Err (refused fault)) sound says agrees loads written =
    rw says.0 (told_refusal call asked text fault command agrees loads says.1 (inl written))
outcome_whole call asked status text command (Err (absent file)) sound says agrees loads written = absurd says

command_whole : (call : Call) (status : Status) (text : List ℕ) → RepliesToCommand call.reading call.words status text → IsWritten call.writing text → Means call status
command_whole call status text replies written =
    ⊎_elim
    (λ (says : SaysFault call.reading replies.asked status text). rw says.ended (told_fault call replies.asked status text replies.command says (inl written)))
    (λ (says : SaysOutcome call.reading replies.asked status text). outcome_whole call replies.asked status text replies.command says.outcome says.sound says.says says.agrees says.loads written)
    replies.replies

pub means_whole : (call : Call) (status : Status) (text : List ℕ) → RespondsIn call status text → IsWritten call.writing text → Means call status
means_whole call status text responds written =
    ⊎_elim
    (λ (none : RepliesToNone call.reading call.words status text). rw none.ended (told_usage call status text none (inl written)))
    (λ (replies : RepliesToCommand call.reading call.words status text). command_whole call status text replies written)
    responds

-- a front of it was put
outcome_cut_off : (call : Call) (asked : Asked) (status : Status) (text : List ℕ) → command_of call.words ≡ Some asked → (outcome : Result Input Obstacle) → IfOk outcome IsSoundInput → Says outcome status text → ComesTo call.reading.before.files asked outcome → LoadsOutcome call.reading asked outcome → IsCutOff call.writing text → Means call (after_failed_put status)
outcome_cut_off call asked status text command (Ok input) sound says agrees loads cut =
    ended_cut_off call status (record { status = status; text = text; answered = answered call asked status text input command agrees sound loads says; cut_off = cut }) (ends input status text says)
outcome_cut_off call asked status text command (Err (refused fault)) sound says agrees loads cut =
    rw says.0 (told_refusal call asked text fault command agrees loads says.1 (inr cut))
outcome_cut_off call asked status text command (Err (absent file)) sound says agrees loads cut = absurd says

command_cut_off : (call : Call) (status : Status) (text : List ℕ) → RepliesToCommand call.reading call.words status text → IsCutOff call.writing text → Means call (after_failed_put status)
command_cut_off call status text replies cut =
    ⊎_elim
    (λ (says : SaysFault call.reading replies.asked status text). rw says.ended (told_fault call replies.asked status text replies.command says (inr cut)))
    (λ (says : SaysOutcome call.reading replies.asked status text). outcome_cut_off call replies.asked status text replies.command says.outcome says.sound says.says says.agrees says.loads cut)
    replies.replies

pub means_cut_off : (call : Call) (status : Status) (text : List ℕ) → RespondsIn call status text → IsCutOff call.writing text → Means call (after_failed_put status)
means_cut_off call status text responds cut =
    ⊎_elim
    (λ (none : RepliesToNone call.reading call.words status text). rw none.ended (told_usage call status text none (inr cut)))
    (λ (replies : RepliesToCommand call.reading call.words status text). command_cut_off call status text replies cut)
    responds
