-- What the status of a run means for the files, the words, standard output and standard error.
use Rattle.std.specs.Prelude.{◌≡◌, ◌⊎◌, ℕ, List, [], Some}
use Rattle.pc_base.specs.declared.outside.Put.{Put}
use Rattle.pc_files.specs.Loading.{Reading}
use Rattle.pc_files.specs.Writing.{IsCutOff, IsUntouched, IsWritten, Writes, Writing}
use Rattle.pc_desk_run.specs.declared.ended.Ended.{Ended}
use Rattle.pc_desk_run.specs.declared.ended.Ended.TheVariants as ends
use Rattle.pc_desk_words.specs.Words.{Asked, MayHelp, MayRefuse, asked_of}
use Rattle.pc_desk_run.specs.declared.reply.Reply.{Reply}
use Rattle.pc_desk_run.specs.declared.reply.Reply.TheVariants as replies
use Rattle.pc_desk_run.specs.Replies.{IsNoCall, RefusesAsked, SaysAnswers}

-- what a run is given and what it leaves: the words, the shelf, standard output and standard error
pub record Call : Type 1 where
  pub words : List (List ℕ)
  pub reading : Reading
  pub output : Writing
  pub notes : Writing

abbrev pub call_of : List (List ℕ) → Reading → Writing → Writing → Call
call_of words reading output notes = record { words = words; reading = reading; output = output; notes = notes }

-- nothing was put there
abbrev pub IsSilent : Writing → Type 0
IsSilent writing = writing.after ≡ writing.before

-- a text was put there once, or nothing where it is empty
abbrev pub IsNoted : Writing → List ℕ → Type 0
IsNoted writing text = ((text ≡ []) × IsSilent writing) ⊎ ((put : Put) × Writes writing text put)

-- the text of what is shown is on standard output, whole, and a note on standard error
pub record HasAnswered (call : Call) (ended : Ended) : Type 0 where
  pub text : List ℕ
  pub note : List ℕ
  pub asked : Asked
  pub verb : asked_of call.words ≡ Some asked
  pub answers : SaysAnswers call.reading asked ended text note
  pub written : IsWritten call.output text
  pub noted : IsNoted call.notes note

-- help that the words ask for is on standard output
pub record HasHelped (call : Call) : Type 0 where
  pub no_call : IsNoCall call.reading call.words
  pub asked : MayHelp call.words
  pub text : List ℕ
  pub written : IsWritten call.output text
  pub noted : IsNoted call.notes []

-- the words are a call that is refused for this text, or they are none and ask for no help alone
abbrev pub Refuses : Call → Ended → List ℕ → Type 0
Refuses call ended text = ((asked : Asked) × (asked_of call.words ≡ Some asked) × RefusesAsked call.reading asked ended text) ⊎ (IsNoCall call.reading call.words × MayRefuse call.words × (ended ≡ ends.Refused))

-- why nothing is shown is on standard error alone
pub record HasRefused (call : Call) (ended : Ended) : Type 0 where
  pub text : List ℕ
  pub refuses : Refuses call ended text
  pub silent : IsSilent call.output
  pub noted : IsNoted call.notes text

-- the words ask for this text, or for help
abbrev pub AsksFor : Call → List ℕ → Type 0
AsksFor call text =
    ((asked : Asked) × (ended : Ended) × (note : List ℕ) × (asked_of call.words ≡ Some asked) × SaysAnswers call.reading asked ended text note) ⊎ (IsNoCall call.reading call.words × MayHelp call.words)

-- what was asked for was put, and cut off
pub record HasWriteFault (call : Call) : Type 0 where
  pub text : List ℕ
  pub asked : AsksFor call text
  pub cut_off : IsCutOff call.output text

-- nothing is on standard output
abbrev pub HasNoMemory : Call → Type 0
HasNoMemory call = IsUntouched call.output

abbrev pub KeepsPromise : Call → Ended → Type 0
KeepsPromise call ends.Settled = HasAnswered call ends.Settled ⊎ HasHelped call
KeepsPromise call ends.Open = HasAnswered call ends.Open
KeepsPromise call ends.Impossible = HasAnswered call ends.Impossible
KeepsPromise call ends.Refused = HasRefused call ends.Refused
KeepsPromise call ends.ReadFault = HasRefused call ends.ReadFault
KeepsPromise call ends.WriteFault = HasWriteFault call
KeepsPromise call ends.Memory = HasNoMemory call

-- ---- one reply

-- what was asked for is put first; where that is cut off, the note is that of the fault
abbrev pub Delivers : Writing → Writing → Reply → Ended → Type 0
Delivers output notes (replies.Says ended text note) result =
    ((result ≡ ended) × IsWritten output text × IsNoted notes note) ⊎ (((result ≡ ends.WriteFault) × IsCutOff output text) ⊎ ((result ≡ ends.Memory) × IsUntouched output))
Delivers output notes (replies.Refuses ended text) result = (result ≡ ended) × IsSilent output × IsNoted notes text
