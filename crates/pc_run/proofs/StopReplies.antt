-- The reply where files give nothing, or an input, is one to the command.
use Rattle.std.proofs.Common.{◌≡◌, ℕ, inl, inr, List, Some, Result, Ok, Err, IfOk, refl}
use Rattle.std.proofs.lemmas.Result.{IfOk-weaker}
use Rattle.pc_num.specs.declared.memory.Memory.{Memory}
use Rattle.pc_base.specs.Shelves.{ShelfState}
use Rattle.pc_base.specs.declared.outside.Loaded.{Loaded}
use Rattle.pc_base.specs.declared.status.Status.{Status}
use Rattle.pc_run.specs.declared.input.Input.{Input}
use Rattle.pc_files.specs.declared.stop.Stop.{Stop}
use Rattle.pc_files.specs.declared.stop.Stop.TheVariants as stops
use Rattle.pc_run_words.specs.Words.{Asked, command_of}
use Rattle.pc_files.specs.declared.reply.Reply.{Reply}
use Rattle.pc_run.specs.Inputs.{IsSoundInput}
use Rattle.pc_files.specs.Loading.{IsRead, Reading, reading_of}
use Rattle.pc_files.specs.Outcome.{refused}
use Rattle.pc_run.specs.Outcome.{files_of, file_count, input_in}
use Rattle.pc_run.specs.Replies.{AnswersCommand, AnswersWords, Responds, SaysInput, RepliesTo, RepliesToStop, SaysFault, SaysOutcome}
use Rattle.pc_files.proofs.Chains.{all_in_order, until_in_order}
use Rattle.pc_run.proofs.Chains.{nothing_loaded, order_of_command}
use Rattle.pc_files.proofs.ReadFiles.{no_loads}

pub stop_replies : (reading : Reading) (asked : Asked) (stop : Stop) (status : Status) (text : List ℕ) → IsRead {X = Input} reading (files_of asked) (input_in asked) (Err stop) → RepliesToStop stop status text → RepliesTo reading asked status text
stop_replies reading asked (stops.Refused fault) status text read replies =
    inr (let says : SaysOutcome reading asked status text = record { outcome = Err (refused fault); sound = tt; says = replies; agrees = read.agrees; loads = read.loads } in says)
stop_replies reading asked (stops.Unread file) status text read replies =
    inl (let says : SaysFault reading asked status text = record { file = file; unread = read.loads; ended = replies.0; line = replies.1 } in says)
stop_replies reading asked stops.Memory status text read replies = absurd replies

pub input_replies : (reading : Reading) (asked : Asked) (input : Input) (status : Status) (text : List ℕ) → IsRead reading (files_of asked) (input_in asked) (Ok input) → IsSoundInput input → SaysInput input status text → RepliesTo reading asked status text
input_replies reading asked input status text read sound says = inr (record { outcome = Ok input; sound = sound; says = says; agrees = read.agrees; loads = read.loads })

-- ---- and so are which loads there were

module _ (reading : Reading) (asked : Asked) (result : Result (Reply Status) Memory) where
  pub input_answers : (input : Input) → IsRead reading (files_of asked) (input_in asked) (Ok input) → IsSoundInput input → IfOk result (λ reply. SaysInput input reply.status reply.text) → AnswersCommand reading asked result
  input_answers input read sound says = record {
    replies = IfOk-weaker result _ _ (λ reply said. input_replies reading asked input reply.status reply.text read sound said) says;
    in_order = all_in_order reading (files_of asked) read.loads;
    few = read.few;
  }

  pub stop_answers : (stop : Stop) → IsRead {X = Input} reading (files_of asked) (input_in asked) (Err stop) → IfOk result (λ reply. RepliesToStop stop reply.status reply.text) → AnswersCommand reading asked result
  stop_answers stop read says = record {
    replies = IfOk-weaker result _ _ (λ reply said. stop_replies reading asked stop reply.status reply.text read said) says;
    in_order = until_in_order reading (files_of asked) stop read.loads;
    few = read.few;
  }

  pub for_words : (words : List (List ℕ)) → command_of words ≡ Some asked → AnswersCommand reading asked result → AnswersWords reading words result
  for_words words is answers = record {
    responds = IfOk-weaker result _ _ (λ reply replies. inr (record { asked = asked; command = is; replies = replies })) answers.replies;
    in_order = order_of_command reading asked (command_of words) is answers.in_order;
    few = rw is answers.few;
  }

pub none_answers : {S : Type 0} (told : S → ShelfState) (leads : S → List ℕ → Loaded → S → Type 0) (shelf : S) (words : List (List ℕ)) (result : Result (Reply Status) Memory) →
    IfOk result (λ reply. Responds (reading_of told leads shelf shelf) words reply.status reply.text) → AnswersWords (reading_of told leads shelf shelf) words result
none_answers told leads shelf words result responds = record {
  responds = responds;
  in_order = nothing_loaded (reading_of told leads shelf shelf) (command_of words) refl;
  few = no_loads (file_count (command_of words)) (told shelf);
}
