-- What a run promises, by what its put did.
use Rattle.std.proofs.Common.{◌≡◌, ⊎_elim, inr, List, ℕ, Result, Ok, Err, refl, subst, sym}
use Rattle.pc_num.specs.declared.memory.Memory.{Memory}
use Rattle.pc_base.specs.declared.status.Status.{Status}
use Rattle.pc_base.specs.declared.status.Status.TheVariants as ended
use Rattle.pc_run.specs.Outcome.{AreInOrder}
use Rattle.pc_run.specs.Replies.{AnswersWords, Responds}
use Rattle.pc_files.specs.declared.reply.Reply.{Reply}
use Rattle.pc_files.specs.Writing.{IsCutOff, IsUntouched, IsWritten}
use Rattle.pc_files.proofs.Written.{untouched}
use Rattle.pc_run_words.specs.Words.{command_of}
use Rattle.pc_files.specs.Replies.{Ends, after_failed_put}
use Rattle.pc_run.specs.Meaning.{Call, HasNoMemory, KeepsPromise}
use Rattle.pc_run.proofs.Meanings.{means_whole, means_cut_off}
use Rattle.pc_run.proofs.Agreement.{says_yes, says_no, agrees}
use Rattle.pc_run.proofs.Answering.{answers}

keeps_whole : (call : Call) (status : Status) (text : List ℕ) → Responds call.reading call.words status text → IsWritten call.writing text → KeepsPromise call status
keeps_whole call status text responds written =
    let means = means_whole call status text responds written in
    record {
      means = means;
      answers = answers call status means;
      says_yes = λ checks. says_yes call status text responds means checks;
      says_no = λ checks. says_no call status text responds means checks;
      agrees = λ checks. agrees call status text responds means checks;
    }

keeps_cut_off : (call : Call) (status : Status) (text : List ℕ) → Responds call.reading call.words status text → IsCutOff call.writing text → KeepsPromise call (after_failed_put status)
keeps_cut_off call status text responds cut = record {
  means = means_cut_off call status text responds cut;
  answers = λ can. absurd (can.puts cut.rose);
  says_yes = λ checks spells. absurd (checks.puts cut.rose);
  says_no = λ checks line rule breaks. absurd (checks.puts cut.rose);
  agrees = λ checks proved. absurd (checks.puts cut.rose);
}

keeps_memory : (call : Call) → IsUntouched call.writing → AreInOrder call.reading (command_of call.words) → KeepsPromise call ended.Memory
keeps_memory call none in_order =
    let means : HasNoMemory call = record { untouched = none; in_order = in_order } in
    record {
      means = means;
      answers = answers call ended.Memory means;
      says_yes = λ checks spells. inr refl;
      says_no = λ checks line rule breaks. inr refl;
      agrees = λ checks proved. inr refl;
    }

pub keeps : (call : Call) (reply : Result (Reply Status) Memory) (status : Status) → AnswersWords call.reading call.words reply → Ends after_failed_put ended.Memory call.writing reply status → KeepsPromise call status
keeps call (Ok reply) status answers' put =
    ⊎_elim (λ whole. subst (λ (s : Status). KeepsPromise call s) (sym whole.0) (keeps_whole call reply.status reply.text answers'.responds whole.1))
    (λ short. ⊎_elim
    (λ cut. subst (λ (s : Status). KeepsPromise call s) (sym cut.0) (keeps_cut_off call reply.status reply.text answers'.responds cut.1))
    (λ none. subst (λ (s : Status). KeepsPromise call s) (sym none.0) (keeps_memory call none.1 answers'.in_order)) short) put
keeps call (Err memory) status answers' none =
    subst (λ (s : Status). KeepsPromise call s) (sym none.0) (keeps_memory call (untouched call.writing none.1) answers'.in_order)
