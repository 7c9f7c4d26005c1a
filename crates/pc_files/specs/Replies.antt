-- How a run ends that puts what it replies, and what is written then.
use Rattle.std.specs.Prelude.{◌≡◌, ◌⊎◌, Result, Ok, Err}
use Rattle.pc_num.specs.declared.memory.Memory.{Memory}
use Rattle.pc_base.specs.declared.status.Status.{Status}
use Rattle.pc_base.specs.declared.status.Status.TheVariants as ended
use Rattle.pc_files.specs.declared.reply.Reply.{Reply}
use Rattle.pc_files.specs.Writing.{IsCutOff, IsUntouched, IsWritten, Writing}

-- the status where a put of the text failed: an answer that is cut off is a write fault, the line of a refusal stays
abbrev pub after_failed_put : Status → Status
after_failed_put ended.Done = ended.WriteFault
after_failed_put ended.SaidNo = ended.WriteFault
after_failed_put ended.Usage = ended.Usage
after_failed_put ended.Malformed = ended.Malformed
after_failed_put ended.ReadFault = ended.ReadFault
after_failed_put ended.WriteFault = ended.WriteFault
after_failed_put ended.Memory = ended.Memory

-- The whole text was written, and the run ends as the reply says; or a front of it, and the run ends as one does that was cut off;
-- or there was no memory.
abbrev pub EndsAs : {S : Type 0} → (S → S) → S → Writing → Reply S → S → Type 0
EndsAs after_cut spent writing reply result =
    ((result ≡ reply.status) × IsWritten writing reply.text) ⊎ (((result ≡ after_cut reply.status) × IsCutOff writing reply.text) ⊎ ((result ≡ spent) × IsUntouched writing))

-- .. of a reply, or of want of memory for one, where nothing was put
abbrev pub Ends : {S : Type 0} → (S → S) → S → Writing → Result (Reply S) Memory → S → Type 0
Ends after_cut spent writing (Ok reply) result = EndsAs after_cut spent writing reply result
Ends after_cut spent writing (Err memory) result = (result ≡ spent) × (writing.after ≡ writing.before)
