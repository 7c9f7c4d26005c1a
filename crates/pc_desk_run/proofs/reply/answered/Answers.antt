use Rattle.std.proofs.lemmas.Result.{IfOk-weaker}
use Rattle.pc_desk_run.specs.Outcome.{asks}
use Rattle.pc_desk_run.specs.Replies.{IsSaid, IsShown}
use Rattle.pc_desk_run.proofs.Replies.{says_more}
use Rattle.pc_desk_run.proofs.reply.answered.Goals as goal

pub returns : goal.returns
returns c =
    let entries = c.in_ok-entries.entries in
    let said = c.in_ok-note.note in
    record {
      says = IfOk-weaker c.shown.result _ _
          (says_more (IsShown c.args.form entries said) (IsSaid (asks c.args.form c.args.nodes c.args.asking.now))
          (λ ended text note is. (entries, (rw c.as_slice-questions.ensures at c.in_ok-entries.ensures.shown), said, (rw c.as_slice.ensures at c.in_ok-note.ensures), is))) c.shown.ensures;
    }
