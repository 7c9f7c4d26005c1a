use Rattle.std.proofs.lemmas.Result.{IfOk-weaker}
use Rattle.pc_desk_run.specs.Outcome.{explains}
use Rattle.pc_desk_run.specs.Replies.{AreReasonsShown, IsSaid}
use Rattle.pc_desk_run.proofs.Replies.{says_more}
use Rattle.pc_desk_run.proofs.reasons.explained.Goals as goal

pub returns : goal.returns
returns c =
    let all = c.in_ok-all.all in
    let lines = c.in_ok-lines.lines in
    let said = c.in_ok-note.note in
    let observed = c.args.asking.now.observed in
    record {
      says = IfOk-weaker c.shown.result _ _
          (says_more (AreReasonsShown c.args.form observed.constraints lines all said) (IsSaid (explains c.args.form c.args.nodes c.args.asking.now))
          (λ ended text note is. (all, (rw c.as_slice-questions.ensures at c.in_ok-all.ensures.explained), lines, (rw (c.has_impossible-impossible.ensures, c.as_slice-told.ensures) at c.in_ok-lines.ensures), said, (rw c.as_slice-constraints.ensures at c.in_ok-note.ensures), is))) (rw (c.as_slice-constraints.ensures, c.as_slice.ensures, c.as_slice-told.ensures) at c.shown.ensures);
    }
