use Rattle.std.proofs.Common.{◌≡◌, [], rules}
use Rattle.std.proofs.lemmas.Result.{IfOk-weaker}
use Rattle.pc_desk_run.specs.Outcome.{follows}
use Rattle.pc_desk_run.specs.Replies.{IsSaid, IsShown}
use Rattle.pc_desk_run.proofs.Replies.{says_more}
use Rattle.pc_desk_run.proofs.reply.followed.Goals as goal

pub returns : goal.returns
returns c =
    let entries = c.in_ok-entries.entries in
    let none : c.new.result ≡ [] = search rules in
    IfOk-weaker c.shown.result _ _
    (says_more (IsShown c.args.form entries []) (IsSaid (follows c.args.form c.args.nodes c.args.scripted)) (λ ended text note is. (entries, c.in_ok-entries.ensures, is))) (rw none at c.shown.ensures)
