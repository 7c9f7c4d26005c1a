use Rattle.std.proofs.lemmas.Result.{IfOk-weaker}
use Rattle.pc_files.specs.Loading.{reading_of}
use Rattle.pc_desk_words.specs.Calls.{draft_names}
use Rattle.pc_desk_words.specs.Words.{draft}
use Rattle.pc_desk_run.specs.Outcome.{drafts}
use Rattle.pc_desk_run.proofs.Drafts.{agrees_none, explains_draft, is_posed, loads_none}
use Rattle.pc_desk_run.proofs.Replies.{says_input, says_stop}
use Rattle.pc_desk_run.proofs.written.reply_to_draft.Goals as goal

pub returns-in-Ok : goal.returns-in-Ok
returns-in-Ok g c =
    let names = draft_names c.args.draft.now in
    let reading = reading_of g.F.Shelf.told g.F.Shelf.leads c.args.files.now c.read_draft.new.files in
    let posed = is_posed reading names c.in-Ok.found c.in-Ok.ensures.read c.in-Ok.ensures.sound in
    IfOk-weaker c.drafted.result _ _ (says_input reading (draft names) (drafts c.in-Ok.found) posed) (rw c.sources_of_draft.ensures at c.drafted.ensures)

pub returns : goal.returns
returns g c =
    let names = draft_names c.args.draft.now in
    let told = g.F.Shelf.told in
    let reading = reading_of told g.F.Shelf.leads c.args.files.now c.read_draft.new.files in
    let stop = c.in-Err.stop in
    let kept = c.read_draft.new.kept in
    let explains = explains_draft (told c.args.files.now).files names kept stop c.in-Err.ensures.kept in
    IfOk-weaker c.stopped.result _ _
    (says_stop reading (draft names) kept stop (agrees_none reading names stop c.in-Err.ensures.read.agrees) (loads_none reading names stop c.in-Err.ensures.read.loads) explains)
    (rw c.sources_of_draft-in-Err.ensures at c.stopped.ensures)
