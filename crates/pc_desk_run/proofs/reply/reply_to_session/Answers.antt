use Rattle.std.proofs.Common.{Err, Ok, refl}
use Rattle.std.proofs.lemmas.Result.{IfOk-weaker}
use Rattle.pc_files.specs.Loading.{reading_of}
use Rattle.pc_files.specs.Outcome.{Found, scripted_in}
use Rattle.pc_files.proofs.ReadFiles.{read_as}
use Rattle.pc_desk_words.specs.Calls.{session_names}
use Rattle.pc_desk_words.specs.Words.{session}
use Rattle.pc_desk_run.specs.Inputs.{names_in}
use Rattle.pc_desk_run.specs.Outcome.{Input, files_of, follows}
use Rattle.pc_desk_run.specs.Replies.{IsPosed}
use Rattle.pc_desk_run.specs.Texts.{named_in}
use Rattle.pc_desk_run.proofs.Replies.{explained, says_answers, says_input, says_stop}
use Rattle.pc_desk_run.proofs.reply.reply_to_session.Goals as goal

pub returns-in-Ok : goal.returns-in-Ok
returns-in-Ok g c =
    let names = session_names c.args.session.now in
    let reading = reading_of g.F.Shelf.told g.F.Shelf.leads c.args.files.now c.read_session.new.files in
    let input : Input = follows names.form names.nodes c.in-Ok.scripted in
    let read = read_as (follows names.form names.nodes) (files_of (session names)) (λ (found : Found). Ok (scripted_in found)) reading (Ok c.in-Ok.scripted) c.in-Ok.ensures.read in
    let posed : IsPosed reading (session names) input = record { agrees = read.agrees; posed = (refl, refl); sound = (c.in-Ok.ensures.sound, c.requires); loads = read.loads } in
    IfOk-weaker c.followed.result _ _ (λ reply says. says_input reading (session names) input posed reply (says_answers (named_in (session names)) input reply says)) c.followed.ensures

pub returns : goal.returns
returns g c =
    let names = session_names c.args.session.now in
    let told = g.F.Shelf.told in
    let reading = reading_of told g.F.Shelf.leads c.args.files.now c.read_session.new.files in
    let stop = c.in-Err.stop in
    let read = read_as (follows names.form names.nodes) (files_of (session names)) (λ (found : Found). Ok (scripted_in found)) reading (Err stop) c.in-Err.ensures.read in
    let explains = explained (told c.args.files.now).files (names_in (named_in (session names))) c.read_session.new.kept stop c.in-Err.ensures.kept in
    IfOk-weaker c.stopped.result _ _ (says_stop reading (session names) c.read_session.new.kept stop read.agrees read.loads explains) (rw c.sources_of_session.ensures at c.stopped.ensures)
