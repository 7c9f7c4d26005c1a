use Rattle.std.proofs.Common.{Err, Ok, refl}
use Rattle.std.proofs.lemmas.Result.{IfOk-weaker}
use Rattle.pc_files.specs.Loading.{reading_of}
use Rattle.pc_files.specs.Outcome.{Found, listing_in}
use Rattle.pc_files.proofs.ReadFiles.{read_as}
use Rattle.pc_desk_words.specs.Calls.{opens_names}
use Rattle.pc_desk_words.specs.Words.{opens}
use Rattle.pc_desk_run.specs.Inputs.{names_in}
use Rattle.pc_desk_run.specs.Outcome.{Input, files_of, lists}
use Rattle.pc_desk_run.specs.Replies.{IsPosed}
use Rattle.pc_desk_run.specs.Texts.{named_in}
use Rattle.pc_desk_run.proofs.Replies.{explained, says_answers, says_input, says_stop}
use Rattle.pc_desk_run.proofs.reply.reply_to_opens.Goals as goal

pub returns-in-Ok : goal.returns-in-Ok
returns-in-Ok g c =
    let names = opens_names c.args.opens.now in
    let reading = reading_of g.F.Shelf.told g.F.Shelf.leads c.args.files.now c.read_files.new.files in
    let input : Input = lists names.form c.in-Ok.listing in
    let read = read_as (lists names.form) (files_of (opens names)) (λ (found : Found). Ok (listing_in found)) reading (Ok c.in-Ok.listing) c.in-Ok.ensures.read in
    let posed : IsPosed reading (opens names) input = record { agrees = read.agrees; posed = refl; sound = c.in-Ok.ensures.sound; loads = read.loads } in
    IfOk-weaker c.opened.result _ _ (λ reply says. says_input reading (opens names) input posed reply (says_answers (named_in (opens names)) input reply says)) c.opened.ensures.says

pub returns : goal.returns
returns g c =
    let names = opens_names c.args.opens.now in
    let told = g.F.Shelf.told in
    let reading = reading_of told g.F.Shelf.leads c.args.files.now c.read_files.new.files in
    let stop = c.in-Err.stop in
    let read = read_as (lists names.form) (files_of (opens names)) (λ (found : Found). Ok (listing_in found)) reading (Err stop) c.in-Err.ensures.read in
    let explains = explained (told c.args.files.now).files (names_in (named_in (opens names))) c.read_files.new.kept stop c.in-Err.ensures.kept in
    IfOk-weaker c.stopped.result _ _ (says_stop reading (opens names) c.read_files.new.kept stop read.agrees read.loads explains) (rw c.sources_of_files.ensures at c.stopped.ensures)
