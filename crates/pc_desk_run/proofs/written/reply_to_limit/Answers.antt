use Rattle.std.proofs.Common.{Err, Ok}
use Rattle.std.proofs.lemmas.Result.{IfOk-weaker}
use Rattle.pc_files.specs.Loading.{reading_of}
use Rattle.pc_files.specs.Outcome.{Found, limited_in}
use Rattle.pc_files.proofs.ReadFiles.{read_as}
use Rattle.pc_desk_words.specs.Calls.{limit_names}
use Rattle.pc_desk_words.specs.Words.{limit}
use Rattle.pc_desk_run.specs.Inputs.{names_in}
use Rattle.pc_desk_run.specs.Outcome.{Input, files_of, limits}
use Rattle.pc_desk_run.specs.Replies.{IsPosed}
use Rattle.pc_desk_run.specs.Texts.{named_in}
use Rattle.pc_desk_run.proofs.Replies.{explained, says_input, says_stop}
use Rattle.pc_desk_run.proofs.written.reply_to_limit.Goals as goal

pub returns-in-Ok : goal.returns-in-Ok
returns-in-Ok g c =
    let names = limit_names c.args.wish.now in
    let reading = reading_of g.F.Shelf.told g.F.Shelf.leads c.args.files.now c.read_limits.new.files in
    let input : Input = limits c.in-Ok.limited in
    let read = read_as (limits) (files_of (limit names)) (λ (found : Found). Ok (limited_in found)) reading (Ok c.in-Ok.limited) c.in-Ok.ensures.read in
    let posed : IsPosed reading (limit names) input = record { agrees = read.agrees; posed = tt; sound = c.in-Ok.ensures.sound; loads = read.loads } in
    IfOk-weaker c.closed.result _ _ (says_input reading (limit names) input posed) (rw c.sources_of_limit.ensures at c.closed.ensures)

pub returns : goal.returns
returns g c =
    let names = limit_names c.args.wish.now in
    let told = g.F.Shelf.told in
    let reading = reading_of told g.F.Shelf.leads c.args.files.now c.read_limits.new.files in
    let stop = c.in-Err.stop in
    let read = read_as (limits) (files_of (limit names)) (λ (found : Found). Ok (limited_in found)) reading (Err stop) c.in-Err.ensures.read in
    let explains = explained (told c.args.files.now).files (names_in (named_in (limit names))) c.read_limits.new.kept stop c.in-Err.ensures.kept in
    IfOk-weaker c.stopped.result _ _ (says_stop reading (limit names) c.read_limits.new.kept stop read.agrees read.loads explains) (rw c.sources_of_limit-in-Err.ensures at c.stopped.ensures)
