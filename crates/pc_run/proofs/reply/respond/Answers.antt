use Rattle.std.proofs.Common.{map, string_bytes}
use Rattle.std.proofs.lemmas.Result.{err_from_is_err_and}
use Rattle.pc_run_words.specs.Commands.{asked_in}
use Rattle.pc_files.specs.Loading.{reading_of}
use Rattle.pc_run.proofs.StopReplies.{for_words, none_answers}
use Rattle.pc_run.proofs.reply.respond.Goals as goal

pub returns-in-Some : goal.returns-in-Some
returns-in-Some g c =
    let reading = reading_of g.F.Shelf.told g.F.Shelf.leads c.args.files.now c.reply_to.new.files in
    for_words reading (asked_in c.in-Some.command) c.reply_to.result (map string_bytes c.args.words.now) (rw c.in-Some.is at c.in_ok-command.ensures.reads) c.reply_to.ensures

pub returns-in_err-command : goal.returns-in_err-command
returns-in_err-command g c =
    let p = err_from_is_err_and c.from_residual.result c.from_residual.ensures.1 in
    rw p.1 (none_answers g.F.Shelf.told g.F.Shelf.leads c.args.files.now (map string_bytes c.args.words.now) _ tt)
