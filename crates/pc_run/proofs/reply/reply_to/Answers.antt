use Rattle.pc_run_words.specs.Commands.{asked_in}
use Rattle.pc_files.specs.Loading.{reading_of}
use Rattle.pc_run.proofs.StopReplies.{input_answers, stop_answers}
use Rattle.pc_run.proofs.reply.reply_to.Goals as goal

pub returns-in-Ok : goal.returns-in-Ok
returns-in-Ok g c =
    let reading = reading_of g.F.Shelf.told g.F.Shelf.leads c.args.files.now c.read_input.new.files in
    input_answers reading (asked_in c.args.command.now) c.reply_with.result c.in-Ok.input c.in-Ok.ensures.read c.in-Ok.ensures.sound c.reply_with.ensures

pub returns-in-Err : goal.returns-in-Err
returns-in-Err g c =
    let reading = reading_of g.F.Shelf.told g.F.Shelf.leads c.args.files.now c.read_input.new.files in
    stop_answers reading (asked_in c.args.command.now) c.reply_to_stop.result c.in-Err.stop c.in-Err.ensures.read c.reply_to_stop.ensures
