use Rattle.std.proofs.Common.{map, string_bytes}
use Rattle.pc_files.specs.Loading.{reading_of}
use Rattle.pc_files.specs.Writing.{writing_of}
use Rattle.pc_desk_run.specs.Meaning.{call_of}
use Rattle.pc_desk_run.proofs.Promises.{keeps}
use Rattle.pc_desk_run.proofs.run.desk.Goals as goal

pub returns-in-Ok : goal.returns-in-Ok
returns-in-Ok g c =
    let reading = reading_of g.F.Shelf.told g.F.Shelf.leads c.args.files.now c.respond.new.files in
    let output = writing_of g.K.Sink.told c.args.out.now c.deliver.new.out in
    let notes = writing_of g.N.Sink.told c.args.notes.now c.deliver.new.notes in
    record { promise = keeps (call_of (map string_bytes c.args.words.now) reading output notes) c.in-Ok.reply c.deliver.result c.in-Ok.ensures.responds c.deliver.ensures.delivers }
