use Rattle.std.proofs.Common.{map, string_bytes}
use Rattle.pc_files.specs.Loading.{reading_of}
use Rattle.pc_files.specs.Writing.{writing_of}
use Rattle.pc_run.specs.Meaning.{call_of}
use Rattle.pc_run.proofs.Promises.{keeps}
use Rattle.pc_run.proofs.run.Goals as goal

pub returns-clause-promise : goal.returns-clause-promise
returns-clause-promise g c =
    let reading = reading_of g.F.Shelf.told g.F.Shelf.leads c.args.files.now c.respond-reply.new.files in
    let writing = writing_of g.K.Sink.told c.args.out.now c.put_reply.new.out in
    keeps (call_of (map string_bytes c.args.words.now) reading writing) c.respond-reply.result c.put_reply.result c.respond-reply.ensures c.put_reply.ensures.ends
