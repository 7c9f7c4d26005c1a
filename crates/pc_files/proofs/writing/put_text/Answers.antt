use Rattle.pc_files.proofs.Written.{writes}
use Rattle.pc_files.proofs.writing.put_text.Goals as goal

pub returns-clause-writes : goal.returns-clause-writes
returns-clause-writes g c =
    writes (g.K.Sink.told c.args.out.now) (g.K.Sink.told c.put.new.self) c.args.text.now c.put.result c.put.ensures.puts
