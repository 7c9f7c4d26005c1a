use Rattle.pc_cli_host.proofs.Written.{leaves_all, leaves_front}
use Rattle.pc_cli_host.proofs.sink.write_out.Goals as goal

pub returns-then-write_whole-clause-leaves : goal.returns-then-write_whole-clause-leaves
returns-then-write_whole-clause-leaves g c = leaves_all _ _ c.args.piece.now (g.met.W.Steady.steady _ _) (c.write_whole.ensures.all c.if-write_whole.true)

pub returns-else-write_whole-clause-leaves : goal.returns-else-write_whole-clause-leaves
returns-else-write_whole-clause-leaves g c = leaves_front _ _ c.args.piece.now (g.met.W.Steady.steady _ _) (c.write_whole.ensures.front c.if-write_whole.false)
