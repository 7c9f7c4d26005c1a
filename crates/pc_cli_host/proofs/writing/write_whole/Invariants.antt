use Rattle.std.proofs.Common.{length}
use Rattle.pc_cli_host.proofs.Written.{IsUpTo}
use Rattle.pc_cli_host.proofs.writing.write_whole.Given as goal

abbrev pub invariant-loop-rest : goal.invariant-loop-rest
invariant-loop-rest g l = IsUpTo (g.W.Write.contents l.fn.to) (g.W.Write.contents l.to) l.fn.piece l.rest

abbrev pub decreases-loop-rest : goal.decreases-loop-rest
decreases-loop-rest g l = length l.rest
