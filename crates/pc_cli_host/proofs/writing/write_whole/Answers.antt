use Rattle.pc_cli_host.proofs.Written.{at_first, one_more, none_more, a_front, all_taken}
use Rattle.std.proofs.Common.{rules}
use Rattle.pc_cli_host.proofs.writing.write_whole.Goals as goal

pub loop-rest-init : goal.loop-rest-init
loop-rest-init g c = at_first _ c.args.piece.now

pub returns-in-Ok-eq0-clause-front : goal.returns-in-Ok-eq0-clause-front
returns-in-Ok-eq0-clause-front g c _ = a_front _ _ c.args.piece.now _ (one_more _ _ _ c.args.piece.now c.loop-rest.rest.now _ c.loop-rest.invariant c.in-Ok-eq0.ensures.bytes)

pub loop-rest-preserved : goal.loop-rest-preserved
loop-rest-preserved g c = one_more _ _ _ c.args.piece.now c.loop-rest.rest.now c.in-Ok.count c.loop-rest.invariant c.in-Ok.ensures.bytes

pub returns-in-Err-clause-front : goal.returns-in-Err-clause-front
returns-in-Err-clause-front g c _ = a_front _ _ c.args.piece.now _ (none_more _ _ _ c.args.piece.now c.loop-rest.rest.now c.loop-rest.invariant c.in-Err.ensures.bytes)

pub returns-clause-all : goal.returns-clause-all
returns-clause-all g c _ = all_taken _ _ c.args.piece.now c.loop-rest.rest.now (search rules) (none_more _ _ _ c.args.piece.now c.loop-rest.rest.now c.loop-rest.invariant c.flush.ensures.bytes)

pub returns-clause-front : goal.returns-clause-front
returns-clause-front g c _ = a_front _ _ c.args.piece.now _ (none_more _ _ _ c.args.piece.now c.loop-rest.rest.now c.loop-rest.invariant c.flush.ensures.bytes)
