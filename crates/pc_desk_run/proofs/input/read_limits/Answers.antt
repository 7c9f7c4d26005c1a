use Rattle.std.proofs.Common.{[]}
use Rattle.pc_desk_run.proofs.input.read_limits.Goals as goal

pub returns-clause-kept : goal.returns-clause-kept
returns-clause-kept g c = c.read_limited_keeping.ensures.kept c.args.limit.now.files.rows.now []
